use Rattle.std.proofs.Common.{◌≡◌, drop, map}
use Rattle.explained.specs.Sides.{left, right}
use Rattle.explained.specs.Failing.{gathered}
use Rattle.explained.proofs.failing.gather.Given as goal

abbrev pub invariant-loop-place : goal.invariant-loop-place
invariant-loop-place l =
    gathered
    (left l.compared.relation l.compared.first.now l.compared.second.now l.compared.third.now)
    (right l.compared.relation l.compared.first.now l.compared.second.now l.compared.third.now)
    (map (λ p. p.category.0) (drop l.place l.pairs)) l.found.items
    ≡ gathered
    (left l.compared.relation l.compared.first.now l.compared.second.now l.compared.third.now)
    (right l.compared.relation l.compared.first.now l.compared.second.now l.compared.third.now)
    (map (λ p. p.category.0) l.pairs) l.fn.found.items
