use Rattle.std.proofs.Common.{◌+◌, ◌/◌, ◌<◌, ◌≤◌, length, subst, arith}
use Rattle.containers.specs.Objects.{Objects, binary_digits}
use Rattle.containers.proofs.SearchSteps.{digits_fewer, digit_less, probes_few}
use Rattle.containers.proofs.object_arena.arena.Arena.hint_of.Given as given
use Rattle.containers.proofs.object_arena.arena.Arena.hint_of.Goals as goal

pub returns-then-len-clause-fewer : goal.returns-then-len-clause-fewer
returns-then-len-clause-fewer g c =
    let kept = c.self.invariant.0 in
    let fewer : length c.self.inside.ids.items ≤ length c.self.inside.cells.items = omega (arith, kept.beside, kept.total) in
    subst (λ (a : Objects g.row.T.Denot). binary_digits (length a.ids) ≤ binary_digits (length a.cells)) c.self.view_is
    (digits_fewer (length c.self.inside.ids.items) (length c.self.inside.cells.items) fewer)

-- a probe is left
less : (g : given.Over) (c : goal.After-peek g) → binary_digits (length c.args.self.now.ids) + 1 ≤ binary_digits (length c.args.self.now.cells)
less g c =
    let ids = c.self.inside.ids.items in
    let hints = c.self.inside.hints.items in
    let below : length ids < length hints / 8 = omega (arith, c.if-len.false, c.len.ensures, c.len-2.ensures) in
    subst (λ (a : Objects g.row.T.Denot). binary_digits (length a.ids) + 1 ≤ binary_digits (length a.cells)) c.self.view_is
    (digit_less (length ids) (length hints) (length c.self.inside.cells.items) c.self.invariant.5 below)

pub returns-clause-cost : goal.returns-clause-cost
returns-clause-cost g c = probes_few c.args.meter.now c.peek.new.meter 1 _ c.peek.ensures.counted (omega (arith, less g c))

pub returns-clause-fewer : goal.returns-clause-fewer
returns-clause-fewer g c = omega (arith, less g c)
