use Rattle.std.proofs.Common.{◌≡◌, ◌-◌, ℕ, length, subst, arith}
use Rattle.containers.specs.Lists.{cells_at, StandsAt}
use Rattle.containers.proofs.Cuts.{at_some, some_stands}
use Rattle.containers.proofs.cells.later_link.Goals as goal

pub if_held-held-requires-clause-names : goal.if_held-held-requires-clause-names
if_held-held-requires-clause-names c =
    some_stands c.args.rings.now 1 c.args.object (length (cells_at c.args.rings.now 1 c.args.object) - 1)
    c.last-last.result c.last-last.ensures.value

pub returns-then-len-lt2-clause-absent : goal.returns-then-len-lt2-clause-absent
returns-then-len-lt2-clause-absent c l =
    let names = l.link.names in
    let first : names.place ≡ 0 = omega (arith, names.stands.within, c.len.ensures.value, c.if-len-lt2.true) in
    let stands = subst (λ (k : ℕ). StandsAt (cells_at c.args.rings.now 1 c.args.object) k l.cell) first names.stands in
    c.requires.later l.cell l.link (at_some (cells_at c.args.rings.now 1 c.args.object) 0 l.cell stands)
