use Rattle.std.proofs.Common.{sym}
use Rattle.label_lattice.proofs.PlacedLaw.{stored_from_placed}
use Rattle.label_lattice.proofs.labels.Label.placed.Goals as goal

pub invariant_of-result : goal.invariant_of-result
invariant_of-result c = (
  stored_from_placed (record
      { default_level = c.self.inside.default; exceptions = c.self.inside.exceptions })
      c.args.pair _ c.self.invariant.0 c.if-not-place.ensures.placed c.if-not-place.ensures.room,
  sym c.of.ensures,
)

pub of-requires : goal.of-requires
of-requires c =
    (stored_from_placed (record
    { default_level = c.self.inside.default; exceptions = c.self.inside.exceptions })
    c.args.pair _ c.self.invariant.0 c.if-not-place.ensures.placed c.if-not-place.ensures.room).rising
