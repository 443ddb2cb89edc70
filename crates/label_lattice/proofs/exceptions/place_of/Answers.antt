use Rattle.std.proofs.Common.{◌<◌, ◌-◌, arith}
use Rattle.label_lattice.specs.Placed.{place_in}
use Rattle.label_lattice.specs.Columns.{filler}
use Rattle.label_lattice.proofs.PlaceLemmas.{place_in-le, place_in-gt, place_in-length}
use Rattle.label_lattice.proofs.exceptions.place_of.Goals as goal

pub loop-place-init : goal.loop-place-init
loop-place-init c = record {
  within = omega (arith, c.len-place.ensures.value);
  before = rw c.len-place.ensures.value (place_in-length c.args.category c.args.pairs.now);
}

pub loop-place-preserved : goal.loop-place-preserved
loop-place-preserved c = record {
  within = omega (arith, c.loop-place.invariant.within);
  before =
      place_in-le c.args.category (c.loop-place.place - 1) c.args.pairs.now filler
      (omega (arith, c.loop-place.invariant.within, c.loop-place-test.true))
      (rw c.pair_at.ensures at c.if-category-pair_at.true);
}

pub returns-else-category-pair_at-clause-place : goal.returns-else-category-pair_at-clause-place
returns-else-category-pair_at-clause-place c =
    let below = rw c.pair_at.ensures at c.if-category-pair_at.false in
    let behind : c.loop-place.place - 1 < place_in c.args.category c.args.pairs.now =
    place_in-gt c.args.category (c.loop-place.place - 1) c.args.pairs.now filler c.requires
    (omega (arith, c.loop-place.invariant.within, c.loop-place-test.true))
    (omega (arith, below)) in
    omega (arith, behind, c.loop-place.invariant.before)
