use Rattle.std.proofs.Common.{◌≡◌, ◌∙◌, sym, arith, min, length}
use Rattle.label_lattice.specs.Listing.{pair_cmp}
use Rattle.label_lattice.proofs.ComparedLemmas.{slice_cmp-end}
use Rattle.label_lattice.proofs.listing.compare_pairs.Goals as goal

pub returns : goal.returns
returns c =
    let low = c.loop-place.auto.place-end in
    let high = c.loop-place-test.false in
    let least = c.min-place-end.ensures in
    let one = c.len.ensures.value in
    let other = c.len-2.ensures.value in
    let ended : c.loop-place.place ≡ min (length c.args.one.now) (length c.args.other.now) =
    omega arith in
    c.cmp.ensures
    ∙ rw (c.len-3.ensures.value, c.len-4.ensures.value)
    (sym (c.loop-place.invariant
    ∙ slice_cmp-end pair_cmp c.args.one.now c.args.other.now c.loop-place.place ended))
