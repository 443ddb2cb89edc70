use Rattle.std.proofs.Common.{◌≡◌, drop}
use Rattle.std.specs.Cmp.Lexicographic.{slice_cmp}
use Rattle.label_lattice.specs.Listing.{pair_cmp}
use Rattle.label_lattice.proofs.listing.compare_pairs.Given as goal

abbrev pub invariant-loop-place : goal.invariant-loop-place
invariant-loop-place l =
    slice_cmp pair_cmp l.one l.other
    ≡ slice_cmp pair_cmp (drop l.place l.one) (drop l.place l.other)
