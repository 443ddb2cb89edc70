use Rattle.std.proofs.Common.{◌≡◌, Some, length, take}
use Rattle.call_records.specs.Labels.{level_of, pairs_of}
use Rattle.call_records.proofs.labels.put_raw.Given as goal

abbrev pub invariant-loop-place : goal.invariant-loop-place
invariant-loop-place l = record {
  default : level_of l.to.default_level ≡ Some l.raw.default;
  count : l.to.count ≡ length l.raw.pairs;
  pairs : pairs_of (take l.place l.to.levels) l.to.categories ≡ Some (take l.place l.raw.pairs);
}
