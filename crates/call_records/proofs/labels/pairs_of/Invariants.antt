use Rattle.std.proofs.Common.{◌≡◌, ◌≤◌, drop, length}
use Rattle.call_records.specs.Labels.{pairs_of}
use Rattle.call_records.proofs.LabelLemmas.{after}
use Rattle.call_records.proofs.labels.pairs_of.Given as goal

abbrev pub invariant-loop-place : goal.invariant-loop-place
invariant-loop-place l = record {
  few : length l.pairs ≤ l.place;
  same : after l.pairs (pairs_of (drop l.place l.levels) (drop l.place l.categories)) ≡ pairs_of l.levels l.categories;
}
