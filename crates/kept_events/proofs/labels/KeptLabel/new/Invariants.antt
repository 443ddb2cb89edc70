use Rattle.std.proofs.Common.{◌≡◌, take}
use Rattle.kept_events.proofs.labels.KeptLabel.new.Given as goal

abbrev pub invariant-loop-place : goal.invariant-loop-place
invariant-loop-place l = l.pairs.items ≡ take l.place l.label.pairs
