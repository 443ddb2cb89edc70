use Rattle.std.proofs.Common.{◌≡◌, ◌-◌, length, take}
use Rattle.plain_core.proofs.recording.records.objects.Given as goal

abbrev pub invariant-loop-id : goal.invariant-loop-id
invariant-loop-id g l = l.objects.entries ≡ take (length l.objects.entries) (g.S.Store.state l.store).objects

abbrev pub decreases-loop-id : goal.decreases-loop-id
decreases-loop-id g l = length (g.S.Store.state l.store).objects - length l.objects.entries
