use Rattle.std.proofs.Common.{◌≡◌, ◌++◌, take}
use Rattle.plain_core.proofs.recording.contents.add_ids.Given as goal

abbrev pub invariant-loop-id : goal.invariant-loop-id
invariant-loop-id l = l.list ≡ l.initial.list ++ take l.id-index l.ids
