use Rattle.std.proofs.Common.{◌≡◌, take}
use Rattle.kernel_rules.specs.Changes.{without}
use Rattle.plain_state.proofs.unrefs.shortened.Given as goal

abbrev pub invariant-loop-listed : goal.invariant-loop-listed
invariant-loop-listed l = l.list ≡ without l.id (take l.listed-index l.ids)
