use Rattle.std.proofs.Common.{◌≡◌, take}
use Rattle.kernel_rules.specs.Scratch.{uses_of}
use Rattle.kernel_calls.proofs.kernel_tables.recomputing.uses.Given as goal

abbrev pub invariant-loop-id : goal.invariant-loop-id
invariant-loop-id g l = l.uses.items ≡ uses_of (g.S.Store.state l.state) (take l.id-index l.ids)
