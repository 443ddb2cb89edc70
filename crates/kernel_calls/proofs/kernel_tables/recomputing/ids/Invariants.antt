use Rattle.std.proofs.Common.{◌≡◌, ◌-◌, length, take, vec_len}
use Rattle.kernel_rules.specs.Scratch.{ids_of}
use Rattle.kernel_calls.proofs.kernel_tables.recomputing.ids.Given as goal

abbrev pub invariant-loop-id : goal.invariant-loop-id
invariant-loop-id g l = l.ids.items ≡ take (vec_len l.ids) (ids_of (g.S.Store.state l.state).objects)

abbrev pub decreases-loop-id : goal.decreases-loop-id
decreases-loop-id g l = length (ids_of (g.S.Store.state l.state).objects) - vec_len l.ids
