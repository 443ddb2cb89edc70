use Rattle.std.proofs.Common.{◌≡◌, take}
use Rattle.std.specs.List.{flat_map}
use Rattle.kernel_calls.specs.ById.{shown_at}
use Rattle.kernel_calls.proofs.kernel_tables.recomputing.shown.Given as goal

abbrev pub invariant-loop-id : goal.invariant-loop-id
invariant-loop-id g l = l.shown.items ≡ flat_map (shown_at (g.S.Store.state l.state)) (take l.id-index l.ids)
