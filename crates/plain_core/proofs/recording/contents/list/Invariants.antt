use Rattle.std.proofs.Common.{◌≡◌, ◌*◌, take}
use Rattle.kernel_rules.specs.State.{list_at}
use Rattle.plain_core.proofs.recording.contents.list.Given as goal

abbrev pub invariant-loop-window : goal.invariant-loop-window
invariant-loop-window g l = l.list ≡ take (16 * l.window) (list_at (g.S.Store.state l.store) (g.S.Store.id_of l.at))
