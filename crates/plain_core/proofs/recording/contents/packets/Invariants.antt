use Rattle.std.proofs.Common.{◌≡◌, take}
use Rattle.kernel_rules.specs.State.{packets_at}
use Rattle.plain_core.proofs.recording.contents.packets.Given as goal

abbrev pub invariant-loop-packet : goal.invariant-loop-packet
invariant-loop-packet g l = l.packets ≡ take l.packet-index (packets_at (g.S.Store.state l.store) (g.S.Store.id_of l.fn.at))
