use Rattle.std.proofs.Common.{◌≡◌, take, set}
use Rattle.arena_state.proofs.restores.contents.put_packets.Given as goal

abbrev pub invariant-loop-packet : goal.invariant-loop-packet
invariant-loop-packet l = l.queues ≡ set l.fn.queues l.slot.0 (take l.packet-index l.packets)
