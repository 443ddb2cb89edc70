use Rattle.std.proofs.Common.{◌≡◌, take}
use Rattle.plain_core.proofs.restoring.building.packets_of.Given as goal

abbrev pub invariant-loop-packet : goal.invariant-loop-packet
invariant-loop-packet l = l.packets ≡ take l.packet-index l.waiting
