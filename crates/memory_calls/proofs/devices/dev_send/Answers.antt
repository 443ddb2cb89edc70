use Rattle.std.proofs.Common.{sym, ◌∙◌}
use Rattle.memory_calls.proofs.LengthLaws.{send_fits}
use Rattle.memory_calls.proofs.devices.dev_send.Goals as goal

pub dev_send-requires-clause-some : goal.dev_send-requires-clause-some
dev_send-requires-clause-some g c = (send_fits _ _ _ _ (sym c.refused_dev_send.ensures.value ∙ c.in_default.is)).some

pub dev_send-requires-clause-room : goal.dev_send-requires-clause-room
dev_send-requires-clause-room g c = (send_fits _ _ _ _ (sym c.refused_dev_send.ensures.value ∙ c.in_default.is)).room
