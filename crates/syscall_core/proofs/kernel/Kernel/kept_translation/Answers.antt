use Rattle.std.proofs.Common.{◌∙◌, arith}
use Rattle.syscall_core.proofs.RowLaws.{few_probes}
use Rattle.arena_state.proofs.ShownLaws.{others_show_none, past_shows_none}
use Rattle.arena_state.proofs.StockLaws.{whole_formed}
use Rattle.syscall_core.specs.Kernel.{kernel_state}
use Rattle.syscall_core.proofs.kernel.Kernel.kept_translation.Goals as goal

pub returns-clause-threads : goal.returns-clause-threads
returns-clause-threads c = λ other.
    let a = c.args.self.now.kept.state in
    c.kept_translation.ensures.value
    ∙ others_show_none (kernel_state c.args.self.now) c.args.thread c.args.slot (whole_formed a.pieces a.sound a.stocked) other

pub returns-clause-slots : goal.returns-clause-slots
returns-clause-slots c = λ past.
    let a = c.args.self.now.kept.state in
    c.kept_translation.ensures.value
    ∙ past_shows_none (kernel_state c.args.self.now) c.args.thread c.args.slot (whole_formed a.pieces a.sound a.stocked) past

pub returns-clause-probes : goal.returns-clause-probes
returns-clause-probes c = omega (arith, c.kept_translation.ensures.probes, few_probes c.args.self.now.kept c.few.ensures)
