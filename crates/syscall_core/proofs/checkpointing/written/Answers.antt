use Rattle.std.proofs.Common.{◌∙◌, ap}
use Rattle.arena_state.proofs.StockLaws.{whole_formed}
use Rattle.kernel_rules.specs.WellFormed.{is_well_formed}
use Rattle.syscall_core.proofs.checkpointing.written.Goals as goal

pub of_records-plain-requires : goal.of_records-plain-requires
of_records-plain-requires c =
    let a = c.args.kept.now.state in
    ap is_well_formed c.in_ok-records.ensures ∙ whole_formed a.pieces a.sound a.stocked
