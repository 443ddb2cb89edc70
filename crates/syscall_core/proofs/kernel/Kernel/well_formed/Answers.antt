use Rattle.arena_state.proofs.StockLaws.{whole_formed}
use Rattle.syscall_core.proofs.kernel.Kernel.well_formed.Goals as goal

pub returns : goal.returns
returns c =
    let a = c.args.self.now.kept.state in
    whole_formed a.pieces a.sound a.stocked
