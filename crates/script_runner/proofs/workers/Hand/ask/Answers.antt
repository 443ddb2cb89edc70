use Rattle.std.proofs.Common.{List, [], Ok, sym, subst}
use Rattle.kernel_rules.specs.Events.{Event}
use Rattle.call_text.specs.declared.asking.Asked.TheVariants.{Read}
use Rattle.script_rules.specs.Lines.{Stand}
use Rattle.script_runner.specs.Shared.{made_after, with_note, with_waiting, IsAfter}
use Rattle.script_runner.specs.Turns.{stand}
use Rattle.script_runner.proofs.LineLaws.{query_made}
use Rattle.script_runner.proofs.workers.Hand.ask.Goals as goal

pub returns-clause-asked : goal.returns-clause-asked
returns-clause-asked g c binds =
    let before : Stand = stand c.args.desk.now.events c.args.self.now.own [] c.args.self.now.answers in
    let after : Stand = stand c.ask.new.self.events c.args.self.now.own [] c.tell_read.new.self in
    subst (λ (noted : List Event). IsAfter
    (made_after g.B.Naming.boot.limits c.args.desk.now.thread (with_waiting before c.args.number binds (Ok (Read c.args.query.now))))
    (with_note c.args.desk.now.noted before) (with_note noted after)) (sym c.in_ok-receipt.ensures.noted)
    (query_made g.B.Naming.boot.limits c.args.desk.now.thread c.args.desk.now.events c.ask.new.self.events c.args.self.now.own
    c.args.self.now.answers c.tell_read.new.self c.args.number c.in_ok-receipt.receipt.length binds c.args.query.now
    c.in_ok-receipt.receipt.reply c.in_ok-receipt.ensures.seen c.in_ok-receipt.ensures.length c.in_ok-receipt.ensures.reply
    c.in_ok-tell_read.ensures.told c.in_ok-tell_read.ensures.reads c.args.desk.now.noted)
