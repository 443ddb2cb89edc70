use Rattle.std.proofs.Common.{◌≡◌, ◌∙◌, false, List, map, sym}
use Rattle.script_rules.specs.Lines.{are_batch}
use Rattle.script_runner.specs.Turns.{waiting_in}
use Rattle.script_runner.specs.declared.batches.Gathered.{Gathered}
use Rattle.script_runner.proofs.TurnLaws.{made_refused}
use Rattle.script_runner.proofs.players.Player.make.Goals as goal

pub returns-in_ok-refuse-clause-stands : goal.returns-in_ok-refuse-clause-stands
returns-in_ok-refuse-clause-stands g c =
    let lines : List Gathered = c.args.self.now.batch.lines.items in
    let are : are_batch (map waiting_in lines) ≡ false = sym (c.is_batch.ensures c.requires) ∙ c.if-is_batch.false in
    made_refused g.B.Naming.boot.limits c.args.thread c.args.self.now.desk.journal c.args.self.now.names lines c.args.answers.now _ are
    (c.in_ok-refuse.ensures c.args.self.now.desk.journal c.args.self.now.names)
