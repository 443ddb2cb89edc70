use Rattle.std.proofs.Common.{◌≡◌, ◌∙◌, ◌≤◌, true, false, List, [], length, map, sym, arith}
use Rattle.std.proofs.lemmas.List.{length-map}
use Rattle.published_copy.proofs.Prefixes.{prefix_self}
use Rattle.script_rules.specs.Lines.{are_batch}
use Rattle.script_runner.specs.Shared.{with_note}
use Rattle.script_runner.specs.Turns.{stand, waiting_in}
use Rattle.script_runner.specs.declared.batches.Gathered.{Gathered}
use Rattle.script_runner.proofs.SharedLaws.{batch_made, if_ok, noted_still}
use Rattle.script_runner.proofs.TurnLaws.{made_refused}
use Rattle.script_runner.proofs.workers.Hand.make.Goals as goal

pub returns-then-is_batch-clause-asked : goal.returns-then-is_batch-clause-asked
returns-then-is_batch-clause-asked g c =
    let lines : List Gathered = c.args.self.now.batch.lines.items in
    let several : 2 ≤ length (map waiting_in lines) = omega (arith, c.requires, length-map lines waiting_in) in
    let are : are_batch (map waiting_in lines) ≡ true = sym (c.is_batch.ensures c.requires) ∙ c.if-is_batch.true in
    if_ok c.submit_batch.result
    (batch_made g.B.Naming.boot.limits c.args.desk.now.thread
    (stand c.args.desk.now.events c.args.self.now.own lines c.args.self.now.answers) c.args.desk.now.noted
    (with_note c.submit_batch.new.desk.noted
    (stand c.submit_batch.new.desk.events c.submit_batch.new.self.own [] c.submit_batch.new.self.answers)) several are)
    c.submit_batch.ensures.asked

pub returns-in_ok-refuse-clause-asked : goal.returns-in_ok-refuse-clause-asked
returns-in_ok-refuse-clause-asked g c =
    let lines : List Gathered = c.args.self.now.batch.lines.items in
    let are : are_batch (map waiting_in lines) ≡ false = sym (c.is_batch.ensures c.requires) ∙ c.if-is_batch.false in (
      c.args.desk.now.events,
      prefix_self c.args.desk.now.events,
      made_refused g.B.Naming.boot.limits c.args.desk.now.thread c.args.desk.now.events c.args.self.now.own lines c.args.self.now.answers _ are
          (c.in_ok-refuse.ensures c.args.desk.now.events c.args.self.now.own),
      noted_still c.args.desk.now.noted c.args.desk.now.events,
    )
