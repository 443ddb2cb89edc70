use Rattle.std.proofs.Common.{◌≡◌, ◌∙◌, Some, ap, slice_get, sym}
use Rattle.std.proofs.lemmas.Option.{slice_get-get_or}
use Rattle.script_runner.specs.declared.answers.AskedQuery.{AskedQuery}
use Rattle.script_runner.proofs.AnswerLaws.{reads_more}
use Rattle.script_runner.proofs.answers.add_asked.Goals as goal

pub loop-query-preserved : goal.loop-query-preserved
loop-query-preserved c =
    let q : AskedQuery = c.query-item.result in
    let there : slice_get c.args.asked.now c.loop-query.query-index ≡ Some q
    = slice_get-get_or c.args.asked.now c.loop-query.query-index q c.loop-query-test.true ∙ ap Some (sym c.query-item.is) in
    reads_more c.args.thread c.args.kept.now c.args.whole.now c.args.asked.now c.loop-query.query-index q c.in_ok-read_of.field-0
    c.args.all.now.items c.loop-query.all.items c.push.new.self.items there c.loop-query.invariant c.in_ok-read_of.ensures
    c.in_ok-push.ensures.items
