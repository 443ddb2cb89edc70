use Rattle.std.proofs.Common.{◌<◌, length, arith}
use Rattle.indexmap.specs.IndexSet.{contains}
use Rattle.text_words.specs.contracts.names.NamePartialEq.TheImpl.{eq-value}
use Rattle.check_text.proofs.NameLaws.{uses_more}
use Rattle.check_text.proofs.script_checks.binders.used_of.Goals as goal

pub loop-mention-preserved : goal.loop-mention-preserved
loop-mention-preserved c = λ name.
    let lt : c.loop-mention.mention-index < length c.args.mentions.now = omega (arith, c.loop-mention-test.true, c.loop-mention.auto.mention-index-end) in
    uses_more name c.args.mentions.now c.loop-mention.mention-index c.mention-item.result
    (contains eq-value.it c.loop-mention.used name) (contains eq-value.it c.insert.new.self name) lt c.mention-item.is
    (c.in_ok-insert.ensures.updates.0 name) (c.loop-mention.invariant name)
