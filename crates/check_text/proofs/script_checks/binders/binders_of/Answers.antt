use Rattle.std.proofs.Common.{◌<◌, length, arith}
use Rattle.indexmap.specs.IndexMap.{get}
use Rattle.text_words.specs.contracts.names.NamePartialEq.TheImpl.{eq-value}
use Rattle.check_text.proofs.NameLaws.{binds_more, binds_none}
use Rattle.check_text.proofs.script_checks.binders.binders_of.Goals as goal
use Rattle.check_text.proofs.script_checks.binders.binders_of.Goals.{in-Some+in_ok-insert, in_default}

pub loop-outline-preserved : goal.loop-outline-preserved
loop-outline-preserved c = λ name.
    let lt : c.loop-outline.outline-index < length c.args.outlines.now = omega (arith, c.loop-outline-test.true, c.loop-outline.auto.outline-index-end) in
    elim c.match-outline.branch [
      | in-Some+in_ok-insert w ↦ rw w.binders-is
          (binds_more name w.in-Some.name c.args.outlines.now c.loop-outline.outline-index c.outline-item.result
          (get eq-value.it c.loop-outline.binders name) (get eq-value.it w.insert.new.self name) lt c.outline-item.is w.in-Some.is
          (w.in_ok-insert.ensures.updates.0 name) (c.loop-outline.invariant name))
      | in_default w ↦ rw w.binders-is
          (binds_none name c.args.outlines.now c.loop-outline.outline-index c.outline-item.result
          (get eq-value.it c.loop-outline.binders name) lt c.outline-item.is w.in_default.is (c.loop-outline.invariant name))
    ]
