use Rattle.std.proofs.Common.{Some, None, sym, ◌∙◌}
use Rattle.call_text.proofs.Progress.{not_empty, all_read}
use Rattle.dump_text.proofs.Progress.{progress_start, progress_more, progress_end, fault_at_end, fault_there, taken}
use Rattle.dump_text.proofs.dumps.read_dump.Goals as goal

pub loop-rest-init : goal.loop-rest-init
loop-rest-init c = progress_start c.args.bytes.now c.nothing-dump.result c.nothing-dump.ensures

pub returns-in_default : goal.returns-in_default
returns-in_default c =
    fault_at_end c.args.bytes.now c.loop-rest.dump c.loop-rest.place c.loop-rest.count c.loop-rest.rest.now c.loop-rest.invariant c.in_default.ensures.none
    (not_empty c.loop-rest.rest.now c.is_empty.result c.loop-rest-test.true c.is_empty.ensures)

pub returns-in_default-2 : goal.returns-in_default-2
returns-in_default-2 c =
    fault_there c.args.bytes.now c.loop-rest.dump c.take.new.dump c.loop-rest.place c.loop-rest.count c.loop-rest.rest.now c.in-Some.line.now c.in-Some.more.now c.loop-rest.invariant c.in-Some.ensures.parts c.in-Some.ensures.first
    (taken c.in-Some.line.now c.loop-rest.place c.loop-rest.dump c.take.new.dump c.in_ok-later.field-0 None c.in_default-2.is c.in_ok-later.ensures)

pub loop-rest-preserved : goal.loop-rest-preserved
loop-rest-preserved c =
    progress_more c.args.bytes.now c.loop-rest.dump c.take.new.dump c.loop-rest.place c.in-Some-2.later c.loop-rest.count c.loop-rest.rest.now c.in-Some.line.now c.in-Some.more.now c.loop-rest.invariant c.in-Some.ensures.parts c.in-Some.ensures.shorter
    (taken c.in-Some.line.now c.loop-rest.place c.loop-rest.dump c.take.new.dump c.in_ok-later.field-0 (Some c.in-Some-2.later) c.in-Some-2.is c.in_ok-later.ensures)

pub returns : goal.returns
returns c =
    progress_end c.args.bytes.now c.loop-rest.dump c.loop-rest.place c.loop-rest.count c.loop-rest.rest.now c.loop-rest.invariant
    (all_read c.loop-rest.rest.now c.is_empty.result c.loop-rest-test.false c.is_empty.ensures) (sym c.ends.ensures ∙ c.if-not-ends.false)
