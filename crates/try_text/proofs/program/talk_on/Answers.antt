use Rattle.std.proofs.Common.{subst}
use Rattle.try_text.specs.Printed.{IsBeforeEnd}
use Rattle.try_text.proofs.PrintLaws.{input_ended, line_ended, line_answered}
use Rattle.try_text.proofs.program.talk_on.Goals as goal

pub returns-then-not-branch : goal.returns-then-not-branch
returns-then-not-branch g c =
    input_ended c.args.is_asked c.in_ok-has_line.field-0 (g.I.Read.remaining c.args.input.now) c.args.talk.now _ (g.I.Read.remaining c.loop.input)
    (g.S.Sink.contents c.loop.out) _ (g.S.Sink.contents c.args.out.now) c.loop.invariant c.in_ok-ask.ensures c.in_ok-has_line.ensures.end
    c.if-not-branch.true

pub returns-then-not-branch-2 : goal.returns-then-not-branch-2
returns-then-not-branch-2 g c =
    line_ended c.args.is_asked c.in_ok-has_line.field-0 c.in_ok-answer.field-0 (g.I.Read.remaining c.args.input.now) c.has_line.new.line.items
    c.without_end.result.now c.args.talk.now c.loop.talk _ (g.I.Read.remaining c.loop.input)
    (g.S.Sink.contents c.loop.out) (g.S.Sink.contents c.ask.new.out) _ (g.S.Sink.contents c.args.out.now) c.loop.invariant c.in_ok-ask.ensures
    c.in_ok-has_line.ensures.end c.if-not-branch.false c.in_ok-has_line.ensures.line
    (subst (λ l. IsBeforeEnd l c.without_end.result.now) c.as_slice.ensures.value c.without_end.ensures)
    c.in_ok-answer.ensures.goes_on c.if-not-branch-2.true c.in_ok-answer.ensures.told

pub loop-preserved : goal.loop-preserved
loop-preserved g c =
    line_answered c.args.is_asked c.in_ok-has_line.field-0 c.in_ok-answer.field-0 (g.I.Read.remaining c.args.input.now) c.has_line.new.line.items
    c.without_end.result.now c.args.talk.now c.loop.talk c.answer.new.talk (g.I.Read.remaining c.loop.input) (g.I.Read.remaining c.has_line.new.input)
    (g.S.Sink.contents c.loop.out) (g.S.Sink.contents c.ask.new.out) (g.S.Sink.contents c.answer.new.out) (g.S.Sink.contents c.args.out.now)
    c.loop.invariant c.in_ok-ask.ensures c.in_ok-has_line.ensures.end c.if-not-branch.false c.in_ok-has_line.ensures.line
    c.in_ok-has_line.ensures.rest (subst (λ l. IsBeforeEnd l c.without_end.result.now) c.as_slice.ensures.value c.without_end.ensures)
    c.in_ok-answer.ensures.goes_on c.if-not-branch-2.false c.in_ok-answer.ensures.told
