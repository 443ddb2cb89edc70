use Rattle.std.proofs.Common.{◌≡◌}
use Rattle.try_text.proofs.PrintLaws.{prints_line}
use Rattle.try_text.proofs.program.answer.Goals as goal

pub returns-clause-told : goal.returns-clause-told
returns-clause-told g c =
    prints_line c.args.line.now c.args.talk.now c.respond.new.talk c.new-text.result.items c.respond.new.out.items
    c.put_after.new.text.items c.as_slice.result.now c.in_ok-word.word (g.S.Sink.contents c.args.out.now)
    (g.S.Sink.contents c.deliver.new.sink) c.new-text.ensures.items c.in_ok-word.ensures.word c.in_ok-word.ensures.told
    c.in_ok-put_after.ensures c.as_slice.ensures.value c.in_ok-deliver.ensures.whole
