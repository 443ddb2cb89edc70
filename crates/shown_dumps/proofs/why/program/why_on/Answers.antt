use Rattle.shown_dumps.specs.Shown.{IsShown}
use Rattle.shown_dumps.proofs.PrintLaws.{printed_if}
use Rattle.shown_dumps.proofs.why.program.why_on.Goals as goal

pub returns : goal.returns
returns g c = λ ended.
    printed_if (λ text shown. IsShown c.args.telling.now.names.now c.args.telling.now.is_whole c.args.line text shown) (g.I.Read.remaining c.args.dump.now) (g.S.Sink.contents c.args.out.now)
    (g.S.Sink.contents c.show_on.new.out) c.in-Ok.bytes.items c.as_slice.result.now c.why_or_false-shown.result
    c.in-Ok.ensures.bytes c.as_slice.ensures.value c.why_or_false-shown.ensures (c.show_on.ensures ended)
