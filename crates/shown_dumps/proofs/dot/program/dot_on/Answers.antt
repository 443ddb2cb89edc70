use Rattle.std.proofs.Common.{Ok}
use Rattle.shown_dumps.specs.DotShown.{IsDot}
use Rattle.shown_dumps.proofs.PrintLaws.{printed}
use Rattle.shown_dumps.proofs.dot.program.dot_on.Goals as goal

pub returns-in-Ok-dot : goal.returns-in-Ok-dot
returns-in-Ok-dot g c = λ ended.
    printed (λ text told. IsDot c.args.names.now c.args.flow text (Ok told)) (g.I.Read.remaining c.args.dump.now) (g.S.Sink.contents c.args.out.now)
    (g.S.Sink.contents c.show_on.new.out) c.in-Ok.bytes.items c.as_slice.result.now c.in-Ok-dot.text
    c.in-Ok.ensures.bytes c.as_slice.ensures.value c.in-Ok-dot.ensures (c.show_on.ensures ended)
