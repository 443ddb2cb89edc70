use Rattle.std.proofs.Common.{◌≡◌, ◌∙◌, ap, sym}
use Rattle.check_text.specs.Checks.{status_of}
use Rattle.check_text.proofs.PrintLaws.{prints_if}
use Rattle.check_text.proofs.program.check_on.Goals as goal

pub returns-in-Ok-deliver : goal.returns-in-Ok-deliver
returns-in-Ok-deliver g c = λ few.
    let again : c.as_slice-in-Ok-deliver.result.now ≡ c.as_slice-2.result.now =
    c.as_slice-in-Ok-deliver.ensures.value ∙ sym c.as_slice-2.ensures.value in
    prints_if c.args.path.now (g.I.Read.remaining c.args.script.now) (g.S.Sink.contents c.args.out.now)
    (g.S.Sink.contents c.deliver.new.sink) c.in-Ok.bytes.items c.as_slice.result.now c.in-Ok-check.told.items
    c.as_slice-2.result.now c.status_of.result c.in-Ok.ensures.bytes c.as_slice.ensures.value c.in-Ok-check.ensures
    c.as_slice-2.ensures.value c.in-Ok-deliver.ensures.whole (c.status_of.ensures ∙ ap status_of again)
