use Rattle.page_text.proofs.ShownLaws.{shown_of_all}
use Rattle.page_text.proofs.program.page_on.Goals as goal

pub returns-in-Ok-page : goal.returns-in-Ok-page
returns-in-Ok-page g c =
    shown_of_all c.args.names.now (g.I.Read.remaining c.args.dump.now) c.args.flow c.in-Ok.bytes.items c.as_slice.result.now c.in-Ok-page.text
    c.in-Ok.ensures.bytes c.as_slice.ensures.value c.in-Ok-page.ensures
