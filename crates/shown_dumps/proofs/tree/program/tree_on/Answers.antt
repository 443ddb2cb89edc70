use Rattle.shown_dumps.specs.TreeShown.{IsTree}
use Rattle.shown_dumps.proofs.PrintLaws.{printed_if}
use Rattle.shown_dumps.proofs.tree.program.tree_on.Goals as goal

pub returns : goal.returns
returns g c = λ ended.
    printed_if (λ text shown. IsTree c.args.look.now text c.args.after shown) (g.I.Read.remaining c.args.dump.now) (g.S.Sink.contents c.args.out.now)
    (g.S.Sink.contents c.show_on.new.out) c.in-Ok.bytes.items c.as_slice.result.now c.tree-shown.result
    c.in-Ok.ensures.bytes c.as_slice.ensures.value c.tree-shown.ensures (c.show_on.ensures ended)
