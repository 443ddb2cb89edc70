use Rattle.std.proofs.Common.{sym, ◌∙◌}
use Rattle.plain_state.specs.StateOf.{state_of}
use Rattle.shown_dumps.proofs.OtherLaws.{no_others}
use Rattle.shown_dumps.proofs.tree.objects.is_listed_once.Goals as goal

pub returns-then-not-object : goal.returns-then-not-object
returns-then-not-object c = λ listed names.
    no_others names (state_of c.args.state.now) c.args.place.now c.in-Some.object.now c.well_formed-2.ensures (sym c.in-Some.ensures)
    c.if-not-object.true (sym c.lists.ensures ∙ listed)
