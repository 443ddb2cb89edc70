use Rattle.std.proofs.Common.{◌≡◌, Option, IfSome, is_some, ap, sym, subst, ◌∙◌}
use Rattle.auditor.specs.Verdict.{begins}
use Rattle.dump_text.specs.Lists.{DumpLists}
use Rattle.dump_text.specs.Whole.{start_with}
use Rattle.page_text.proofs.ShownLaws.{page_told}
use Rattle.plain_state.specs.StateOf.{state_of}
use Rattle.plain_state.specs.declared.states.PlainState.{PlainState}
use Rattle.page_text.proofs.pages.page.Goals as goal

pub returns : goal.returns
returns c = (
  c.in-Ok.dump,
  c.in-Ok.ensures,
  ap (λ (d : DumpLists). begins d) (sym c.dump.view_is) ∙ (sym c.in_ok-state.ensures.test ∙ ap is_some c.in-Some.is),
  (
    c.in_ok-red.red.reached.items,
    c.in_ok-red.ensures.red,
    page_told c.args.names.now c.args.text.now c.in-Ok.dump c.args.flow c.in_ok-red.red.reached.items c.as_slice-3.result.now
        (state_of c.in-Some.state) c.as_slice.result.now c.as_slice-2.result.now c.in_ok-page_of.field-0.items
        c.in_ok-page_of.ensures c.as_slice-3.ensures.value
        (subst (λ (begun : Option PlainState). IfSome begun
        (λ state. state_of state ≡ (start_with c.dump.inside.limits c.dump.inside.checkpoint).state)) c.in-Some.is c.in_ok-state.ensures.state
        ∙ ap (λ (d : DumpLists). (start_with d.limits d.checkpoint).state) c.dump.view_is)
        (c.as_slice.ensures.value ∙ ap (λ (d : DumpLists). d.events) (c.shown.view_is ∙ c.in_ok-red.ensures.dump))
        (c.as_slice-2.ensures.value ∙ ap (λ (d : DumpLists). d.reads) (c.shown.view_is ∙ c.in_ok-red.ensures.dump)),
  ),
)
