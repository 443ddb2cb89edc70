use Rattle.std.proofs.Common.{◌≡◌, List, ℕ, None, Option, IfSome, is_some, ap, sym, subst, ◌∙◌}
use Rattle.shown_dumps.specs.Dots.{dot_text}
use Rattle.shown_dumps.specs.States.{state_after}
use Rattle.plain_state.specs.StateOf.{state_of}
use Rattle.plain_state.specs.declared.states.PlainState.{PlainState}
use Rattle.shown_dumps.proofs.dot.dots.dot.Goals as goal

pub returns : goal.returns
returns c = (
  state_of c.in-Some.state,
  (
    c.in-Ok.dump,
    c.in-Ok.ensures,
    sym c.in_ok-state.ensures.test ∙ ap is_some c.in-Some.is,
    subst (λ (led : Option PlainState). IfSome led (λ state. state_of state ≡ state_after c.in-Ok.dump None)) c.in-Some.is
        c.in_ok-state.ensures.state,
  ),
  (
    c.in_ok-red.red.reached.items,
    c.in_ok-red.ensures.red,
    c.in_ok-dot_of.ensures ∙ ap (λ (l : List ℕ). dot_text c.args.names.now (state_of c.in-Some.state) l) c.as_slice.ensures.value,
  ),
)
