-- What a call is answered and leads to, once it is known what refuses it: by these equations, `grind` proves it of each call.
use Rattle.std.proofs.Common.{◌≡◌, ℕ, true, Option, Some, None, ◌∙◌, sym, subst, refl}
use Rattle.base.specs.declared.refusals.Refusal.{Refusal}
use Rattle.kernel_rules.specs.State.{State}
use Rattle.kernel_rules.specs.Table.{refused, query_refused}
use Rattle.kernel_rules.specs.Step.{answer, accepted, next, edit, restricted, or_refused, query_answer, found}
use Rattle.kernel_rules.specs.WellFormed.{is_well_formed}
use Rattle.kernel_rules.specs.declared.calls.Call.{Call}
use Rattle.kernel_rules.specs.declared.calls.Query.{Query}
use Rattle.kernel_rules.proofs.StepLaws.{step_refused, step_done, step_sound}

pub answer_is : (s : State) (t : ℕ) (c : Call) → answer s t c ≡ or_refused (refused s t c) (accepted s t c)
unfolding answer
answer_is s t c = refl

pub found_is : (s : State) (t : ℕ) (q : Query)
    → query_answer s t q ≡ or_refused (query_refused s t q) (found s t q)
unfolding query_answer
found_is s t q = refl

-- the state after a call that is refused
pub next_refused : (s : State) (t : ℕ) (c : Call) (o : Option Refusal) (r : Refusal) → o ≡ refused s t c
    → o ≡ Some r → next s t c ≡ s
next_refused s t c o r is some = (step_refused s t c r (sym is ∙ some)).1

-- the state after one that is not: what a store is in is well formed
pub next_done : (s : State) (t : ℕ) (c : Call) (new : State) (o : Option Refusal)
    → is_well_formed new ≡ true → new ≡ edit s t c → o ≡ refused s t c → o ≡ None → next s t c ≡ new
next_done s t c new o sound is from none =
    step_sound s t c (sym from ∙ none) (subst (λ (n : State). is_well_formed n ≡ true) is sound) ∙ sym is

-- the state after an unreference, of which only what a path from the root leads to is left
pub next_live : (s : State) (t : ℕ) (c : Call) (o : Option Refusal) → o ≡ refused s t c → o ≡ None
    → next s t c ≡ restricted (edit s t c)
next_live s t c o from none = (step_done s t c (sym from ∙ none)).1

-- by which `grind` proves what a call is answered and leads to
pub ruleset calls = (answer_is, found_is, next_refused, next_done, next_live)
