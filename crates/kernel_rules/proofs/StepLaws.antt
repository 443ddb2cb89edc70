-- What an answer is, once it is known what refuses the call.
use Rattle.std.proofs.Common.{◌≡◌, ℕ, true, Some, None}
use Rattle.std.proofs.Common.{◌∙◌, ap}
use Rattle.base.specs.declared.refusals.Refusal.{Refusal}
use Rattle.kernel_rules.specs.State.{State}
use Rattle.kernel_rules.specs.Table.{refused}
use Rattle.kernel_rules.specs.Step.{answer, accepted, next, edit, restricted, or_refused, or_same}
use Rattle.kernel_rules.specs.WellFormed.{is_well_formed}
use Rattle.kernel_rules.specs.declared.calls.Call.{Call}
use Rattle.kernel_rules.specs.declared.replies.Reply.TheVariants.{Refused}
use Rattle.kernel_rules.proofs.RecordLaws.{restricted_live}
use Rattle.kernel_rules.proofs.WellFormedLaws.{soundness_of}

pub step_refused : (s : State) (t : ℕ) (c : Call) (r : Refusal) → refused s t c ≡ Some r
    → (answer s t c ≡ Refused r) × (next s t c ≡ s)
unfolding answer next
step_refused s t c r h =
    (ap (λ o. or_refused o (accepted s t c)) h, ap (λ o. or_same o s (restricted (edit s t c))) h)

pub step_done : (s : State) (t : ℕ) (c : Call) → refused s t c ≡ None
    → (answer s t c ≡ accepted s t c) × (next s t c ≡ restricted (edit s t c))
unfolding answer next
step_done s t c h =
    (ap (λ o. or_refused o (accepted s t c)) h, ap (λ o. or_same o s (restricted (edit s t c))) h)

-- a call that is not refused, whose edit is well formed
pub step_sound : (s : State) (t : ℕ) (c : Call) → refused s t c ≡ None → is_well_formed (edit s t c) ≡ true
    → next s t c ≡ edit s t c
step_sound s t c h sound =
    (step_done s t c h).1 ∙ restricted_live (edit s t c) (soundness_of (edit s t c) sound).live
