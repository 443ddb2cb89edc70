-- What a refusal of calls tells.
use Rattle.std.proofs.Common.{◌≡◌, true, false, Bool, ◌↔◌, List, ◌∷◌, [], refl, sym, ◌∙◌, Result, Err, IsErrOf}
use Rattle.base.specs.declared.ranges.Limits.{Limits}
use Rattle.kernel_rules.specs.declared.calls.Call.{Call}
use Rattle.kernel_rules.specs.Events.{Event}
use Rattle.kernel_rules.specs.History.{is_batch, IsLegal}
use Rattle.published_copy.specs.Turns.{Turn, is_turn, IsNotSubmitted}
use Rattle.published_copy.specs.declared.refusals.SubmitRefusal.{SubmitRefusal}
use Rattle.published_copy.specs.declared.refusals.SubmitRefusal.TheVariants.{Memory, OutOfTurn, BadBatch}

pub not_submitted : {T : Type 0} (result : Result T SubmitRefusal) (limits : Limits) (pass : Turn) (calls : List Call) (journal : List Event) (refusal : SubmitRefusal)
    → result ≡ Err refusal → IsLegal limits journal → (IsErrOf result BadBatch ↔ (is_batch calls ≡ false))
    → (IsErrOf result OutOfTurn ↔ ((is_batch calls ≡ true) × (is_turn journal pass ≡ false)))
    → IsNotSubmitted limits pass calls refusal
not_submitted result limits pass calls journal BadBatch is legal bad turn = bad.0 is
not_submitted result limits pass calls journal OutOfTurn is legal bad turn =
    let both = turn.0 is in (both.0, (journal, legal, both.1))
not_submitted result limits pass calls journal Memory is legal bad turn = at (is_batch calls) refl (is_turn journal pass) refl
  where
    at : (b : Bool) → is_batch calls ≡ b → (t : Bool) → is_turn journal pass ≡ t → IsNotSubmitted limits pass calls Memory
    at false none t now = absurd (cc (sym is ∙ bad.1 none))
    at true fits false now = absurd (cc (sym is ∙ turn.1 (fits, now)))
    at true fits true now = (fits, (journal, legal, now))

-- the same, of one call, which is a batch
pub not_submitted_one : {T : Type 0} (result : Result T SubmitRefusal) (limits : Limits) (pass : Turn) (call : Call) (journal : List Event) (refusal : SubmitRefusal)
    → result ≡ Err refusal → IsLegal limits journal → (IsErrOf result BadBatch → ⊥)
    → (IsErrOf result OutOfTurn ↔ (is_turn journal pass ≡ false))
    → IsNotSubmitted limits pass (call ∷ []) refusal
not_submitted_one result limits pass call journal BadBatch is legal never turn = absurd (never is)
not_submitted_one result limits pass call journal OutOfTurn is legal never turn = (refl, (journal, legal, turn.0 is))
not_submitted_one result limits pass call journal Memory is legal never turn = at (is_turn journal pass) refl
  where
    at : (t : Bool) → is_turn journal pass ≡ t → IsNotSubmitted limits pass (call ∷ []) Memory
    at false now = absurd (cc (sym is ∙ turn.1 now))
    at true now = (refl, (journal, legal, now))
