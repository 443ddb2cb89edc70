-- One call or event more, of those that are made one after another.
use Rattle.std.proofs.Common.{◌≡◌, ℕ, ◌+◌, ◌<◌, List, ◌∷◌, length, map, drop, slice_index_or, ap, sym, ◌∙◌, add-one, suc}
use Rattle.std.proofs.Math.Seq.{drop-cons}
use Rattle.kernel_rules.specs.Events.{Event, by, calls_in}
use Rattle.kernel_rules.specs.History.{calls_of, state_from}
use Rattle.kernel_rules.specs.declared.histories.events.Answered.{Answered}
use Rattle.kernel_rules.proofs.BatchLaws.{state_after-append}
use Rattle.kernel_rules.specs.Runs.{state_after}
use Rattle.kernel_rules.specs.State.{State}
use Rattle.kernel_rules.specs.Step.{next}

-- what is left of a list begins with its next item
pub drop_item : {A : Type 0} (xs : List A) (i : ℕ) (x : A) → i < length xs → x ≡ slice_index_or xs i x
    → drop i xs ≡ x ∷ drop (i + 1) xs
drop_item xs i x within is =
    drop-cons xs i x within ∙ ap (λ z. z ∷ drop (suc i) xs) (sym is) ∙ ap (λ j. x ∷ drop j xs) (sym (add-one i))

-- one call more of a batch
pub made_more : (t : ℕ) (xs : List Answered) (i : ℕ) (a : Answered) (s n : State) → i < length xs
    → a ≡ slice_index_or xs i a → n ≡ next s t a.call
    → state_after n (by t (map (λ x. x.call) (drop (i + 1) xs))) ≡ state_after s (by t (map (λ x. x.call) (drop i xs)))
made_more t xs i a s n within is step =
    ap (λ z. state_after z (by t (map (λ x. x.call) (drop (i + 1) xs)))) step
    ∙ sym (ap (λ (l : List Answered). state_after s (by t (map (λ x. x.call) l))) (drop_item xs i a within is))

-- one event more
pub played_more : (es : List Event) (i : ℕ) (e : Event) (s n : State) → i < length es → e ≡ slice_index_or es i e
    → n ≡ state_after s (by e.thread (calls_in e)) → state_from n (drop (i + 1) es) ≡ state_from s (drop i es)
played_more es i e s n within is step =
    ap (λ z. state_from z (drop (i + 1) es)) step
    ∙ sym (state_after-append s (by e.thread (calls_in e)) (calls_of (drop (i + 1) es)))
    ∙ sym (ap (λ (l : List Event). state_from s l) (drop_item es i e within is))
