-- One call more, of those that are explained one after another.
use Rattle.std.proofs.Common.{◌≡◌, ℕ, Bool, ◌+◌, ◌<◌, List, ◌++◌, length, drop, slice_index_or, ap, sym, ◌∙◌}
use Rattle.std.proofs.lemmas.List.{append_assoc}
use Rattle.call_text.specs.declared.known_names.Named.{Named}
use Rattle.kernel_rules.specs.declared.histories.events.Answered.{Answered}
use Rattle.kernel_rules.specs.State.{State}
use Rattle.kernel_rules.specs.Step.{next}
use Rattle.shown_dumps.specs.Explained.{call_explained, calls_explained}
use Rattle.shown_dumps.specs.Lines.{before_end, after_end}
use Rattle.shown_dumps.proofs.CallLaws.{drop_item}

-- one call more that is explained
pub told_more : (names : List Named) (whole : Bool) (t : ℕ) (xs : List Answered) (i : ℕ) (a : Answered) (s n : State) (rest out told : List ℕ)
    → i < length xs → a ≡ slice_index_or xs i a → n ≡ next s t a.call
    → told ≡ out ++ call_explained names whole (before_end rest) s t a.call
    → told ++ calls_explained names whole (after_end rest) n t (drop (i + 1) xs) ≡ out ++ calls_explained names whole rest s t (drop i xs)
told_more names whole t xs i a s n rest out told within is step text =
    ap (λ (l : List ℕ). l ++ calls_explained names whole (after_end rest) n t (drop (i + 1) xs)) text
    ∙ append_assoc out (call_explained names whole (before_end rest) s t a.call) (calls_explained names whole (after_end rest) n t (drop (i + 1) xs))
    ∙ ap (λ z. out ++ (call_explained names whole (before_end rest) s t a.call ++ calls_explained names whole (after_end rest) z t (drop (i + 1) xs))) step
    ∙ sym (ap (λ (l : List Answered). out ++ calls_explained names whole rest s t l) (drop_item xs i a within is))
