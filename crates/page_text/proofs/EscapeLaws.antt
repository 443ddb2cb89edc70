-- No < is left.
use Rattle.std.proofs.Common.{◌≡◌, ◌==◌, ℕ, true, false, Bool, List, [], ◌∷◌, ◌++◌, codes, if◌then◌else◌, refl, ap, ◌∙◌}
use Rattle.page_text.specs.Page.{escaped}
use Rattle.text_words.specs.Lacks.{lacks}

kept : (is_less : Bool) (x : ℕ) (rest : List ℕ) → (x == 60) ≡ is_less → lacks 60 rest ≡ true
    → lacks 60 ((if is_less then codes "\\u003c" else x ∷ []) ++ rest) ≡ true
kept true x rest h none = none
kept false x rest h none = ap (λ b. if b then false else lacks 60 rest) h ∙ none

pub no_less : (text : List ℕ) → lacks 60 (escaped text) ≡ true
no_less [] = refl
no_less (x ∷ xs) = kept (x == 60) x (escaped xs) refl (no_less xs)
