-- One line more of those that were looked at.
use Rattle.std.proofs.Common.{◌≡◌, ℕ, ◌+◌, Bool, true, false, List, ◌∷◌, drop, Option, Some, None, if◌then◌else◌, ap, sym, ◌∙◌, refl, arith}
use Rattle.std.proofs.lemmas.List.{drop-drop}
use Rattle.std.specs.Option.{option_map}
use Rattle.std.specs.Str.{bytes_eq}
use Rattle.page_text.specs.Edits.{place_in}

-- what is left after the next line
pub left_after : (all left rest : List (List ℕ)) (n : ℕ) (line : List ℕ) → left ≡ drop n all → left ≡ line ∷ rest
    → rest ≡ drop (n + 1) all
left_after all left rest n line from is = ap (λ l. drop 1 l) (sym is ∙ from) ∙ drop-drop 1 n all

one_more : (n : ℕ) (found : Option ℕ)
    → option_map (λ i. i + (n + 1)) found ≡ option_map (λ i. i + n) (option_map (λ i. i + 1) found)
one_more n None = refl
one_more n (Some i) = let same : i + (n + 1) ≡ i + 1 + n = omega arith in ap (λ j. Some j) same

one_past : (n : ℕ) (is_here : Bool) (found : Option ℕ) → is_here ≡ false
    → option_map (λ i. i + (n + 1)) found ≡ option_map (λ i. i + n) (if is_here then Some 0 else option_map (λ i. i + 1) found)
one_past n true found other = absurd (cc other)
one_past n false found other = one_more n found

-- a line that is not the next one stands after it
pub place_past : (all left rest : List (List ℕ)) (n : ℕ) (first line : List ℕ) → bytes_eq first line ≡ false
    → option_map (λ i. i + n) (place_in left line) ≡ place_in all line → left ≡ first ∷ rest
    → option_map (λ i. i + (n + 1)) (place_in rest line) ≡ place_in all line
place_past all left rest n first line other told is =
    one_past n (bytes_eq first line) (place_in rest line) other
    ∙ ap (λ l. option_map (λ i. i + n) (place_in l line)) (sym is) ∙ told
