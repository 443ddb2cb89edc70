-- The lines of a phase, one after another.
use Rattle.std.proofs.Common.{◌≡◌, ℕ, zero, suc, ◌+◌, ◌<◌, ◌∙◌, List, [], ◌∷◌, ◌++◌, length, drop, map, slice_get, Some, None, ap, sym, arith, append_assoc}
use Rattle.std.specs.List.{flat_map}
use Rattle.call_text.specs.declared.phases.Line.{Line}

-- the line at a place comes next
next_line : (lines : List Line) (i : ℕ) (l : Line) → Some l ≡ slice_get lines i → drop i lines ≡ l ∷ drop (i + 1) lines
next_line [] i l is = absurd cc
next_line (x ∷ lines) zero l is = let p : l ≡ x = cc in (λ j. sym p j ∷ lines)
next_line (x ∷ lines) (suc i) l is = let n : suc i + 1 ≡ suc (i + 1) = omega arith in rw n (next_line lines i l is)

-- there is one at each place
pub no_line : (lines : List Line) (i : ℕ) → None ≡ slice_get lines i → i < length lines → ⊥
no_line [] i is lt = omega arith
no_line (x ∷ lines) zero is lt = cc
no_line (x ∷ lines) (suc i) is lt = no_line lines i is (omega arith)

-- what is added for the line at a place, before what is added for those after it
pub added : {A : Type 0} (f : Line → List A) (lines : List Line) (i : ℕ) (l : Line) (out next all : List A) → Some l ≡ slice_get lines i
    → out ++ flat_map f (drop i lines) ≡ all → next ≡ out ++ f l → next ++ flat_map f (drop (i + 1) lines) ≡ all
added f lines i l out next all is told more =
    ap (λ r. r ++ flat_map f (drop (i + 1) lines)) more ∙ append_assoc out (f l) (flat_map f (drop (i + 1) lines))
    ∙ ap (λ r. out ++ flat_map f r) (sym (next_line lines i l is)) ∙ told

pub mapped : {A : Type 0} (f : Line → A) (lines : List Line) (i : ℕ) (l : Line) (out next all : List A) → Some l ≡ slice_get lines i
    → out ++ map f (drop i lines) ≡ all → next ≡ out ++ f l ∷ [] → next ++ map f (drop (i + 1) lines) ≡ all
mapped f lines i l out next all is told more =
    ap (λ r. r ++ map f (drop (i + 1) lines)) more ∙ append_assoc out (f l ∷ []) (map f (drop (i + 1) lines))
    ∙ ap (λ r. out ++ map f r) (sym (next_line lines i l is)) ∙ told
