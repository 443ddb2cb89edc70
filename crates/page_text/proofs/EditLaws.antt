-- Edits make the new lines of the old ones.
use Rattle.std.proofs.Common.{◌≡◌, ℕ, ◌+◌, Bool, true, false, List, [], ◌∷◌, ◌++◌, length, drop, Option, Some, None, IfSome, if◌then◌else◌, ap, sym, ◌∙◌, refl, add-one, zero, suc}
use Rattle.std.proofs.Math.Seq.{drop-append-add, take-append_seam}
use Rattle.std.proofs.lemmas.List.{append_assoc, length-append}
use Rattle.std.proofs.lemmas.Slice.Eq.{bytes_eq-Decides}
use Rattle.std.specs.Option.{option_map}
use Rattle.std.specs.Str.{bytes_eq}
use Rattle.page_text.specs.Edits.{place_in, gone_for, edits_for, kept_after, old_after, edits, patched}

-- a line stands where it is found
abbrev IsThere : List (List ℕ) → List ℕ → Option ℕ → Type 0
IsThere old line found = IfSome found (λ n. drop n old ≡ line ∷ drop (n + 1) old)

place_step : (x y : List ℕ) (xs : List (List ℕ)) (is_here : Bool) (found : Option ℕ) → (is_here ≡ true → x ≡ y)
    → IsThere xs y found → IsThere (x ∷ xs) y (if is_here then Some 0 else option_map (λ n. n + 1) found)
place_step x y xs true found same there = ap (λ z. z ∷ xs) (same refl)
place_step x y xs false None same there = tt
place_step x y xs false (Some n) same there =
    ap (λ i. drop i (x ∷ xs)) (add-one n) ∙ there ∙ ap (λ i. y ∷ drop i (x ∷ xs)) (sym (add-one (n + 1)))

place_holds : (old : List (List ℕ)) (y : List ℕ) → IsThere old y (place_in old y)
place_holds [] y = tt
place_holds (x ∷ xs) y =
    place_step x y xs (bytes_eq x y) (place_in xs y) (λ h. (bytes_eq-Decides x y).0 h) (place_holds xs y)

-- with one new line more
made_at : (pre old : List (List ℕ)) (y : List ℕ) (ys : List (List ℕ)) (found : Option ℕ) → IsThere old y found
    → ((p o : List (List ℕ)) → patched (p ++ o) (edits (length p) o ys) ≡ p ++ ys)
    → patched (pre ++ old) (edits_for (length pre) old y ys found
    ++ edits (kept_after (length pre) found) (old_after old ys found) ys) ≡ pre ++ y ∷ ys
made_at pre old y ys (Some zero) there more =
    ap (λ l. patched l (edits (length pre + 1) (drop 1 old) ys))
    (ap (λ l. pre ++ l) there ∙ sym (append_assoc pre (y ∷ []) (drop 1 old)))
    ∙ ap (λ n. patched ((pre ++ y ∷ []) ++ drop 1 old) (edits n (drop 1 old) ys)) (sym (length-append pre (y ∷ [])))
    ∙ more (pre ++ y ∷ []) (drop 1 old) ∙ append_assoc pre (y ∷ []) ys
made_at pre old y ys (Some (suc n)) there more =
    ap (λ l. l ++ patched (drop (length pre + suc n) (pre ++ old)) (edits 1 (drop (suc n + 1) old) ys))
    (take-append_seam pre old)
    ∙ ap (λ l. pre ++ patched l (edits 1 (drop (suc n + 1) old) ys)) (drop-append-add pre old (suc n) ∙ there)
    ∙ ap (λ l. pre ++ l) (more (y ∷ []) (drop (suc n + 1) old))
made_at pre old y ys None there more =
    ap (λ l. l ++ y ∷ patched (drop (length pre + gone_for old ys) (pre ++ old)) (edits 0 (drop (gone_for old ys) old) ys))
    (take-append_seam pre old)
    ∙ ap (λ l. pre ++ y ∷ patched l (edits 0 (drop (gone_for old ys) old) ys)) (drop-append-add pre old (gone_for old ys))
    ∙ ap (λ l. pre ++ y ∷ l) (more [] (drop (gone_for old ys) old))

made : (new pre old : List (List ℕ)) → patched (pre ++ old) (edits (length pre) old new) ≡ pre ++ new
made [] pre old = ap (λ l. l ++ []) (take-append_seam pre old)
made (y ∷ ys) pre old = made_at pre old y ys (place_in old y) (place_holds old y) (λ p o. made ys p o)

-- all edits, from the first line on
pub edits_make : (old new : List (List ℕ)) → patched old (edits 0 old new) ≡ new
edits_make old new = made new [] old
