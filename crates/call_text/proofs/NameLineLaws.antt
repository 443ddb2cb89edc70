-- A line without names.
use Rattle.std.proofs.Common.{◌≡◌, ℕ, Bool, true, false, cond, List, [], ◌∷◌, ◌++◌, ap, ◌∙◌, sym, append_assoc}
use Rattle.std.proofs.lemmas.List.{append-nil}
use Rattle.call_text.specs.NameLines.{is_end, meant_after, named_from}
use Rattle.call_text.specs.declared.names_text.lines.Meant.{Meant}

either : (b : Bool) (xs ys zs : List ℕ) → xs ≡ zs → ys ≡ zs → cond b xs ys ≡ zs
either true xs ys zs p q = p
either false xs ys zs p q = q

-- what has begun, and the rest
pub stays : (meant : Meant) (word line : List ℕ) → named_from [] meant word line ≡ word ++ line
stays meant word [] = sym (append-nil word)
stays meant word (x ∷ xs) =
    either (is_end x) _ _ (word ++ x ∷ xs) (ap (λ (rest : List ℕ). word ++ x ∷ rest) (stays (meant_after word) [] xs))
    (stays meant (word ++ x ∷ []) xs ∙ append_assoc word (x ∷ []) xs)
