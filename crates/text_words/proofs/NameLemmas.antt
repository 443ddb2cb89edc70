-- Names are one as keys where their bytes are.
use Rattle.std.proofs.Common.{◌≡◌, ℕ, ◌-◌, true, eqb, List, [], ◌∷◌, length, take, replicate, refl, sym, ◌∙◌, subst}
use Rattle.std.specs.Bool.{Decides, one_answer}
use Rattle.std.specs.Cmp.Lexicographic.{pointwise, bytes_decides}
use Rattle.std.specs.Str.{bytes_eq}
use Rattle.std.proofs.lemmas.Bool.{eqb-true}
use Rattle.std.proofs.Math.Seq.{take-append_seam}
use Rattle.base.specs.Padded.{padded}
use Rattle.text_words.proofs.Split.{both_true}
use Rattle.text_words.specs.contracts.names.NamePartialEq.TheImpl.{eq-value}

padded_is_one : (a b : List ℕ) → length a ≡ length b → padded 16 0 a ≡ padded 16 0 b → a ≡ b
padded_is_one a b n e =
    sym (take-append_seam a (replicate (16 - length a) 0)) ∙ (λ i. take (n i) (e i)) ∙ take-append_seam b (replicate (16 - length b) 0)

eqb_self : (n : ℕ) → eqb n n ≡ true
eqb_self n = (both_true (eqb n n) true ((bytes_decides (n ∷ []) (n ∷ [])).1 refl)).0

same_self : (a : List ℕ) → eq-value.it a a ≡ true
same_self a = rw (eqb_self (length a)) ((bytes_decides (padded 16 0 a) (padded 16 0 a)).1 refl)

same_decides : (a b : List ℕ) → Decides (eq-value.it a b) (a ≡ b)
same_decides a b = (
  λ h. (let p = both_true (eqb (length a) (length b)) (pointwise eqb (padded 16 0 a) (padded 16 0 b)) h in
      padded_is_one a b (eqb-true (length a) (length b) p.0) ((bytes_decides (padded 16 0 a) (padded 16 0 b)).0 p.1)),
  λ e. subst (λ (x : List ℕ). eq-value.it a x ≡ true) e (same_self a),
)

pub same_name : (a b : List ℕ) → eq-value.it a b ≡ bytes_eq a b
same_name a b = one_answer (eq-value.it a b) (bytes_eq a b) (same_decides a b) (bytes_decides a b)

-- the same, turned round
pub same_other : (a b : List ℕ) → eq-value.it a b ≡ bytes_eq b a
same_other a b = same_name a b ∙ one_answer (bytes_eq a b) (bytes_eq b a) (bytes_decides a b) (λ e. sym ((bytes_decides b a).0 e), λ e. (bytes_decides b a).1 (sym e))
