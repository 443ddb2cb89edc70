-- The letters of a set of kinds, one by one.
use Rattle.std.proofs.Common.{◌≡◌, ℕ, suc, ◌+◌, ◌-◌, ◌<◌, ◌≤◌, Bool, true, false, cond, List, [], ◌∷◌, ◌++◌, length, get_or, take, drop, refl, ap, ◌∙◌, sym, arith, append_assoc}
use Rattle.std.proofs.lemmas.List.{append-nil, take_more}
use Rattle.std.proofs.Math.Seq.{drop-cons, take-length}
use Rattle.base.specs.declared.kinds.Kind.{Kind}
use Rattle.base.specs.declared.sets.TypeSet.{TypeSet}
use Rattle.base.specs.Sets.{has_kind}
use Rattle.text_words.specs.TypeWord.{letters_of}

pub letters_next : (set : TypeSet) (ls : List (ℕ × Kind)) (i : ℕ) (d : ℕ × Kind) → i < length ls
    → letters_of set (drop i ls) ≡ cond (has_kind set (get_or ls i d).1) ((get_or ls i d).0 ∷ letters_of set (drop (i + 1) ls)) (letters_of set (drop (i + 1) ls))
letters_next set ls i d lt = let k : i + 1 ≡ suc i = omega arith in rw (k, drop-cons ls i d lt) refl

letters_append : (set : TypeSet) (xs : List (ℕ × Kind)) (l : ℕ × Kind) → letters_of set (xs ++ l ∷ []) ≡ letters_of set xs ++ cond (has_kind set l.1) (l.0 ∷ []) []
letters_append set [] l = two (has_kind set l.1) l.0
  where
    two : (b : Bool) (n : ℕ) → cond b (n ∷ []) [] ≡ [] ++ cond b (n ∷ []) []
    two b n = refl
letters_append set (x ∷ xs) l = more (has_kind set x.1) x.0 (letters_of set (xs ++ l ∷ [])) (letters_of set xs) _ (letters_append set xs l)
  where
    more : (b : Bool) (n : ℕ) (a f t : List ℕ) → a ≡ f ++ t → cond b (n ∷ a) a ≡ cond b (n ∷ f) f ++ t
    more true n a f t e = ap (λ (r : List ℕ). n ∷ r) e
    more false n a f t e = e

pub letters_more : (set : TypeSet) (ls : List (ℕ × Kind)) (i : ℕ) (d : ℕ × Kind) → i < length ls
    → letters_of set (take (i + 1) ls) ≡ letters_of set (take i ls) ++ cond (has_kind set (get_or ls i d).1) ((get_or ls i d).0 ∷ []) []
letters_more set ls i d lt = ap (letters_of set) (take_more ls i d lt) ∙ letters_append set (take i ls) (get_or ls i d)

-- the texts that a loop over the letters writes
pub letter_put : (set : TypeSet) (ls : List (ℕ × Kind)) (i : ℕ) (d : ℕ × Kind) (out before after : List ℕ) → i < length ls → has_kind set (get_or ls i d).1 ≡ true
    → before ≡ out ++ letters_of set (take i ls) → after ≡ before ++ (get_or ls i d).0 ∷ [] → after ≡ out ++ letters_of set (take (i + 1) ls)
letter_put set ls i d out before after lt has e h =
    rw (letters_more set ls i d lt, has) (h ∙ ap (λ (x : List ℕ). x ++ (get_or ls i d).0 ∷ []) e ∙ append_assoc out (letters_of set (take i ls)) ((get_or ls i d).0 ∷ []))

pub letter_left : (set : TypeSet) (ls : List (ℕ × Kind)) (i : ℕ) (d : ℕ × Kind) (out before after : List ℕ) → i < length ls → has_kind set (get_or ls i d).1 ≡ false
    → before ≡ out ++ letters_of set (take i ls) → after ≡ before → after ≡ out ++ letters_of set (take (i + 1) ls)
letter_left set ls i d out before after lt has e h = rw (letters_more set ls i d lt, has, append-nil (letters_of set (take i ls))) (h ∙ e)

first_of_list : (rest : List ℕ) → 1 ≤ length rest → rest ≡ get_or rest 0 0 ∷ take (length rest - 1) (drop 1 rest)
first_of_list [] lt = absurd (omega arith)
first_of_list (x ∷ xs) lt = let k : length (x ∷ xs) - 1 ≡ length xs = omega arith in rw (k, take-length xs) refl

-- a text that a loop over the letters has read as far as a letter is the rest's as far as the next
pub letter_read : (set : TypeSet) (ls : List (ℕ × Kind)) (i : ℕ) (d : ℕ × Kind) (rest after : List ℕ) → i < length ls → has_kind set (get_or ls i d).1 ≡ true
    → 1 ≤ length rest → get_or rest 0 0 ≡ (get_or ls i d).0 → after ≡ take (length rest - 1) (drop 1 rest)
    → (rest ≡ letters_of set (drop i ls) → after ≡ letters_of set (drop (i + 1) ls)) × (after ≡ letters_of set (drop (i + 1) ls) → rest ≡ letters_of set (drop i ls))
letter_read set ls i d rest after lt has some first e =
    let next : letters_of set (drop i ls) ≡ (get_or ls i d).0 ∷ letters_of set (drop (i + 1) ls) = letters_next set ls i d lt ∙ (rw has refl) in
    let whole : rest ≡ (get_or ls i d).0 ∷ after = first_of_list rest some ∙ (λ j. first j ∷ sym e j) in (
      λ h. (let k : (get_or ls i d).0 ∷ after ≡ (get_or ls i d).0 ∷ letters_of set (drop (i + 1) ls) = sym whole ∙ h ∙ next in cc),
      λ h. whole ∙ ap (λ (x : List ℕ). (get_or ls i d).0 ∷ x) h ∙ sym next,
    )

pub letter_passed : (set : TypeSet) (ls : List (ℕ × Kind)) (i : ℕ) (d : ℕ × Kind) → i < length ls → has_kind set (get_or ls i d).1 ≡ false
    → letters_of set (drop i ls) ≡ letters_of set (drop (i + 1) ls)
letter_passed set ls i d lt has = letters_next set ls i d lt ∙ (rw has refl)
