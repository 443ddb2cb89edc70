-- Numbers with a sign, and rights.
use Rattle.std.proofs.Common.{◌≡◌, ℕ, ◌+◌, ◌^◌, ◌<◌, ◌≤◌, Bool, true, false, eqb, List, [], ◌∷◌, refl, ap, ◌∙◌, sym, arith, decimal, ℤ, pos, negsuc}
use Rattle.std.proofs.lemmas.Bool.{ne_eqb}
use Rattle.std.proofs.lemmas.Fmt.{decimal_injective}
use Rattle.base.specs.declared.sets.Rights.{Rights}
use Rattle.text_words.specs.Lacks.{lacks}
use Rattle.text_words.specs.SignedWord.{signed_text, IsSigned}
use Rattle.text_words.specs.RightsWord.{letters_of_rights, rights_text}
use Rattle.text_words.proofs.LackLemmas.{decimal_lacks}
use Rattle.text_words.proofs.Split.{cond_false}

-- no number begins with a dash
no_dash : (n : ℕ) (r : List ℕ) → n < 2 ^ 64 → decimal n ≡ 45 ∷ r → ⊥
no_dash n r small e = let h : lacks 45 (45 ∷ r) ≡ true = sym (ap (lacks 45) e) ∙ decimal_lacks 45 n (omega arith) small in cc

pub no_negative : (word digits : List ℕ) → word ≡ 45 ∷ digits → ((n : ℕ) → n ≤ 2147483648 → digits ≡ decimal n → ⊥) → (v : ℤ) → IsSigned v → word ≡ signed_text v → ⊥
no_negative word digits w none (pos n) is e = let small : n < 2 ^ 31 = is.sfits in no_dash n digits (omega arith) (sym e ∙ w)
no_negative word digits w none (negsuc n) is e = let small : n < 2 ^ 31 = is.sfits in none (n + 1) (omega arith) cc

pub no_zero : (word digits : List ℕ) → word ≡ 45 ∷ digits → digits ≡ decimal 0 → (v : ℤ) → IsSigned v → word ≡ signed_text v → ⊥
no_zero word digits w z (pos n) is e = let small : n < 2 ^ 31 = is.sfits in no_dash n digits (omega arith) (sym e ∙ w)
no_zero word digits w z (negsuc n) is e =
    let small : n < 2 ^ 31 = is.sfits in
    let h : n + 1 ≡ 0 = decimal_injective (n + 1) 0 (omega arith) (omega arith) cc in omega arith

pub signed_is_one : (a b : ℤ) → IsSigned a → IsSigned b → signed_text a ≡ signed_text b → a ≡ b
signed_is_one (pos m) (pos n) ia ib e = let p : m < 2 ^ 31 = ia.sfits in let q : n < 2 ^ 31 = ib.sfits in ap pos (decimal_injective m n (omega arith) (omega arith) e)
signed_is_one (pos m) (negsuc n) ia ib e = let p : m < 2 ^ 31 = ia.sfits in absurd (no_dash m (decimal (n + 1)) (omega arith) e)
signed_is_one (negsuc m) (pos n) ia ib e = let q : n < 2 ^ 31 = ib.sfits in absurd (no_dash n (decimal (m + 1)) (omega arith) (sym e))
signed_is_one (negsuc m) (negsuc n) ia ib e =
    let p : m < 2 ^ 31 = ia.sfits in let q : n < 2 ^ 31 = ib.sfits in
    let h : m + 1 ≡ n + 1 = decimal_injective (m + 1) (n + 1) (omega arith) (omega arith) cc in ap negsuc (omega arith)

pub signed_lacks : (c : ℕ) (z : ℤ) → c < 45 → IsSigned z → lacks c (signed_text z) ≡ true
signed_lacks c (pos n) low is = let small : n < 2 ^ 31 = is.sfits in decimal_lacks c n (omega arith) (omega arith)
signed_lacks c (negsuc n) low is = let small : n < 2 ^ 31 = is.sfits in rw (ne_eqb 45 c (λ e. omega arith)) (decimal_lacks c (n + 1) (omega arith) (omega arith))

-- what a text of rights allows
abbrev reads : List ℕ → Bool
reads [] = false
reads (b ∷ bytes) = eqb b 114

abbrev writes : List ℕ → Bool
writes [] = false
writes (b ∷ []) = eqb b 119
writes (b ∷ more ∷ bytes) = true

reads_again : (r w : Bool) → reads (letters_of_rights r w) ≡ r
reads_again true true = refl
reads_again true false = refl
reads_again false true = refl
reads_again false false = refl

writes_again : (r w : Bool) → writes (letters_of_rights r w) ≡ w
writes_again true true = refl
writes_again true false = refl
writes_again false true = refl
writes_again false false = refl

pub rights_are_one : (a b : Rights) → rights_text a ≡ rights_text b → a ≡ b
rights_are_one a b e =
    let r : a.read ≡ b.read = sym (reads_again a.read a.write) ∙ ap reads e ∙ reads_again b.read b.write in
    let w : a.write ≡ b.write = sym (writes_again a.read a.write) ∙ ap writes e ∙ writes_again b.read b.write in
    (λ i. record { read = r i; write = w i })

-- a byte that stands in none of their texts
pub rights_lack : (c : ℕ) → lacks c (114 ∷ 119 ∷ 45 ∷ []) ≡ true → (r : Rights) → lacks c (rights_text r) ≡ true
rights_lack c none r =
    let p = cond_false (eqb 114 c) (lacks c (119 ∷ 45 ∷ [])) none in
    let q = cond_false (eqb 119 c) (lacks c (45 ∷ [])) p.1 in
    let d = cond_false (eqb 45 c) true q.1 in
    go p.0 q.0 d.0 r.read r.write
  where
    go : eqb 114 c ≡ false → eqb 119 c ≡ false → eqb 45 c ≡ false → (a b : Bool) → lacks c (letters_of_rights a b) ≡ true
    go p q d true true = rw (p, q) refl
    go p q d true false = rw p refl
    go p q d false true = rw q refl
    go p q d false false = rw d refl
