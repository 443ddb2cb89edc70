-- Bytes that no spelling has.
use Rattle.std.proofs.Common.{◌≡◌, ℕ, zero, suc, ◌+◌, ◌/◌, ◌%◌, ◌^◌, ◌<◌, true, false, eqb, List, [], ◌∷◌, ◌++◌, length, get_or, refl, ap, ◌∙◌, arith, decimal}
use Rattle.std.specs.List.{list_all}
use Rattle.std.proofs.lemmas.Fmt.{decimal_by_steps}
use Rattle.std.specs.List.{join_with_byte}
use Rattle.std.proofs.lemmas.Bool.{ne_eqb}
use Rattle.hex.specs.Hex.{encode_with, encode_lower, lower_digits, IsBytes}
use Rattle.base.specs.declared.levels.Level.{Level}
use Rattle.base.specs.declared.levels.Level.TheVariants.{Star, L0, L1, L2, L3}
use Rattle.text_words.specs.declared.references.Reference.{Reference}
use Rattle.text_words.specs.declared.references.Reference.TheVariants as references
use Rattle.text_words.specs.Lacks.{lacks, AllLack}
use Rattle.text_words.specs.DataWord.{data_text, IsData}
use Rattle.text_words.specs.LevelWord.{level_text}
use Rattle.text_words.specs.Name.{IsName, is_name_byte, is_letter}
use Rattle.text_words.specs.Reference.{reference_text, IsReference}
use Rattle.text_words.proofs.Split.{cond_false, both_true}

pub lacks_one : (c x : ℕ) → (x ≡ c → ⊥) → lacks c (x ∷ []) ≡ true
lacks_one c x other = rw (ne_eqb x c other) refl

pub lacks-append : (c : ℕ) (xs ys : List ℕ) → lacks c xs ≡ true → lacks c ys ≡ true → lacks c (xs ++ ys) ≡ true
lacks-append c [] ys h k = k
lacks-append c (x ∷ xs) ys h k = let p = cond_false (eqb x c) (lacks c xs) h in rw p.0 (lacks-append c xs ys p.1 k)

-- a byte that is no digit
pub decimal_lacks_byte : (c n : ℕ) → ((d : ℕ) → d < 10 → 48 + d ≡ c → ⊥) → n < 2 ^ 64 → lacks c (decimal n) ≡ true
decimal_lacks_byte c n away small =
    decimal_by_steps (λ m ds. lacks c ds ≡ true) (λ m lt. lacks_one c (48 + m) (away m lt))
    (λ m ds ge h. lacks-append c ds ((48 + m % 10) ∷ []) h (lacks_one c (48 + m % 10) (away (m % 10) (omega arith)))) n small

pub decimal_lacks : (c n : ℕ) → c < 48 → n < 2 ^ 64 → lacks c (decimal n) ≡ true
decimal_lacks c n low small = decimal_lacks_byte c n (λ d lt e. omega arith) small

pub lacks_at : (c : ℕ) (xs : List ℕ) (k : ℕ) → lacks c xs ≡ true → k < length xs → eqb (get_or xs k 0) c ≡ false
lacks_at c [] k h lt = absurd (omega arith)
lacks_at c (x ∷ xs) zero h lt = (cond_false (eqb x c) (lacks c xs) h).0
lacks_at c (x ∷ xs) (suc k) h lt = lacks_at c xs k (cond_false (eqb x c) (lacks c xs) h).1 (omega arith)

pub hex_lacks : (c : ℕ) (bytes : List ℕ) → lacks c lower_digits ≡ true → IsBytes bytes → lacks c (encode_lower bytes) ≡ true
unfolding encode_with
hex_lacks c [] h fits = refl
hex_lacks c (b ∷ bytes) h fits =
    let small : b < 256 = fits 0 in
    rw (lacks_at c lower_digits (b / 16) h (omega arith), lacks_at c lower_digits (b % 16) h (omega arith)) (hex_lacks c bytes h (λ i. fits (suc i)))

pub data_lacks : (c : ℕ) (d : List ℕ) → lacks c (45 ∷ lower_digits) ≡ true → IsData d → lacks c (data_text d) ≡ true
data_lacks c [] h fits = let p = cond_false (eqb 45 c) (lacks c lower_digits) h in rw p.0 refl
data_lacks c (b ∷ bytes) h fits = hex_lacks c (b ∷ bytes) (cond_false (eqb 45 c) (lacks c lower_digits) h).1 fits.bytes

pub level_lacks : (c : ℕ) (l : Level) → c < 42 → lacks c (level_text l) ≡ true
level_lacks c Star low = lacks_one c 42 (λ e. omega arith)
level_lacks c L0 low = lacks_one c 48 (λ e. omega arith)
level_lacks c L1 low = lacks_one c 49 (λ e. omega arith)
level_lacks c L2 low = lacks_one c 50 (λ e. omega arith)
level_lacks c L3 low = lacks_one c 51 (λ e. omega arith)

pub join_lacks : (c d : ℕ) (w : List ℕ) (ws : List (List ℕ)) → (d ≡ c → ⊥) → AllLack c (w ∷ ws) → lacks c (join_with_byte d (w ∷ ws)) ≡ true
join_lacks c d w [] other h = h.0
join_lacks c d w (v ∷ ws) other h = lacks-append c w (d ∷ join_with_byte d (v ∷ ws)) h.0 (rw (ne_eqb d c other) (join_lacks c d v ws other h.1))

-- a byte that no name has
name_bytes_lack : (c : ℕ) (bytes : List ℕ) → is_name_byte c ≡ false → list_all is_name_byte bytes ≡ true → lacks c bytes ≡ true
name_bytes_lack c [] none all = refl
name_bytes_lack c (b ∷ bytes) none all =
    let p = both_true (is_name_byte b) (list_all is_name_byte bytes) all in
    let other : b ≡ c → ⊥ = λ e. (let k : is_name_byte b ≡ false = ap is_name_byte e ∙ none in let j = p.0 in cc) in
    rw (ne_eqb b c other) (name_bytes_lack c bytes none p.1)

letter_is_name_byte : (b : ℕ) → is_letter b ≡ true → is_name_byte b ≡ true
letter_is_name_byte b e = rw e refl

pub name_lacks : (c : ℕ) (bytes : List ℕ) → is_name_byte c ≡ false → IsName bytes → lacks c bytes ≡ true
name_lacks c [] none is = absurd cc
name_lacks c (b ∷ bytes) none is =
    let p = both_true _ (list_all is_name_byte bytes) is in
    let q = both_true (is_letter b) _ p.0 in
    name_bytes_lack c (b ∷ bytes) none (rw (letter_is_name_byte b q.0) p.1)

pub reference_lacks : (c : ℕ) (r : Reference) → ((d : ℕ) → d < 10 → 48 + d ≡ c → ⊥) → (35 ≡ c → ⊥) → is_name_byte c ≡ false → IsReference r → lacks c (reference_text r) ≡ true
reference_lacks c (references.Number n) away hash none is = rw (ne_eqb 35 c hash) (decimal_lacks_byte c n away is)
reference_lacks c (references.Name name) away hash none is = name_lacks c name none is
