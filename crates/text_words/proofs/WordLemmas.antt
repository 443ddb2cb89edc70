use Rattle.std.proofs.Common.{◌≡◌, ℕ, ◌*◌, ◌≤◌, ◌<◌, List, [], ◌∷◌, ◌++◌, take, length, IsTrue, cond, eqb, Bool, false, arith, sym, refl, subst, ap, ◌∙◌}
use Rattle.std.proofs.Math.Seq.{take-append_seam}
use Rattle.hex.specs.Hex.{encode_lower, lower_digits}
use Rattle.hex.proofs.HexLemmas.{length-encode_with, decode_of-encode_lower, decode_of-same}
use Rattle.hex.specs.Hex.{decode_of}
use Rattle.base.specs.declared.levels.Level.{Level}
use Rattle.base.specs.declared.levels.Level.TheVariants.{Star, L0, L1, L2, L3}
use Rattle.std.specs.List.{list_all}
use Rattle.std.proofs.lemmas.Bool.{leb-true}
use Rattle.text_words.specs.Name.{IsName, is_letter, is_name_byte}
use Rattle.text_words.proofs.Split.{both_true}
use Rattle.text_words.specs.DataWord.{data_text, IsData}
use Rattle.text_words.specs.LevelWord.{level_text}

-- a text of some bytes, but for the dash
pub data_is : (word v : List ℕ) → (word ≡ 45 ∷ [] → ⊥) → IsData v → word ≡ data_text v → (word ≡ encode_lower v) × (length word ≡ 2 * length v) × (0 < length v)
data_is word [] other h e = absurd (other e)
data_is word (b ∷ bs) other h e = (e, ap length e ∙ length-encode_with lower_digits (b ∷ bs), omega arith)

pub not_so : (b : Bool) → b ≡ false → IsTrue b → ⊥
not_so b is_not is_so = cc

pub data_is_one : (a b : List ℕ) → IsData a → IsData b → data_text a ≡ data_text b → a ≡ b
data_is_one [] [] fa fb e = refl
data_is_one [] (y ∷ ys) fa fb e = let n : 1 ≡ length (encode_lower (y ∷ ys)) = ap length e in absurd (omega (arith, length-encode_with lower_digits (y ∷ ys)))
data_is_one (x ∷ xs) [] fa fb e = let n : length (encode_lower (x ∷ xs)) ≡ 1 = ap length e in absurd (omega (arith, length-encode_with lower_digits (x ∷ xs)))
data_is_one (x ∷ xs) (y ∷ ys) fa fb e = decode_of-same (encode_lower (x ∷ xs)) (x ∷ xs) (y ∷ ys) (decode_of-encode_lower (x ∷ xs) fa.bytes) (ap decode_of e ∙ decode_of-encode_lower (y ∷ ys) fb.bytes)

first_byte : List ℕ → ℕ
first_byte [] = 0
first_byte (x ∷ xs) = x

level_from : ℕ → Level
level_from n = cond (eqb n 42) Star (cond (eqb n 48) L0 (cond (eqb n 49) L1 (cond (eqb n 50) L2 L3)))

level_again : (l : Level) → level_from (first_byte (level_text l)) ≡ l
unfolding first_byte level_from
level_again Star = refl
level_again L0 = refl
level_again L1 = refl
level_again L2 = refl
level_again L3 = refl

pub level_is_one : (a b : Level) → level_text a ≡ level_text b → a ≡ b
level_is_one a b e = sym (level_again a) ∙ ap (λ (t : List ℕ). level_from (first_byte t)) e ∙ level_again b

pub short_name : (bytes : List ℕ) → IsName bytes → length bytes ≤ 16
short_name [] is = absurd cc
short_name (b ∷ bytes) is = let p = both_true _ (list_all is_name_byte bytes) is in let q = leb-true (length bytes) 15 (both_true (is_letter b) _ p.0).1 in omega arith

-- a name that was written to the front of some bytes
pub name_front : (given front rest : List ℕ) → front ≡ given → IsName given → IsName (take (length given) (front ++ rest))
name_front given front rest same is =
    let k : take (length given) (front ++ rest) ≡ given = ap (λ (xs : List ℕ). take (length given) (xs ++ rest)) same ∙ take-append_seam given rest in
    subst IsName (sym k) is
