-- Numbers: what their digits are, and digits that are no number's.
use Rattle.std.proofs.Common.{◌≡◌, ℕ, zero, suc, ◌+◌, ◌*◌, ◌^◌, ◌<◌, ◌≤◌, List, length, get_or, take, Fits, w64, arith, sym, subst, ap, ◌∙◌, decimal}
use Rattle.std.specs.Char.{digit_value}
use Rattle.std.specs.Str.Parse.{AllDigits, digits_value}
use Rattle.std.proofs.lemmas.Str.{digit_value_digit}
use Rattle.std.proofs.lemmas.Str.Parse.{IsNumeralModel, numerals_by_value, tells_digits, digit_at, digits_value-take-le}
use Rattle.std.proofs.lemmas.Int.Digits.{digits_value_more}
use Rattle.std.proofs.lemmas.Fmt.{decimal_digit, decimal_nonempty, first_decimal, digits_decimal, digits_value-decimal, decimal-digits_value}

own : IsNumeralModel (AllDigits 10) (digits_value 10)
own = numerals_by_value (AllDigits 10) tells_digits

-- what is known of a number's spelling
pub record IsNumber (word : List ℕ) (n : ℕ) : Type 0 where
  pub digits : AllDigits 10 word
  pub value : digits_value 10 word ≡ n
  pub some : 0 < length word
  pub front : get_or word 0 0 ≡ 48 → length word ≡ 1

front_of : (n : ℕ) → n < 2 ^ 64 → get_or (decimal n) 0 0 ≡ 48 → length (decimal n) ≡ 1
front_of zero small e = ap length (decimal_digit 0 (omega arith))
front_of (suc n) small e = let k = first_decimal (suc n) (omega arith) small in absurd (omega arith)

number_of_decimal : (n : ℕ) → n < 2 ^ 64 → IsNumber (decimal n) n
number_of_decimal n small = record {
  digits = digits_decimal own n small;
  value = digits_value-decimal own n small;
  some = decimal_nonempty n small;
  front = front_of n small;
}

pub spelled_number : (word : List ℕ) (n most : ℕ) → n ≤ most → Fits w64 most → word ≡ decimal n → IsNumber word n
spelled_number word n most le fits e = subst (λ (x : List ℕ). IsNumber x n) (sym e) (number_of_decimal n (omega arith))

pub number_spelled : (word : List ℕ) (n : ℕ) → n < 2 ^ 64 → IsNumber word n → word ≡ decimal n
number_spelled word n small is =
    let v = is.value in
    let k : digits_value 10 word < 2 ^ 64 = omega arith in
    sym (decimal-digits_value own word is.digits is.some is.front k) ∙ ap decimal v

-- digits that go on beyond 64 bits
pub too_large : (word : List ℕ) (i n : ℕ) → i < length word → n ≡ digits_value 10 (take i word)
    → (digit_value (get_or word i 0) < 10 → 2 ^ 64 ≤ n * 10 + digit_value (get_or word i 0)) → AllDigits 10 word → 2 ^ 64 ≤ digits_value 10 word
too_large word i n lt e large all =
    let range = digit_at word i all lt in
    let d = digit_value_digit (get_or word i 0) range in
    let low = range.0 in let high = range.1 in
    let this : 2 ^ 64 ≤ n * 10 + digit_value (get_or word i 0) = large (omega arith) in
    let more = digits_value_more 10 word i lt in
    let le = digits_value-take-le 10 word (i + 1) (omega arith) in
    omega (arith, this, more, le)
