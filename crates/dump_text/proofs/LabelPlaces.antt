-- The lines of labels, and of how they compare: their places are below 2^32.
use Rattle.std.proofs.Common.{inl, inr, leb, suc, sym, ◌≡◌, ℕ, ◌≤◌, ◌<◌, ◌+◌, ◌*◌, ◌^◌, Bool, true, false, cond, List, [], ◌∷◌, ◌++◌, length, refl, ap, ◌∙◌, arith}
use Rattle.std.specs.List.{AllByRecursion}
use Rattle.std.proofs.lemmas.Bool.{cases_Bool, leb-true, leb-false}
use Rattle.std.proofs.lemmas.List.{length-append}
use Rattle.std.proofs.lemmas.Nat.{mul-le}
use Rattle.std.proofs.Math.Nat.{zero-mul, suc-mul}
use Rattle.label_lattice.specs.Bits.{bits_of}
use Rattle.label_lattice.specs.Label.{LabelValue}
use Rattle.label_lattice.specs.Order.{levels, leq_test, up}
use Rattle.label_lattice.specs.declared.raw_labels.RawLabel.{RawLabel}
use Rattle.text_words.specs.Label.{IsLabel}
use Rattle.kernel_rules.specs.Scratch.{compared_with, compared_from}
use Rattle.kernel_rules.specs.declared.tables.Compared.{Compared}
use Rattle.dump_text.specs.declared.tables.Stored.{Stored}
use Rattle.dump_text.specs.Word.{spoken_label}
use Rattle.dump_text.specs.Allowed.{AreAllowed, Anything}
use Rattle.dump_text.specs.Line.{label_kinds, label_words, order_kinds, order_words, HasThreeBits}
use Rattle.dump_text.specs.Whole.{placed_from}

abbrev IsLabelLine : Stored → Type 0
IsLabelLine s = AreAllowed label_kinds label_words Anything s

abbrev IsOrderLine : Compared → Type 0
IsOrderLine o = AreAllowed order_kinds order_words HasThreeBits o

-- labels with their places
pub labels_fit : (i : ℕ) (ls : List RawLabel) → i + length ls ≤ 2 ^ 32 → AllByRecursion (λ s. IsLabel (spoken_label s.label)) (placed_from i ls) → AllByRecursion IsLabelLine (placed_from i ls)
labels_fit i [] le all = tt
labels_fit i (l ∷ ls) le all =
    let here : i < 2 ^ 32 = omega (arith, le) in
    (((record { kind_is = refl; fits = here }, (record { kind_is = refl; fits = all.0 }, tt)), tt), labels_fit (i + 1) ls (omega (arith, le)) all.1)

three_bits : (x y z : Bool) → (cond x 1 0 + cond y 2 0) + cond z 4 0 ≤ 7
three_bits true true true = omega arith
three_bits true true false = omega arith
three_bits true false true = omega arith
three_bits true false false = omega arith
three_bits false true true = omega arith
three_bits false true false = omega arith
three_bits false false true = omega arith
three_bits false false false = omega arith

bits_few : (a b : LabelValue) → bits_of a b ≤ 7
bits_few a b = three_bits (leq_test (levels a) (levels b)) (leq_test (levels a) (up (levels b))) (leq_test (up (levels a)) (up (levels b)))

with_fit : (i : ℕ) (a : LabelValue) (j : ℕ) (bs : List LabelValue) → i < 2 ^ 32 → j + length bs ≤ 2 ^ 32 → AllByRecursion IsOrderLine (compared_with i a j bs)
with_fit i a j [] lt le = tt
with_fit i a j (b ∷ bs) lt le =
    let there : j < 2 ^ 32 = omega (arith, le) in
    let few : bits_of a b ≤ 7 = bits_few a b in
    let small : bits_of a b < 2 ^ 32 = omega (arith, few) in
    (((record { kind_is = refl; fits = lt }, (record { kind_is = refl; fits = there }, (record { kind_is = refl; fits = small }, tt))), few), with_fit i a (j + 1) bs lt (omega (arith, le)))

pub all_append : {X : Type 0} (P : X → Type 0) (xs ys : List X) → AllByRecursion P xs → AllByRecursion P ys → AllByRecursion P (xs ++ ys)
all_append P [] ys a b = b
all_append P (x ∷ xs) ys a b = (a.0, all_append P xs ys a.1 b)

-- how labels compare
pub orders_fit : (all : List LabelValue) (i : ℕ) (ls : List LabelValue) → length all ≤ 2 ^ 32 → i + length ls ≤ 2 ^ 32 → AllByRecursion IsOrderLine (compared_from all i ls)
orders_fit all i [] few le = tt
orders_fit all i (a ∷ ls) few le =
    all_append IsOrderLine (compared_with i a 0 all) (compared_from all (i + 1) ls)
    (with_fit i a 0 all (omega (arith, le)) (omega (arith, few)))
    (orders_fit all (i + 1) ls few (omega (arith, le)))

with_length : (i : ℕ) (a : LabelValue) (j : ℕ) (bs : List LabelValue) → length (compared_with i a j bs) ≡ length bs
with_length i a j [] = refl
with_length i a j (b ∷ bs) = ap suc (with_length i a (j + 1) bs)

from_length : (all : List LabelValue) (i : ℕ) (ls : List LabelValue) → length (compared_from all i ls) ≡ length ls * length all
from_length all i [] = sym (zero-mul (length all))
from_length all i (a ∷ ls) =
    let h = length-append (compared_with i a 0 all) (compared_from all (i + 1) ls) in
    let w = with_length i a 0 all in
    let r = from_length all (i + 1) ls in
    let m = suc-mul (length ls) (length all) in
    h ∙ omega (arith, w, r, m)

-- each label is compared with all, so a square number of orders tells of few labels
pub labels_few : (ls : List LabelValue) → length (compared_from ls 0 ls) < 2 ^ 64 → length ls ≤ 2 ^ 32
labels_few ls lt = elim (cases_Bool (leb (length ls) (2 ^ 32))) [
  | inl few ↦ leb-true (length ls) (2 ^ 32) few
  | inr many ↦
      let over : 2 ^ 32 ≤ length ls = omega (arith, leb-false (length ls) (2 ^ 32) many) in
      let square : 2 ^ 32 * 2 ^ 32 ≤ length ls * length ls = mul-le (2 ^ 32) (2 ^ 32) (length ls) (length ls) over over in
      let same = from_length ls 0 ls in
      absurd (omega (arith, square, same, lt))
]
