-- The bits by which two labels compare, each way.
use Rattle.std.proofs.Common.{◌≡◌, ℕ, zero, suc, ◌+◌, ◌*◌, ◌/◌, ◌%◌, ◌^◌, ◌<◌, ◌≤◌, ◌==◌, ◌&&◌, min, cond}
use Rattle.std.proofs.Common.{Bool, true, false, IsTrue, ◌↔◌, eq-eqb, nat_le, refl, sym, ap, ◌∙◌, arith, slice_index_or, bit_and}
use Rattle.std.specs.Int.{bit_at}
use Rattle.std.proofs.lemmas.Nat.Bits.{bit_at_and, bit_at-lt}
use Rattle.base.specs.Level.{rank_of}
use Rattle.base.specs.declared.levels.Level.{Level}
use Rattle.base.specs.declared.levels.Level.TheVariants.{Star, L0, L1, L2, L3}
use Rattle.label_lattice.specs.declared.ways.TheConstants.{HELD}
use Rattle.label_lattice.specs.Ways.{way_bits, both_bits, both_test}
use Rattle.label_lattice.specs.Label.{LabelValue, level}
use Rattle.label_lattice.specs.Order.{Levels, levels, Leq, leq_test, up, IsDescribed}
use Rattle.label_lattice.specs.Bits.{bits_of}
use Rattle.label_lattice.specs.Walk.{HoldsEverywhere}
use Rattle.label_lattice.proofs.OrderLemmas.{leq_test-from_tests, leq_test-Leq}
use Rattle.label_lattice.proofs.OrderLemmas.{IsDescribed-levels, IsDescribed-up}

-- what the table has
pub held_is : (a b : Level) → slice_index_or HELD (5 * rank_of a + rank_of b) 0 ≡ both_bits a b
held_is Star Star = refl
held_is Star L0 = refl
held_is Star L1 = refl
held_is Star L2 = refl
held_is Star L3 = refl
held_is L0 Star = refl
held_is L0 L0 = refl
held_is L0 L1 = refl
held_is L0 L2 = refl
held_is L0 L3 = refl
held_is L1 Star = refl
held_is L1 L0 = refl
held_is L1 L1 = refl
held_is L1 L2 = refl
held_is L1 L3 = refl
held_is L2 Star = refl
held_is L2 L0 = refl
held_is L2 L1 = refl
held_is L2 L2 = refl
held_is L2 L3 = refl
held_is L3 Star = refl
held_is L3 L0 = refl
held_is L3 L1 = refl
held_is L3 L2 = refl
held_is L3 L3 = refl

three_few : (x y z : Bool) → cond x 1 0 + cond y 2 0 + cond z 4 0 < 8
three_few true true true = omega arith
three_few true true false = omega arith
three_few true false true = omega arith
three_few true false false = omega arith
three_few false true true = omega arith
three_few false true false = omega arith
three_few false false true = omega arith
three_few false false false = omega arith

pub both_few : (a b : Level) → both_bits a b < 2 ^ 6
both_few a b =
    let forth : way_bits a b < 8 = three_few _ _ _ in
    let back : way_bits b a < 8 = three_few _ _ _ in
    omega (arith, forth, back)

-- a bit of what two numbers have in common
least_is_one : (m n : ℕ) → m < 2 → n < 2 → (min m n == 1) ≡ ((m == 1) && (n == 1))
least_is_one zero zero l m = refl
least_is_one zero (suc zero) l m = refl
least_is_one (suc zero) zero l m = refl
least_is_one (suc zero) (suc zero) l m = refl
least_is_one (suc (suc m)) n l h = absurd (omega (arith, l))
least_is_one zero (suc (suc n)) l h = absurd (omega (arith, h))
least_is_one (suc zero) (suc (suc n)) l h = absurd (omega (arith, h))

pub and_bit : (m n k : ℕ) → (bit_at (bit_and m n) k == 1) ≡ ((bit_at m k == 1) && (bit_at n k == 1))
and_bit m n k =
    ap (λ x. x == 1) (bit_at_and m n k)
    ∙ least_is_one (bit_at m k) (bit_at n k) (bit_at-lt m k) (bit_at-lt n k)

-- the weights of bits
twice : (x : Bool) → cond x 2 0 ≡ 2 * cond x 1 0
twice true = refl
twice false = refl

four_times : (x : Bool) → cond x 4 0 ≡ 4 * cond x 1 0
four_times true = refl
four_times false = refl

at_most_one : (x : Bool) → cond x 1 0 ≤ 1
at_most_one true = omega arith
at_most_one false = omega arith

-- a number of six bits has these
six_bits : (p q r s t u n : ℕ) → p ≤ 1 → q ≤ 1 → r ≤ 1 → s ≤ 1 → t ≤ 1 → u ≤ 1
    → n ≡ (p + 2 * q + 4 * r) + 8 * (s + 2 * t + 4 * u)
    → (bit_at n 0 ≡ p) × (bit_at n 1 ≡ q) × (bit_at n 2 ≡ r) × (bit_at n 3 ≡ s)
    × (bit_at n 4 ≡ t) × (bit_at n 5 ≡ u)
six_bits p q r s t u n hp hq hr hs ht hu e = (
  omega arith,
  omega arith,
  omega arith,
  omega arith,
  omega arith,
  omega arith,
)

is_one : (x : Bool) (m : ℕ) → m ≡ cond x 1 0 → (m == 1) ≡ x
is_one true m e = eq-eqb m 1 e
is_one false m e = rw e refl

-- so each bit of two sums tells whether it was added
module _ (p q r s t u : Bool) where
  abbrev sum : ℕ
  sum = (cond p 1 0 + cond q 2 0 + cond r 4 0) + 8 * (cond s 1 0 + cond t 2 0 + cond u 4 0)

  parts : (bit_at sum 0 ≡ cond p 1 0) × (bit_at sum 1 ≡ cond q 1 0) × (bit_at sum 2 ≡ cond r 1 0)
      × (bit_at sum 3 ≡ cond s 1 0) × (bit_at sum 4 ≡ cond t 1 0) × (bit_at sum 5 ≡ cond u 1 0)
  parts =
      six_bits (cond p 1 0) (cond q 1 0) (cond r 1 0) (cond s 1 0) (cond t 1 0) (cond u 1 0) sum
      (at_most_one p) (at_most_one q) (at_most_one r) (at_most_one s) (at_most_one t) (at_most_one u)
      (rw (twice q, four_times r, twice t, four_times u) refl)

  told : ((bit_at sum 0 == 1) ≡ p) × ((bit_at sum 1 == 1) ≡ q) × ((bit_at sum 2 == 1) ≡ r)
      × ((bit_at sum 3 == 1) ≡ s) × ((bit_at sum 4 == 1) ≡ t) × ((bit_at sum 5 == 1) ≡ u)
  told = (
    is_one p _ parts.0,
    is_one q _ parts.1,
    is_one r _ parts.2,
    is_one s _ parts.3,
    is_one t _ parts.4,
    is_one u _ parts.5,
  )

-- a bit as what it adds
bit_is : (m : ℕ) (x : Bool) → m < 2 → (m == 1) ≡ x → m ≡ cond x 1 0
bit_is zero x l e = rw (← e) refl
bit_is (suc zero) x l e = rw (← e) refl
bit_is (suc (suc m)) x l e = absurd (omega (arith, l))

-- the two halves of a number of six bits
halves : (n : ℕ) (p q r s t u : Bool) → n < 2 ^ 6
    → (bit_at n 0 == 1) ≡ p → (bit_at n 1 == 1) ≡ q → (bit_at n 2 == 1) ≡ r
    → (bit_at n 3 == 1) ≡ s → (bit_at n 4 == 1) ≡ t → (bit_at n 5 == 1) ≡ u
    → (n % 8 ≡ cond p 1 0 + cond q 2 0 + cond r 4 0)
    × (n / 8 ≡ cond s 1 0 + cond t 2 0 + cond u 4 0)
halves n p q r s t u few ep eq er es et eu =
    let hp : n / 2 ^ 0 % 2 ≡ cond p 1 0 = bit_is (bit_at n 0) p (bit_at-lt n 0) ep in
    let hq : n / 2 ^ 1 % 2 ≡ cond q 1 0 = bit_is (bit_at n 1) q (bit_at-lt n 1) eq in
    let hr : n / 2 ^ 2 % 2 ≡ cond r 1 0 = bit_is (bit_at n 2) r (bit_at-lt n 2) er in
    let hs : n / 2 ^ 3 % 2 ≡ cond s 1 0 = bit_is (bit_at n 3) s (bit_at-lt n 3) es in
    let ht : n / 2 ^ 4 % 2 ≡ cond t 1 0 = bit_is (bit_at n 4) t (bit_at-lt n 4) et in
    let hu : n / 2 ^ 5 % 2 ≡ cond u 1 0 = bit_is (bit_at n 5) u (bit_at-lt n 5) eu in (
      rw (twice q, four_times r) (omega (arith, few, hp, hq, hr)),
      rw (twice t, four_times u) (omega (arith, few, hs, ht, hu)),
    )

-- the number that says of each bit whether it is there at each category of two labels
module _ (a b : LabelValue) (n : ℕ)
    (bits : (k : ℕ) → IsTrue (bit_at n k == 1) ↔
    HoldsEverywhere (both_test k) a.default_level a.exceptions b.default_level b.exceptions
    b.default_level b.exceptions) where
  tells : (k : ℕ) (x y : Levels) → IsDescribed x → IsDescribed y
      → ((c : ℕ) → (bit_at (both_bits (level a c) (level b c)) k == 1) ≡ nat_le (x.at c) (y.at c))
      → (bit_at n k == 1) ≡ leq_test x y
  tells k x y in_x in_y same =
      leq_test-from_tests x y _ in_x in_y
      (λ r c. sym (same c) ∙ (bits k).0 r c, λ all. (bits k).1 (λ c. same c ∙ all c))

  -- has the bits of both ways
  pub both_ways : n < 2 ^ 6 → (n % 8 ≡ bits_of a b) × (n / 8 ≡ bits_of b a)
  both_ways few =
      let in_a = IsDescribed-levels a in
      let in_b = IsDescribed-levels b in
      let up_a = IsDescribed-up (levels a) in_a in
      let up_b = IsDescribed-up (levels b) in_b in
      halves n _ _ _ _ _ _ few
      (tells 0 (levels a) (levels b) in_a in_b (λ c. (told _ _ _ _ _ _).0))
      (tells 1 (levels a) (up (levels b)) in_a up_b (λ c. (told _ _ _ _ _ _).1))
      (tells 2 (up (levels a)) (up (levels b)) up_a up_b (λ c. (told _ _ _ _ _ _).2))
      (tells 3 (levels b) (levels a) in_b in_a (λ c. (told _ _ _ _ _ _).3))
      (tells 4 (levels b) (up (levels a)) in_b up_a (λ c. (told _ _ _ _ _ _).4))
      (tells 5 (up (levels b)) (up (levels a)) up_b up_a (λ c. (told _ _ _ _ _ _).5))

-- the three bits of one way
first_bit : (p q r : Bool) → (bit_and (cond p 1 0 + cond q 2 0 + cond r 4 0) 1 == 1) ≡ p
first_bit true true true = refl
first_bit true true false = refl
first_bit true false true = refl
first_bit true false false = refl
first_bit false true true = refl
first_bit false true false = refl
first_bit false false true = refl
first_bit false false false = refl

second_bit : (p q r : Bool) → (bit_and (cond p 1 0 + cond q 2 0 + cond r 4 0) 2 == 2) ≡ q
second_bit true true true = refl
second_bit true true false = refl
second_bit true false true = refl
second_bit true false false = refl
second_bit false true true = refl
second_bit false true false = refl
second_bit false false true = refl
second_bit false false false = refl

third_bit : (p q r : Bool) → (bit_and (cond p 1 0 + cond q 2 0 + cond r 4 0) 4 == 4) ≡ r
third_bit true true true = refl
third_bit true true false = refl
third_bit true false true = refl
third_bit true false false = refl
third_bit false true true = refl
third_bit false true false = refl
third_bit false false true = refl
third_bit false false false = refl

-- a test that is the test of two levels tells their order
order_of : (r : Bool) (x y : Levels) → IsDescribed x → IsDescribed y → r ≡ leq_test x y
    → IsTrue r ↔ Leq x y
order_of r x y in_x in_y e = rw e (leq_test-Leq x y in_x in_y)

module _ (a b : LabelValue) (n : ℕ) (is : n ≡ bits_of a b) where
  pub leq_bit : (bit_and n 1 == 1) ≡ leq_test (levels a) (levels b)
  leq_bit = rw is (first_bit _ _ _)

  pub leq_order : IsTrue (bit_and n 1 == 1) ↔ Leq (levels a) (levels b)
  leq_order = order_of _ _ _ (IsDescribed-levels a) (IsDescribed-levels b) leq_bit

  pub leq_up_bit : (bit_and n 2 == 2) ≡ leq_test (levels a) (up (levels b))
  leq_up_bit = rw is (second_bit _ _ _)

  pub leq_up_order : IsTrue (bit_and n 2 == 2) ↔ Leq (levels a) (up (levels b))
  leq_up_order =
      order_of _ _ _ (IsDescribed-levels a) (IsDescribed-up (levels b) (IsDescribed-levels b))
      leq_up_bit

  pub leq_up_up_bit : (bit_and n 4 == 4) ≡ leq_test (up (levels a)) (up (levels b))
  leq_up_up_bit = rw is (third_bit _ _ _)

  pub leq_up_up_order : IsTrue (bit_and n 4 == 4) ↔ Leq (up (levels a)) (up (levels b))
  leq_up_up_order =
      order_of _ _ _ (IsDescribed-up (levels a) (IsDescribed-levels a))
      (IsDescribed-up (levels b) (IsDescribed-levels b)) leq_up_up_bit
