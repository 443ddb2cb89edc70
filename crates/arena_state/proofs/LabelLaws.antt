-- Labels that are kept by index.
use Rattle.std.proofs.Common.{◌≡◌, ℕ, zero, suc, ◌+◌, ◌<◌, ◌≤◌, Bool, true, false, cond, ◌==◌, List, [], ◌∷◌, length, get_or, Option, Some, None, IfSome, IsSome, refl, ap, arith, sum_by}
use Rattle.std.specs.Int.RustNames.{bit_and}
use Rattle.std.proofs.lemmas.Bool.{eq-eqb}
use Rattle.std.proofs.lemmas.List.Sums.{sum_by-cons}
use Rattle.label_lattice.specs.Label.{LabelValue}
use Rattle.label_lattice.specs.Order.{levels, leq_test, up}
use Rattle.label_lattice.specs.Bits.{bits_of}
use Rattle.label_lattice.specs.LabelRules.{below, visible, shown}
use Rattle.label_intern.specs.declared.held.Held.{Held}
use Rattle.label_intern.specs.Held.{owners_in, label_in}
use Rattle.label_intern.specs.Owners.{one_at}
use Rattle.arena_state.specs.declared.records.Record.{Record}
use Rattle.arena_state.specs.Assembled.{claims}

first_part : (a b c : Bool) → (bit_and (cond a 1 0 + cond b 2 0 + cond c 4 0) 1 == 1) ≡ a
first_part true true true = refl
first_part true true false = refl
first_part true false true = refl
first_part true false false = refl
first_part false true true = refl
first_part false true false = refl
first_part false false true = refl
first_part false false false = refl

second_part : (a b c : Bool) → (bit_and (cond a 1 0 + cond b 2 0 + cond c 4 0) 2 == 2) ≡ b
second_part true true true = refl
second_part true true false = refl
second_part true false true = refl
second_part true false false = refl
second_part false true true = refl
second_part false true false = refl
second_part false false true = refl
second_part false false false = refl

third_part : (a b c : Bool) → (bit_and (cond a 1 0 + cond b 2 0 + cond c 4 0) 4 == 4) ≡ c
third_part true true true = refl
third_part true true false = refl
third_part true false true = refl
third_part true false false = refl
third_part false true true = refl
third_part false true false = refl
third_part false false true = refl
third_part false false false = refl

-- the first bit tells whether the first label is at most the second
pub below_bit : (a b : LabelValue) → (bit_and (bits_of a b) 1 == 1) ≡ below a b
unfolding below
below_bit a b =
    first_part (leq_test (levels a) (levels b)) (leq_test (levels a) (up (levels b))) (leq_test (up (levels a)) (up (levels b)))

-- the second bit tells whether the first label is visible to the second
pub visible_bit : (a b : LabelValue) → (bit_and (bits_of a b) 2 == 2) ≡ visible a b
unfolding visible
visible_bit a b =
    second_part (leq_test (levels a) (levels b)) (leq_test (levels a) (up (levels b))) (leq_test (up (levels a)) (up (levels b)))

-- the third bit tells whether the first label is shown to the second
pub shown_bit : (a b : LabelValue) → (bit_and (bits_of a b) 4 == 4) ≡ shown a b
unfolding shown
shown_bit a b =
    third_part (leq_test (levels a) (levels b)) (leq_test (levels a) (up (levels b))) (leq_test (up (levels a)) (up (levels b)))

-- an element counts in the sum
pub at_most_sum : (f : ℕ → ℕ) (xs : List ℕ) (k : ℕ) → k < length xs → f (get_or xs k 0) ≤ sum_by f xs
at_most_sum f [] k lt = absurd (omega arith)
at_most_sum f (x ∷ xs) zero lt = omega (arith, sum_by-cons f x xs)
at_most_sum f (x ∷ xs) (suc k) lt = omega (arith, sum_by-cons f x xs, at_most_sum f xs k (omega arith))

pub held_some : (o : Option Held) → 0 < owners_in o → IsSome o
held_some None h = absurd (omega arith)
held_some (Some x) h = refl

pub own_claim : (r : Record) → 0 < claims r.label.0 r
own_claim r =
    let one : one_at r.label.0 r.label.0 ≡ 1 = ap {B = ℕ} (λ (b : Bool). cond b 1 0) (eq-eqb r.label.0 r.label.0 refl) in
    omega arith

pub label_read : (o : Option Held) (l : LabelValue) → IsSome o → IfSome o (λ held. l ≡ held.label) → l ≡ label_in o
label_read None l some is = absurd (cc)
label_read (Some x) l some is = is

pub order_read : (o q : Option Held) (n : ℕ) → IsSome o → IsSome q
    → IfSome o (λ one. IfSome q (λ two. n ≡ bits_of one.label two.label)) → n ≡ bits_of (label_in o) (label_in q)
order_read None q n a b is = absurd (cc)
order_read (Some x) None n a b is = absurd (cc)
order_read (Some x) (Some y) n a b is = is
