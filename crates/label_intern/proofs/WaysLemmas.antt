-- What the order bits of two labels each way tell of each other, and the half byte that has both.
use Rattle.std.proofs.Common.{◌≡◌, ◌≢◌, ℕ, ◌+◌, ◌*◌, ◌<◌, ◌≤◌, Bool, true, false, IsTrue, List, Option, Some, None, IfSome, cond, refl, subst, arith}
use Rattle.std.proofs.lemmas.Bool.{false≢true}
use Rattle.std.proofs.lemmas.Bool.Decides.{nat_tests, same_from_decides}
use Rattle.base.specs.declared.levels.Level.{Level}
use Rattle.base.specs.declared.levels.Level.TheVariants.{Star, L0, L1, L2, L3}
use Rattle.base.specs.Level.{rank_of}
use Rattle.label_lattice.specs.Label.{LabelValue, level}
use Rattle.label_lattice.specs.Rule.{up_rank}
use Rattle.label_lattice.specs.Bits.{bits_of}
use Rattle.label_lattice.specs.Order.{levels, leq_test, up, IsDescribed}
use Rattle.label_lattice.proofs.OrderLemmas.{leq_test-Leq, IsDescribed-levels, IsDescribed-up}
use Rattle.label_intern.specs.declared.held.Held.{Held}
use Rattle.label_intern.specs.Held.{held_at}
use Rattle.label_intern.specs.Ways.{told_by, AreWays}

-- what two ranks tell of each other
rank_few : (l : Level) → rank_of l < 5
rank_few Star = omega arith
rank_few L0 = omega arith
rank_few L1 = omega arith
rank_few L2 = omega arith
rank_few L3 = omega arith

below_up : (m n : ℕ) → n < 5 → m ≤ n → m ≤ up_rank n
below_up m n few h = grind (arith, nat_tests)

up_up : (m n : ℕ) → m < 5 → up_rank m ≤ up_rank n → m ≤ up_rank n
up_up m n few h = grind (arith, nat_tests)

turned : (m n : ℕ) → m ≤ n → n ≤ up_rank m → up_rank n ≤ up_rank m
turned m n h back = grind (arith, nat_tests)

turned_back : (m n : ℕ) → m < 5 → m ≤ up_rank n → up_rank n ≤ up_rank m → m ≤ n
turned_back m n few forth h = grind (arith, nat_tests)

-- and two labels
module _ (a b : LabelValue) where
  abbrev below : Bool
  below = leq_test (levels a) (levels b)

  abbrev seen : Bool
  seen = leq_test (levels a) (up (levels b))

  abbrev shown : Bool
  shown = leq_test (up (levels a)) (up (levels b))

  in_a : IsDescribed (levels a)
  in_a = IsDescribed-levels a

  in_b : IsDescribed (levels b)
  in_b = IsDescribed-levels b

  up_a : IsDescribed (up (levels a))
  up_a = IsDescribed-up (levels a) in_a

  up_b : IsDescribed (up (levels b))
  up_b = IsDescribed-up (levels b) in_b

  below_seen : IsTrue below → IsTrue seen
  below_seen h =
      (leq_test-Leq _ _ in_a up_b).1
      (λ c. below_up (rank_of (level a c)) (rank_of (level b c)) (rank_few (level b c)) ((leq_test-Leq _ _ in_a in_b).0 h c))

  shown_seen : IsTrue shown → IsTrue seen
  shown_seen h =
      (leq_test-Leq _ _ in_a up_b).1
      (λ c. up_up (rank_of (level a c)) (rank_of (level b c)) (rank_few (level a c)) ((leq_test-Leq _ _ up_a up_b).0 h c))

  -- where each is seen, the one is below where the other is shown
  below_shown : IsTrue seen → IsTrue (leq_test (levels b) (up (levels a)))
      → below ≡ leq_test (up (levels b)) (up (levels a))
  below_shown forth back =
      same_from_decides _ _ (leq_test-Leq _ _ in_a in_b) (
        λ h c. turned_back (rank_of (level a c)) (rank_of (level b c)) (rank_few (level a c)) ((leq_test-Leq _ _ in_a up_b).0 forth c)
            ((leq_test-Leq _ _ up_b up_a).0 h c),
        λ leq. (leq_test-Leq _ _ up_b up_a).1
            (λ c. turned (rank_of (level a c)) (rank_of (level b c)) (leq c) ((leq_test-Leq _ _ in_b up_a).0 back c)),
      )

-- what half a byte has to tell, of two sums of bits
pub record Tells (forth back : ℕ) : Type 0 where
  pub none_back : back ≡ 0 → told_by forth ≡ forth + 8 * back
  pub none_forth : back ≢ 0 → forth ≡ 0 → told_by (back + 6) ≡ forth + 8 * back
  pub both : back ≢ 0 → forth ≢ 0 → told_by (forth + 8) ≡ forth + 8 * back

abbrev sum : Bool → Bool → Bool → ℕ
sum p q r = cond p 1 0 + cond q 2 0 + cond r 4 0

tells_forth : (p r : Bool) → Tells (sum p true r) 0
tells_forth true true = record { none_back = λ _. refl; none_forth = λ no _. absurd (no refl); both = λ no _. absurd (no refl) }
tells_forth true false = record { none_back = λ _. refl; none_forth = λ no _. absurd (no refl); both = λ no _. absurd (no refl) }
tells_forth false true = record { none_back = λ _. refl; none_forth = λ no _. absurd (no refl); both = λ no _. absurd (no refl) }
tells_forth false false = record { none_back = λ _. refl; none_forth = λ no _. absurd (no refl); both = λ no _. absurd (no refl) }

tells_back : (s u : Bool) → Tells 0 (sum s true u)
tells_back true true = record { none_back = λ e. absurd (omega (arith, e)); none_forth = λ _ _. refl; both = λ _ no. absurd (no refl) }
tells_back true false = record { none_back = λ e. absurd (omega (arith, e)); none_forth = λ _ _. refl; both = λ _ no. absurd (no refl) }
tells_back false true = record { none_back = λ e. absurd (omega (arith, e)); none_forth = λ _ _. refl; both = λ _ no. absurd (no refl) }
tells_back false false = record { none_back = λ e. absurd (omega (arith, e)); none_forth = λ _ _. refl; both = λ _ no. absurd (no refl) }

tells_both : (p r : Bool) → Tells (sum p true r) (sum r true p)
tells_both true true = record { none_back = λ e. absurd (omega (arith, e)); none_forth = λ _ e. absurd (omega (arith, e)); both = λ _ _. refl }
tells_both true false = record { none_back = λ e. absurd (omega (arith, e)); none_forth = λ _ e. absurd (omega (arith, e)); both = λ _ _. refl }
tells_both false true = record { none_back = λ e. absurd (omega (arith, e)); none_forth = λ _ e. absurd (omega (arith, e)); both = λ _ _. refl }
tells_both false false = record { none_back = λ e. absurd (omega (arith, e)); none_forth = λ _ e. absurd (omega (arith, e)); both = λ _ _. refl }

tells_none : Tells 0 0
tells_none = record { none_back = λ _. refl; none_forth = λ no _. absurd (no refl); both = λ no _. absurd (no refl) }

fails : (p : Bool) → (IsTrue p → IsTrue false) → p ≡ false
fails true h = absurd (false≢true (h refl))
fails false h = refl

tells_sums : (p q r s t u : Bool) → (IsTrue p → IsTrue q) → (IsTrue r → IsTrue q) → (IsTrue s → IsTrue t) → (IsTrue u → IsTrue t)
    → (IsTrue q → IsTrue t → p ≡ u) → (IsTrue t → IsTrue q → s ≡ r) → Tells (sum p q r) (sum s t u)
tells_sums p true r s true u pq rq st ut pu sr = rw (← pu refl refl, sr refl refl) (tells_both p r)
tells_sums p true r s false u pq rq st ut pu sr = rw (fails s st, fails u ut) (tells_forth p r)
tells_sums p false r s true u pq rq st ut pu sr = rw (fails p pq, fails r rq) (tells_back s u)
tells_sums p false r s false u pq rq st ut pu sr = rw (fails p pq, fails r rq, fails s st, fails u ut) tells_none

-- of the order bits of two labels each way
pub tells_ways : (forth back : ℕ) → AreWays forth back → Tells forth back
tells_ways forth back ways =
    let a : LabelValue = ways.one in
    let b : LabelValue = ways.other in
    rw (ways.is_forth, ways.is_back)
    (tells_sums _ _ _ _ _ _ (below_seen a b) (shown_seen a b) (below_seen b a) (shown_seen b a) (below_shown a b) (below_shown b a))

sum_few : (p q r : Bool) → sum p q r < 8
sum_few true true true = omega arith
sum_few true true false = omega arith
sum_few true false true = omega arith
sum_few true false false = omega arith
sum_few false true true = omega arith
sum_few false true false = omega arith
sum_few false false true = omega arith
sum_few false false false = omega arith

pub ways_few : (forth back : ℕ) → AreWays forth back → (forth < 8) × (back < 8)
ways_few forth back ways = (rw ways.is_forth (sum_few _ _ _), rw ways.is_back (sum_few _ _ _))

-- a label is at most itself, raised or not
pub own_ways : (l : LabelValue) → 7 ≡ bits_of l l
own_ways l =
    let is_below : IsTrue (below l l) = (leq_test-Leq _ _ (in_a l l) (in_a l l)).1 (λ c. omega arith) in
    let is_shown : IsTrue (shown l l) = (leq_test-Leq _ _ (up_a l l) (up_a l l)).1 (λ c. omega arith) in
    rw (is_below, below_seen l l is_below, is_shown) refl

-- and so where two places are one
same_order : (held : Option Held) → IfSome held (λ one. IfSome held (λ two. 7 ≡ bits_of one.label two.label))
same_order None = tt
same_order (Some held) = own_ways held.label

pub own_order : (slots : List (Option Held)) (a b : ℕ) → a ≡ b
    → IfSome (held_at slots a) (λ one. IfSome (held_at slots b) (λ two. 7 ≡ bits_of one.label two.label))
own_order slots a b e =
    subst (λ j. IfSome (held_at slots a) (λ one. IfSome (held_at slots j) (λ two. 7 ≡ bits_of one.label two.label))) e
    (same_order (held_at slots a))
