-- The order over all categories, its test that computes, and what the walk says of both.
use Rattle.std.proofs.Common.{◌≡◌, ℕ, suc, ◌+◌, ◌<◌, ◌≤◌, ◌↔◌, ◌++◌, ◌⊎◌, inl, inr, Bool, IsTrue}
use Rattle.std.proofs.Common.{false, nat_le, arith, List, [], ◌∷◌, map, refl, ap, ◌∙◌}
use Rattle.std.specs.List.{list_all}
use Rattle.std.proofs.lemmas.Bool.Decides.{nat_tests, same_from_decides}
use Rattle.std.proofs.lemmas.Bool.{cases_eq}
use Rattle.base.specs.declared.levels.Level.{Level}
use Rattle.base.specs.Level.{rank_of}
use Rattle.label_lattice.specs.declared.pairings.Pair.{Pair}
use Rattle.label_lattice.specs.Levels.{level_at}
use Rattle.label_lattice.specs.Label.{LabelValue, level, IsStored}
use Rattle.label_lattice.specs.Rule.{up_rank, down_rank}
use Rattle.label_lattice.specs.Order.{Levels, Leq, leq_test, levels, join, up, down, IsOutside}
use Rattle.label_lattice.specs.Order.{IsDescribed}
use Rattle.label_lattice.proofs.WalkLemmas.{level_at-other, and_parts, and_both}
use Rattle.label_lattice.proofs.LabelLemmas.{same_labels, rank_of-injective}

-- the test of two numbers says what it means
pub le_means : (m n : ℕ) → IsTrue (nat_le m n) → m ≤ n
le_means m n h = grind (arith, nat_tests)

pub le_fails : (m n : ℕ) → nat_le m n ≡ false → n < m
le_fails m n h = grind (arith, nat_tests)

pub le_tests : (m n : ℕ) → m ≤ n → IsTrue (nat_le m n)
le_tests m n h = grind (arith, nat_tests)

-- an answer that tests each category tells the order
pub Leq-from_tests : (a b : Levels) (r : Bool)
    → IsTrue r ↔ ((c : ℕ) → IsTrue (nat_le (a.at c) (b.at c))) → IsTrue r ↔ Leq a b
Leq-from_tests a b r h = (
  λ holds c. le_means (a.at c) (b.at c) (h.0 holds c),
  λ leq. h.1 (λ c. le_tests (a.at c) (b.at c) (leq c)),
)

pub IsOutside-append_left : (c : ℕ) (ps qs : List ℕ) → IsOutside c (ps ++ qs) → IsOutside c ps
IsOutside-append_left c [] qs h = tt
IsOutside-append_left c (p ∷ ps) qs h = (h.0, IsOutside-append_left c ps qs h.1)

pub IsOutside-append_right : (c : ℕ) (ps qs : List ℕ) → IsOutside c (ps ++ qs) → IsOutside c qs
IsOutside-append_right c [] qs h = h
IsOutside-append_right c (p ∷ ps) qs h = IsOutside-append_right c ps qs h.1

-- a number above each of the list
pub above_all : List ℕ → ℕ
above_all [] = 0
above_all (p ∷ ps) = suc p + above_all ps

pub IsOutside-above_all : (c : ℕ) (ps : List ℕ) → above_all ps ≤ c → IsOutside c ps
unfolding above_all
IsOutside-above_all c [] h = tt
IsOutside-above_all c (p ∷ ps) h = ((omega (arith, h)), IsOutside-above_all c ps (omega (arith, h)))

-- where a test holds of all points, it holds of a number or the number is outside
all_points : (t : ℕ → Bool) (c : ℕ) (ps : List ℕ) → IsTrue (list_all t ps)
    → IsTrue (t c) ⊎ IsOutside c ps
all_points t c [] h = inr tt
all_points t c (p ∷ ps) h =
    elim (cases_eq c p) [
      | inl same ↦ inl (rw same (and_parts (t p) (list_all t ps) h).0)
      | inr other ↦ elim (all_points t c ps (and_parts (t p) (list_all t ps) h).1) [
        | inl here ↦ inl here
        | inr outside ↦ inr (other, outside)
      ]
    ]

all_tests : (t : ℕ → Bool) (ps : List ℕ) → ((c : ℕ) → IsTrue (t c)) → IsTrue (list_all t ps)
all_tests t [] h = refl
all_tests t (p ∷ ps) h = and_both (t p) (list_all t ps) (h p) (all_tests t ps h)

level_at-outside : (default : Level) (ps : List Pair) (c : ℕ)
    → IsOutside c (map (λ p. p.category.0) ps) → level_at default ps c ≡ default
level_at-outside default [] c h = refl
level_at-outside default (p ∷ ps) c h =
    level_at-other default p ps c h.0 ∙ level_at-outside default ps c h.1

pub IsDescribed-levels : (l : LabelValue) → IsDescribed (levels l)
IsDescribed-levels l =
    record { outside = λ c h. ap rank_of (level_at-outside l.default_level l.exceptions c h) }

pub IsDescribed-up : (a : Levels) → IsDescribed a → IsDescribed (up a)
IsDescribed-up a h = record { outside = λ c out. ap up_rank (h.outside c out) }

pub IsDescribed-down : (a : Levels) → IsDescribed a → IsDescribed (down a)
IsDescribed-down a h = record { outside = λ c out. ap down_rank (h.outside c out) }

pub IsDescribed-join : (a b : Levels) → IsDescribed a → IsDescribed b → IsDescribed (join a b)
IsDescribed-join a b ha hb = record {
  outside =
      λ c out. rw (
        ha.outside c (IsOutside-append_left c a.points b.points out),
        hb.outside c (IsOutside-append_right c a.points b.points out),
      ) refl;
}

-- the test that computes is the pointwise order
pub leq_test-Leq : (a b : Levels) → IsDescribed a → IsDescribed b → IsTrue (leq_test a b) ↔ Leq a b
leq_test-Leq a b ha hb = (
  λ h c. elim (all_points (λ c. nat_le (a.at c) (b.at c)) c (a.points ++ b.points)
      (and_parts (nat_le a.rest b.rest) _ h).1) [
        | inl here ↦ le_means (a.at c) (b.at c) here
        | inr out ↦
            rw (
              ha.outside c (IsOutside-append_left c a.points b.points out),
              hb.outside c (IsOutside-append_right c a.points b.points out),
            )
            (le_means a.rest b.rest (and_parts (nat_le a.rest b.rest) _ h).0)
      ],
  λ leq.
      let far : ℕ = above_all a.points + above_all b.points in
      let at_a : a.at far ≡ a.rest =
      ha.outside far (IsOutside-above_all far a.points (omega arith)) in
      let at_b : b.at far ≡ b.rest =
      hb.outside far (IsOutside-above_all far b.points (omega arith)) in
      and_both (nat_le a.rest b.rest) _ (le_tests a.rest b.rest (rw (at_a, at_b) at (leq far)))
      (all_tests (λ c. nat_le (a.at c) (b.at c)) (a.points ++ b.points)
      (λ c. le_tests (a.at c) (b.at c) (leq c))),
)

-- so an answer that tests each category is the test's
pub leq_test-from_tests : (a b : Levels) (r : Bool) → IsDescribed a → IsDescribed b
    → IsTrue r ↔ ((c : ℕ) → IsTrue (nat_le (a.at c) (b.at c))) → r ≡ leq_test a b
leq_test-from_tests a b r ha hb h =
    same_from_decides r (leq_test a b) (Leq-from_tests a b r h) (leq_test-Leq a b ha hb)

-- stored labels that are at most each other are one
pub Leq-antisymmetric : (a b : LabelValue) → IsStored a → IsStored b
    → Leq (levels a) (levels b) → Leq (levels b) (levels a) → a ≡ b
Leq-antisymmetric a b sa sb ab ba =
    same_labels a b sa sb
    (λ c.
    let up_to : rank_of (level a c) ≤ rank_of (level b c) = ab c in
    let down_to : rank_of (level b c) ≤ rank_of (level a c) = ba c in
    rank_of-injective (level a c) (level b c) (omega arith))
