-- Which raw labels are stored, and that stored labels pass the test of it.
use Rattle.std.proofs.Common.{cond, is_none, ◌||◌}
use Rattle.std.proofs.Common.{◌≡◌, ◌≢◌, ℕ, ◌<◌, ◌≤◌, true, false, not, ◌&&◌, ◌==◌, nat_lt}
use Rattle.std.proofs.Common.{nat_le, List, [], ◌∷◌, length, Some, None, refl}
use Rattle.std.proofs.Common.{ap, arith}
use Rattle.std.specs.List.{list_all}
use Rattle.std.proofs.lemmas.Bool.{and_from, eqb-true}
use Rattle.base.specs.Level.{rank_of}
use Rattle.base.specs.declared.levels.Level.{Level}
use Rattle.base.specs.declared.levels.Level.TheVariants.{Star}
use Rattle.label_lattice.specs.Label.{LabelValue, IsStored}
use Rattle.label_lattice.specs.Levels.{IsAbove, IsRising, DiffersFrom}
use Rattle.label_lattice.specs.declared.pairings.Pair.{Pair}
use Rattle.label_lattice.proofs.LabelLemmas.{rank_of-injective}
use Rattle.label_lattice.specs.Raw.{all_made, is_bad, is_bad_below, stored_of}
use Rattle.label_lattice.specs.declared.raw_labels.RawLabel.{RawLabel}
use Rattle.label_lattice.specs.LabelRules.{stored}
use Rattle.kernel_rules.specs.WellFormed.{is_stored, categories_rise}

other_rank : (x y : Level) → x ≢ y → not (rank_of x == rank_of y) ≡ true
other_rank x y h = elim (rank_of x == rank_of y) as (λ v. (rank_of x == rank_of y) ≡ v → not v ≡ true) [
  | true ↦ λ is. absurd (h (rank_of-injective x y (eqb-true (rank_of x) (rank_of y) is)))
  | false ↦ λ is. refl
] refl

less_test : (a b : ℕ) → a < b → nat_lt a b ≡ true
less_test a b h = grind arith

above_test : (m : ℕ) (ps : List Pair) → IsAbove m ps → list_all (λ q. nat_lt m q.category.0) ps ≡ true
above_test m [] h = refl
above_test m (p ∷ ps) h =
    and_from (nat_lt m p.category.0) (list_all (λ q. nat_lt m q.category.0) ps) (less_test m p.category.0 h.0)
    (above_test m ps h.1)

rising_test : (ps : List Pair) → IsRising ps → categories_rise ps ≡ true
rising_test [] h = refl
rising_test (p ∷ ps) h =
    and_from (list_all (λ q. nat_lt p.category.0 q.category.0) ps) (categories_rise ps)
    (above_test p.category.0 ps h.0) (rising_test ps h.1)

differing_test : (d : Level) (ps : List Pair) → DiffersFrom d ps
    → list_all (λ p. not (rank_of p.level == rank_of d)) ps ≡ true
differing_test d [] h = refl
differing_test d (p ∷ ps) h =
    and_from (not (rank_of p.level == rank_of d)) (list_all (λ p. not (rank_of p.level == rank_of d)) ps)
    (other_rank p.level d h.0) (differing_test d ps h.1)

le_test : (a b : ℕ) → a ≤ b → nat_le a b ≡ true
le_test a b h = grind arith

pub stored_test : (l : LabelValue) → IsStored l → is_stored l ≡ true
stored_test l h =
    and_from (not (rank_of l.default_level == 0) && nat_le (length l.exceptions) 16
    && categories_rise l.exceptions)
    (list_all (λ p. not (rank_of p.level == rank_of l.default_level)) l.exceptions)
    (and_from (not (rank_of l.default_level == 0) && nat_le (length l.exceptions) 16)
    (categories_rise l.exceptions)
    (and_from (not (rank_of l.default_level == 0)) (nat_le (length l.exceptions) 16)
    (other_rank l.default_level Star h.owned_by_none) (le_test (length l.exceptions) 16 h.few))
    (rising_test l.exceptions h.rising))
    (differing_test l.default_level l.exceptions h.differing)

-- a raw label has no stored one exactly where it is bad
pub stored_none : (x : RawLabel) → is_none (stored x) ≡ is_bad x
unfolding stored
stored_none x = elim (is_bad x) as (λ v. is_none (cond v None (Some (stored_of x))) ≡ v) [
  | true ↦ refl
  | false ↦ refl
]

-- the test of a raw label by its stored one
pub bad_test : (x : RawLabel) (next : ℕ)
    → (is_none (stored x) || not (all_made next x.pairs)) ≡ is_bad_below next x
bad_test x next = ap (λ b. b || not (all_made next x.pairs)) (stored_none x)
