-- Labels after a category was given a level: when there is room, and what is stored.
use Rattle.std.proofs.Common.{◌≡◌, ℕ, ◌<◌, ◌≤◌, inl, inr, true, false, List, length, nat_le, arith}
use Rattle.std.proofs.Common.{◌==◌, if◌then◌else◌, Some, None}
use Rattle.std.proofs.Common.{suc, ◌↔◌, refl, sym, [], ◌∷◌}
use Rattle.std.specs.Prelude.{Option, IfSome, IsNone}
use Rattle.base.specs.declared.levels.Level.{Level}
use Rattle.base.specs.Level.{rank_of}
use Rattle.std.proofs.lemmas.Bool.{cases_eq, cases_order}
use Rattle.label_lattice.specs.declared.pairings.Pair.{Pair}
use Rattle.label_lattice.specs.Label.{LabelValue, level, IsStored}
use Rattle.label_lattice.specs.Placed.{kept, placed, with_level}
use Rattle.label_lattice.proofs.LabelLemmas.{bool_cases}
use Rattle.label_lattice.proofs.PlacedLemmas.{placed-same, placed-after, placed-before}
use Rattle.label_lattice.proofs.PlacedLemmas.{placed-here, placed-other, placed-IsRising}
use Rattle.label_lattice.proofs.PlacedLemmas.{placed-DiffersFrom, eq_false}
use Rattle.std.proofs.Common.{eq-eqb}
use Rattle.label_lattice.proofs.OrderLemmas.{le_means, le_fails}

-- each category's level after one was given
pub with_level-level : (l : LabelValue) (p : Pair) (c : ℕ) → IsStored l
    → level (with_level l p) c ≡ (if c == p.category.0 then p.level else level l c)
with_level-level l p c stored =
    elim (cases_eq c p.category.0) [
      | inl same ↦
          rw (eq-eqb c p.category.0 same, same)
          (placed-here l.default_level p l.exceptions stored.rising)
      | inr other ↦
          rw (eq_false c p.category.0 other) (placed-other l.default_level p l.exceptions c other)
    ]

-- and it can be stored where it has room
pub with_level-IsStored : (l : LabelValue) (p : Pair) → IsStored l
    → length (with_level l p).exceptions ≤ 16 → IsStored (with_level l p)
with_level-IsStored l p stored room = record {
  owned_by_none = stored.owned_by_none;
  few = room;
  rising = placed-IsRising l.default_level p l.exceptions stored.rising;
  differing = placed-DiffersFrom l.default_level p l.exceptions stored.differing;
}

-- what `with` answers
pub with-levels : (l : LabelValue) (p : Pair) (r : Option LabelValue) → IsStored l
    → r ≡ (if nat_le (length (with_level l p).exceptions) 16 then Some (with_level l p) else None)
    → IfSome r (λ m. (c : ℕ) → level m c ≡ (if c == p.category.0 then p.level else level l c))
with-levels l p r stored e =
    rw e
    (elim (bool_cases (nat_le (length (with_level l p).exceptions) 16)) [
      | inl room ↦ rw room (λ c. with_level-level l p c stored)
      | inr full ↦ rw full tt
    ])

-- the exceptions that were made can be stored
pub stored_from_placed : (l : LabelValue) (p : Pair) (es : List Pair) → IsStored l
    → es ≡ placed l.default_level p l.exceptions
    → true ≡ nat_le (length (placed l.default_level p l.exceptions)) 16
    → IsStored (record { default_level = l.default_level; exceptions = es })
stored_from_placed l p es stored e room =
    rw e
    (with_level-IsStored l p stored
    (le_means (length (placed l.default_level p l.exceptions)) 16 (sym room)))

pub with-stored : (l : LabelValue) (p : Pair) (r : Option LabelValue) → IsStored l
    → r ≡ (if nat_le (length (with_level l p).exceptions) 16 then Some (with_level l p) else None)
    → IfSome r IsStored
with-stored l p r stored e =
    rw e
    (elim (bool_cases (nat_le (length (with_level l p).exceptions) 16)) [
      | inl room ↦
          rw room (with_level-IsStored l p stored
          (le_means (length (with_level l p).exceptions) 16 room))
      | inr full ↦ rw full tt
    ])

-- a category adds at most one exception
length-kept_le : (d : Level) (p : Pair) (rest : List Pair)
    → length (kept d p rest) ≤ suc (length rest)
length-kept_le d p rest =
    elim (bool_cases (rank_of p.level == rank_of d))
    [ inl same ↦ rw same (omega arith) | inr other ↦ rw other (omega arith) ]

pub length-placed_le : (d : Level) (p : Pair) (ps : List Pair)
    → length (placed d p ps) ≤ suc (length ps)
length-placed_le d p [] = length-kept_le d p []
length-placed_le d p (q ∷ qs) =
    elim (cases_order q.category.0 p.category.0) [
      | inl same ↦
          rw (placed-same d p q qs same)
          (omega (arith, length-kept_le d p qs))
      | inr apart ↦ elim apart [
        | inl below ↦ rw (placed-after d p q qs below) (omega (arith, length-placed_le d p qs))
        | inr gt ↦
            rw (placed-before d p q qs gt)
            (length-kept_le d p (q ∷ qs))
      ]
    ]

-- `with` answers None exactly where there would be 17
pub with-full : (l : LabelValue) (p : Pair) (r : Option LabelValue) → IsStored l
    → r ≡ (if nat_le (length (with_level l p).exceptions) 16 then Some (with_level l p) else None)
    → IsNone r ↔ (length (with_level l p).exceptions ≡ 17)
with-full l p r stored e =
    let most : length (with_level l p).exceptions ≤ suc (length l.exceptions) =
    length-placed_le l.default_level p l.exceptions in
    let few : length l.exceptions ≤ 16 = stored.few in
    rw e
    (elim (bool_cases (nat_le (length (with_level l p).exceptions) 16)) [
      | inl room ↦
          let low : length (with_level l p).exceptions ≤ 16 =
          le_means (length (with_level l p).exceptions) 16 room in
          rw room (λ none. absurd (let f : true ≡ false = none in cc), λ many. absurd (omega arith))
      | inr full ↦
          let high : 16 < length (with_level l p).exceptions =
          le_fails (length (with_level l p).exceptions) 16 full in
          rw full (λ none. omega arith, λ many. refl)
    ])
