-- The place of a category in exceptions, and what is made there.
use Rattle.std.proofs.Common.{◌≡◌, ◌≢◌, ℕ, zero, suc, ◌<◌, ◌≤◌, Bool, true, false, List, [], ◌∷◌, inl, inr, ◌-◌}
use Rattle.std.proofs.Common.{◌++◌, length, take, drop, get_or, refl, sym, ap, ◌∙◌, arith, ◌==◌, nat_lt, nat_le}
use Rattle.std.specs.List.{insert, remove}
use Rattle.std.proofs.lemmas.List.{take-append-drop, length-set}
use Rattle.std.proofs.Math.ListN.{set}
use Rattle.base.specs.declared.levels.Level.{Level}
use Rattle.base.specs.Level.{rank_of}
use Rattle.label_lattice.specs.declared.pairings.Pair.{Pair}
use Rattle.label_lattice.specs.Levels.{IsRising, IsAbove}
use Rattle.label_lattice.specs.Placed.{place_in, kept, placed}
use Rattle.label_lattice.specs.Columns.{filler, has_at}
use Rattle.label_lattice.proofs.PlacedLemmas.{placed-found, placed-not_found, lt_true, lt_false}
use Rattle.label_lattice.proofs.PlacedLemmas.{eq_false}
use Rattle.std.proofs.Common.{eq-eqb, ◌&&◌}
use Rattle.label_lattice.proofs.LabelLemmas.{bool_cases}
use Rattle.std.proofs.lemmas.Bool.{eqb-true}
use Rattle.std.proofs.lemmas.Bool.Decides.{nat_tests}
use Rattle.std.proofs.lemmas.List.Edits.{length-insert, length-remove}

-- a category that is not above a pair's has its place there or before it
pub place_in-le : (c i : ℕ) (ps : List Pair) (x : Pair) → i < length ps
    → c ≤ (get_or ps i x).category.0 → place_in c ps ≤ i
place_in-le c i [] x within low = absurd (omega (arith, within))
place_in-le c zero (q ∷ qs) x within low = rw (lt_false q.category.0 c low) (omega arith)
place_in-le c (suc i) (q ∷ qs) x within low = grind (arith, place_in-le c i qs x)

pub place_in-length : (c : ℕ) (ps : List Pair) → place_in c ps ≤ length ps
place_in-length c [] = omega arith
place_in-length c (q ∷ qs) = grind (arith, place_in-length c qs)

IsAbove-get_or : (m i : ℕ) (ps : List Pair) (x : Pair) → IsAbove m ps → i < length ps
    → m < (get_or ps i x).category.0
IsAbove-get_or m i [] x above within = absurd (omega (arith, within))
IsAbove-get_or m zero (q ∷ qs) x above within = above.0
IsAbove-get_or m (suc i) (q ∷ qs) x above within =
    IsAbove-get_or m i qs x above.1 (omega (arith, within))

-- and one that is above a pair's has its place behind it
pub place_in-gt : (c i : ℕ) (ps : List Pair) (x : Pair) → IsRising ps → i < length ps
    → (get_or ps i x).category.0 < c → i < place_in c ps
place_in-gt c i [] x rising within low = absurd (omega (arith, within))
place_in-gt c zero (q ∷ qs) x rising within low = rw (lt_true q.category.0 c low) (omega arith)
place_in-gt c (suc i) (q ∷ qs) x rising within low =
    let inner : i < length qs = omega (arith, within) in
    let first : q.category.0 < (get_or qs i x).category.0 =
    IsAbove-get_or q.category.0 i qs x rising.0 inner in
    let rest : i < place_in c qs = place_in-gt c i qs x rising.1 inner low in
    rw (lt_true q.category.0 c (omega (arith, first, low))) (omega (arith, rest))

set_parts : {A : Type 0} (xs : List A) (i : ℕ) (y : A) → i < length xs
    → set xs i y ≡ take i xs ++ y ∷ drop (suc i) xs
set_parts [] i y within = absurd (omega (arith, within))
set_parts (x ∷ xs) zero y within = refl
set_parts (x ∷ xs) (suc i) y within = ap (λ t. x ∷ t) (set_parts xs i y (omega (arith, within)))

and_left : (x y : Bool) → (x && y) ≡ true → x ≡ true
and_left true y e = refl
and_left false y e = e

and_right : (x y : Bool) → (x && y) ≡ true → y ≡ true
and_right true y e = e
and_right false y e = absurd (let f : false ≡ true = e in cc)

lt_means : (m n : ℕ) → nat_lt m n ≡ true → m < n
lt_means m n e = grind (arith, nat_tests)

lt_fails : (m n : ℕ) → nat_lt m n ≡ false → n ≤ m
lt_fails m n e = grind (arith, nat_tests)

-- a category comes after those of all pairs where it is above the last one
pub past_last : (c : ℕ) (ps : List Pair) → IsRising ps → (length ps ≡ 0 → ⊥)
    → nat_lt (get_or ps (length ps - 1) filler).category.0 c ≡ (place_in c ps == length ps)
past_last c ps rising some =
    let within : length ps - 1 < length ps = omega (arith, some) in
    let few : place_in c ps ≤ length ps = place_in-length c ps in
    elim (bool_cases (nat_lt (get_or ps (length ps - 1) filler).category.0 c)) [
      | inl low ↦
          let behind : length ps - 1 < place_in c ps =
          place_in-gt c (length ps - 1) ps filler rising within (lt_means _ _ low) in
          rw low (sym (eq-eqb (place_in c ps) (length ps) (omega arith)))
      | inr high ↦
          let before : place_in c ps ≤ length ps - 1 =
          place_in-le c (length ps - 1) ps filler within (lt_fails _ _ high) in
          rw high (sym (eq_false (place_in c ps) (length ps) (omega arith)))
    ]

-- what the test of a place says
pub has_at-true : (ps : List Pair) (i c : ℕ) → true ≡ has_at ps i c
    → (i < length ps) × ((get_or ps i filler).category.0 ≡ c)
has_at-true ps i c e =
    let within : nat_lt i (length ps) ≡ true = and_left (nat_lt i (length ps)) _ (sym e) in
    let here : ((get_or ps i filler).category.0 == c) ≡ true =
    and_right (nat_lt i (length ps)) _ (sym e) in (
      lt_means i (length ps) within,
      eqb-true (get_or ps i filler).category.0 c here,
    )

pub has_at-false : (ps : List Pair) (i c : ℕ) → false ≡ has_at ps i c → i < length ps
    → (get_or ps i filler).category.0 ≢ c
has_at-false ps i c e within same =
    let some : has_at ps i c ≡ true =
    rw (lt_true i (length ps) within) (eq-eqb (get_or ps i filler).category.0 c same) in
    let clash : false ≡ true = e ∙ some in absurd (cc)

fits : (m : ℕ) → m ≤ 16 → true ≡ nat_le m 16
fits m low = grind (arith, nat_tests)

fits_not : (m : ℕ) → 16 < m → false ≡ nat_le m 16
fits_not m high = grind (arith, nat_tests)

-- a category that stands there, and gets a level that is the default or is not
module _ (d : Level) (p : Pair) (ps : List Pair) (i : ℕ) (at : i ≡ place_in p.category.0 ps)
    (few : length ps ≤ 16) (here : true ≡ has_at ps i p.category.0) where
  found : placed d p ps ≡ take i ps ++ kept d p (drop (suc i) ps)
  found =
      let is = has_at-true ps i p.category.0 here in
      rw (← at) at (placed-found d p ps filler (rw at at is.0) (rw at at is.1))

  pub placed-set : (rank_of p.level ≡ rank_of d → ⊥) → set ps i p ≡ placed d p ps
  placed-set differs =
      sym (rw (eq_false (rank_of p.level) (rank_of d) differs) at found
      ∙ sym (set_parts ps i p (has_at-true ps i p.category.0 here).0))

  pub placed-remove : rank_of p.level ≡ rank_of d → remove ps i ≡ placed d p ps
  placed-remove same = sym (rw (eq-eqb (rank_of p.level) (rank_of d) same) at found)

  pub room-set : (rank_of p.level ≡ rank_of d → ⊥) → true ≡ nat_le (length (placed d p ps)) 16
  room-set differs =
      rw (← placed-set differs, length-set ps i p) (fits (length ps) few)

  pub room-remove : rank_of p.level ≡ rank_of d → true ≡ nat_le (length (placed d p ps)) 16
  room-remove same =
      let less = length-remove ps i (has_at-true ps i p.category.0 here).0 in
      rw (← placed-remove same) (fits (length (remove ps i)) (omega (arith, less, few)))

-- and a category that stands nowhere
module _ (d : Level) (p : Pair) (ps : List Pair) (i : ℕ) (at : i ≡ place_in p.category.0 ps)
    (few : length ps ≤ 16) (within : i ≤ length ps) (none : false ≡ has_at ps i p.category.0) where
  missing : placed d p ps ≡ take i ps ++ kept d p (drop i ps)
  missing =
      rw (← at) at (placed-not_found d p ps filler (rw at at (has_at-false ps i p.category.0 none)))

  pub placed-insert : (rank_of p.level ≡ rank_of d → ⊥) → insert ps i p ≡ placed d p ps
  placed-insert differs = sym (rw (eq_false (rank_of p.level) (rank_of d) differs) at missing)

  pub placed-stays : rank_of p.level ≡ rank_of d → ps ≡ placed d p ps
  placed-stays same =
      sym ((rw (eq-eqb (rank_of p.level) (rank_of d) same) at missing) ∙ take-append-drop i ps)

  pub room-insert : (rank_of p.level ≡ rank_of d → ⊥) → (length ps ≡ 16 → ⊥)
      → true ≡ nat_le (length (placed d p ps)) 16
  room-insert differs room =
      rw (← placed-insert differs)
      (fits (length (insert ps i p)) (omega (arith, length-insert ps i p within, few, room)))

  pub room-full : (rank_of p.level ≡ rank_of d → ⊥) → length ps ≡ 16
      → false ≡ nat_le (length (placed d p ps)) 16
  room-full differs full =
      rw (← placed-insert differs)
      (fits_not (length (insert ps i p)) (omega (arith, length-insert ps i p within, full)))

  pub room-stays : rank_of p.level ≡ rank_of d → true ≡ nat_le (length (placed d p ps)) 16
  room-stays same = rw (← placed-stays same) (fits (length ps) few)

insert_last : (ps : List Pair) (p : Pair) → insert ps (length ps) p ≡ ps ++ p ∷ []
insert_last [] p = refl
insert_last (q ∷ qs) p = ap (λ (r : List Pair). q ∷ r) (insert_last qs p)

-- and one that comes after those of all pairs
module _ (d : Level) (p : Pair) (ps : List Pair) (at : place_in p.category.0 ps ≡ length ps)
    (few : length ps ≤ 16) where
  nowhere : false ≡ has_at ps (length ps) p.category.0
  nowhere = rw (lt_false (length ps) (length ps) (omega arith)) refl

  within_all : length ps ≤ length ps
  within_all = omega arith

  pub last-placed : (rank_of p.level ≡ rank_of d → ⊥) → ps ++ p ∷ [] ≡ placed d p ps
  last-placed differs =
      sym (insert_last ps p)
      ∙ placed-insert d p ps (length ps) (sym at) few within_all nowhere differs

  pub last-stays : rank_of p.level ≡ rank_of d → ps ≡ placed d p ps
  last-stays same = placed-stays d p ps (length ps) (sym at) few within_all nowhere same

  pub last-room : (rank_of p.level ≡ rank_of d → ⊥) → (length ps ≡ 16 → ⊥)
      → true ≡ nat_le (length (placed d p ps)) 16
  last-room differs room =
      room-insert d p ps (length ps) (sym at) few within_all nowhere differs room

  pub last-full : (rank_of p.level ≡ rank_of d → ⊥) → length ps ≡ 16
      → false ≡ nat_le (length (placed d p ps)) 16
  last-full differs full =
      room-full d p ps (length ps) (sym at) few within_all nowhere differs full

  pub last-room-stays : rank_of p.level ≡ rank_of d
      → true ≡ nat_le (length (placed d p ps)) 16
  last-room-stays same =
      room-stays d p ps (length ps) (sym at) few within_all nowhere same
