-- What the label rules say of one category.
use Rattle.std.proofs.Common.{◌≡◌, ℕ, ◌≤◌, true, false, cond, ◌==◌, max}
use Rattle.std.proofs.Common.{refl, subst, arith}
use Rattle.std.proofs.lemmas.Bool.{eqb-true}
use Rattle.base.specs.declared.levels.Level.{Level}
use Rattle.base.specs.declared.levels.Level.TheVariants.{Star, L0, L1, L2, L3}
use Rattle.base.specs.Level.{rank_of}
use Rattle.label_lattice.specs.Label.{LabelValue, level}
use Rattle.label_lattice.specs.Order.{levels, up, gate_floor}
use Rattle.label_lattice.specs.Rule.{up_rank, down_rank}
use Rattle.label_lattice.proofs.OrderLemmas.{leq_test-Leq, IsDescribed-levels, IsDescribed-up, IsDescribed-down}
use Rattle.label_lattice.proofs.OrderLemmas.{IsDescribed-join}
use Rattle.label_lattice.specs.LabelRules.{below, visible, shown, above_floor}

-- the rank of a label's level in category c
abbrev pub rank : LabelValue → ℕ → ℕ
rank l c = rank_of (level l c)

rank_small : (l : Level) → rank_of l ≤ 4
rank_small Star = omega arith
rank_small L0 = omega arith
rank_small L1 = omega arith
rank_small L2 = omega arith
rank_small L3 = omega arith

pub below_at : (a b : LabelValue) (c : ℕ) → below a b ≡ true → rank a c ≤ rank b c
unfolding below
below_at a b c h =
    (leq_test-Leq (levels a) (levels b) (IsDescribed-levels a) (IsDescribed-levels b)).0 h c

up_small : (a b : ℕ) → (b == 0) ≡ false → a ≤ up_rank b → a ≤ b
up_small a b h le = subst (λ v. a ≤ cond v 5 b) h le

up_above : (a : ℕ) → a ≤ up_rank a
up_above a =
    elim (a == 0) as (λ v. (a == 0) ≡ v → a ≤ cond v 5 a) [
      | true ↦ λ is. let none : a ≡ 0 = eqb-true a 0 is in omega arith
      | false ↦ λ is. omega arith
    ] refl

pub visible_at : (a b : LabelValue) (c : ℕ) → visible a b ≡ true → (rank b c == 0) ≡ false
    → rank a c ≤ rank b c
unfolding visible
visible_at a b c h free =
    up_small (rank a c) (rank b c) free
    ((leq_test-Leq (levels a) (up (levels b)) (IsDescribed-levels a) (IsDescribed-up _ (IsDescribed-levels b))).0
    h c)

pub shown_at : (a b : LabelValue) (c : ℕ) → shown a b ≡ true → (rank b c == 0) ≡ false
    → rank a c ≤ rank b c
unfolding shown
shown_at a b c h free =
    let above : rank a c ≤ up_rank (rank a c) = up_above (rank a c) in
    let under : up_rank (rank a c) ≤ up_rank (rank b c) =
    (leq_test-Leq (up (levels a)) (up (levels b)) (IsDescribed-up _ (IsDescribed-levels a))
    (IsDescribed-up _ (IsDescribed-levels b))).0 h c in
    up_small (rank a c) (rank b c) free (omega arith)

down_small : (m r : ℕ) → m ≤ 4 → down_rank m ≤ r → m ≤ r
down_small m r small le =
    elim (m == 5) as (λ v. (m == 5) ≡ v → cond v 0 m ≤ r → m ≤ r) [
      | true ↦ λ is h. let five : m ≡ 5 = eqb-true m 5 is in absurd (omega arith)
      | false ↦ λ is h. h
    ] refl le

floor_ranks : (a b r : ℕ) → a ≤ 4 → b ≤ 4 → (a == 0) ≡ false → (b == 0) ≡ false
    → down_rank (max (up_rank a) (up_rank b)) ≤ r → (a ≤ r) × (b ≤ r)
floor_ranks a b r sa sb fa fb h =
    let plain : down_rank (max a b) ≤ r =
    subst (λ v. down_rank (max a (cond v 5 b)) ≤ r) fb
    (subst (λ v. down_rank (max (cond v 5 a) (up_rank b)) ≤ r) fa h) in
    let most : max a b ≤ r = down_small (max a b) r (omega arith) plain in
    (omega arith, omega arith)

-- past a gate, where neither has star
pub floor_at : (own gate asked : LabelValue) (c : ℕ) → above_floor own gate asked ≡ true
    → (rank own c == 0) ≡ false → (rank gate c == 0) ≡ false
    → (rank own c ≤ rank asked c) × (rank gate c ≤ rank asked c)
unfolding above_floor
floor_at own gate asked c h free_own free_gate =
    floor_ranks (rank own c) (rank gate c) (rank asked c) (rank_small (level own c)) (rank_small (level gate c))
    free_own free_gate
    ((leq_test-Leq (gate_floor (levels own) (levels gate)) (levels asked)
    (IsDescribed-down _ (IsDescribed-join _ _ (IsDescribed-up _ (IsDescribed-levels own))
    (IsDescribed-up _ (IsDescribed-levels gate)))) (IsDescribed-levels asked)).0 h c)
