-- Planes as they are made, an exception after another.
use Rattle.std.proofs.Common.{◌≡◌, ◌≢◌, ℕ, zero, suc, ◌+◌, ◌-◌, ◌*◌, ◌/◌, ◌%◌, ◌^◌, ◌<◌, ◌==◌, inl, inr}
use Rattle.std.proofs.Common.{Bool, true, false, IsTrue, List, [], ◌∷◌}
use Rattle.std.proofs.Common.{refl, sym, ap, ◌∙◌, arith, cond, bit_and, if◌then◌else◌, eq-eqb}
use Rattle.std.proofs.Common.{length, length-set, replicate, slice_index_or, bit_or, subst, drop}
use Rattle.std.specs.Prelude.{slice_set}
use Rattle.std.specs.Int.{bit_at, bit_not, w64}
use Rattle.std.proofs.lemmas.List.{get_or-set_other, same_lists}
use Rattle.std.proofs.lemmas.List.{get_or_default}
use Rattle.std.proofs.lemmas.Grind.{get_or-set_at}
use Rattle.std.proofs.lemmas.Bool.{cases_eq, eqb-true}
use Rattle.std.proofs.lemmas.Nat.{or_lt, pow_below, mod_below, and_le_l}
use Rattle.std.proofs.lemmas.Nat.Bits.{bit_at_and, bit_at_or, bit_at_not, bit_at-lt, bit_at-zero, same_from_bits_below}
use Rattle.std.proofs.lemmas.Nat.Bits.{bit_at-pow_same, bit_at-pow_other, bit_at_ones}
use Rattle.base.specs.Level.{rank_of}
use Rattle.base.specs.declared.levels.Level.{Level}
use Rattle.base.specs.declared.levels.Level.TheVariants.{Star, L0, L1, L2, L3}
use Rattle.label_lattice.specs.declared.pairings.Pair.{Pair}
use Rattle.label_lattice.specs.Levels.{level_at, IsAbove, IsRising}
use Rattle.label_lattice.specs.Planes.{lie_in, bit_of, plane, planes_in, plane_at}
use Rattle.label_lattice.proofs.PlacedLemmas.{eq_false}
use Rattle.label_lattice.proofs.WalkLemmas.{and_parts, level_at-above, level_at-same, level_at-other}
use Rattle.label_lattice.proofs.PlanesLemmas.{plane_is, plane-lt, plane_tells}

-- once a category that had the default has a level
abbrev pub planes_with : Level → Pair → List ℕ → List ℕ
planes_with default p planes =
    let bit = bit_of p.category.0 in
    let others = bit_and (slice_index_or planes (rank_of default) 0) (bit_not w64 bit) in
    let left = slice_set planes (rank_of default) others in
    slice_set left (rank_of p.level) (bit_or (slice_index_or left (rank_of p.level) 0) bit)

-- the bits of a plane
bit_of-lt : (c : ℕ) → bit_of c < 2 ^ 64
bit_of-lt c = pow_below (c % 64) 64 (mod_below c 64 (omega arith))

cond-lt : (b : Bool) → cond b (2 ^ 64 - 1) 0 < 2 ^ 64
cond-lt true = omega arith
cond-lt false = omega arith

-- a plane that loses a bit or not, and gets it or not
abbrev with_bit : Bool → Bool → ℕ → ℕ → ℕ
with_bit had has m bit =
    let left = if had then bit_and m (bit_not w64 bit) else m in
    if has then bit_or left bit else left

with_bit-lt : (had has : Bool) (m c : ℕ) → m < 2 ^ 64 → with_bit had has m (bit_of c) < 2 ^ 64
with_bit-lt true true m c few =
    or_lt 64 _ (bit_of c) (omega (arith, few, and_le_l m (bit_not w64 (bit_of c)))) (bit_of-lt c)
with_bit-lt false true m c few = or_lt 64 m (bit_of c) few (bit_of-lt c)
with_bit-lt true false m c few = omega (arith, few, and_le_l m (bit_not w64 (bit_of c)))
with_bit-lt false false m c few = few

rank-lt : (l : Level) → rank_of l < 5
rank-lt Star = omega arith
rank-lt L0 = omega arith
rank-lt L1 = omega arith
rank-lt L2 = omega arith
rank-lt L3 = omega arith

-- what is read after a change
changed_at : (f : ℕ → ℕ) (xs : List ℕ) (i j : ℕ) → i < length xs
    → slice_index_or (slice_set xs i (f (slice_index_or xs i 0))) j 0
    ≡ (if i == j then f (slice_index_or xs j 0) else slice_index_or xs j 0)
changed_at f xs i j within = elim (cases_eq j i) [
  | inl same ↦
      let here : (i == j) ≡ true = eq-eqb i j (sym same) in
      rw here
      (get_or-set_at xs i j (f (slice_index_or xs i 0)) 0 same within
      ∙ ap (λ k. f (slice_index_or xs k 0)) (sym same))
  | inr other ↦
      let there : (i == j) ≡ false = eq_false i j (λ e. other (sym e)) in
      rw there (get_or-set_other xs i j (f (slice_index_or xs i 0)) 0 other)
]

zeros : (l : Level) → slice_index_or {A = ℕ} (replicate 5 0) (rank_of l) 0 ≡ 0
zeros Star = refl
zeros L0 = refl
zeros L1 = refl
zeros L2 = refl
zeros L3 = refl

-- where all categories have the default
abbrev uniform : Level → List ℕ
uniform default = slice_set (replicate 5 0) (rank_of default) (2 ^ 64 - 1)

uniform_at : (l default : Level)
    → slice_index_or (uniform default) (rank_of l) 0 ≡ cond (rank_of default == rank_of l) (2 ^ 64 - 1) 0
uniform_at l default =
    changed_at (λ m. 2 ^ 64 - 1) (replicate 5 0) (rank_of default) (rank_of l) (rank-lt default)
    ∙ ap (λ m. if rank_of default == rank_of l then 2 ^ 64 - 1 else m) (zeros l)

-- the plane of each level once a category has a level
with_at : (l default : Level) (p : Pair) (xs : List ℕ) → length xs ≡ 5
    → slice_index_or (planes_with default p xs) (rank_of l) 0
    ≡ with_bit (rank_of default == rank_of l) (rank_of p.level == rank_of l)
    (slice_index_or xs (rank_of l) 0) (bit_of p.category.0)
with_at l default p xs five =
    let bit : ℕ = bit_of p.category.0 in
    let left : List ℕ =
    slice_set xs (rank_of default)
    (bit_and (slice_index_or xs (rank_of default) 0) (bit_not w64 bit)) in
    let had : rank_of default < length xs = omega (arith, five, rank-lt default) in
    let has : rank_of p.level < length left =
    omega (arith, five, length-set xs (rank_of default) (bit_and (slice_index_or xs (rank_of default) 0) (bit_not w64 bit)), rank-lt p.level) in
    changed_at (λ m. bit_or m bit) left (rank_of p.level) (rank_of l) has
    ∙ ap (λ m. if rank_of p.level == rank_of l then bit_or m bit else m)
    (changed_at (λ m. bit_and m (bit_not w64 bit)) xs (rank_of default) (rank_of l) had)

bit_here : (had has : Bool) (m c h : ℕ) → h < 64 → h ≡ c % 64 → bit_at m h ≡ (if had then 1 else 0)
    → bit_at (with_bit had has m (bit_of c)) h ≡ (if has then 1 else 0)
bit_here had true m c h low e was =
    let own : bit_at (bit_of c) h ≡ 1 = ap (bit_at (bit_of c)) e ∙ bit_at-pow_same (c % 64) in
    let left : ℕ = if had then bit_and m (bit_not w64 (bit_of c)) else m in
    omega (arith, own, bit_at_or left (bit_of c) h, bit_at-lt left h)
bit_here true false m c h low e was =
    let own : bit_at (bit_of c) h ≡ 1 = ap (bit_at (bit_of c)) e ∙ bit_at-pow_same (c % 64) in
    omega (arith, own, bit_at_and m (bit_not w64 (bit_of c)) h, bit_at_not w64 (bit_of c) h (bit_of-lt c) low)
bit_here false false m c h low e was = was

bit_left : (had : Bool) (m c h : ℕ) → h < 64 → h ≢ c % 64
    → bit_at (if had then bit_and m (bit_not w64 (bit_of c)) else m) h ≡ bit_at m h
bit_left true m c h low ne =
    omega (
      arith,
      bit_at_and m (bit_not w64 (bit_of c)) h,
      bit_at_not w64 (bit_of c) h (bit_of-lt c) low,
      bit_at-pow_other (c % 64) h ne,
      bit_at-lt m h,
    )
bit_left false m c h low ne = refl

bit_elsewhere : (had has : Bool) (m c h : ℕ) → h < 64 → h ≢ c % 64
    → bit_at (with_bit had has m (bit_of c)) h ≡ bit_at m h
bit_elsewhere had true m c h low ne =
    let left : ℕ = if had then bit_and m (bit_not w64 (bit_of c)) else m in
    omega (arith, bit_at_or left (bit_of c) h, bit_at-pow_other (c % 64) h ne, bit_left had m c h low ne)
bit_elsewhere had false m c h low ne = bit_left had m c h low ne

uniform_bit : (b : Bool) (h : ℕ) → h < 64 → bit_at (cond b (2 ^ 64 - 1) 0) h ≡ cond b 1 0
uniform_bit true h low = bit_at_ones 64 h low
uniform_bit false h low = bit_at-zero h

-- lists of five planes with the same bits
level_ranked : (k : ℕ) → k < 5 → (l : Level) × (rank_of l ≡ k)
level_ranked zero lt = (Star, refl)
level_ranked (suc zero) lt = (L0, refl)
level_ranked (suc (suc zero)) lt = (L1, refl)
level_ranked (suc (suc (suc zero))) lt = (L2, refl)
level_ranked (suc (suc (suc (suc zero)))) lt = (L3, refl)
level_ranked (suc (suc (suc (suc (suc k))))) lt = absurd (omega arith)

module _ (block : ℕ) (default : Level) where
  abbrev pub having : List Pair → List ℕ
  having ps = (planes_in block default ps).having

  same_planes : (xs : List ℕ) (ps : List Pair) → length xs ≡ 5
      → ((l : Level) → slice_index_or xs (rank_of l) 0 < 2 ^ 64)
      → ((l : Level) (h : ℕ) → h < 64 → bit_at (slice_index_or xs (rank_of l) 0) h
      ≡ cond (rank_of (level_at default ps (64 * block + h)) == rank_of l) 1 0) → xs ≡ having ps
  same_planes xs ps five few bits =
      let each : (l : Level) → slice_index_or xs (rank_of l) 0 ≡ plane_at l (planes_in block default ps) = λ l.
      same_from_bits_below 64 _ (plane block default ps l) (few l) (plane-lt l default block ps)
      (λ h low. bits l h low ∙ sym (plane_tells l default block ps h low))
      ∙ sym (plane_is l default block ps) in
      same_lists xs (having ps) five (λ k d within.
      let (l, is) = level_ranked k (omega (arith, five, within)) in
      get_or_default xs k d 0 within
      ∙ subst (λ n. slice_index_or xs n 0 ≡ slice_index_or (having ps) n 0) is (each l)
      ∙ get_or_default (having ps) k 0 d (omega (arith, five, within)))

  planes_left : (xs : List ℕ) (i j m n : ℕ) → length (slice_set (slice_set xs i m) j n) ≡ length xs
  planes_left xs i j m n = length-set (slice_set xs i m) j n ∙ length-set xs i m

  -- the beginning
  pub no_exception : slice_set (replicate 5 0) (rank_of default) (2 ^ 64 - 1) ≡ having []
  no_exception =
      same_planes (uniform default) [] (length-set (replicate 5 0) (rank_of default) (2 ^ 64 - 1))
      (λ l. rw (uniform_at l default) (cond-lt (rank_of default == rank_of l)))
      (λ l h low. rw (uniform_at l default) (uniform_bit (rank_of default == rank_of l) h low))

  -- a turn
  pub one_exception : (p : Pair) (ps : List Pair) → IsRising (p ∷ ps) → p.category.0 / 64 ≡ block
      → planes_with default p (having ps) ≡ having (p ∷ ps)
  one_exception p ps rising in_block =
      same_planes (planes_with default p (having ps)) (p ∷ ps)
      (planes_left (having ps) (rank_of default) (rank_of p.level) _ _)
      (λ l. rw (with_at l default p (having ps) refl)
      (with_bit-lt (rank_of default == rank_of l) (rank_of p.level == rank_of l) _ p.category.0
      (rw (plane_is l default block ps) (plane-lt l default block ps))))
      (λ l h low.
      let had : Bool = rank_of default == rank_of l in
      let has : Bool = rank_of p.level == rank_of l in
      let m : ℕ = slice_index_or (having ps) (rank_of l) 0 in
      let rest = ap (λ x. bit_at x h) (plane_is l default block ps) ∙ plane_tells l default block ps h low in
      rw (with_at l default p (having ps) refl) (elim (cases_eq h (p.category.0 % 64)) [
        | inl same ↦
            let here : p.category.0 ≡ 64 * block + h = omega (arith, in_block, same) in
            let plain : level_at default ps (64 * block + h) ≡ default =
            level_at-above default ps (64 * block + h) (subst (λ k. IsAbove k ps) here rising.0) in
            rw (level_at-same default p ps (64 * block + h) here)
            (bit_here had has m p.category.0 h low same
            (rest ∙ ap (λ x. if rank_of x == rank_of l then 1 else 0) plain))
        | inr other ↦
            let apart : 64 * block + h ≢ p.category.0 =
            λ e. other (omega (arith, in_block, e, low)) in
            rw (level_at-other default p ps (64 * block + h) apart)
            (bit_elsewhere had has m p.category.0 h low other ∙ rest)
      ]))

-- what is left of exceptions
pub rising_left : (ps : List Pair) (i : ℕ) → IsRising ps → IsRising (drop i ps)
rising_left ps zero rising = rising
rising_left [] (suc i) rising = tt
rising_left (p ∷ ps) (suc i) rising = rising_left ps i rising.1

pub in_block_at : (block : ℕ) (ps : List Pair) (i : ℕ) (d : Pair) → IsTrue (lie_in block ps) → i < length ps
    → (slice_index_or ps i d).category.0 / 64 ≡ block
in_block_at block [] i d within lt = absurd (omega arith)
in_block_at block (p ∷ ps) zero d within lt =
    eqb-true _ _ (and_parts (p.category.0 / 64 == block) (lie_in block ps) within).0
in_block_at block (p ∷ ps) (suc i) d within lt =
    in_block_at block ps i d (and_parts (p.category.0 / 64 == block) (lie_in block ps) within).1 (omega arith)
