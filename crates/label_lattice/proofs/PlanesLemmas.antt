-- Labels whose exceptions lie in one block, compared by planes.
use Rattle.std.proofs.Common.{◌≡◌, ◌≢◌, ℕ, zero, suc, ◌+◌, ◌-◌, ◌*◌, ◌/◌, ◌%◌, ◌^◌, ◌<◌, ◌==◌, ◌↔◌, inl, inr}
use Rattle.std.proofs.Common.{Bool, true, false, IsTrue, List, [], ◌∷◌, Some, None, min}
use Rattle.std.proofs.Common.{refl, sym, ap, ◌∙◌, arith, cond, bit_and, if◌then◌else◌, eq-eqb}
use Rattle.std.proofs.Common.{subst, pow_pos}
use Rattle.std.specs.Int.{bit_at, w64, trailing_zeros}
use Rattle.std.proofs.lemmas.Bool.{cases_eq, cases_lt, eqb-true}
use Rattle.std.proofs.lemmas.Bool.Decides.{nat_tests}
use Rattle.std.proofs.lemmas.Nat.{or_lt, pow_below, mod_below, and_le_l}
use Rattle.std.proofs.lemmas.Nat.Bits.{bit_at_and, bit_at_or, bit_at-lt, bit_at-zero, bit_at_above}
use Rattle.std.proofs.lemmas.Nat.Bits.{bit_at-pow_same, bit_at-pow_other, bit_at-trailing_zeros, bit_at_ones}
use Rattle.base.specs.Level.{rank_of}
use Rattle.base.specs.declared.levels.Level.{Level}
use Rattle.base.specs.declared.levels.Level.TheVariants.{Star, L0, L1, L2, L3}
use Rattle.label_lattice.specs.declared.pairings.Pair.{Pair}
use Rattle.label_lattice.specs.Levels.{level_at}
use Rattle.label_lattice.specs.declared.planes.Planes.{Planes}
use Rattle.label_lattice.specs.Planes.{lie_in, first_block, bits_where}
use Rattle.label_lattice.specs.Planes.{plane, planes_in, planes_of, plane_at}
use Rattle.label_lattice.specs.Walk.{HoldsEverywhere}
use Rattle.label_lattice.specs.Ways.{both_bits, both_test}
use Rattle.label_lattice.proofs.LabelLemmas.{rank_of-injective}
use Rattle.label_lattice.proofs.WalkLemmas.{and_parts, and_both, level_at-other}
use Rattle.label_lattice.proofs.WaysLemmas.{and_bit, both_few}

-- a bit of what is left of two sums
pub both_bits_there : (m n k : ℕ) (P Q : Type 0) → IsTrue (bit_at m k == 1) ↔ P
    → IsTrue (bit_at n k == 1) ↔ Q
    → IsTrue (bit_at (bit_and m n) k == 1) ↔ (P × Q)
both_bits_there m n k P Q p q =
    let e = and_bit m n k in (
      λ h. let parts = and_parts _ _ (sym e ∙ h) in (p.0 parts.0, q.0 parts.1),
      λ pq. e ∙ and_both _ _ (p.1 pq.0) (q.1 pq.1),
    )

-- a bit of how two levels compare, where some category has them
pub bit_there : (categories r k : ℕ) (a b : Level) → k < 6
    → r ≡ (if categories == 0 then 63 else both_bits a b)
    → IsTrue (bit_at r k == 1) ↔ (categories ≢ 0 → IsTrue (both_test k a b b))
bit_there zero r k a b few e =
    let all : bit_at 63 k ≡ 1 = bit_at_ones 6 k few in
    (λ h some. absurd (some refl), λ f. rw (e, all) refl)
bit_there (suc n) r k a b few e =
    let told : r ≡ both_bits a b = grind (arith, nat_tests) in
    (λ h some. rw (← told) h, λ f. rw told (f (λ z. absurd (omega (arith, z)))))

-- what holds of each level
pub by_levels : (P : Level → Type 0) → P Star → P L0 → P L1 → P L2 → P L3 → (l : Level) → P l
by_levels P s a b c d Star = s
by_levels P s a b c d L0 = a
by_levels P s a b c d L1 = b
by_levels P s a b c d L2 = c
by_levels P s a b c d L3 = d

-- a bit of what is left of five sums, one for each level
pub five_there : (k : ℕ) (P : Level → Type 0) (s a b c d : ℕ)
    → IsTrue (bit_at s k == 1) ↔ P Star → IsTrue (bit_at a k == 1) ↔ P L0
    → IsTrue (bit_at b k == 1) ↔ P L1 → IsTrue (bit_at c k == 1) ↔ P L2
    → IsTrue (bit_at d k == 1) ↔ P L3
    → IsTrue (bit_at (bit_and (bit_and (bit_and (bit_and s a) b) c) d) k == 1) ↔ ((l : Level) → P l)
five_there k P s a b c d ps pa pb pc pd =
    let two = both_bits_there s a k (P Star) (P L0) ps pa in
    let three = both_bits_there _ b k _ (P L1) two pb in
    let four = both_bits_there _ c k _ (P L2) three pc in
    let five = both_bits_there _ d k _ (P L3) four pd in (
      λ h. let all = five.0 h in by_levels P all.0.0.0.0 all.0.0.0.1 all.0.0.1 all.0.1 all.1,
      λ f. five.1 ((((f Star, f L0), f L1), f L2), f L3),
    )

-- the bit of one place
place_here : (b : Bool) (n : ℕ) → bit_at (cond b (2 ^ n) 0) n ≡ cond b 1 0
place_here true n = bit_at-pow_same n
place_here false n = bit_at-zero n

place_elsewhere : (b : Bool) (n h : ℕ) → h ≢ n → bit_at (cond b (2 ^ n) 0) h ≡ 0
place_elsewhere true n h other = bit_at-pow_other n h other
place_elsewhere false n h other = bit_at-zero h

place-lt : (b : Bool) (n : ℕ) → cond b (2 ^ n) 0 < 2 ^ suc n
place-lt true n = pow_below n (suc n) (omega arith)
place-lt false n = pow_pos (suc n)

bits_where-lt : (passes : ℕ → Bool) (n : ℕ) → bits_where passes n < 2 ^ n
unfolding bits_where
bits_where-lt passes zero = omega arith
bits_where-lt passes (suc n) =
    or_lt (suc n) _ _
    (omega (arith, bits_where-lt passes n, pow_below n (suc n) (omega arith)))
    (place-lt (passes n) n)

-- the places that pass have a bit
bits_where_tells : (passes : ℕ → Bool) (n h : ℕ) → h < n
    → bit_at (bits_where passes n) h ≡ cond (passes h) 1 0
unfolding bits_where
bits_where_tells passes zero h low = absurd (omega arith)
bits_where_tells passes (suc n) h low =
    let below : ℕ = bits_where passes n in
    let few : below < 2 ^ n = bits_where-lt passes n in
    let own : ℕ = cond (passes n) (2 ^ n) 0 in
    elim (cases_eq h n) [
      | inl same ↦
          subst (λ k. bit_at (bits_where passes (suc n)) k ≡ cond (passes k) 1 0) (sym same)
          (omega (
            arith,
            bit_at_or below own n,
            bit_at_above below n n few (omega arith),
            place_here (passes n) n,
          ))
      | inr other ↦
          omega (
            arith,
            bit_at_or below own h,
            place_elsewhere (passes n) n h other,
            bits_where_tells passes n h (omega (arith, other)),
          )
    ]

-- a plane has the bit of each category that has its level
module _ (l default : Level) (block : ℕ) (ps : List Pair) where
  abbrev has_level : ℕ → Bool
  has_level h = rank_of (level_at default ps (64 * block + h)) == rank_of l

  pub plane-lt : plane block default ps l < 2 ^ 64
  plane-lt = bits_where-lt has_level 64

  pub plane_tells : (h : ℕ) → h < 64 → bit_at (plane block default ps l) h
      ≡ (if rank_of (level_at default ps (64 * block + h)) == rank_of l then 1 else 0)
  plane_tells h low = bits_where_tells has_level 64 h low

-- the plane of a level
pub plane_is : (l default : Level) (block : ℕ) (ps : List Pair)
    → plane_at l (planes_in block default ps) ≡ plane block default ps l
plane_is Star default block ps = refl
plane_is L0 default block ps = refl
plane_is L1 default block ps = refl
plane_is L2 default block ps = refl
plane_is L3 default block ps = refl

-- a category of another block has the default
pub outside : (default : Level) (block c : ℕ) → c / 64 ≢ block → (ps : List Pair)
    → IsTrue (lie_in block ps) → level_at default ps c ≡ default
outside default block c apart [] within = refl
outside default block c apart (p ∷ ps) within =
    let parts = and_parts (p.category.0 / 64 == block) (lie_in block ps) within in
    let in_block : p.category.0 / 64 ≡ block = eqb-true _ _ parts.0 in
    level_at-other default p ps c (λ e. apart (ap (λ k. k / 64) e ∙ in_block))
    ∙ outside default block c apart ps parts.1

-- a bit that two levels have tells whether it is there
below_six : (k : ℕ) (a b : Level) → IsTrue (both_test k a b b) → k < 6
below_six k a b h =
    elim (cases_lt k 6) [
      | inl few ↦ few
      | inr many ↦ absurd (omega (arith, eqb-true _ _ h, bit_at_above (both_bits a b) 6 k (both_few a b) many))
    ]

-- two numbers with one bit have something in common
and_some : (m n h : ℕ) → bit_at m h ≡ 1 → bit_at n h ≡ 1 → bit_and m n ≢ 0
and_some m n h in_m in_n none =
    let gone : bit_at (bit_and m n) h ≡ 0 = ap (λ x. bit_at x h) none ∙ bit_at-zero h in
    omega (arith, gone, bit_at_and m n h, in_m, in_n)

-- and so has what two have in common
and_found : (m n : ℕ) → m < 2 ^ 64 → bit_and m n ≢ 0
    → (h : ℕ) × (h < 64) × (bit_at m h ≡ 1) × (bit_at n h ≡ 1)
and_found m n few some =
    let both : ℕ = bit_and m n in
    let found = bit_at-trailing_zeros w64 both (omega (arith, some)) (omega (arith, few, and_le_l m n)) in
    let h : ℕ = trailing_zeros w64 both in
    let parts : bit_at both h ≡ min (bit_at m h) (bit_at n h) = bit_at_and m n h in (
      h,
      found.0,
      omega (arith, found.1, parts, bit_at-lt m h),
      omega (arith, found.1, parts, bit_at-lt n h),
    )

one_means : (b : Bool) → cond {A = ℕ} b 1 0 ≡ 1 → IsTrue b
one_means true e = refl
one_means false e = absurd (omega (arith, e))

-- the planes that a label carries
told_planes : (within : Bool) (m n : Planes) → cond within (Some m) None ≡ Some n
    → IsTrue within × (m ≡ n)
told_planes true m n e = (refl, cc)
told_planes false m n e = absurd (cc)

module _ (default : Level) (ps : List Pair) (planes : Planes)
    (carried : planes_of default ps ≡ Some planes) where
  same_block : IsTrue (lie_in planes.block ps) × (planes_in planes.block default ps ≡ planes)
  same_block =
      let told =
      told_planes (lie_in (first_block ps) ps) (planes_in (first_block ps) default ps) planes carried in
      let block : first_block ps ≡ planes.block = ap (λ p. p.block) told.1 in (
        subst (λ k. IsTrue (lie_in k ps)) block told.0,
        subst (λ k. planes_in k default ps ≡ planes) block told.1,
      )

  plane_of : (l : Level) → plane_at l planes ≡ plane planes.block default ps l
  plane_of l = ap (plane_at l) (sym same_block.1) ∙ plane_is l default planes.block ps

  carried-lt : (l : Level) → plane_at l planes < 2 ^ 64
  carried-lt l = rw (plane_of l) (plane-lt l default planes.block ps)

  -- a category of another block has the default
  elsewhere : (c : ℕ) → c / 64 ≢ planes.block → level_at default ps c ≡ default
  elsewhere c apart = outside default planes.block c apart ps same_block.0

  -- the plane of a category's level has its bit
  own_bit : (c : ℕ) → c / 64 ≡ planes.block → bit_at (plane_at (level_at default ps c) planes) (c % 64) ≡ 1
  own_bit c in_block =
      let low : c % 64 < 64 = mod_below c 64 (omega arith) in
      let is : 64 * planes.block + c % 64 ≡ c = omega (arith, in_block) in
      ap (λ m. bit_at m (c % 64)) (plane_of (level_at default ps c))
      ∙ plane_tells (level_at default ps c) default planes.block ps (c % 64) low
      ∙ ap (λ b. cond b 1 0) (eq-eqb _ _ (ap (λ k. rank_of (level_at default ps k)) is))

  -- and no other plane has it
  level_of_bit : (l : Level) (h : ℕ) → h < 64 → bit_at (plane_at l planes) h ≡ 1
      → level_at default ps (64 * planes.block + h) ≡ l
  level_of_bit l h low bit =
      rank_of-injective _ _
      (eqb-true _ _ (one_means _
      (sym (plane_tells l default planes.block ps h low) ∙ ap (λ m. bit_at m h) (sym (plane_of l)) ∙ bit)))

-- the answer by planes is that of all categories
module _ (da db : Level) (a b : List Pair) (pa pb : Planes) (r : ℕ)
    (of_a : planes_of da a ≡ Some pa)
    (of_b : planes_of db b ≡ Some pb)
    (same : pa.block ≡ pb.block)
    (bits : (k : ℕ) → k < 6 → IsTrue (bit_at r k == 1) ↔
    ((x y : Level) → bit_and (plane_at x pa) (plane_at y pb) ≢ 0 → IsTrue (both_test k x y y))) where
  forth : (k : ℕ) → IsTrue (bit_at (bit_and (both_bits da db) r) k == 1)
      → HoldsEverywhere (both_test k) da a db b db b
  forth k h c =
      let parts = and_parts _ _ (sym (and_bit (both_bits da db) r k) ∙ h) in
      let rest : IsTrue (both_test k da db db) = parts.0 in
      elim (cases_eq (c / 64) pa.block) [
        | inl here ↦
            (bits k (below_six k da db rest)).0 parts.1 _ _
            (and_some _ _ (c % 64) (own_bit da a pa of_a c here) (own_bit db b pb of_b c (here ∙ same)))
        | inr there ↦
            rw (elsewhere da a pa of_a c there, elsewhere db b pb of_b c (λ e. there (e ∙ sym same))) rest
      ]

  back : (k : ℕ) → HoldsEverywhere (both_test k) da a db b db b
      → IsTrue (bit_at (bit_and (both_bits da db) r) k == 1)
  back k all =
      let far : ℕ = 64 * (pa.block + 1) in
      let there : far / 64 ≢ pa.block = λ e. omega (arith, e) in
      let rest : IsTrue (both_test k da db db) =
      rw (elsewhere da a pa of_a far there, elsewhere db b pb of_b far (λ e. there (e ∙ sym same)))
      at (all far) in
      and_bit (both_bits da db) r k
      ∙ and_both _ _ rest
      ((bits k (below_six k da db rest)).1 (λ x y some.
      let (h, low, bit_a, bit_b) = and_found _ _ (carried-lt da a pa of_a x) some in
      let is_x : level_at da a (64 * pa.block + h) ≡ x = level_of_bit da a pa of_a x h low bit_a in
      let is_y : level_at db b (64 * pa.block + h) ≡ y =
      ap (λ n. level_at db b (64 * n + h)) same ∙ level_of_bit db b pb of_b y h low bit_b in
      rw (is_x, is_y) at (all (64 * pa.block + h))))

  pub planes_tell : (k : ℕ) → IsTrue (bit_at (bit_and (both_bits da db) r) k == 1) ↔
      HoldsEverywhere (both_test k) da a db b db b
  planes_tell k = (forth k, back k)

-- a number that is not 0 has a bit
bit_found : (m : ℕ) → m < 2 ^ 64 → m ≢ 0 → (h : ℕ) × (h < 64) × (bit_at m h ≡ 1)
bit_found m few some =
    let found = bit_at-trailing_zeros w64 m (omega (arith, some)) few in
    (trailing_zeros w64 m, found.0, found.1)

-- and so for labels of different blocks, where each has its default in the block of the other
module _ (da db : Level) (a b : List Pair) (pa pb : Planes) (r q : ℕ)
    (of_a : planes_of da a ≡ Some pa)
    (of_b : planes_of db b ≡ Some pb)
    (apart : pa.block ≢ pb.block)
    (beside_a : (k : ℕ) → k < 6 → IsTrue (bit_at r k == 1) ↔
    ((x : Level) → plane_at x pa ≢ 0 → IsTrue (both_test k x db db)))
    (beside_b : (k : ℕ) → k < 6 → IsTrue (bit_at q k == 1) ↔
    ((y : Level) → bit_and (2 ^ 64 - 1) (plane_at y pb) ≢ 0 → IsTrue (both_test k da y y))) where
  abbrev all_held : ℕ
  all_held = bit_and (bit_and (both_bits da db) r) q

  apart_forth : (k : ℕ) → IsTrue (bit_at all_held k == 1) → HoldsEverywhere (both_test k) da a db b db b
  apart_forth k h c =
      let outer = and_parts _ _ (sym (and_bit (bit_and (both_bits da db) r) q k) ∙ h) in
      let parts = and_parts _ _ (sym (and_bit (both_bits da db) r k) ∙ outer.0) in
      let rest : IsTrue (both_test k da db db) = parts.0 in
      let few : k < 6 = below_six k da db rest in
      let low : c % 64 < 64 = mod_below c 64 (omega arith) in
      elim (cases_eq (c / 64) pa.block) [
        | inl here ↦
            let own = own_bit da a pa of_a c here in
            let some : plane_at (level_at da a c) pa ≢ 0 =
            λ z. omega (arith, own, ap (λ x. bit_at x (c % 64)) z, bit_at-zero (c % 64)) in
            rw (elsewhere db b pb of_b c (λ e. apart (sym here ∙ e))) ((beside_a k few).0 parts.1 _ some)
        | inr there ↦
            rw (elsewhere da a pa of_a c there) (elim (cases_eq (c / 64) pb.block) [
              | inl here ↦
                  (beside_b k few).0 outer.1 _
                  (and_some _ _ (c % 64) (bit_at_ones 64 (c % 64) low) (own_bit db b pb of_b c here))
              | inr nowhere ↦ rw (elsewhere db b pb of_b c nowhere) rest
            ])
      ]

  apart_back : (k : ℕ) → HoldsEverywhere (both_test k) da a db b db b → IsTrue (bit_at all_held k == 1)
  apart_back k all =
      let far : ℕ = 64 * (pa.block + pb.block + 1) in
      let not_a : far / 64 ≢ pa.block = λ e. omega (arith, e) in
      let not_b : far / 64 ≢ pb.block = λ e. omega (arith, e) in
      let rest : IsTrue (both_test k da db db) =
      rw (elsewhere da a pa of_a far not_a, elsewhere db b pb of_b far not_b) at (all far) in
      let few : k < 6 = below_six k da db rest in
      let first : IsTrue (bit_at r k == 1) =
      (beside_a k few).1 (λ x some.
      let (h, low, bit) = bit_found (plane_at x pa) (carried-lt da a pa of_a x) some in
      let c : ℕ = 64 * pa.block + h in
      let block : c / 64 ≢ pb.block = λ e. apart (omega (arith, e, low)) in
      rw (level_of_bit da a pa of_a x h low bit, elsewhere db b pb of_b c block) at (all c)) in
      let second : IsTrue (bit_at q k == 1) =
      (beside_b k few).1 (λ y some.
      let (h, low, all_bits, bit) = and_found (2 ^ 64 - 1) (plane_at y pb) (omega arith) some in
      let c : ℕ = 64 * pb.block + h in
      let block : c / 64 ≢ pa.block = λ e. apart (omega (arith, e, low)) in
      rw (elsewhere da a pa of_a c block, level_of_bit db b pb of_b y h low bit) at (all c)) in
      and_bit (bit_and (both_bits da db) r) q k
      ∙ and_both _ _ (and_bit (both_bits da db) r k ∙ and_both _ _ rest first) second

  pub planes_tell_apart : (k : ℕ) → IsTrue (bit_at all_held k == 1) ↔
      HoldsEverywhere (both_test k) da a db b db b
  planes_tell_apart k = (apart_forth k, apart_back k)
