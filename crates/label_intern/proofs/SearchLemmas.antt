-- The order of labels is total, and the steps of a search by halves in it.
use Rattle.std.proofs.Common.{◌≡◌, ◌⊎◌, inl, inr, ℕ, zero, suc, ◌+◌, ◌-◌, ◌*◌, ◌/◌, ◌^◌, ◌<◌, ◌≤◌, List, Option, Some, length, get_or, refl, sym, ap, ◌∙◌, subst, arith, is_some, IsSome}
use Rattle.std.specs.declared.cmp.Ordering.TheVariants.{Less, Equal, Greater}
use Rattle.std.specs.Ordering.{ordering_reverse}
use Rattle.std.specs.Cmp.{IsTotalOrder, nat_cmp_total, on_total, then_total}
use Rattle.std.specs.Cmp.Lexicographic.{lists_total}
use Rattle.std.proofs.Math.Nat.{mul-le-mul_left}
use Rattle.std.proofs.Math.Pow.{pow_mono}
use Rattle.std.proofs.lemmas.Grind.{pow_more}
use Rattle.std.proofs.lemmas.Bool.{cases_lt}
use Rattle.base.specs.Level.{rank_of}
use Rattle.base.specs.Counts.{Counts, scanned, ScansAtMost}
use Rattle.label_lattice.specs.declared.pairings.Pair.{Pair}
use Rattle.label_lattice.specs.Label.{LabelValue}
use Rattle.label_lattice.specs.Listing.{pair_cmp, label_cmp}
use Rattle.label_lattice.proofs.ListingLemmas.{labels_tied}
use Rattle.label_intern.specs.declared.held.Held.{Held}
use Rattle.label_intern.specs.Held.{held_at, label_in, label_of, stored, LacksLabel}
use Rattle.label_intern.specs.Halves.{ScansByHalves}
use Rattle.label_intern.specs.Listed.{IsListed, IsGap}
use Rattle.label_intern.proofs.CountsLemmas.{scans_none, scans_some, scans_both}

pairs_total : IsTotalOrder pair_cmp
pairs_total = then_total (on_total (λ (p : Pair). p.category.0) nat_cmp_total) (on_total (λ (p : Pair). rank_of p.level) nat_cmp_total)

-- labels are listed in a total order
pub labels_total : IsTotalOrder label_cmp
labels_total =
    then_total (on_total (λ (l : LabelValue). rank_of l.default_level) nat_cmp_total)
    (on_total (λ (l : LabelValue). l.exceptions) (lists_total pairs_total))

-- what is greater the other way is less
pub turned : (a b : LabelValue) → label_cmp a b ≡ Greater → label_cmp b a ≡ Less
turned a b e = labels_total.antisymm b a ∙ ap ordering_reverse e

-- no label comes before itself
pub not_before : (a : LabelValue) → label_cmp a a ≡ Less → ⊥
not_before a e = absurd (let same : label_cmp a a ≡ Equal = labels_tied a a refl in cc)

-- an index that has a label has a label to show
pub held_some : (slots : List (Option Held)) (i : ℕ) (h : Held) → held_at slots i ≡ Some h → IsSome (held_at slots i)
held_some slots i h e = ap is_some e

pub held_label : (slots : List (Option Held)) (i : ℕ) (h : Held) → held_at slots i ≡ Some h → label_of slots i ≡ h.label
held_label slots i h e = ap label_in e

-- a label that would stand in a gap is not stored
pub lacks_gap : (slots : List (Option Held)) (listed : List ℕ) (l : LabelValue) (place : ℕ) → IsListed slots listed
    → IsGap slots listed l place → LacksLabel slots l
lacks_gap slots listed l place s gap i h at same =
    let p = s.all i (held_some slots i h at) in
    let is : label_of slots (get_or listed p.0 0) ≡ l = ap (label_of slots) p.2 ∙ held_label slots i h at ∙ same in
    elim (cases_lt p.0 place) as (λ _. ⊥) [
      | inl before ↦ not_before l (subst (λ (a : LabelValue). label_cmp a l ≡ Less) is (gap.before p.0 before))
      | inr after ↦ not_before l (subst (λ (a : LabelValue). label_cmp l a ≡ Less) is (gap.after p.0 after p.1))
    ]

-- what a search from a meter's counts on has found, after some scans
pub record IsHalved (slots : List (Option Held)) (listed : List ℕ) (l : LabelValue) (start now : Counts) (low high : ℕ) : Type 0 where
  pub ordered : low ≤ high
  pub in_range : high ≤ length listed
  pub before : (k : ℕ) → k < low → label_cmp (label_of slots (get_or listed k 0)) l ≡ Less
  pub after : (k : ℕ) → high ≤ k → k < length listed → label_cmp l (label_of slots (get_or listed k 0)) ≡ Less
  pub scans : ℕ
  pub counted : ScansAtMost scans start now
  pub halved : 2 ^ scans * (high - low) ≤ length listed
  pub few : 2 ^ scans ≤ 2 * length listed + 1

-- a search that has not begun
pub halved_none : (slots : List (Option Held)) (listed : List ℕ) (l : LabelValue) (m : Counts) → IsHalved slots listed l m m 0 (length listed)
halved_none slots listed l m = record {
  ordered = omega arith;
  in_range = omega arith;
  before = λ k lt. absurd (omega arith);
  after = λ k le lt. absurd (omega arith);
  scans = 0;
  counted = scans_none m;
  halved = omega arith;
  few = omega arith;
}

-- a part that is at most half as wide, after one scan more
narrower : (n r wide narrow : ℕ) → 2 ^ r * wide ≤ n → narrow + narrow ≤ wide → 2 ^ (r + 1) * narrow ≤ n
narrower n r wide narrow h le =
    let double = pow_more 2 r in
    let grows = mul-le-mul_left (2 ^ r) le in
    omega (arith, double, grows, ap (λ (x : ℕ). x * narrow) double)

-- and the scans stay few
fewer_scans : (n r wide : ℕ) → 2 ^ r * wide ≤ n → 0 < wide → 2 ^ (r + 1) ≤ 2 * n
fewer_scans n r wide h pos =
    let double = pow_more 2 r in
    let grows = mul-le-mul_left (2 ^ r) pos in
    omega (arith, double, grows)

module _ (slots : List (Option Held)) (listed : List ℕ) (l : LabelValue) (start now more : Counts) (low high middle : ℕ)
    (at : middle ≡ low + (high - low) / 2) (open' : low < high) (s : IsListed slots listed)
    (here : IsHalved slots listed l start now low high) (scan : more ≡ scanned 1 now) where
  counted_more : ScansAtMost (here.scans + 1) start more
  counted_more = scans_both here.scans 1 (here.scans + 1) start now more here.counted (scans_some 1 now more scan) (omega arith)

  pub halves_found : ScansByHalves (2 * stored slots + 1) start more
  halves_found = record {
    scans = here.scans + 1;
    counted = counted_more;
    few = omega (arith, s.count, fewer_scans (length listed) here.scans (high - low) here.halved (omega arith));
  }

  pub halved_above : label_cmp (label_of slots (get_or listed middle 0)) l ≡ Less → IsHalved slots listed l start more (middle + 1) high
  halved_above less = record {
    ordered = omega (arith, here.ordered);
    in_range = here.in_range;
    before = λ k lt. below_from k (cases_lt k middle) lt;
    after = here.after;
    scans = here.scans + 1;
    counted = counted_more;
    halved = narrower (length listed) here.scans (high - low) (high - (middle + 1)) here.halved (omega arith);
    few = omega (arith, fewer_scans (length listed) here.scans (high - low) here.halved (omega arith));
  }
    where
      below_from : (k : ℕ) → (k < middle) ⊎ (middle ≤ k) → k < middle + 1 → label_cmp (label_of slots (get_or listed k 0)) l ≡ Less
      below_from k (inl lt) _ =
          labels_total.trans (label_of slots (get_or listed k 0)) (label_of slots (get_or listed middle 0)) l
          (s.rises k middle lt (omega (arith, here.in_range))) less
      below_from k (inr le) lt =
          let same : k ≡ middle = omega arith in
          subst (λ (i : ℕ). label_cmp (label_of slots (get_or listed i 0)) l ≡ Less) (sym same) less

  pub halved_below : label_cmp (label_of slots (get_or listed middle 0)) l ≡ Greater → IsHalved slots listed l start more low middle
  halved_below greater = record {
    ordered = omega arith;
    in_range = omega (arith, here.in_range);
    before = here.before;
    after = λ k from lt. above_from k (cases_lt middle k) from lt;
    scans = here.scans + 1;
    counted = counted_more;
    halved = narrower (length listed) here.scans (high - low) (middle - low) here.halved (omega arith);
    few = omega (arith, fewer_scans (length listed) here.scans (high - low) here.halved (omega arith));
  }
    where
      less : label_cmp l (label_of slots (get_or listed middle 0)) ≡ Less
      less = turned (label_of slots (get_or listed middle 0)) l greater

      above_from : (k : ℕ) → (middle < k) ⊎ (k ≤ middle) → middle ≤ k → k < length listed → label_cmp l (label_of slots (get_or listed k 0)) ≡ Less
      above_from k (inl gt) _ lt =
          labels_total.trans l (label_of slots (get_or listed middle 0)) (label_of slots (get_or listed k 0))
          less (s.rises middle k gt lt)
      above_from k (inr le) from lt =
          let same : k ≡ middle = omega arith in
          subst (λ (i : ℕ). label_cmp l (label_of slots (get_or listed i 0)) ≡ Less) (sym same) less

-- the search has ended
pub gap_found : (slots : List (Option Held)) (listed : List ℕ) (l : LabelValue) (start now : Counts) (low high : ℕ)
    → IsHalved slots listed l start now low high → high ≤ low → IsGap slots listed l low
gap_found slots listed l start now low high here done = record {
  within = omega (arith, here.ordered, here.in_range);
  before = here.before;
  after = λ k from lt. here.after k (omega (arith, here.ordered)) lt;
}

pub halves_ended : (slots : List (Option Held)) (listed : List ℕ) (l : LabelValue) (start now : Counts) (low high : ℕ)
    → IsListed slots listed → IsHalved slots listed l start now low high → ScansByHalves (2 * stored slots + 1) start now
halves_ended slots listed l start now low high s here =
    record { scans = here.scans; counted = here.counted; few = omega (arith, s.count, here.few) }

-- so few scans are at most one for each
doubles : (n : ℕ) → n + 1 ≤ 2 ^ n
doubles zero = omega arith
doubles (suc n) = omega (arith, doubles n, pow_more 2 n)

pub halves_few : (n : ℕ) (old new : Counts) → ScansByHalves (2 * n + 1) old new → ScansAtMost n old new
halves_few n old new h =
    elim (cases_lt n h.scans) as (λ _. ScansAtMost n old new) [
      | inl more ↦
          let le : n + 1 ≤ h.scans = omega arith in
          let grows : 2 ^ (n + 1) ≤ 2 ^ h.scans = pow_mono le in
          absurd (omega (arith, grows, h.few, doubles n, pow_more 2 n))
      | inr few ↦ record {
        no_fewer = h.counted.no_fewer;
        no_more = omega (arith, h.counted.no_more);
        probes = h.counted.probes;
      }
    ]
