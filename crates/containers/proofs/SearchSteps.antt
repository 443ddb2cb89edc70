-- The steps of a search by halves.
use Rattle.std.proofs.Common.{◌≡◌, ◌≢◌, ℕ, zero, suc, ◌+◌, ◌-◌, ◌*◌, ◌/◌, ◌^◌, ◌<◌, ◌≤◌, ◌⊎◌, inl, inr, min, List, length, get_or, sym, ap, subst, arith}
use Rattle.std.proofs.Math.Pow.{pow_mono}
use Rattle.std.proofs.lemmas.Grind.{pow_more}
use Rattle.std.proofs.lemmas.Bool.{cases_lt}
use Rattle.std.proofs.lemmas.Int.Digits.{number_lt, number_digits_of, all_below_base_digits_of, length-digits_of-le}
use Rattle.std.specs.Int.Digits.{digits_of}
use Rattle.base.specs.Counts.{Counts, probed, ProbesAtMost}
use Rattle.containers.specs.Objects.{Rises, binary_digits}
use Rattle.containers.specs.Search.{Parts}
use Rattle.containers.specs.Hints.{IsHintCount}

-- a number is below 2 to the number of its binary digits
below_digits : (n : ℕ) → n < 2 ^ binary_digits n
below_digits n =
    let small = number_lt 2 (digits_of 2 n) (all_below_base_digits_of 2 n (omega arith)) in
    omega (arith, small, number_digits_of 2 n (omega arith))

-- and below no smaller power
few_digits : (m n : ℕ) → 2 ^ m ≤ 2 * n + 1 → m ≤ binary_digits n
few_digits m n few = elim (cases_lt (binary_digits n) m) [
  | inr le ↦ le
  | inl more ↦
      let le : binary_digits n + 1 ≤ m = omega arith in
      let grows : 2 ^ (binary_digits n + 1) ≤ 2 ^ m = pow_mono le in
      absurd (omega (arith, grows, few, below_digits n, pow_more 2 (binary_digits n)))
]

-- the middle parts a range
pub halves : (low high reads : ℕ) → low < high → high - low < 2 ^ reads → Parts low (low + (high - low) / 2) high reads
halves low high zero lt wide = absurd (omega arith)
halves low high (suc reads) lt wide =
    let left : 2 ^ (suc reads - 1) ≡ 2 ^ reads = ap (λ (n : ℕ). 2 ^ n) (omega arith) in
    record {
      from = omega arith;
      to = omega arith;
      some = omega arith;
      before = omega (arith, wide, left, pow_more 2 reads);
      after = omega (arith, wide, left, pow_more 2 reads);
    }

pub halved_first : (end size : ℕ) → 0 < end → end ≤ size → Parts 0 (end / 2) end (binary_digits size)
halved_first end size lt fits =
    let middle : 0 + (end - 0) / 2 ≡ end / 2 = omega arith in
    subst (λ (m : ℕ). Parts 0 m end (binary_digits size)) middle
    (halves 0 end (binary_digits size) lt (omega (arith, fits, below_digits size)))

-- a number below an eighth of the count of hints has a binary digit less than the size
pub digit_less : (ids count size : ℕ) → IsHintCount count size → ids < count / 8 → binary_digits ids + 1 ≤ binary_digits size
digit_less ids count size is lt =
    let top = is (omega (arith, lt)) in
    let fits : binary_digits ids ≤ top.0 = length-digits_of-le 2 top.0 ids (omega arith) (omega (arith, lt, top.1)) in
    let few : top.0 + 1 ≤ binary_digits size = few_digits (top.0 + 1) size (omega (arith, top.2, pow_more 2 top.0)) in
    omega (arith, fits, few)

-- and a smaller one has no more
pub digits_fewer : (ids size : ℕ) → ids ≤ size → binary_digits ids ≤ binary_digits size
digits_fewer ids size le = length-digits_of-le 2 (binary_digits size) ids (omega arith) (omega (arith, le, below_digits size))

-- numbers that rise are no less than their places
no_less : (ids : List ℕ) → Rises ids → (k : ℕ) → k < length ids → k ≤ get_or ids k 0
no_less ids rises zero lt = omega arith
no_less ids rises (suc k) lt =
    omega (arith, no_less ids rises k (omega arith), rises k (suc k) (omega arith) lt)

-- what a search has found, after some reads, where so many are left
pub record IsHalved (ids : List ℕ) (id size low middle high reads : ℕ) : Type 0 where
  pub ordered : low ≤ high
  pub in_range : high ≤ length ids
  pub before : (k : ℕ) → k < low → get_or ids k 0 < id
  pub after : (k : ℕ) → high ≤ k → k < length ids → id < get_or ids k 0
  pub few : reads ≤ binary_digits size
  pub short : reads + (high - low) ≤ length ids
  pub parts : low < high → Parts low middle high (binary_digits size - reads)

-- no number comes before the start, and one after the end is above the id
pub IsHalved-start : (ids : List ℕ) (id size middle high : ℕ) → Rises ids → high ≡ min (length ids) (id + 1)
    → (0 < high → Parts 0 middle high (binary_digits size)) → IsHalved ids id size 0 middle high 0
IsHalved-start ids id size middle high rises end begun = record {
  ordered = omega arith;
  in_range = omega (arith, end);
  before = λ k lt. absurd (omega arith);
  after = λ k le lt. omega (arith, end, no_less ids rises k lt);
  few = omega arith;
  short = omega (arith, end);
  parts = λ lt. subst (λ (n : ℕ). Parts 0 middle high n) (omega arith) (begun lt);
}

module _ (ids : List ℕ) (id size low middle high reads : ℕ) (open' : low < high) (rises : Rises ids) (here : IsHalved ids id size low middle high reads) where
  parts : Parts low middle high (binary_digits size - reads)
  parts = here.parts open'

  pub middle_in : middle < length ids
  middle_in = omega (arith, parts.to, here.in_range)

  pub one_left : reads < binary_digits size
  one_left = omega (arith, parts.some)

  left : (binary_digits size - reads) - 1 ≡ binary_digits size - (reads + 1)
  left = omega (arith, parts.some)

  pub IsHalved-above : get_or ids middle 0 < id → IsHalved ids id size (middle + 1) (middle + 1 + (high - (middle + 1)) / 2) high (reads + 1)
  IsHalved-above less = record {
    ordered = omega (arith, parts.to);
    in_range = here.in_range;
    before = λ k lt. below_from k (cases_lt k middle) lt less;
    after = here.after;
    few = omega (arith, one_left);
    short = omega (arith, here.short, parts.from, parts.to);
    parts = λ more. halves (middle + 1) high (binary_digits size - (reads + 1)) more
        (subst (λ (n : ℕ). high - (middle + 1) < 2 ^ n) left (omega (arith, parts.after)));
  }
    where
      below_from : (k : ℕ) → (k < middle) ⊎ (middle ≤ k) → k < middle + 1 → get_or ids middle 0 < id → get_or ids k 0 < id
      below_from k (inl lt) _ less' = omega (arith, rises k middle lt middle_in)
      below_from k (inr le) lt' less' = let same : k ≡ middle = omega arith in subst (λ (i : ℕ). get_or ids i 0 < id) (sym same) less'

  pub IsHalved-below : get_or ids middle 0 ≢ id → id ≤ get_or ids middle 0 → IsHalved ids id size low (low + (middle - low) / 2) middle (reads + 1)
  IsHalved-below differs le = record {
    ordered = parts.from;
    in_range = omega (arith, middle_in);
    before = here.before;
    after = λ k from lt. above_from k (cases_lt middle k) from lt differs le;
    few = omega (arith, one_left);
    short = omega (arith, here.short, parts.from, parts.to);
    parts = λ more. halves low middle (binary_digits size - (reads + 1)) more
        (subst (λ (n : ℕ). middle - low < 2 ^ n) left parts.before);
  }
    where
      above_from : (k : ℕ) → (middle < k) ⊎ (k ≤ middle) → middle ≤ k → k < length ids → get_or ids middle 0 ≢ id → id ≤ get_or ids middle 0 → id < get_or ids k 0
      above_from k (inl more') _ lt ne le' = omega (arith, rises middle k more' lt)
      above_from k (inr less') from lt ne le' = let same : k ≡ middle = omega arith in subst (λ (i : ℕ). id < get_or ids i 0) (sym same) (omega arith)

-- a range that is another one's
pub halved_as : (ids : List ℕ) (id size low high l h reads : ℕ) → l ≡ low → h ≡ high
    → IsHalved ids id size low (low + (high - low) / 2) high reads → IsHalved ids id size l (l + (h - l) / 2) h reads
halved_as ids id size low high l h reads lows highs halved =
    subst (λ (b : ℕ). IsHalved ids id size l (l + (b - l) / 2) b reads) (sym highs)
    (subst (λ (a : ℕ). IsHalved ids id size a (a + (high - a) / 2) high reads) (sym lows) halved)

-- so many probes more
pub probes_few : (old new : Counts) (reads most : ℕ) → new ≡ probed reads old → reads ≤ most → ProbesAtMost most old new
probes_few old new reads most is few =
    let probes : new.probes ≡ (probed reads old).probes = λ i. (is i).probes in
    record {
      no_fewer = omega (arith, probes);
      no_more = omega (arith, probes, few);
      scans = λ i. (is i).scans;
    }

-- and one probe more
pub one_more : (old now more : Counts) (most : ℕ) → ProbesAtMost most old now → more ≡ probed 1 now → ProbesAtMost (most + 1) old more
one_more old now more most few is =
    let probes : more.probes ≡ (probed 1 now).probes = λ i. (is i).probes in
    let scans : more.scans ≡ now.scans = λ i. (is i).scans in
    record {
      no_fewer = omega (arith, probes, few.no_fewer);
      no_more = omega (arith, probes, few.no_more);
      scans = omega (arith, few.scans, scans);
    }

-- no more than a larger number
pub probes_within : (old new : Counts) (m n : ℕ) → m ≤ n → ProbesAtMost m old new → ProbesAtMost n old new
probes_within old new m n le few =
    record { no_fewer = few.no_fewer; no_more = omega (arith, le, few.no_more); scans = few.scans }
