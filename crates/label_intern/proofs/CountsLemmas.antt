use Rattle.std.proofs.Common.{◌≡◌, ℕ, ◌+◌, ◌≤◌, ◌∙◌, refl, arith}
use Rattle.base.specs.Counts.{Counts, scanned}
use Rattle.base.specs.Counts.{ScansAtMost}

-- no scans
pub scans_none : (m : Counts) → ScansAtMost 0 m m
scans_none m = record { no_fewer = omega arith; no_more = omega arith; probes = refl }

-- so many scans
pub scans_some : (n : ℕ) (m m' : Counts) → m' ≡ scanned n m → ScansAtMost n m m'
scans_some n m m' e = rw e (record { no_fewer = omega arith; no_more = omega arith; probes = refl })

-- scans after scans
pub scans_both : (a b n : ℕ) (m m' m'' : Counts) → ScansAtMost a m m' → ScansAtMost b m' m'' → a + b ≤ n → ScansAtMost n m m''
scans_both a b n m m' m'' p q within = record {
  no_fewer = omega (arith, p.no_fewer, q.no_fewer);
  no_more = omega (arith, p.no_more, q.no_more);
  probes = q.probes ∙ p.probes;
}
