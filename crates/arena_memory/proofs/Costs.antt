-- Probes that add up.
use Rattle.std.proofs.Common.{◌≡◌, ℕ, ◌+◌, ◌≤◌, refl, ap, ◌∙◌, arith}
use Rattle.base.specs.Counts.{Counts, counted, probed, ProbesAtMost}

pub no_probes : (n : ℕ) (a : Counts) → ProbesAtMost n a a
no_probes n a = record { no_fewer = omega arith; no_more = omega arith; scans = refl }

pub probed_more : (n k m : ℕ) (a b c : Counts) → ProbesAtMost n a b → c ≡ probed k b → n + k ≤ m → ProbesAtMost m a c
probed_more n k m a b c most e le =
    let now : c.probes ≡ counted k b.probes = ap (λ (x : Counts). x.probes) e in
    record {
      no_fewer = omega (arith, now, most.no_fewer);
      no_more = omega (arith, now, most.no_more, le);
      scans = ap (λ (x : Counts). x.scans) e ∙ most.scans;
    }

pub probes_sum : (n k m : ℕ) (a b c : Counts) → ProbesAtMost n a b → ProbesAtMost k b c → n + k ≤ m → ProbesAtMost m a c
probes_sum n k m a b c one two le = record {
  no_fewer = omega (arith, one.no_fewer, two.no_fewer);
  no_more = omega (arith, one.no_more, two.no_more, le);
  scans = two.scans ∙ one.scans;
}

pub fewer_probes : (n m : ℕ) (a b : Counts) → ProbesAtMost n a b → n ≤ m → ProbesAtMost m a b
fewer_probes n m a b most le = record { no_fewer = most.no_fewer; no_more = omega (arith, most.no_more, le); scans = most.scans }
