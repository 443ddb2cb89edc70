-- Changes that no row shows.
use Rattle.std.proofs.Common.{ℕ}
use Rattle.kernel_rules.specs.State.{State}
use Rattle.kernel_rules.specs.Changes.{requoted, made_fixed, noted, with_body, rebyte, requeue, cleared}
use Rattle.kernel_laws.specs.TranslationLaws.{PlainChangesKeepRows}
use Rattle.kernel_laws.proofs.Bodies.{alike_quota, alike_fixed, alike_noted, alike_bytes, alike_packets}
use Rattle.kernel_laws.proofs.Bodies.{alike_cleared}
use Rattle.kernel_laws.proofs.Put.{alike_lem}

pub plain_lem : (s : State) (o t i : ℕ) → PlainChangesKeepRows s o t i
plain_lem s o t i = record {
  quota = λ more less. alike_lem s o (requoted more less) (λ x is. alike_quota more less x) t i;
  fixed = alike_lem s o made_fixed (λ x is. alike_fixed x) t i;
  metadata = λ bytes. alike_lem s o (noted bytes) (λ x is. alike_noted bytes x) t i;
  bytes = λ f. alike_lem s o (with_body (rebyte f)) (λ x is. alike_bytes f x) t i;
  packets = λ f. alike_lem s o (with_body (requeue f)) (λ x is. alike_packets f x) t i;
  clearance = λ c. alike_lem s o (cleared c) (λ x is. alike_cleared c x) t i;
}
