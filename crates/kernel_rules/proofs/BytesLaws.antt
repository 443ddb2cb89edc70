-- The bytes of a segment of a well-formed state.
use Rattle.std.proofs.Common.{◌≡◌, ◌≤◌, ◌<◌, ◌/◌, ◌*◌, ℕ, true, ◌&&◌, ◌==◌, nat_le, [], length, Some, None}
use Rattle.std.proofs.Common.{refl, arith}
use Rattle.std.proofs.lemmas.Bool.{and_parts, leb-true}
use Rattle.kernel_rules.specs.State.{State, object_at, of_object, bytes_of, bytes_at}
use Rattle.kernel_rules.specs.WellFormed.{is_well_formed, is_whole_body, is_stored, is_kept}
use Rattle.kernel_rules.specs.declared.objects.Body as body
use Rattle.kernel_rules.specs.declared.objects.Body.TheVariants as is
use Rattle.kernel_rules.proofs.ListerLaws.{kept_parts}
use Rattle.kernel_rules.proofs.LookupLaws.{all_at}
use Rattle.kernel_rules.proofs.WellFormedLaws.{soundness_of}

of_body : (b : body.Body) → is_whole_body b ≡ true → is_whole_body (is.Segment (bytes_of b)) ≡ true
of_body (is.Segment bytes) w = w
of_body (is.Container avoid list) w = refl
of_body (is.AddressSpace slots) w = refl
of_body (is.Thread t) w = refl
of_body (is.Gate g) w = refl
of_body (is.Device packets) w = refl

-- they are whole pages, up to 16
pub bytes_whole : (s : State) (o : ℕ) → is_well_formed s ≡ true
    → is_whole_body (is.Segment (bytes_at s o)) ≡ true
bytes_whole s o h =
    elim (object_at s o)
    as (λ v. object_at s o ≡ v
    → is_whole_body (is.Segment (of_object [] (λ x. bytes_of x.body) v)) ≡ true) [
      | None ↦ λ at. refl
      | Some x ↦ λ at.
          of_body x.body (and_parts (is_stored x.label && length x.metadata == 64) (is_whole_body x.body)
          (kept_parts s o x (all_at (λ q z. is_kept s q z) s.objects o x (soundness_of s h).kept at)).whole).1
    ] refl

pub pages_few : (s : State) (o : ℕ) → is_well_formed s ≡ true → length (bytes_at s o) ≤ 4096
pages_few s o h =
    leb-true (length (bytes_at s o)) 4096
    (and_parts (length (bytes_at s o) == 256 * (length (bytes_at s o) / 256))
    (nat_le (length (bytes_at s o)) 4096) (bytes_whole s o h)).1

pub pages_fit : (n : ℕ) → n ≤ 4096 → n / 256 < 4294967296
pages_fit n h = omega arith
