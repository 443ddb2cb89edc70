-- What objects use of their quotas.
use Rattle.std.proofs.Common.{◌≡◌, ℕ, ◌+◌, ◌≤◌, true, [], Some, None, sum_by, refl, arith}
use Rattle.std.proofs.lemmas.Bool.{leb-true}
use Rattle.kernel_rules.specs.State.{State, object_at, of_object, use_of, quota_at, own_cost, listed}
use Rattle.kernel_rules.specs.WellFormed.{is_well_formed, is_kept}
use Rattle.kernel_rules.specs.declared.objects.Object.{Object}
use Rattle.kernel_rules.proofs.ListerLaws.{kept_parts}
use Rattle.kernel_rules.proofs.LookupLaws.{all_at}
use Rattle.kernel_rules.proofs.WellFormedLaws.{Soundness, soundness_of}

-- an object uses at most its quota
pub use_within : (s : State) (o : ℕ) (x : Object) → object_at s o ≡ Some x → Soundness s → use_of s o ≤ x.quota
use_within s o x found h =
    leb-true (use_of s o) x.quota
    (kept_parts s o x (all_at (λ q z. is_kept s q z) s.objects o x h.kept found)).within

-- and so does what is no object, which uses nothing
pub use_fits : (s : State) (o : ℕ) → is_well_formed s ≡ true → use_of s o ≤ quota_at s o
use_fits s o h = elim (object_at s o) as (λ v. object_at s o ≡ v → use_of s o ≤ of_object 0 (λ x. x.quota) v) [
  | None ↦ λ is. none s o is
  | Some x ↦ λ is. use_within s o x is (soundness_of s h)
] refl
  where
    none : (s : State) (o : ℕ) → object_at s o ≡ None → use_of s o ≤ 0
    none s o is =
        let nothing : use_of s o ≡ 0 =
        (λ i. of_object 0 (λ x. own_cost x.body) (is i)
        + sum_by (quota_at s) (of_object [] (λ x. listed x.body) (is i))) in
        omega arith
