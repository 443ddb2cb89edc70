-- The newly booted state, and those that it leads to, name rightly.
use Rattle.std.proofs.Common.{◌≡◌, true, false, cond, Some, None, refl}
use Rattle.std.proofs.Common.{subst}
use Rattle.std.specs.Ordering.{nat_cmp}
use Rattle.std.specs.BTreeMap.{is_at}
use Rattle.std.proofs.lemmas.Bool.{both_ways}
use Rattle.base.specs.declared.ranges.Limits.{Limits}
use Rattle.kernel_rules.specs.Runs.{booted, root_object, boot_thread, device_object}
use Rattle.kernel_rules.specs.declared.calls.Entry.{Entry}
use Rattle.kernel_rules.specs.declared.objects.Object.{Object}
use Rattle.kernel_laws.specs.Names.{NamesSpace, NamesRightly, IsNamedRightly}
use Rattle.kernel_laws.proofs.Names.{nameless}

pub booted_lem : (l : Limits) → IsNamedRightly (booted l)
booted_lem l o x =
    elim (is_at (nat_cmp o) 1)
    as (λ v. cond v (Some (root_object l))
    (cond (is_at (nat_cmp o) 2) (Some boot_thread)
    (cond (is_at (nat_cmp o) 3) (Some (device_object l)) None)) ≡ Some x → NamesRightly (booted l) x.body) [
      | true ↦ λ h. named (root_object l) x h (nameless (booted l) (root_object l).body (λ e on. absurd (cc)) (λ i. refl))
      | false ↦ elim (is_at (nat_cmp o) 2)
          as (λ v. cond v (Some boot_thread) (cond (is_at (nat_cmp o) 3) (Some (device_object l)) None) ≡ Some x
          → NamesRightly (booted l) x.body) [
            | true ↦ λ h. named boot_thread x h (nameless (booted l) boot_thread.body
                (λ e on. let same : (record { container = 0; object = 0 }) ≡ e = cc in
                subst (λ (a : Entry). NamesSpace (booted l) a) same (λ some. absurd (both_ways true some refl))) (λ i. refl))
            | false ↦ elim (is_at (nat_cmp o) 3)
                as (λ v. cond v (Some (device_object l)) None ≡ Some x → NamesRightly (booted l) x.body) [
                  | true ↦ λ h.
                      named (device_object l) x h
                      (nameless (booted l) (device_object l).body (λ e on. absurd (cc)) (λ i. refl))
                  | false ↦ λ h. absurd (cc)
                ]
          ]
    ]
  where
    named : (y x : Object) → Some y ≡ Some x → NamesRightly (booted l) y.body → NamesRightly (booted l) x.body
    named y x h n = let same : y ≡ x = cc in subst (λ (z : Object). NamesRightly (booted l) z.body) same n
