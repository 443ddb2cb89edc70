-- The root stays a container of its quota.
use Rattle.std.proofs.Common.{◌≡◌, ◌≢◌, ℕ, Bool, true, false, cond, []}
use Rattle.std.proofs.Common.{Some, None, refl, sym, ◌∙◌, ap}
use Rattle.std.specs.BTreeMap.{is_at}
use Rattle.std.specs.Ordering.{nat_cmp}
use Rattle.base.proofs.LiveLaw.{live_from_path}
use Rattle.kernel_rules.specs.Changes.{changed, put, made, listing}
use Rattle.kernel_rules.specs.State.{State, object_at, of_object, lists_of}
use Rattle.kernel_rules.specs.Step.{restricted}
use Rattle.kernel_rules.specs.declared.objects.Object.{Object}
use Rattle.kernel_rules.proofs.LookupLaws.{lookup_put}
use Rattle.kernel_rules.proofs.RecordLaws.{next_id-changed, same_id}
use Rattle.kernel_laws.proofs.Frames.{lookup_inserted, restricted_at}

-- a test of an object, as a change leaves it
pub test_changed : (g : Object → Bool) (q : ℕ) (s : State) (d : ℕ) (f : Object → Object)
    → ((x : Object) → object_at s d ≡ Some x → d ≡ q → g (f x) ≡ g x)
    → of_object false g (object_at (changed s d f) q) ≡ of_object false g (object_at s q)
test_changed g q s d f same =
    elim (object_at s d)
    as (λ v. object_at s d ≡ v → of_object false g (object_at (of_object s (λ x. put s d (f x)) v) q)
    ≡ of_object false g (object_at s q)) [
      | None ↦ λ is. refl
      | Some x ↦ λ is.
          ap (of_object false g) (lookup_put d q s.objects x (f x) is)
          ∙ elim (is_at (nat_cmp q) d)
          as (λ v. is_at (nat_cmp q) d ≡ v → of_object false g (cond v (Some (f x)) (object_at s q))
          ≡ of_object false g (object_at s q)) [
            | true ↦ λ near.
                let on : q ≡ d = same_id q d near in
                same x is (sym on) ∙ sym (ap (of_object false g) (ap (object_at s) on ∙ is))
            | false ↦ λ far. refl
          ] refl
    ] refl

-- and as a new object leaves it
pub test_made : (g : Object → Bool) (q : ℕ) (s : State) (d : ℕ) (x : Object) → q ≢ s.next_id
    → ((z : Object) → g (listing s.next_id z) ≡ g z)
    → of_object false g (object_at (made s d x) q) ≡ of_object false g (object_at s q)
test_made g q s d x old same =
    let mid : State = changed s d (listing s.next_id) in
    ap (of_object false g) (lookup_inserted mid.next_id q mid.objects x
    (λ h. old (h ∙ next_id-changed s d (listing s.next_id))))
    ∙ test_changed g q s d (listing s.next_id) (λ z is on. same z)

-- the root is never among the dead
pub root_lives : (g : Object → Bool) (s : State)
    → of_object false g (object_at (restricted s) 1) ≡ of_object false g (object_at s 1)
root_lives g s =
    ap (of_object false g) (restricted_at s 1
    ∙ ap (λ b. cond b (object_at s 1) None) (live_from_path (lists_of s.objects) 1 ([], refl)))
