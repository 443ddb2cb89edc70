-- Changes of an object that leave what it lists.
use Rattle.std.proofs.Common.{◌≡◌, ℕ, List, Some, None, refl}
use Rattle.kernel_rules.specs.State.{State, lists_of, object_at, of_object, listed}
use Rattle.kernel_rules.specs.Changes.{put, changed, rebyte, rethread}
use Rattle.kernel_rules.specs.declared.objects.Object.{Object}
use Rattle.kernel_rules.specs.declared.objects.Thread as thread
use Rattle.kernel_rules.specs.declared.objects.Body as body
use Rattle.kernel_rules.specs.declared.objects.Body.TheVariants as is
use Rattle.kernel_rules.proofs.RecordLaws.{lists_of-set_value}

-- an edit of one object that leaves its list leaves all lists
pub lists_of-changed : (s : State) (o : ℕ) (f : Object → Object)
    → ((x : Object) → listed (f x).body ≡ listed x.body) → lists_of (changed s o f).objects ≡ lists_of s.objects
lists_of-changed s o f same =
    elim (object_at s o)
    as (λ v. object_at s o ≡ v → lists_of (of_object s (λ x. put s o (f x)) v).objects ≡ lists_of s.objects) [
      | None ↦ λ is. refl
      | Some x ↦ λ is. lists_of-set_value o s.objects x (f x) is (same x)
    ] refl

pub listed-rebyte : (f : List ℕ → List ℕ) (b : body.Body) → listed (rebyte f b) ≡ listed b
listed-rebyte f (is.Segment bytes) = refl
listed-rebyte f (is.Container avoid list) = refl
listed-rebyte f (is.AddressSpace slots) = refl
listed-rebyte f (is.Thread t) = refl
listed-rebyte f (is.Gate g) = refl
listed-rebyte f (is.Device packets) = refl

pub listed-rethread : (f : thread.Thread → thread.Thread) (b : body.Body) → listed (rethread f b) ≡ listed b
listed-rethread f (is.Thread t) = refl
listed-rethread f (is.Segment bytes) = refl
listed-rethread f (is.Container avoid list) = refl
listed-rethread f (is.AddressSpace slots) = refl
listed-rethread f (is.Gate g) = refl
listed-rethread f (is.Device packets) = refl
