-- What no list has is taken out of none.
use Rattle.std.proofs.Common.{◌≡◌, ℕ, Bool, true, false, cond, not, ◌==◌, List, [], ◌∷◌, Some, None, refl, sym, ◌∙◌, ap}
use Rattle.base.specs.Live.{has}
use Rattle.containers.proofs.Lists.{or_no_left, or_no_right}
use Rattle.kernel_rules.specs.State.{State, object_at, of_object, list_at, listed}
use Rattle.kernel_rules.specs.Changes.{put, changed, delisting, relist, without}
use Rattle.kernel_rules.specs.Step.{restricted}
use Rattle.kernel_rules.specs.WellFormed.{is_well_formed}
use Rattle.kernel_rules.specs.declared.objects.Object.{Object}
use Rattle.kernel_rules.specs.declared.objects.Body as body
use Rattle.kernel_rules.specs.declared.objects.Body.TheVariants as is
use Rattle.kernel_rules.proofs.RecordLaws.{restricted_live}
use Rattle.kernel_rules.proofs.WellFormedLaws.{soundness_of}
use Rattle.arena_state.proofs.ClearLaws.{unchanged}

without_absent : (o : ℕ) (ids : List ℕ) → has ids o ≡ false → without o ids ≡ ids
without_absent o [] h = refl
without_absent o (i ∷ ids) h =
    ap (λ (v : Bool). cond (not v) (i ∷ without o ids) (without o ids)) (or_no_left (o == i) (has ids o) h)
    ∙ ap (λ (t : List ℕ). i ∷ t) (without_absent o ids (or_no_right (o == i) (has ids o) h))

delisting_absent : (o : ℕ) (x : Object) → has (listed x.body) o ≡ false → delisting o x ≡ x
delisting_absent o x h = (λ i. record x { body = of_body x.body h i })
  where
    of_body : (b : body.Body) → has (listed b) o ≡ false → relist (without o) b ≡ b
    of_body (is.Container avoid list) h = ap (λ (l : List ℕ). is.Container avoid l) (without_absent o list h)
    of_body (is.Segment bytes) h = refl
    of_body (is.AddressSpace slots) h = refl
    of_body (is.Thread t) h = refl
    of_body (is.Gate g) h = refl
    of_body (is.Device packets) h = refl

pub unlisted_state : (s : State) (d o : ℕ) → is_well_formed s ≡ true → has (list_at s d) o ≡ false
    → s ≡ restricted (changed s d (delisting o))
unlisted_state s d o formed h =
    sym (restricted_live s (soundness_of s formed).live) ∙ ap restricted (sym same)
  where
    same : changed s d (delisting o) ≡ s
    same = elim (object_at s d)
        as (λ v. object_at s d ≡ v → has (of_object [] (λ x. listed x.body) v) o ≡ false
        → of_object s (λ x. put s d (delisting o x)) v ≡ s) [
          | None ↦ λ found off. refl
          | Some x ↦ λ found off.
              sym (ap (of_object s (λ y. put s d (delisting o y))) found)
              ∙ unchanged s d (delisting o) x found (delisting_absent o x off)
        ] refl h
