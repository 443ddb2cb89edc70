-- What is read of a state in which one object was changed.
use Rattle.std.proofs.Common.{◌≡◌, ◌≢◌, ℕ, true, false, cond, ◌&&◌, [], Option, Some, None}
use Rattle.std.proofs.Common.{refl, sym, ◌∙◌, ap, subst, slice_get}
use Rattle.std.specs.Option.{option_map, option_and_then}
use Rattle.std.specs.Ordering.{nat_cmp}
use Rattle.std.specs.BTreeMap.{is_at}
use Rattle.base.specs.Live.{has, is_live}
use Rattle.base.specs.declared.kinds.Kind.TheVariants as kinds
use Rattle.label_lattice.specs.Label.{LabelValue}
use Rattle.kernel_rules.specs.State.{State, object_at, of_object, lists_of, listed, label_at}
use Rattle.kernel_rules.specs.State.{is_kind, slots_of, thread_of}
use Rattle.kernel_rules.specs.Changes.{put, changed}
use Rattle.kernel_rules.specs.Translate.{slot_at, slot_in, translate}
use Rattle.kernel_rules.specs.declared.calls.Entry.{Entry}
use Rattle.kernel_rules.specs.declared.objects.Object.{Object}
use Rattle.kernel_rules.proofs.LookupLaws.{lookup_put}
use Rattle.kernel_rules.proofs.RecordLaws.{same_id, lists_of-set_value}
use Rattle.kernel_laws.specs.Alike.{LooksAlike}
use Rattle.kernel_laws.specs.Through.{SameEntry}
use Rattle.kernel_laws.proofs.Depends.{row_reads_lem}

-- the readers of an object
abbrev pub label_read : Option Object → Option LabelValue
label_read v = option_map (λ x. x.label) v

abbrev pub space_read : Option Object → Option Entry
space_read v = option_map (λ r. r.space) (option_and_then (λ x. thread_of x.body) v)

-- an object looked up, at the id that changed and at others
pub at_id : {X : Type 0} (g : Option Object → X) (s : State) (o q : ℕ) (x y : Object) → object_at s o ≡ Some x
    → (q ≡ o → g (Some y) ≡ g (Some x)) → g (object_at (put s o y) q) ≡ g (object_at s q)
at_id g s o q x y found same =
    ap g (lookup_put o q s.objects x y found) ∙
    elim (is_at (nat_cmp q) o)
    as (λ v. is_at (nat_cmp q) o ≡ v → g (cond v (Some y) (object_at s q)) ≡ g (object_at s q)) [
      | true ↦ λ is.
          let on : q ≡ o = same_id q o is in
          same on ∙ sym (ap g (subst (λ k. object_at s k ≡ Some x) (sym on) found))
      | false ↦ λ is. refl
    ] refl

pub at_any : {X : Type 0} (g : Option Object → X) (s : State) (o q : ℕ) (x y : Object) → object_at s o ≡ Some x
    → g (Some y) ≡ g (Some x) → g (object_at (put s o y) q) ≡ g (object_at s q)
at_any g s o q x y found same = at_id g s o q x y found (λ on. same)

pub at_other : {X : Type 0} (g : Option Object → X) (s : State) (o q : ℕ) (x y : Object)
    → object_at s o ≡ Some x → q ≢ o → g (object_at (put s o y) q) ≡ g (object_at s q)
at_other g s o q x y found other = at_id g s o q x y found (λ on. absurd (other on))

pub live_put : (s : State) (o : ℕ) (x y : Object) → object_at s o ≡ Some x → listed y.body ≡ listed x.body
    → (q : ℕ) → is_live (lists_of (put s o y).objects) q ≡ is_live (lists_of s.objects) q
live_put s o x y found list q = ap (λ l. is_live l q) (lists_of-set_value o s.objects x y found list)

-- an entry is the same where the list is, and its labels are
pub entry_put : (s : State) (o : ℕ) (x y : Object) → object_at s o ≡ Some x
    → is_kind kinds.Container y ≡ is_kind kinds.Container x → listed y.body ≡ listed x.body → (e : Entry)
    → label_at (put s o y) e.container ≡ label_at s e.container
    → label_at (put s o y) e.object ≡ label_at s e.object → SameEntry s (put s o y) e
entry_put s o x y found kind list e container object = record {
  live = λ i. at_any (of_object false (is_kind kinds.Container)) s o e.container x y found kind i
      && live_put s o x y found list e.container i;
  listed = ap (λ l. has l e.object) (at_any (of_object [] (λ z. listed z.body)) s o e.container x y found list);
  container = container;
  object = object;
}

pub slot_put : (s : State) (o : ℕ) (x y : Object) → object_at s o ≡ Some x → slots_of y.body ≡ slots_of x.body
    → (a i : ℕ) → slot_at (put s o y) a i ≡ slot_at s a i
slot_put s o x y found slots a i =
    ap (λ l. slot_in (slice_get l i)) (at_any (of_object [] (λ z. slots_of z.body)) s o a x y found slots)

pub alike_put : (s : State) (o : ℕ) (x y : Object) → object_at s o ≡ Some x → LooksAlike x y → (t i : ℕ)
    → translate (put s o y) t i ≡ translate s t i
alike_put s o x y found a t i =
    let labels : (q : ℕ) → label_at (put s o y) q ≡ label_at s q =
    (λ q. at_any label_read s o q x y found (ap Some a.label)) in
    row_reads_lem s (put s o y) t i (at_any space_read s o t x y found a.space) (labels t)
    (λ e on. entry_put s o x y found a.container a.list e (labels e.container) (labels e.object))
    (λ e is. slot_put s o x y found a.slots e.object i)
    (λ e is. at_any (of_object false (λ z. z.immutable)) s o e.object x y found a.immutable)

-- a change that is found, or is none
pub found_or_same : (s : State) (o : ℕ) (f : Object → Object) (t i : ℕ)
    → ((x : Object) → object_at s o ≡ Some x → translate (put s o (f x)) t i ≡ translate s t i)
    → translate (changed s o f) t i ≡ translate s t i
found_or_same s o f t i each =
    elim (object_at s o)
    as (λ v. object_at s o ≡ v → translate (of_object s (λ x. put s o (f x)) v) t i ≡ translate s t i) [
      | None ↦ λ is. refl
      | Some x ↦ λ is. each x is
    ] refl

pub alike_lem : (s : State) (o : ℕ) (f : Object → Object)
    → ((x : Object) → object_at s o ≡ Some x → LooksAlike x (f x)) → (t i : ℕ)
    → translate (changed s o f) t i ≡ translate s t i
alike_lem s o f alike t i = found_or_same s o f t i (λ x is. alike_put s o x (f x) is (alike x is) t i)
