-- Changes that an observer does not see.
use Rattle.std.proofs.Common.{◌≡◌, ◌≢◌, ℕ, ◌≤◌, Bool, true, false, cond, ◌++◌, List, [], ◌∷◌}
use Rattle.std.proofs.Common.{Option, Some, None, refl, sym, ◌∙◌, ap, subst, arith}
use Rattle.std.specs.Option.{option_map}
use Rattle.std.specs.Ordering.{nat_cmp}
use Rattle.std.specs.Map.{lookup, set_value}
use Rattle.std.specs.BTreeMap.{is_at}
use Rattle.std.proofs.lemmas.Bool.{both_ways}
use Rattle.base.specs.Live.{has, are_live}
use Rattle.base.specs.declared.kinds.Kind.TheVariants as kinds
use Rattle.label_lattice.specs.Label.{LabelValue}
use Rattle.label_lattice.specs.Order.{levels, up}
use Rattle.label_lattice.proofs.OrderLemmas.{leq_test-Leq, IsDescribed-levels, IsDescribed-up}
use Rattle.label_lattice.specs.LabelRules.{both, below, visible}
use Rattle.kernel_rules.specs.State.{State, object_at, of_object, lists_of, listed, is_kind}
use Rattle.kernel_rules.specs.State.{flows_to}
use Rattle.kernel_rules.specs.Changes.{put, changed}
use Rattle.kernel_rules.specs.Step.{lister_of}
use Rattle.kernel_rules.specs.WellFormed.{is_well_formed, is_kept}
use Rattle.kernel_rules.specs.declared.objects.Object.{Object}
use Rattle.kernel_rules.proofs.LookupLaws.{lookup_put, all_at}
use Rattle.kernel_rules.proofs.RecordLaws.{same_id}
use Rattle.kernel_rules.proofs.WellFormedLaws.{soundness_of}
use Rattle.kernel_rules.proofs.ListerLaws.{kept_parts}
use Rattle.kernel_rules.proofs.ListingLaws.{not_listed}
use Rattle.worlds.specs.Seen.{if_visible, seen_at, outline_of, lists_seen, IsSame}
use Rattle.worlds.proofs.Relisting.{lists_of-changed}

pub unseen : (l : LabelValue) (x : Object) → visible x.label l ≡ false → if_visible l (Some x) ≡ None
unseen l x h = ap (λ b. cond b (Some x) None) h

pub unseen_label : (l : LabelValue) (x : Object) → if_visible l (Some x) ≡ None → visible x.label l ≡ false
unseen_label l x h =
    elim (visible x.label l) as (λ v. cond v (Some x) None ≡ None → v ≡ false) [
      | true ↦ λ e. absurd (cc)
      | false ↦ λ e. refl
    ] h

-- what is seen is recorded, and of a label that is seen
pub seen_is : (l : LabelValue) (v : Option Object) (x : Object) → if_visible l v ≡ Some x
    → (v ≡ Some x) × (visible x.label l ≡ true)
seen_is l None x h = absurd (cc)
seen_is l (Some z) x h =
    elim (visible z.label l)
    as (λ b. visible z.label l ≡ b → cond b (Some z) None ≡ Some x → (Some z ≡ Some x) × (visible x.label l ≡ true)) [
      | true ↦ λ is e.
          let same : z ≡ x = cc in
          (e, subst (λ (w : Object). visible w.label l ≡ true) same is)
      | false ↦ λ is e. absurd (cc)
    ] refl h

-- what is at most a label that is seen is seen
pub below_visible : (a b l : LabelValue) → below a b ≡ true → visible b l ≡ true → visible a l ≡ true
unfolding below visible
below_visible a b l h g =
    (leq_test-Leq (levels a) (up (levels l)) (IsDescribed-levels a) (IsDescribed-up _ (IsDescribed-levels l))).1
    (λ c.
    let first : (levels a).at c ≤ (levels b).at c =
    (leq_test-Leq (levels a) (levels b) (IsDescribed-levels a) (IsDescribed-levels b)).0 h c in
    let second : (levels b).at c ≤ (up (levels l)).at c =
    (leq_test-Leq (levels b) (up (levels l)) (IsDescribed-levels b) (IsDescribed-up _ (IsDescribed-levels l))).0
    g c in
    omega arith)

-- so what is at least the label of one that is not seen is not seen
pub above_unseen : (a b l : LabelValue) → below a b ≡ true → visible a l ≡ false → visible b l ≡ false
above_unseen a b l h off =
    elim (visible b l) as (λ v. visible b l ≡ v → v ≡ false) [
      | true ↦ λ is. absurd (both_ways (visible a l) off (below_visible a b l h is))
      | false ↦ λ is. refl
    ] refl

pub option_unseen : (l : LabelValue) (v w : Option Object)
    → both below (option_map (λ x. x.label) v) (option_map (λ x. x.label) w) ≡ true → if_visible l v ≡ None
    → if_visible l w ≡ None
option_unseen l None w h e = absurd (cc)
option_unseen l (Some x) None h e = refl
option_unseen l (Some x) (Some y) h e =
    unseen l y (above_unseen x.label y.label l h (unseen_label l x e))

-- whom a thread that is not seen flows to is not seen
pub flow_unseen : (l : LabelValue) (s : State) (t o : ℕ) → seen_at l s t ≡ None → flows_to s t o ≡ true
    → seen_at l s o ≡ None
flow_unseen l s t o h f = option_unseen l (object_at s t) (object_at s o) f h

-- and so is a new object of a label at least its own
pub label_unseen : (l : LabelValue) (v : Option Object) (m : LabelValue)
    → both below (option_map (λ x. x.label) v) (Some m) ≡ true → if_visible l v ≡ None → visible m l ≡ false
label_unseen l None m h e = absurd (cc)
label_unseen l (Some x) m h e = above_unseen x.label m l h (unseen_label l x e)

-- a change of an object that is not seen, before and after
pub seen_changed : (l : LabelValue) (s : State) (k : ℕ) (f : Object → Object) → seen_at l s k ≡ None
    → ((x : Object) → object_at s k ≡ Some x → if_visible l (Some (f x)) ≡ None)
    → (o : ℕ) → seen_at l (changed s k f) o ≡ seen_at l s o
seen_changed l s k f before after o =
    elim (object_at s k)
    as (λ v. object_at s k ≡ v
    → if_visible l (object_at (of_object s (λ z. put s k (f z)) v) o) ≡ seen_at l s o) [
      | None ↦ λ is. refl
      | Some x ↦ λ is. ap (if_visible l) (lookup_put k o s.objects x (f x) is) ∙
          elim (is_at (nat_cmp o) k)
          as (λ b. is_at (nat_cmp o) k ≡ b → if_visible l (cond b (Some (f x)) (object_at s o)) ≡ seen_at l s o) [
            | true ↦ λ near. after x is ∙ sym (ap (seen_at l s) (same_id o k near) ∙ before)
            | false ↦ λ far. refl
          ] refl
    ] refl

-- what is read off an object
abbrev pub read : {X : Type 0} → (Object → X) → State → ℕ → Option X
read g s o = option_map g (object_at s o)

-- a change that leaves what is read
pub read_changed : {X : Type 0} (g : Object → X) (s : State) (k : ℕ) (f : Object → Object)
    → ((x : Object) → object_at s k ≡ Some x → g (f x) ≡ g x) → (o : ℕ)
    → read g (changed s k f) o ≡ read g s o
read_changed g s k f same o =
    elim (object_at s k)
    as (λ v. object_at s k ≡ v
    → option_map g (object_at (of_object s (λ z. put s k (f z)) v) o) ≡ read g s o) [
      | None ↦ λ is. refl
      | Some x ↦ λ is. ap (option_map g) (lookup_put k o s.objects x (f x) is) ∙
          elim (is_at (nat_cmp o) k)
          as (λ b. is_at (nat_cmp o) k ≡ b → option_map g (cond b (Some (f x)) (object_at s o)) ≡ read g s o) [
            | true ↦ λ near. ap Some (same x is) ∙ sym (ap (read g s) (same_id o k near) ∙ ap (option_map g) is)
            | false ↦ λ far. refl
          ] refl
    ] refl

-- the lister of d, after a change that leaves whether d is listed
lister_put : (d k : ℕ) (es : List (ℕ × Object)) (x y : Object) → lookup (is_at (nat_cmp k)) es ≡ Some x
    → has (listed y.body) d ≡ has (listed x.body) d
    → lister_of d (set_value (is_at (nat_cmp k)) es y) ≡ lister_of d es
lister_put d k [] x y found same = refl
lister_put d k (e ∷ es) x y found same =
    elim (is_at (nat_cmp k) e.0)
    as (λ v. cond v (Some e.1) (lookup (is_at (nat_cmp k)) es) ≡ Some x
    → lister_of d (cond v ((e.0, y) ∷ es) (e ∷ set_value (is_at (nat_cmp k)) es y)) ≡ lister_of d (e ∷ es)) [
      | true ↦ λ f.
          let is : e.1 ≡ x = cc in
          ap (λ b. cond b e.0 (lister_of d es)) (same ∙ ap (λ z. has (listed z.body) d) (sym is))
      | false ↦ λ f. ap (cond (has (listed e.1.body) d) e.0) (lister_put d k es x y f same)
    ] found

pub lister_changed : (d : ℕ) (s : State) (k : ℕ) (f : Object → Object)
    → ((x : Object) → object_at s k ≡ Some x → has (listed (f x).body) d ≡ has (listed x.body) d)
    → lister_of d (changed s k f).objects ≡ lister_of d s.objects
lister_changed d s k f same =
    elim (object_at s k)
    as (λ v. object_at s k ≡ v
    → lister_of d (of_object s (λ z. put s k (f z)) v).objects ≡ lister_of d s.objects) [
      | None ↦ λ is. refl
      | Some x ↦ λ is. lister_put d k s.objects x (f x) is (same x is)
    ] refl

-- an object that lists nothing lists no d
pub lister_append : (d k : ℕ) (es : List (ℕ × Object)) (x : Object) → listed x.body ≡ []
    → lister_of d (es ++ (k, x) ∷ []) ≡ lister_of d es
lister_append d k [] x empty = ap (λ ids. cond (has ids d) k d) empty
lister_append d k (e ∷ es) x empty = ap (cond (has (listed e.1.body) d) e.0) (lister_append d k es x empty)

-- what is seen of all objects, with outlines and parents wherever they are asked for
pub same_from : (l : LabelValue) (s n : State) → ((o : ℕ) → seen_at l n o ≡ seen_at l s o)
    → ((d o : ℕ) → lists_seen l s d o ≡ true → read outline_of n o ≡ read outline_of s o)
    → ((d : ℕ) → of_object false (is_kind kinds.Container) (seen_at l s d) ≡ true
    → lister_of d n.objects ≡ lister_of d s.objects)
    → IsSame l s n
same_from l s n objects told parents = record {
  objects = objects;
  told = λ d o.
      ap (λ v. cond (of_object false (λ x. has (listed x.body) o) v) (read outline_of n o) None) (objects d)
      ∙ asked (lists_seen l s d o) (read outline_of n o) (read outline_of s o) None (told d o);
  parents = λ d.
      ap (λ v. cond (of_object false (is_kind kinds.Container) v) (Some (lister_of d n.objects)) None) (objects d)
      ∙ asked (of_object false (is_kind kinds.Container) (seen_at l s d)) (Some (lister_of d n.objects))
      (Some (lister_of d s.objects)) None (λ h. ap Some (parents d h));
}
  where
    asked : {X : Type 0} (b : Bool) (u v w : X) → (b ≡ true → u ≡ v) → cond b u w ≡ cond b v w
    asked true u v w h = h refl
    asked false u v w h = refl

pub same_refl : (l : LabelValue) (s : State) → IsSame l s s
same_refl l s = record { objects = λ o. refl; told = λ d o. refl; parents = λ d. refl }

-- l sees the same of n as of s, in which all records are live
pub record Quiet (l : LabelValue) (s n : State) : Type 0 where
  pub same : IsSame l s n
  pub live : are_live (lists_of n.objects) ≡ true

-- a change of an object that is not seen, which leaves its outline and its list
pub quiet_changed : (l : LabelValue) (s : State) (k : ℕ) (f : Object → Object) → is_well_formed s ≡ true
    → seen_at l s k ≡ None
    → ((x : Object) → object_at s k ≡ Some x → if_visible l (Some (f x)) ≡ None)
    → ((x : Object) → object_at s k ≡ Some x → outline_of (f x) ≡ outline_of x)
    → ((x : Object) → listed (f x).body ≡ listed x.body)
    → Quiet l s (changed s k f)
quiet_changed l s k f sound before after outline lists = record {
  same =
      same_from l s (changed s k f) (seen_changed l s k f before after)
      (λ d o h. read_changed outline_of s k f outline o)
      (λ d h. lister_changed d s k f (λ x found. ap (λ ids. has ids d) (lists x)));
  live = ap are_live (lists_of-changed s k f lists) ∙ (soundness_of s sound).live;
}

-- what a container lists is recorded
pub listed_recorded : (s : State) (d o : ℕ) (x : Object) → is_well_formed s ≡ true → object_at s d ≡ Some x
    → has (listed x.body) o ≡ true → object_at s o ≢ None
listed_recorded s d o x sound found h none =
    both_ways (has (listed x.body) o)
    (not_listed s o (listed x.body) none
    (kept_parts s d x (all_at (λ q z. is_kept s q z) s.objects d x (soundness_of s sound).kept found)).recorded) h
