-- What an edit, and the removal of the dead, may do to what is recorded under an id.
use Rattle.std.proofs.Common.{◌≡◌, ◌≢◌, ℕ, Bool, true, false, cond, ◌&&◌, List, [], ◌∷◌, Option}
use Rattle.std.proofs.Common.{Some, None, is_some, refl, sym, ◌∙◌, ap, subst, Less, Equal, Greater}
use Rattle.std.proofs.Common.{IsTrue, ◌↔◌, ◌++◌}
use Rattle.std.specs.Ordering.{nat_cmp, match_ordering, is_eq}
use Rattle.std.specs.Map.{lookup}
use Rattle.std.specs.BTreeMap.{is_at, insert_entry}
use Rattle.std.proofs.lemmas.Bool.{and_parts, and_from}
use Rattle.std.proofs.lemmas.Map.Entries.{lookup-filter-keys}
use Rattle.base.specs.Live.{is_live, IsLive, links}
use Rattle.base.proofs.LiveLaw.{path_from_live, live_from_path, leads-snoc}
use Rattle.kernel_rules.specs.State.{State, object_at, of_object, lists_of, live_part}
use Rattle.kernel_rules.specs.Step.{next, edit, restricted, with_value}
use Rattle.kernel_rules.specs.Table.{refused}
use Rattle.kernel_rules.specs.Changes.{put, changed, made, listing}
use Rattle.kernel_rules.specs.declared.calls.Call.{Call}
use Rattle.kernel_rules.specs.declared.objects.Object.{Object}
use Rattle.kernel_rules.proofs.LookupLaws.{lookup_put}
use Rattle.kernel_rules.proofs.RecordLaws.{same_id, next_id-changed}
use Rattle.kernel_rules.proofs.StepLaws.{step_done}

-- an object is recorded among the live exactly where it is recorded and live
pub restricted_at : (s : State) (o : ℕ)
    → object_at (restricted s) o ≡ cond (is_live (lists_of s.objects) o) (object_at s o) None
unfolding live_part
restricted_at s o =
    lookup-filter-keys (is_at (nat_cmp o)) (is_live (lists_of s.objects)) (is_live (lists_of s.objects) o)
    (λ k near. ap (is_live (lists_of s.objects)) (sym (same_id o k near))) s.objects

-- what a state records was recorded by another in relation K, or is new there
abbrev pub Frame : (ℕ → Object → Object → Type 0) → State → State → Type 0
Frame K s n =
    (o : ℕ) (x y : Object) → o ≢ s.next_id → object_at s o ≡ Some x → object_at n o ≡ Some y → K o x y

pub frame_same : (K : ℕ → Object → Object → Type 0) → ((o : ℕ) (x : Object) → K o x x) → (s : State)
    → Frame K s s
frame_same K same s o x y old before now =
    let is : x ≡ y = cc in
    subst (λ (z : Object). K o x z) is (same o x)

-- a change of the object that is found
pub frame_found : (K : ℕ → Object → Object → Type 0) → ((o : ℕ) (x : Object) → K o x x) → (s : State) (d : ℕ)
    (f : Object → Object) → ((x : Object) → object_at s d ≡ Some x → K d x (f x)) → Frame K s (changed s d f)
frame_found K same s d f keeps o x y old before =
    elim (object_at s d)
    as (λ v. object_at s d ≡ v → object_at (of_object s (λ z. put s d (f z)) v) o ≡ Some y → K o x y) [
      | None ↦ λ is now. frame_same K same s o x y old before now
      | Some z ↦ λ is now.
          let there : cond (is_at (nat_cmp o) d) (Some (f z)) (object_at s o) ≡ Some y =
          sym (lookup_put d o s.objects z (f z) is) ∙ now in
          elim (is_at (nat_cmp o) d)
          as (λ v. is_at (nat_cmp o) d ≡ v → cond v (Some (f z)) (object_at s o) ≡ Some y → K o x y) [
            | true ↦ λ near g.
                let on : o ≡ d = same_id o d near in
                let at_d : object_at s d ≡ Some x = subst (λ k. object_at s k ≡ Some x) on before in
                let is_x : z ≡ x = cc in
                let is_y : f z ≡ y = cc in
                subst (λ k. K k x y) (sym on)
                (subst (λ (w : Object). K d x w) is_y (subst (λ (w : Object). K d w (f z)) is_x (keeps z is)))
            | false ↦ λ far g. frame_same K same s o x y old before g
          ] refl there
    ] refl

-- a change of one object
pub frame_changed : (K : ℕ → Object → Object → Type 0) → ((o : ℕ) (x : Object) → K o x x) → (s : State) (d : ℕ)
    (f : Object → Object) → ((x : Object) → K d x (f x)) → Frame K s (changed s d f)
frame_changed K same s d f keeps = frame_found K same s d f (λ x found. keeps x)

-- an id other than the new one, looked up after an object was added
pub lookup_inserted : (k o : ℕ) (es : List (ℕ × Object)) (x : Object) → o ≢ k
    → lookup (is_at (nat_cmp o)) (insert_entry nat_cmp es k x) ≡ lookup (is_at (nat_cmp o)) es
lookup_inserted k o [] x other =
    elim (is_at (nat_cmp o) k) as (λ v. is_at (nat_cmp o) k ≡ v → cond v (Some x) None ≡ None) [
      | true ↦ λ near. absurd (other (same_id o k near))
      | false ↦ λ far. refl
    ] refl
lookup_inserted k o (e ∷ es) x other =
    elim (nat_cmp k e.0)
    as (λ v. nat_cmp k e.0 ≡ v
    → lookup (is_at (nat_cmp o))
    (match_ordering v ((k, x) ∷ e ∷ es) ((e.0, x) ∷ es) (e ∷ insert_entry nat_cmp es k x))
    ≡ lookup (is_at (nat_cmp o)) (e ∷ es)) [
      | Less ↦ λ is. far_off k other x (lookup (is_at (nat_cmp o)) (e ∷ es))
      | Equal ↦ λ is.
          let on : k ≡ e.0 = same_id k e.0 (ap is_eq is) in
          let far : o ≢ e.0 = (λ h. other (h ∙ sym on)) in
          far_off e.0 far x (lookup (is_at (nat_cmp o)) es)
          ∙ sym (far_off e.0 far e.1 (lookup (is_at (nat_cmp o)) es))
      | Greater ↦ λ is.
          ap (cond (is_at (nat_cmp o) e.0) (Some e.1)) (lookup_inserted k o es x other)
    ] refl
  where
    far_off : (k : ℕ) → o ≢ k → (x : Object) (rest : Option Object)
        → cond (is_at (nat_cmp o) k) (Some x) rest ≡ rest
    far_off k other x rest =
        elim (is_at (nat_cmp o) k)
        as (λ v. is_at (nat_cmp o) k ≡ v → cond v (Some x) rest ≡ rest) [
          | true ↦ λ near. absurd (other (same_id o k near))
          | false ↦ λ far. refl
        ] refl

-- a new object, last in the list of d, whose object is found
pub frame_made_found : (K : ℕ → Object → Object → Type 0) → ((o : ℕ) (x : Object) → K o x x) → (s : State) (d : ℕ)
    (z : Object) → ((x : Object) → object_at s d ≡ Some x → K d x (listing s.next_id x))
    → Frame K s (made s d z)
frame_made_found K same s d z keeps o x y old before now =
    let mid : State = changed s d (listing s.next_id) in
    let next : mid.next_id ≡ s.next_id = next_id-changed s d (listing s.next_id) in
    frame_found K same s d (listing s.next_id) keeps o x y old before
    (sym (lookup_inserted mid.next_id o mid.objects z (λ h. old (h ∙ next))) ∙ now)

-- a new object, last in d's list
pub frame_made : (K : ℕ → Object → Object → Type 0) → ((o : ℕ) (x : Object) → K o x x) → (s : State) (d : ℕ)
    (z : Object) → ((x : Object) → K d x (listing s.next_id x)) → Frame K s (made s d z)
frame_made K same s d z keeps = frame_made_found K same s d z (λ x found. keeps x)

-- a state that a value leads to, if it is there
pub frame_value : {X : Type 0} (K : ℕ → Object → Object → Type 0) → ((o : ℕ) (x : Object) → K o x x)
    → (s : State) (v : Option X) (f : X → State) → ((x : X) → Frame K s (f x))
    → Frame K s (with_value s v f)
frame_value K same s None f each = frame_same K same s
frame_value K same s (Some x) f each = each x

-- what is recorded among the live is recorded
pub recorded_live : (s : State) (o : ℕ) (y : Object) → object_at (restricted s) o ≡ Some y
    → object_at s o ≡ Some y
recorded_live s o y now =
    elim (is_live (lists_of s.objects) o)
    as (λ v. cond v (object_at s o) None ≡ Some y → object_at s o ≡ Some y) [
      | true ↦ λ h. h
      | false ↦ λ h. absurd (cc)
    ] (sym (restricted_at s o) ∙ now)

pub recorded_edited : (s : State) (t : ℕ) (c : Call) (o : ℕ) (y : Object) → refused s t c ≡ None
    → object_at (next s t c) o ≡ Some y → object_at (edit s t c) o ≡ Some y
recorded_edited s t c o y h now =
    recorded_live (edit s t c) o y (ap (λ n. object_at n o) (sym (step_done s t c h).1) ∙ now)

pub recorded_are : (s : State) (t : ℕ) (c : Call) (o : ℕ) → refused s t c ≡ None
    → is_some (object_at (next s t c) o)
    ≡ (is_live (lists_of (edit s t c).objects) o && is_some (object_at (edit s t c) o))
recorded_are s t c o h =
    ap (λ n. is_some (object_at n o)) (step_done s t c h).1 ∙ ap is_some (restricted_at (edit s t c) o)
    ∙ either (is_live (lists_of (edit s t c).objects) o) (object_at (edit s t c) o)
  where
    either : (b : Bool) (v : Option Object) → is_some (cond b v None) ≡ (b && is_some v)
    either true v = refl
    either false v = refl

-- the same, by a path
pub recorded_by_path : (s : State) (t : ℕ) (c : Call) (o : ℕ) → refused s t c ≡ None
    → IsTrue (is_some (object_at (next s t c) o))
    ↔ (IsLive (lists_of (edit s t c).objects) o × IsTrue (is_some (object_at (edit s t c) o)))
recorded_by_path s t c o h = (
  λ now.
      let parts : (is_live (lists_of (edit s t c).objects) o ≡ true)
      × (is_some (object_at (edit s t c) o) ≡ true) =
      and_parts (is_live (lists_of (edit s t c).objects) o) (is_some (object_at (edit s t c) o))
      (sym (recorded_are s t c o h) ∙ now) in
      (path_from_live (lists_of (edit s t c).objects) o parts.0, parts.1),
  λ p. recorded_are s t c o h
      ∙ and_from (is_live (lists_of (edit s t c).objects) o) (is_some (object_at (edit s t c) o))
      (live_from_path (lists_of (edit s t c).objects) o p.0) p.1,
)

pub linked_stays : (s : State) (t : ℕ) (c : Call) (d o : ℕ) → refused s t c ≡ None
    → IsLive (lists_of (edit s t c).objects) d → links (lists_of (edit s t c).objects) d o ≡ true
    → is_some (object_at (edit s t c) o) ≡ true → is_some (object_at (next s t c) o) ≡ true
linked_stays s t c d o h live linked there =
    (recorded_by_path s t c o h).1 (
      (
        live.0 ++ o ∷ [],
        leads-snoc (lists_of (edit s t c).objects) 1 live.0 d o live.1 linked,
      ),
      there,
    )
