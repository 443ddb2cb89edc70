-- A step of a thread that an observer does not see.
use Rattle.std.proofs.Common.{◌≡◌, ◌≢◌, ℕ, ◌≤◌, true, false, cond, not, ◌==◌, ◌++◌, List, [], ◌∷◌}
use Rattle.std.proofs.Common.{Option, Some, None, refl, sym, ◌∙◌, ap, subst, arith}
use Rattle.std.specs.Option.{option_map}
use Rattle.std.specs.List.{list_all}
use Rattle.std.specs.Ordering.{nat_cmp}
use Rattle.std.specs.Map.{set_value}
use Rattle.std.specs.BTreeMap.{is_at}
use Rattle.std.proofs.lemmas.Bool.{and_parts, not-false, both_ways, eq-eqb}
use Rattle.base.specs.Live.{has, is_live, are_live}
use Rattle.base.specs.declared.kinds.Kind.TheVariants as kinds
use Rattle.label_lattice.specs.Label.{LabelValue}
use Rattle.label_lattice.specs.LabelRules.{both, below, visible, stored}
use Rattle.kernel_rules.specs.State.{State, object_at, of_object, lists_of, listed, is_kind, is_kind_at, label_at}
use Rattle.kernel_rules.specs.State.{flows_to, is_accessible, is_fixed, list_at, kind_of}
use Rattle.kernel_rules.specs.State.{kind_number, gate_at}
use Rattle.kernel_rules.specs.Changes.{put, changed, made, listing, with_new, rebyte, reslot, requeue, relist}
use Rattle.kernel_rules.specs.Changes.{rethread, labelled, cleared, spaced, entered, owning, requoted, fresh_object}
use Rattle.kernel_rules.specs.Conditions.{in_range_of, own_label, own_clearance}
use Rattle.kernel_rules.specs.Table.{halted, refused, row}
use Rattle.kernel_rules.specs.Step.{next, edit, restricted, with_value, owned, made_of, made_bearer, through_gate}
use Rattle.kernel_rules.specs.Step.{stored_at, lister_of}
use Rattle.kernel_rules.specs.Translate.{place_of}
use Rattle.kernel_rules.specs.WellFormed.{is_well_formed, is_kept, listers}
use Rattle.kernel_rules.specs.declared.calls.Call.{Call}
use Rattle.kernel_rules.specs.declared.calls.Call.TheVariants as call
use Rattle.kernel_rules.specs.declared.calls.Entry.{Entry}
use Rattle.kernel_rules.specs.declared.objects.Gate.{Gate}
use Rattle.kernel_rules.specs.declared.objects.Mapping.{Mapping}
use Rattle.kernel_rules.specs.declared.objects.Object.{Object}
use Rattle.kernel_rules.specs.declared.objects.Thread as thread
use Rattle.kernel_rules.specs.declared.objects.Body as body
use Rattle.kernel_rules.specs.declared.objects.Body.TheVariants as is
use Rattle.kernel_rules.specs.declared.places.Place.{Place}
use Rattle.kernel_rules.proofs.LookupLaws.{lookup_put, all_at, at_self}
use Rattle.kernel_rules.proofs.RecordLaws.{same_id, restricted_live}
use Rattle.kernel_rules.proofs.WellFormedLaws.{soundness_of}
use Rattle.kernel_rules.proofs.ListerLaws.{kept_parts}
use Rattle.kernel_rules.proofs.ListingLaws.{has-append_other, has_wider, has_new, container_at, IsContainerAt}
use Rattle.kernel_rules.proofs.CountLaws.{counted_two, one_list}
use Rattle.kernel_rules.proofs.GrowLaws.{grows-set_value, live_grow, all_weaker, all-set_value, make_live}
use Rattle.kernel_rules.proofs.GrownLaws.{Making, making_from, made_is, grown, grown_other, grown_new}
use Rattle.kernel_rules.proofs.RowLaws.{none_hold}
use Rattle.kernel_rules.proofs.StepLaws.{step_refused, step_done}
use Rattle.flow_rules.specs.Touched.{segment_of}
use Rattle.flow_rules.proofs.Facts.{changes_all, may_flow}
use Rattle.flow_rules.proofs.Keeping.{caller_thread}
use Rattle.worlds.specs.Seen.{if_visible, seen_at, outline, outline_of, lists_seen, IsSame}
use Rattle.worlds.specs.Laws.{HiddenStepsStay, is_unref}
use Rattle.worlds.proofs.Relisting.{lists_of-changed, listed-rebyte, listed-rethread}
use Rattle.worlds.proofs.Unseen.{unseen, unseen_label, seen_is, flow_unseen, label_unseen, seen_changed, read}
use Rattle.worlds.proofs.Unseen.{read_changed, lister_changed, lister_append, same_from, same_refl, Quiet}
use Rattle.worlds.proofs.Unseen.{quiet_changed, listed_recorded}

quiet_refl : (l : LabelValue) (s : State) → is_well_formed s ≡ true → Quiet l s s
quiet_refl l s sound = record { same = same_refl l s; live = (soundness_of s sound).live }

-- outlines that a change of the body leaves
pub rebyte_outline : (f : List ℕ → List ℕ) (m : LabelValue) (q : ℕ) (b : body.Body) → outline m q (rebyte f b) ≡ outline m q b
rebyte_outline f m q (is.Segment bytes) = refl
rebyte_outline f m q (is.Container avoid list) = refl
rebyte_outline f m q (is.AddressSpace slots) = refl
rebyte_outline f m q (is.Thread t) = refl
rebyte_outline f m q (is.Gate g) = refl
rebyte_outline f m q (is.Device packets) = refl

pub relist_outline : (f : List ℕ → List ℕ) (m : LabelValue) (q : ℕ) (b : body.Body) → outline m q (relist f b) ≡ outline m q b
relist_outline f m q (is.Segment bytes) = refl
relist_outline f m q (is.Container avoid list) = refl
relist_outline f m q (is.AddressSpace slots) = refl
relist_outline f m q (is.Thread t) = refl
relist_outline f m q (is.Gate g) = refl
relist_outline f m q (is.Device packets) = refl

pub reslot_outline : (f : List (Option Mapping) → List (Option Mapping)) (m : LabelValue) (q : ℕ) (b : body.Body)
    → outline m q (reslot f b) ≡ outline m q b
reslot_outline f m q (is.Segment bytes) = refl
reslot_outline f m q (is.Container avoid list) = refl
reslot_outline f m q (is.AddressSpace slots) = refl
reslot_outline f m q (is.Thread t) = refl
reslot_outline f m q (is.Gate g) = refl
reslot_outline f m q (is.Device packets) = refl

pub reslot_lists : (f : List (Option Mapping) → List (Option Mapping)) (b : body.Body) → listed (reslot f b) ≡ listed b
reslot_lists f (is.Segment bytes) = refl
reslot_lists f (is.Container avoid list) = refl
reslot_lists f (is.AddressSpace slots) = refl
reslot_lists f (is.Thread t) = refl
reslot_lists f (is.Gate g) = refl
reslot_lists f (is.Device packets) = refl

pub requeue_outline : (f : List (List ℕ) → List (List ℕ)) (m : LabelValue) (q : ℕ) (b : body.Body)
    → outline m q (requeue f b) ≡ outline m q b
requeue_outline f m q (is.Segment bytes) = refl
requeue_outline f m q (is.Container avoid list) = refl
requeue_outline f m q (is.AddressSpace slots) = refl
requeue_outline f m q (is.Thread t) = refl
requeue_outline f m q (is.Gate g) = refl
requeue_outline f m q (is.Device packets) = refl

pub requeue_lists : (f : List (List ℕ) → List (List ℕ)) (b : body.Body) → listed (requeue f b) ≡ listed b
requeue_lists f (is.Segment bytes) = refl
requeue_lists f (is.Container avoid list) = refl
requeue_lists f (is.AddressSpace slots) = refl
requeue_lists f (is.Thread t) = refl
requeue_lists f (is.Gate g) = refl
requeue_lists f (is.Device packets) = refl

-- of a thread whatever its label
pub thread_outline : (f : thread.Thread → thread.Thread) (m n : LabelValue) (q : ℕ) (b : body.Body)
    → (kind_number (kind_of b) == kind_number kinds.Thread) ≡ true → outline m q (rethread f b) ≡ outline n q b
thread_outline f m n q (is.Thread t) h = refl
thread_outline f m n q (is.Segment bytes) h = absurd (cc)
thread_outline f m n q (is.Container avoid list) h = absurd (cc)
thread_outline f m n q (is.AddressSpace slots) h = absurd (cc)
thread_outline f m n q (is.Gate g) h = absurd (cc)
thread_outline f m n q (is.Device packets) h = absurd (cc)

pub label_outline : (m n : LabelValue) (q : ℕ) (b : body.Body)
    → (kind_number (kind_of b) == kind_number kinds.Thread) ≡ true → outline m q b ≡ outline n q b
label_outline m n q (is.Thread t) h = refl
label_outline m n q (is.Segment bytes) h = absurd (cc)
label_outline m n q (is.Container avoid list) h = absurd (cc)
label_outline m n q (is.AddressSpace slots) h = absurd (cc)
label_outline m n q (is.Gate g) h = absurd (cc)
label_outline m n q (is.Device packets) h = absurd (cc)

-- what is found where nothing is seen is not seen
found_unseen : (l : LabelValue) (s : State) (k : ℕ) (x : Object) → seen_at l s k ≡ None → object_at s k ≡ Some x
    → visible x.label l ≡ false
found_unseen l s k x before found = unseen_label l x (ap (if_visible l) (sym found) ∙ before)

-- a change that leaves label, outline and list
kept : (l : LabelValue) (s : State) (t k : ℕ) (f : Object → Object) → is_well_formed s ≡ true
    → seen_at l s t ≡ None → flows_to s t k ≡ true
    → ((x : Object) → (f x).label ≡ x.label) → ((x : Object) → outline_of (f x) ≡ outline_of x)
    → ((x : Object) → listed (f x).body ≡ listed x.body) → Quiet l s (changed s k f)
kept l s t k f sound off flows label outlines lists =
    let before : seen_at l s k ≡ None = flow_unseen l s t k off flows in
    quiet_changed l s k f sound before
    (λ x found. unseen l (f x) (ap (λ m. visible m l) (label x) ∙ found_unseen l s k x before found))
    (λ x found. outlines x) lists

-- the object of a change, after it
pub changed_to : (s : State) (d : ℕ) (f : Object → Object) (x : Object) → object_at s d ≡ Some x
    → object_at (changed s d f) d ≡ Some (f x)
changed_to s d f x found =
    ap (λ v. object_at (of_object s (λ z. put s d (f z)) v) d) found
    ∙ lookup_put d d s.objects x (f x) found
    ∙ ap (λ b. cond b (Some (f x)) (object_at s d)) (at_self d)

-- a change of the caller, which is not seen after it
own : (l : LabelValue) (s : State) (t : ℕ) (f : Object → Object) → is_well_formed s ≡ true
    → is_kind_at s kinds.Thread t ≡ true → seen_at l s t ≡ None
    → ((x : Object) → is_kind kinds.Thread x ≡ true → outline_of (f x) ≡ outline_of x)
    → ((x : Object) → listed (f x).body ≡ listed x.body)
    → seen_at l (restricted (changed s t f)) t ≡ None → Quiet l s (changed s t f)
own l s t f sound is_thread before outlines lists after =
    let live : are_live (lists_of (changed s t f).objects) ≡ true =
    ap are_live (lists_of-changed s t f lists) ∙ (soundness_of s sound).live in
    quiet_changed l s t f sound before
    (λ x found.
    sym (ap (if_visible l) (changed_to s t f x found))
    ∙ ap (λ n. seen_at l n t) (sym (restricted_live (changed s t f) live)) ∙ after)
    (λ x found. outlines x (sym (ap (of_object false (is_kind kinds.Thread)) found) ∙ is_thread)) lists

value : {X : Type 0} (l : LabelValue) (s : State) (t : ℕ) (v : Option X) (f : X → State) → is_well_formed s ≡ true
    → ((x : X) → seen_at l (restricted (f x)) t ≡ None → Quiet l s (f x))
    → seen_at l (restricted (with_value s v f)) t ≡ None → Quiet l s (with_value s v f)
value l s t None f sound each h = quiet_refl l s sound
value l s t (Some x) f sound each h = each x h

own_category : (l : LabelValue) (s : State) (t : ℕ) (m c : Option LabelValue) → is_well_formed s ≡ true
    → is_kind_at s kinds.Thread t ≡ true → seen_at l s t ≡ None
    → seen_at l (restricted (owned s t m c)) t ≡ None → Quiet l s (owned s t m c)
own_category l s t None c sound is_thread before after = quiet_refl l s sound
own_category l s t (Some m) None sound is_thread before after = quiet_refl l s sound
own_category l s t (Some m) (Some c) sound is_thread before after =
    let quiet : Quiet l s (changed s t (owning m c)) =
    own l s t (owning m c) sound is_thread before
    (λ x kind. thread_outline (λ r. record r { clearance = c }) m x.label x.quota x.body kind)
    (λ x. listed-rethread (λ r. record r { clearance = c }) x.body) after in
    record {
      same = record {
        objects = quiet.same.objects;
        told = quiet.same.told;
        parents = quiet.same.parents;
      };
      live = quiet.live;
    }

-- a link more of an object that is no container
pub has_linked : (o d : ℕ) (b : body.Body) → d ≢ o → has (listed (relist (λ ids. ids ++ o ∷ []) b)) d ≡ has (listed b) d
has_linked o d (is.Container avoid list) other = has-append_other list o d other
has_linked o d (is.Segment bytes) other = refl
has_linked o d (is.AddressSpace slots) other = refl
has_linked o d (is.Thread t) other = refl
has_linked o d (is.Gate g) other = refl
has_linked o d (is.Device packets) other = refl

pub seen_container : (l : LabelValue) (s : State) (d : ℕ)
    → of_object false (is_kind kinds.Container) (seen_at l s d) ≡ true → is_kind_at s kinds.Container d ≡ true
seen_container l s d h =
    elim (seen_at l s d)
    as (λ v. seen_at l s d ≡ v → of_object false (is_kind kinds.Container) v ≡ true
    → is_kind_at s kinds.Container d ≡ true) [
      | None ↦ λ is g. absurd (cc)
      | Some x ↦ λ is g. ap (of_object false (is_kind kinds.Container)) (seen_is l (object_at s d) x is).0 ∙ g
    ] refl h

pub linked_live : (s : State) (d o : ℕ) → is_well_formed s ≡ true → is_kind_at s kinds.Container d ≡ true
    → are_live (lists_of (changed s d (listing o)).objects) ≡ true
linked_live s d o sound kind =
    let at : IsContainerAt s d = container_at s d kind in
    ap (λ v. are_live (lists_of (of_object s (λ z. put s d (listing o z)) v).objects)) at.found
    ∙ all-set_value (λ k. is_live (lists_of (set_value (is_at (nat_cmp d)) s.objects (listing o at.object))) k)
    d s.objects (listing o at.object)
    ∙ all_weaker (λ k. is_live (lists_of s.objects) k)
    (λ k. is_live (lists_of (set_value (is_at (nat_cmp d)) s.objects (listing o at.object))) k) s.objects
    (live_grow (lists_of s.objects) (lists_of (set_value (is_at (nat_cmp d)) s.objects (listing o at.object)))
    (grows-set_value d s.objects at.object (listing o at.object) at.found
    (λ b g. has_wider at.object o b at.kind g)))
    (soundness_of s sound).live

linked : (l : LabelValue) (s : State) (t d o : ℕ) → is_well_formed s ≡ true → seen_at l s t ≡ None
    → flows_to s t d ≡ true → is_kind_at s kinds.Container d ≡ true → is_kind_at s kinds.Container o ≡ false
    → Quiet l s (changed s d (listing o))
linked l s t d o sound off flows kind plain =
    let before : seen_at l s d ≡ None = flow_unseen l s t d off flows in
    let at : IsContainerAt s d = container_at s d kind in
    record {
      same = same_from l s (changed s d (listing o))
          (seen_changed l s d (listing o) before (λ x found. unseen l (listing o x) (found_unseen l s d x before found)))
          (λ c q h. read_changed outline_of s d (listing o)
          (λ x found. relist_outline (λ ids. ids ++ o ∷ []) x.label x.quota x.body) q)
          (λ c h. lister_changed c s d (listing o)
          (λ x found. has_linked o c x.body (λ on.
          both_ways (is_kind_at s kinds.Container o) plain
          (subst (λ k. is_kind_at s kinds.Container k ≡ true) on (seen_container l s c h)))));
      live = linked_live s d o sound kind;
    }

-- a quota that is moved: what it is moved to is listed in the one container that is charged
moved : (l : LabelValue) (s : State) (t : ℕ) (e : Entry) (more less : ℕ) → is_well_formed s ≡ true
    → seen_at l s t ≡ None → flows_to s t e.container ≡ true → flows_to s t e.object ≡ true
    → has (list_at s e.container) e.object ≡ true → is_fixed s e.object ≡ false
    → Quiet l s (changed s e.object (requoted more less))
moved l s t e more less sound off flows_c flows_o lists loose =
    let before : seen_at l s e.object ≡ None = flow_unseen l s t e.object off flows_o in
    let hidden : seen_at l s e.container ≡ None = flow_unseen l s t e.container off flows_c in
    record {
      same = same_from l s (changed s e.object (requoted more less))
          (seen_changed l s e.object (requoted more less) before
          (λ x found. unseen l (requoted more less x) (found_unseen l s e.object x before found)))
          (λ d o h. elsewhere d o hidden h)
          (λ d h. lister_changed d s e.object (requoted more less) (λ x found. refl));
      live =
          ap are_live (lists_of-changed s e.object (requoted more less) (λ x. refl)) ∙ (soundness_of s sound).live;
    }
  where
    -- the object is in no list that l sees
    never : (d : ℕ) → seen_at l s e.container ≡ None → lists_seen l s d e.object ≡ true → ⊥
    never d hidden h =
        elim (seen_at l s d)
        as (λ v. seen_at l s d ≡ v → of_object false (λ x. has (listed x.body) e.object) v ≡ true → ⊥) [
          | None ↦ λ is g. absurd (cc)
          | Some x ↦ λ is g.
              let at = seen_is l (object_at s d) x is in
              let other : d ≢ e.container = (λ on.
              let none : Some x ≡ None = sym is ∙ ap (seen_at l s) on ∙ hidden in absurd (cc)) in
              elim (object_at s e.container)
              as (λ w. object_at s e.container ≡ w → has (of_object [] (λ z. listed z.body) w) e.object ≡ true → ⊥) [
                | None ↦ λ no f. absurd (cc)
                | Some y ↦ λ is_y f.
                    let two : 2 ≤ listers s e.object =
                    counted_two d e.container e.object s.objects x y other at.0 is_y g f in
                    elim (object_at s e.object)
                    as (λ u. object_at s e.object ≡ u → of_object false (λ z. z.fixed) u ≡ false → ⊥) [
                      | None ↦ λ no i. listed_recorded s d e.object x sound at.0 g no
                      | Some z ↦ λ is_z i.
                          let one : listers s e.object ≤ 1 =
                          one_list (listers s e.object) e.object z
                          (kept_parts s e.object z (all_at (λ q w. is_kept s q w) s.objects e.object z
                          (soundness_of s sound).kept is_z)).rightly i in
                          absurd (omega arith)
                    ] refl loose
              ] refl lists
        ] refl h

    elsewhere : (d o : ℕ) → seen_at l s e.container ≡ None → lists_seen l s d o ≡ true
        → read outline_of (changed s e.object (requoted more less)) o ≡ read outline_of s o
    elsewhere d o hidden h =
        elim (object_at s e.object)
        as (λ v. object_at s e.object ≡ v
        → option_map outline_of (object_at (of_object s (λ z. put s e.object (requoted more less z)) v) o)
        ≡ read outline_of s o) [
          | None ↦ λ is. refl
          | Some x ↦ λ is.
              ap (option_map outline_of) (lookup_put e.object o s.objects x (requoted more less x) is)
              ∙ elim (is_at (nat_cmp o) e.object)
              as (λ b. is_at (nat_cmp o) e.object ≡ b
              → option_map outline_of (cond b (Some (requoted more less x)) (object_at s o)) ≡ read outline_of s o) [
                | true ↦ λ near. absurd (never d hidden
                    (subst (λ k. lists_seen l s d k ≡ true) (same_id o e.object near) h))
                | false ↦ λ far. refl
              ] refl
        ] refl

-- all are live after a new object, as before
pub made_live : (s : State) (d : ℕ) (y new : Object) → is_well_formed s ≡ true → Making s d y
    → are_live (lists_of (made s d new).objects) ≡ true
made_live s d y new sound m =
    ap (λ v. are_live (lists_of (with_new (of_object s (λ z. put s d (listing s.next_id z)) v) new).objects)) m.found
    ∙ make_live d s.next_id s.objects y (listing s.next_id y) new m.found m.absent
    (λ b g. has_wider y s.next_id b m.kind g) (has_new y s.next_id m.kind) (soundness_of s sound).live

-- a new object of a label that is not seen, in a container that is not seen
made_quiet : (l : LabelValue) (s : State) (d : ℕ) (new : Object) → is_well_formed s ≡ true
    → seen_at l s d ≡ None → is_kind_at s kinds.Container d ≡ true → visible new.label l ≡ false
    → listed new.body ≡ [] → Quiet l s (made s d new)
made_quiet l s d new sound before kind off empty =
    let at : IsContainerAt s d = container_at s d kind in
    let m : Making s d at.object = making_from s d at (soundness_of s sound) in
    let old : State = changed s d (listing s.next_id) in
    record {
      same = subst (λ (n : State). IsSame l s n) (sym (made_is s d at.object new m))
          (same_from l s (grown s d at.object new)
          (λ o. objects at.object m o)
          (λ c o h. outlines at.object m c o h)
          (λ c h.
          lister_append c s.next_id (set_value (is_at (nat_cmp d)) s.objects (listing s.next_id at.object)) new empty
          ∙ sym (ap (λ v. lister_of c (of_object s (λ z. put s d (listing s.next_id z)) v).objects) at.found)
          ∙ lister_changed c s d (listing s.next_id) (λ x found. has_linked s.next_id c x.body
          (λ on. absurd (recorded m.absent c on (seen_container l s c h))))));
      live = made_live s d at.object new sound m;
    }
  where
    recorded : object_at s s.next_id ≡ None → (c : ℕ) → c ≡ s.next_id → is_kind_at s kinds.Container c ≡ true → ⊥
    recorded absent c on h =
        both_ways (is_kind_at s kinds.Container c)
        (ap (is_kind_at s kinds.Container) on ∙ ap (of_object false (is_kind kinds.Container)) absent) h

    objects : (y : Object) → Making s d y → (o : ℕ) → seen_at l (grown s d y new) o ≡ seen_at l s o
    objects y m o =
        elim (o == s.next_id)
        as (λ b. (o == s.next_id) ≡ b → seen_at l (grown s d y new) o ≡ seen_at l s o) [
          | true ↦ λ is.
              let on : o ≡ s.next_id = grind arith in
              ap (seen_at l (grown s d y new)) on ∙ ap (if_visible l) (grown_new s d y new m) ∙ unseen l new off
              ∙ sym (ap (seen_at l s) on ∙ ap (if_visible l) m.absent)
          | false ↦ λ is.
              let other : o ≢ s.next_id = (λ on. both_ways (o == s.next_id) is (eq-eqb o s.next_id on)) in
              ap (if_visible l) (grown_other s d y new m o other)
              ∙ elim (is_at (nat_cmp o) d)
              as (λ b. is_at (nat_cmp o) d ≡ b
              → if_visible l (cond b (Some (listing s.next_id y)) (object_at s o)) ≡ seen_at l s o) [
                | true ↦ λ near.
                    unseen l (listing s.next_id y) (found_unseen l s d y before m.found)
                    ∙ sym (ap (seen_at l s) (same_id o d near) ∙ before)
                | false ↦ λ far. refl
              ] refl
        ] refl

    outlines : (y : Object) → Making s d y → (c o : ℕ) → lists_seen l s c o ≡ true
        → read outline_of (grown s d y new) o ≡ read outline_of s o
    outlines y m c o h =
        elim (seen_at l s c)
        as (λ v. seen_at l s c ≡ v → of_object false (λ x. has (listed x.body) o) v ≡ true
        → read outline_of (grown s d y new) o ≡ read outline_of s o) [
          | None ↦ λ is g. absurd (cc)
          | Some x ↦ λ is g.
              let there = listed_recorded s c o x sound (seen_is l (object_at s c) x is).0 g in
              let other : o ≢ s.next_id = (λ on. there (ap (object_at s) on ∙ m.absent)) in
              ap (option_map outline_of) (grown_other s d y new m o other)
              ∙ elim (is_at (nat_cmp o) d)
              as (λ b. is_at (nat_cmp o) d ≡ b
              → option_map outline_of (cond b (Some (listing s.next_id y)) (object_at s o)) ≡ read outline_of s o) [
                | true ↦ λ near.
                    ap Some (relist_outline (λ ids. ids ++ s.next_id ∷ []) y.label y.quota y.body)
                    ∙ sym (ap (read outline_of s) (same_id o d near) ∙ ap (option_map outline_of) m.found)
                | false ↦ λ far. refl
              ] refl
        ] refl h

-- of the stored label that the call gives
made_of_quiet : (l : LabelValue) (s : State) (t d : ℕ) (v : Option LabelValue) (q : ℕ) (b : body.Body)
    → is_well_formed s ≡ true → seen_at l s t ≡ None → not (is_accessible s t d) ≡ false
    → not (flows_to s t d) ≡ false → both below (label_at s t) v ≡ true → listed b ≡ []
    → Quiet l s (made_of s d v q b)
made_of_quiet l s t d None q b sound off access flows range empty = quiet_refl l s sound
made_of_quiet l s t d (Some m) q b sound off access flows range empty =
    made_quiet l s d (fresh_object m q b) sound (flow_unseen l s t d off (not-false (flows_to s t d) flows))
    (and_parts _ _ (and_parts _ _ (not-false (is_accessible s t d) access)).0).0
    (label_unseen l (object_at s t) m range off) empty

bearer_quiet : (l : LabelValue) (s : State) (t d : ℕ) (v : Option LabelValue) (q : ℕ) (y : Option LabelValue)
    (b : LabelValue → body.Body) → is_well_formed s ≡ true → seen_at l s t ≡ None
    → not (is_accessible s t d) ≡ false → not (flows_to s t d) ≡ false → both below (label_at s t) v ≡ true
    → ((c : LabelValue) → listed (b c) ≡ []) → Quiet l s (made_bearer s d v q y b)
bearer_quiet l s t d v q None b sound off access flows range empty = quiet_refl l s sound
bearer_quiet l s t d v q (Some c) b sound off access flows range empty =
    made_of_quiet l s t d v q (b c) sound off access flows range (empty c)

pub in_range : (s : State) (t : ℕ) (x : Option LabelValue) → not (in_range_of s t x) ≡ false
    → both below (label_at s t) x ≡ true
in_range s t x h = (and_parts _ _ (not-false (in_range_of s t x) h)).0

first_flows : (s : State) (t o : ℕ) (os : List ℕ) → list_all (may_flow s t false) (o ∷ os) ≡ true
    → flows_to s t o ≡ true
first_flows s t o os h = (and_parts (may_flow s t false o) (list_all (may_flow s t false) os) h).0

stored_quiet : (l : LabelValue) (s : State) (t : ℕ) (p : Option Place) (bytes : List ℕ) → is_well_formed s ≡ true
    → seen_at l s t ≡ None → list_all (may_flow s t false) (segment_of p) ≡ true → Quiet l s (stored_at s p bytes)
stored_quiet l s t None bytes sound off h = quiet_refl l s sound
stored_quiet l s t (Some p) bytes sound off h =
    kept l s t p.segment _ sound off (first_flows s t p.segment [] h) (λ x. refl)
    (λ x. rebyte_outline _ x.label x.quota x.body) (λ x. listed-rebyte _ x.body)

gate_quiet : (l : LabelValue) (s : State) (t : ℕ) (r q v : Option LabelValue) (g : Option Gate)
    → is_well_formed s ≡ true → is_kind_at s kinds.Thread t ≡ true → seen_at l s t ≡ None
    → seen_at l (restricted (through_gate s t r q v g)) t ≡ None → Quiet l s (through_gate s t r q v g)
gate_quiet l s t r q v g sound is_thread off after =
    value l s t r _ sound (λ m. value l s t q _ sound (λ c. value l s t v _ sound (λ w. value l s t g _ sound (λ gate.
    own l s t (entered m c w gate) sound is_thread off
    (λ x kind. thread_outline _ m x.label x.quota x.body kind) (λ x. listed-rethread _ x.body))))) after

-- the edit of an accepted call
quiet_edit : (l : LabelValue) (s : State) (t : ℕ) (c : Call) → is_well_formed s ≡ true → is_unref c ≡ false
    → refused s t c ≡ None → seen_at l s t ≡ None → seen_at l (restricted (edit s t c)) t ≡ None
    → Quiet l s (edit s t c)
unfolding refused
quiet_edit l s t call.CatCreate sound plain h off after =
    own_category l s t (own_label s t) (own_clearance s t) sound (caller_thread s t call.CatCreate h) off after
quiet_edit l s t (call.SelfSetLabel x) sound plain h off after =
    value l s t (stored x) _ sound
    (λ m. own l s t (labelled m) sound (caller_thread s t (call.SelfSetLabel x) h) off
    (λ z kind. label_outline m z.label z.quota z.body kind) (λ z. refl)) after
quiet_edit l s t (call.SelfSetClearance y) sound plain h off after =
    value l s t (stored y) _ sound
    (λ c. own l s t (cleared c) sound (caller_thread s t (call.SelfSetClearance y) h) off
    (λ z kind. thread_outline _ z.label z.label z.quota z.body kind) (λ z. listed-rethread _ z.body)) after
quiet_edit l s t (call.SelfSetAs e) sound plain h off after =
    own l s t (spaced e) sound (caller_thread s t (call.SelfSetAs e) h) off
    (λ z kind. thread_outline _ z.label z.label z.quota z.body kind) (λ z. listed-rethread _ z.body) after
quiet_edit l s t (call.ContainerCreate n) sound plain h off after =
    let none = none_hold (halted s t ++ row s t (call.ContainerCreate n)) h in
    made_of_quiet l s t n.container (stored n.label) n.quota _ sound off none.1.0 none.1.1.1.0
    (in_range s t (stored n.label) none.1.1.1.1.1.1.1.1.1.1.0) refl
quiet_edit l s t (call.SegmentCreate n) sound plain h off after =
    let none = none_hold (halted s t ++ row s t (call.SegmentCreate n)) h in
    made_of_quiet l s t n.container (stored n.label) n.quota _ sound off none.1.0 none.1.1.1.0
    (in_range s t (stored n.label) none.1.1.1.1.1.1.1.1.1.1.0) refl
quiet_edit l s t (call.SegmentCopy n) sound plain h off after =
    let none = none_hold (halted s t ++ row s t (call.SegmentCopy n)) h in
    made_of_quiet l s t n.container (stored n.label) n.quota _ sound off none.1.1.1.1.1.0 none.1.1.1.1.1.1.1.0
    (in_range s t (stored n.label) none.1.1.1.1.1.1.1.1.1.1.1.1.1.1.0) refl
quiet_edit l s t (call.AsCreate n) sound plain h off after =
    let none = none_hold (halted s t ++ row s t (call.AsCreate n)) h in
    made_of_quiet l s t n.container (stored n.label) n.quota _ sound off none.1.0 none.1.1.1.0
    (in_range s t (stored n.label) none.1.1.1.1.1.1.1.1.1.1.0) refl
quiet_edit l s t (call.ThreadCreate n) sound plain h off after =
    let none = none_hold (halted s t ++ row s t (call.ThreadCreate n)) h in
    bearer_quiet l s t n.container (stored n.label) n.quota (stored n.clearance) _ sound off none.1.0 none.1.1.1.0
    (not-false _ none.1.1.1.1.1.1.1.1.1.1.1.0) (λ c. refl)
quiet_edit l s t (call.GateCreate n) sound plain h off after =
    let none = none_hold (halted s t ++ row s t (call.GateCreate n)) h in
    bearer_quiet l s t n.container (stored n.label) n.quota (stored n.clearance) _ sound off none.1.1.1.1.0
    none.1.1.1.1.1.1.0 (not-false _ none.1.1.1.1.1.1.1.1.1.1.1.1.1.1.0) (λ c. refl)
quiet_edit l s t (call.Link d e) sound plain h off after =
    let none = none_hold (halted s t ++ row s t (call.Link d e)) h in
    linked l s t d e.object sound off (first_flows s t d [] (changes_all s t (call.Link d e) h))
    (and_parts _ _ (and_parts _ _ (not-false (is_accessible s t d) none.1.0)).0).0 none.1.1.1.1.0
quiet_edit l s t (call.Unref e) sound plain h off after = absurd (cc)
quiet_edit l s t (call.QuotaMove e n) sound plain h off after =
    let none = none_hold (halted s t ++ row s t (call.QuotaMove e n)) h in
    let flows = changes_all s t (call.QuotaMove e n) h in
    moved l s t e _ _ sound off (first_flows s t e.container (e.object ∷ []) flows)
    (first_flows s t e.object [] (and_parts (may_flow s t false e.container)
    (list_all (may_flow s t false) (e.object ∷ [])) flows).1)
    (not-false _ none.1.1.0) none.1.1.1.1.1.1.1.1.1.0
quiet_edit l s t (call.SetFixed e) sound plain h off after =
    kept l s t e.object _ sound off (first_flows s t e.object [] (changes_all s t (call.SetFixed e) h)) (λ x. refl)
    (λ x. refl) (λ x. refl)
quiet_edit l s t (call.SetImmutable e) sound plain h off after =
    kept l s t e.object _ sound off (first_flows s t e.object [] (changes_all s t (call.SetImmutable e) h)) (λ x. refl)
    (λ x. refl) (λ x. refl)
quiet_edit l s t (call.MetaSet e bytes) sound plain h off after =
    kept l s t e.object _ sound off (first_flows s t e.object [] (changes_all s t (call.MetaSet e bytes) h)) (λ x. refl)
    (λ x. refl) (λ x. refl)
quiet_edit l s t (call.SegmentResize e pages) sound plain h off after =
    kept l s t e.object _ sound off (first_flows s t e.object [] (changes_all s t (call.SegmentResize e pages) h))
    (λ x. refl) (λ x. rebyte_outline _ x.label x.quota x.body) (λ x. listed-rebyte _ x.body)
quiet_edit l s t (call.SegmentWrite e a bytes) sound plain h off after =
    kept l s t e.object _ sound off (first_flows s t e.object [] (changes_all s t (call.SegmentWrite e a bytes) h))
    (λ x. refl) (λ x. rebyte_outline _ x.label x.quota x.body) (λ x. listed-rebyte _ x.body)
quiet_edit l s t (call.AsMap e slot m) sound plain h off after =
    kept l s t e.object _ sound off (first_flows s t e.object [] (changes_all s t (call.AsMap e slot m) h))
    (λ x. refl) (λ x. reslot_outline _ x.label x.quota x.body) (λ x. reslot_lists _ x.body)
quiet_edit l s t (call.AsUnmap e slot) sound plain h off after =
    kept l s t e.object _ sound off (first_flows s t e.object [] (changes_all s t (call.AsUnmap e slot) h))
    (λ x. refl) (λ x. reslot_outline _ x.label x.quota x.body) (λ x. reslot_lists _ x.body)
quiet_edit l s t (call.Store address bytes) sound plain h off after =
    stored_quiet l s t (place_of s t address) bytes sound off (changes_all s t (call.Store address bytes) h)
quiet_edit l s t (call.GateEnter e r q v) sound plain h off after =
    gate_quiet l s t (stored r) (stored q) (stored v) (gate_at s e.object) sound
    (caller_thread s t (call.GateEnter e r q v) h) off after
quiet_edit l s t (call.DevSend e bytes) sound plain h off after =
    kept l s t e.object _ sound off (first_flows s t e.object [] (changes_all s t (call.DevSend e bytes) h))
    (λ x. refl) (λ x. requeue_outline _ x.label x.quota x.body) (λ x. requeue_lists _ x.body)
quiet_edit l s t (call.DevRecv e) sound plain h off after =
    kept l s t e.object _ sound off (first_flows s t e.object [] (changes_all s t (call.DevRecv e) h))
    (λ x. refl) (λ x. requeue_outline _ x.label x.quota x.body) (λ x. requeue_lists _ x.body)

pub hidden_stays : HiddenStepsStay
hidden_stays l s t c sound plain off after =
    elim (refused s t c) as (λ v. refused s t c ≡ v → IsSame l s (next s t c)) [
      | None ↦ λ h.
          let done : next s t c ≡ restricted (edit s t c) = (step_done s t c h).1 in
          let quiet : Quiet l s (edit s t c) =
          quiet_edit l s t c sound plain h off (ap (λ n. seen_at l n t) (sym done) ∙ after) in
          subst (λ (n : State). IsSame l s n) (sym (done ∙ restricted_live (edit s t c) quiet.live)) quiet.same
      | Some r ↦ λ h. subst (λ (n : State). IsSame l s n) (sym (step_refused s t c r h).1) (same_refl l s)
    ] refl
