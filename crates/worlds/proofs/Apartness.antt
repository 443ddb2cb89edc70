-- Which calls keep it that containers that an observer does not see list nothing that it sees.
use Rattle.std.proofs.Common.{◌≡◌, ◌≢◌, ℕ, Bool, true, false, cond, not, ◌==◌, ◌++◌, List, []}
use Rattle.std.proofs.Common.{Option, Some, None, refl, sym, ◌∙◌, ap, subst, inl, inr}
use Rattle.std.specs.Option.{option_map}
use Rattle.std.specs.Ordering.{nat_cmp}
use Rattle.std.specs.BTreeMap.{is_at}
use Rattle.std.proofs.lemmas.Bool.{and_parts, not-false, both_ways, eq-eqb, eqb-true}
use Rattle.base.specs.Live.{has, is_live, are_live}
use Rattle.base.specs.declared.kinds.Kind.TheVariants as kinds
use Rattle.label_lattice.specs.Label.{LabelValue}
use Rattle.label_lattice.specs.LabelRules.{both, below, visible, stored}
use Rattle.kernel_rules.specs.State.{State, object_at, of_object, listed, lists_of, list_at, is_kind, is_kind_at}
use Rattle.kernel_rules.specs.State.{is_accessible, gate_at, label_at, kind_of, kind_number}
use Rattle.kernel_rules.specs.Changes.{changed, made, listing, fresh_object, labelled, cleared, spaced, entered}
use Rattle.kernel_rules.specs.Changes.{owning}
use Rattle.kernel_rules.specs.Conditions.{own_label, own_clearance}
use Rattle.kernel_rules.specs.Table.{halted, refused, row}
use Rattle.kernel_rules.specs.Step.{next, edit, restricted, with_value, owned, made_of, made_bearer, through_gate, stored_at}
use Rattle.kernel_rules.specs.Translate.{place_of}
use Rattle.kernel_rules.specs.WellFormed.{is_well_formed}
use Rattle.kernel_rules.specs.declared.calls.Call.{Call}
use Rattle.kernel_rules.specs.declared.calls.Call.TheVariants as call
use Rattle.kernel_rules.specs.declared.objects.Object.{Object}
use Rattle.kernel_rules.specs.declared.objects.Body as body
use Rattle.kernel_rules.specs.declared.objects.Body.TheVariants as is
use Rattle.kernel_rules.specs.declared.places.Place.{Place}
use Rattle.kernel_rules.proofs.LookupLaws.{at_is}
use Rattle.kernel_rules.proofs.RecordLaws.{same_id, restricted_live}
use Rattle.kernel_rules.proofs.RowLaws.{none_hold}
use Rattle.kernel_rules.proofs.StepLaws.{step_refused, step_done}
use Rattle.kernel_rules.proofs.WellFormedLaws.{soundness_of}
use Rattle.kernel_rules.proofs.ListingLaws.{container_at, IsContainerAt}
use Rattle.kernel_rules.proofs.GrownLaws.{Making, making_from}
use Rattle.kernel_laws.proofs.Frames.{restricted_at}
use Rattle.flow_rules.proofs.Keeping.{caller_thread}
use Rattle.worlds.specs.Seen.{if_visible, seen_at, IsOpen}
use Rattle.worlds.specs.Laws.{OpenStays, IsGuarded, IsGuardedBy}
use Rattle.worlds.proofs.Relisting.{lists_of-changed, listed-rebyte, listed-rethread}
use Rattle.worlds.proofs.Unseen.{read_changed, unseen, unseen_label, label_unseen, listed_recorded}
use Rattle.worlds.proofs.Quietly.{has_linked, in_range, reslot_lists, requeue_lists}
use Rattle.worlds.proofs.Shared.{observed_seen, accessible_observed, seen_if}
use Rattle.worlds.proofs.Naming.{mapped_at}
use Rattle.worlds.proofs.Making.{made_at}
use Rattle.worlds.proofs.Ending.{cut_open, restricted_seen}

-- who is not seen by the label alone
by_label : (l : LabelValue) (v w : Option Object) → option_map (λ x. x.label) v ≡ option_map (λ x. x.label) w
    → if_visible l v ≡ None → if_visible l w ≡ None
by_label l v None h e = refl
by_label l None (Some y) h e = absurd (cc)
by_label l (Some x) (Some y) h e =
    let same : x.label ≡ y.label = cc in
    unseen l y (ap (λ m. visible m l) (sym same) ∙ unseen_label l x e)

abbrev listed_or : Option (List ℕ) → List ℕ
listed_or None = []
listed_or (Some ids) = ids

list_in : (v : Option Object) → of_object [] (λ x. listed x.body) v ≡ listed_or (option_map (λ x. listed x.body) v)
list_in None = refl
list_in (Some x) = refl

-- a change that leaves labels and lists
kept : (l : LabelValue) (s : State) (k : ℕ) (f : Object → Object) → IsOpen l s
    → ((x : Object) → (f x).label ≡ x.label) → ((x : Object) → listed (f x).body ≡ listed x.body)
    → IsOpen l (changed s k f)
kept l s k f apart label lists p q has_it off =
    by_label l (object_at s q) (object_at (changed s k f) q)
    (sym (read_changed (λ x. x.label) s k f (λ x found. label x) q))
    (apart p q
    (ap (λ ids. has ids q) (list_in (object_at s p)
    ∙ ap listed_or (sym (read_changed (λ x. listed x.body) s k f (λ x found. lists x) p))
    ∙ sym (list_in (object_at (changed s k f) p))) ∙ has_it)
    (by_label l (object_at (changed s k f) p) (object_at s p)
    (read_changed (λ x. x.label) s k f (λ x found. label x) p) off))

other_at : (s : State) (k : ℕ) (f : Object → Object) (p : ℕ) → (p == k) ≡ false
    → object_at (changed s k f) p ≡ object_at s p
other_at s k f p off =
    mapped_at s k f p ∙ ap (λ b. cond b (option_map f (object_at s k)) (object_at s p)) (at_is p k ∙ off)

thread_lists : (v : Option Object) → of_object false (is_kind kinds.Thread) v ≡ true
    → of_object [] (λ x. listed x.body) v ≡ []
thread_lists None h = refl
thread_lists (Some x) h = by_body x.body h
  where
    by_body : (b : body.Body) → (kind_number (kind_of b) == kind_number kinds.Thread) ≡ true → listed b ≡ []
    by_body (is.Thread r) g = refl
    by_body (is.Container avoid list) g = absurd (cc)
    by_body (is.Segment bytes) g = refl
    by_body (is.AddressSpace slots) g = refl
    by_body (is.Gate r) g = refl
    by_body (is.Device packets) g = refl

-- a change of the caller, a thread, which is not seen after it if it was not before
own : (l : LabelValue) (s : State) (t : ℕ) (f : Object → Object) → is_kind_at s kinds.Thread t ≡ true
    → IsOpen l s → ((x : Object) → listed (f x).body ≡ listed x.body)
    → (seen_at l s t ≡ None → seen_at l (changed s t f) t ≡ None) → IsOpen l (changed s t f)
own l s t f thread apart lists stays p q has_it off =
    let was : has (list_at s p) q ≡ true =
    ap (λ ids. has ids q) (list_in (object_at s p)
    ∙ ap listed_or (sym (read_changed (λ x. listed x.body) s t f (λ x found. lists x) p))
    ∙ sym (list_in (object_at (changed s t f) p))) ∙ has_it in
    elim (p == t) as (λ b. (p == t) ≡ b → seen_at l (changed s t f) q ≡ None) [
      | true ↦ λ is.
          absurd (both_ways (has (list_at s p) q)
          (ap (λ k. has (list_at s k) q) (eqb-true p t is) ∙ ap (λ ids. has ids q) (thread_lists (object_at s t) thread))
          was)
      | false ↦ λ other.
          let before : seen_at l s q ≡ None =
          apart p q was (sym (ap (if_visible l) (other_at s t f p other)) ∙ off) in
          elim (q == t) as (λ b. (q == t) ≡ b → seen_at l (changed s t f) q ≡ None) [
            | true ↦ λ on.
                let same : q ≡ t = eqb-true q t on in
                ap (seen_at l (changed s t f)) same ∙ stays (sym (ap (seen_at l s) same) ∙ before)
            | false ↦ λ far. ap (if_visible l) (other_at s t f q far) ∙ before
          ] refl
    ] refl

-- a link more, in a container that is not seen only of what is not seen
linked : (l : LabelValue) (s : State) (d o : ℕ) → IsOpen l s → (seen_at l s d ≡ None → seen_at l s o ≡ None)
    → IsOpen l (changed s d (listing o))
linked l s d o apart guarded p q has_it off =
    by_label l (object_at s q) (object_at (changed s d (listing o)) q) (sym (labels q))
    (elim (q == o) as (λ b. (q == o) ≡ b → seen_at l s q ≡ None) [
      | true ↦ λ is. elim (p == d) as (λ b. (p == d) ≡ b → seen_at l s q ≡ None) [
        | true ↦ λ on.
            ap (seen_at l s) (eqb-true q o is)
            ∙ guarded (sym (ap (seen_at l s) (eqb-true p d on)) ∙ before p off)
        | false ↦ λ far.
            apart p q (sym (ap (λ v. has (of_object [] (λ x. listed x.body) v) q) (other_at s d (listing o) p far)) ∙ has_it)
            (before p off)
      ] refl
      | false ↦ λ other.
          apart p q (fewer p q (λ on. both_ways (q == o) other (eq-eqb q o on)) has_it) (before p off)
    ] refl)
  where
    labels : (k : ℕ) → option_map (λ x. x.label) (object_at (changed s d (listing o)) k)
        ≡ option_map (λ x. x.label) (object_at s k)
    labels k = read_changed (λ x. x.label) s d (listing o) (λ x found. refl) k

    before : (k : ℕ) → seen_at l (changed s d (listing o)) k ≡ None → seen_at l s k ≡ None
    before k none = by_label l (object_at (changed s d (listing o)) k) (object_at s k) (labels k) none

    fewer : (p q : ℕ) → q ≢ o → has (list_at (changed s d (listing o)) p) q ≡ true → has (list_at s p) q ≡ true
    fewer p q other h =
        elim (object_at s d)
        as (λ v. object_at s d ≡ v
        → has (of_object [] (λ x. listed x.body) (cond (is_at (nat_cmp p) d) (option_map (listing o) v) (object_at s p))) q
        ≡ true → has (list_at s p) q ≡ true) [
          | None ↦ λ is g. elim (is_at (nat_cmp p) d)
              as (λ b. has (of_object [] (λ x. listed x.body) (cond b None (object_at s p))) q ≡ true
              → has (list_at s p) q ≡ true) [
                | true ↦ λ f. absurd (both_ways false refl f)
                | false ↦ λ f. f
              ] g
          | Some y ↦ λ is g. elim (is_at (nat_cmp p) d)
              as (λ b. is_at (nat_cmp p) d ≡ b
              → has (of_object [] (λ x. listed x.body) (cond b (Some (listing o y)) (object_at s p))) q ≡ true
              → has (list_at s p) q ≡ true) [
                | true ↦ λ near f.
                    ap (λ v. has (of_object [] (λ x. listed x.body) v) q) (ap (object_at s) (same_id p d near) ∙ is)
                    ∙ sym (has_linked o q y.body other) ∙ f
                | false ↦ λ far f. f
              ] refl g
        ] refl (sym (ap (λ v. has (of_object [] (λ x. listed x.body) v) q) (mapped_at s d (listing o) p)) ∙ h)

-- a new object, in a container that is not seen only of a label that is not seen
made_open : (l : LabelValue) (s : State) (d : ℕ) (y new : Object) → is_well_formed s ≡ true → IsOpen l s
    → Making s d y → listed new.body ≡ [] → (seen_at l s d ≡ None → visible new.label l ≡ false)
    → IsOpen l (made s d new)
made_open l s d y new sound apart m empty guarded p q has_it off =
    ap (if_visible l) (made_at s d y new m q)
    ∙ parent p q
    (sym (ap (λ v. has (of_object [] (λ x. listed x.body) v) q) (made_at s d y new m p)) ∙ has_it)
    (sym (ap (if_visible l) (made_at s d y new m p)) ∙ off)
  where
    -- an old object is not seen if it was not
    old : (k : ℕ) → seen_at l s k ≡ None
        → if_visible l (cond (is_at (nat_cmp k) d) (Some (listing s.next_id y)) (object_at s k)) ≡ None
    old k none =
        elim (is_at (nat_cmp k) d)
        as (λ b. is_at (nat_cmp k) d ≡ b → if_visible l (cond b (Some (listing s.next_id y)) (object_at s k)) ≡ None) [
          | true ↦ λ near.
              unseen l (listing s.next_id y) (unseen_label l y
              (sym (ap (if_visible l) (ap (object_at s) (same_id k d near) ∙ m.found)) ∙ none))
          | false ↦ λ far. none
        ] refl

    child : (q : ℕ) → (seen_at l s d ≡ None) → ((q == s.next_id) ≡ false → seen_at l s q ≡ None)
        → if_visible l (cond (q == s.next_id) (Some new)
        (cond (is_at (nat_cmp q) d) (Some (listing s.next_id y)) (object_at s q))) ≡ None
    child q none less =
        elim (q == s.next_id)
        as (λ b. (q == s.next_id) ≡ b → if_visible l (cond b (Some new)
        (cond (is_at (nat_cmp q) d) (Some (listing s.next_id y)) (object_at s q))) ≡ None) [
          | true ↦ λ is. unseen l new (guarded none)
          | false ↦ λ other. old q (less other)
        ] refl

    plain : (p q : ℕ) → has (list_at s p) q ≡ true → seen_at l s q ≡ None
        → if_visible l (cond (q == s.next_id) (Some new)
        (cond (is_at (nat_cmp q) d) (Some (listing s.next_id y)) (object_at s q))) ≡ None
    plain p q lists none =
        elim (q == s.next_id)
        as (λ b. (q == s.next_id) ≡ b → if_visible l (cond b (Some new)
        (cond (is_at (nat_cmp q) d) (Some (listing s.next_id y)) (object_at s q))) ≡ None) [
          | true ↦ λ is. absurd (never p q (eqb-true q s.next_id is) lists)
          | false ↦ λ other. old q none
        ] refl
      where
        never : (p q : ℕ) → q ≡ s.next_id → has (list_at s p) q ≡ true → ⊥
        never p q on lists =
            elim (object_at s p)
            as (λ v. object_at s p ≡ v → has (of_object [] (λ x. listed x.body) v) q ≡ true → ⊥) [
              | None ↦ λ is h. both_ways false refl h
              | Some x ↦ λ is h. listed_recorded s p q x sound is h (ap (object_at s) on ∙ m.absent)
            ] refl lists

    parent : (p q : ℕ)
        → has (of_object [] (λ x. listed x.body) (cond (p == s.next_id) (Some new)
        (cond (is_at (nat_cmp p) d) (Some (listing s.next_id y)) (object_at s p)))) q ≡ true
        → if_visible l (cond (p == s.next_id) (Some new)
        (cond (is_at (nat_cmp p) d) (Some (listing s.next_id y)) (object_at s p))) ≡ None
        → if_visible l (cond (q == s.next_id) (Some new)
        (cond (is_at (nat_cmp q) d) (Some (listing s.next_id y)) (object_at s q))) ≡ None
    parent p q =
        elim (p == s.next_id)
        as (λ b. has (of_object [] (λ x. listed x.body) (cond b (Some new)
        (cond (is_at (nat_cmp p) d) (Some (listing s.next_id y)) (object_at s p)))) q ≡ true
        → if_visible l (cond b (Some new)
        (cond (is_at (nat_cmp p) d) (Some (listing s.next_id y)) (object_at s p))) ≡ None
        → if_visible l (cond (q == s.next_id) (Some new)
        (cond (is_at (nat_cmp q) d) (Some (listing s.next_id y)) (object_at s q))) ≡ None) [
          | true ↦ λ lists none. absurd (both_ways (has (listed new.body) q) (ap (λ ids. has ids q) empty) lists)
          | false ↦ elim (is_at (nat_cmp p) d)
              as (λ b. is_at (nat_cmp p) d ≡ b
              → has (of_object [] (λ x. listed x.body) (cond b (Some (listing s.next_id y)) (object_at s p))) q ≡ true
              → if_visible l (cond b (Some (listing s.next_id y)) (object_at s p)) ≡ None
              → if_visible l (cond (q == s.next_id) (Some new)
              (cond (is_at (nat_cmp q) d) (Some (listing s.next_id y)) (object_at s q))) ≡ None) [
                | true ↦ λ near lists none.
                    let hidden : seen_at l s d ≡ None =
                    ap (if_visible l) m.found ∙ unseen l y (unseen_label l (listing s.next_id y) none) in
                    child q hidden (λ other. apart d q
                    (ap (λ v. has (of_object [] (λ x. listed x.body) v) q) m.found
                    ∙ sym (has_linked s.next_id q y.body (λ on. both_ways (q == s.next_id) other (eq-eqb q s.next_id on)))
                    ∙ lists) hidden)
                | false ↦ λ far lists none. plain p q lists (apart p q lists none)
              ] refl
        ]

-- the live part
restricted_open : (l : LabelValue) (e : State) → IsOpen l e → IsOpen l (restricted e)
restricted_open l e apart p q has_it off =
    restricted_seen l e q ∙
    elim (is_live (lists_of e.objects) p)
    as (λ b. has (of_object [] (λ x. listed x.body) (cond b (object_at e p) None)) q ≡ true
    → cond b (seen_at l e p) None ≡ None
    → cond (is_live (lists_of e.objects) q) (seen_at l e q) None ≡ None) [
      | true ↦ λ lists none. either (is_live (lists_of e.objects) q) (seen_at l e q) (apart p q lists none)
      | false ↦ λ lists none. absurd (both_ways false refl lists)
    ]
    (sym (ap (λ v. has (of_object [] (λ x. listed x.body) v) q) (restricted_at e p)) ∙ has_it)
    (sym (restricted_seen l e p) ∙ off)
  where
    either : (b : Bool) (v : Option Object) → v ≡ None → cond b v None ≡ None
    either true v h = h
    either false v h = refl

value : {X : Type 0} (l : LabelValue) (s : State) (v : Option X) (f : X → State) → IsOpen l s
    → ((x : X) → v ≡ Some x → IsOpen l (f x)) → IsOpen l (with_value s v f)
value l s None f apart each = apart
value l s (Some x) f apart each = each x refl

-- the caller's own change: hidden before and after, or seen before
mine : (l : LabelValue) (s : State) (t : ℕ) (f : Object → Object) → is_well_formed s ≡ true
    → ((x : Object) → listed (f x).body ≡ listed x.body)
    → (seen_at l s t ≡ None → seen_at l (restricted (changed s t f)) t ≡ None)
    → seen_at l s t ≡ None → seen_at l (changed s t f) t ≡ None
mine l s t f sound lists after off =
    ap (λ n. seen_at l n t) (sym (restricted_live (changed s t f)
    (ap are_live (lists_of-changed s t f lists) ∙ (soundness_of s sound).live))) ∙ after off

-- where the container is seen nothing is to be shown; else the caller is hidden
made_of_open : (l : LabelValue) (s : State) (t d : ℕ) (v : Option LabelValue) (q : ℕ) (b : body.Body)
    → is_well_formed s ≡ true → IsOpen l s → (seen_at l s d ≡ None → seen_at l s t ≡ None)
    → not (is_accessible s t d) ≡ false → both below (label_at s t) v ≡ true → listed b ≡ []
    → IsOpen l (made_of s d v q b)
made_of_open l s t d None q b sound apart hides access range empty = apart
made_of_open l s t d (Some m) q b sound apart hides access range empty =
    let at : IsContainerAt s d =
    container_at s d (and_parts _ _ (and_parts _ _ (not-false (is_accessible s t d) access)).0).0 in
    made_open l s d at.object (fresh_object m q b) sound apart (making_from s d at (soundness_of s sound)) empty
    (λ none. label_unseen l (object_at s t) m range (hides none))

bearer_open : (l : LabelValue) (s : State) (t d : ℕ) (v : Option LabelValue) (q : ℕ) (y : Option LabelValue)
    (b : LabelValue → body.Body) → is_well_formed s ≡ true → IsOpen l s
    → (seen_at l s d ≡ None → seen_at l s t ≡ None) → not (is_accessible s t d) ≡ false
    → both below (label_at s t) v ≡ true → ((c : LabelValue) → listed (b c) ≡ [])
    → IsOpen l (made_bearer s d v q y b)
bearer_open l s t d v q None b sound apart hides access range empty = apart
bearer_open l s t d v q (Some c) b sound apart hides access range empty =
    made_of_open l s t d v q (b c) sound apart hides access range (empty c)

own_category : (l : LabelValue) (s : State) (t : ℕ) (m c : Option LabelValue) → is_well_formed s ≡ true
    → IsOpen l s → is_kind_at s kinds.Thread t ≡ true
    → (seen_at l s t ≡ None → seen_at l (restricted (owned s t m c)) t ≡ None) → IsOpen l (owned s t m c)
own_category l s t None c sound apart thread after = apart
own_category l s t (Some m) None sound apart thread after = apart
own_category l s t (Some m) (Some c) sound apart thread after =
    (λ p q. own l s t (owning m c) thread apart (λ x. listed-rethread (λ r. record r { clearance = c }) x.body)
    (mine l s t (owning m c) sound (λ x. listed-rethread (λ r. record r { clearance = c }) x.body) after) p q)

by_store : (l : LabelValue) (s : State) (p : Option Place) (bytes : List ℕ) → IsOpen l s
    → IsOpen l (stored_at s p bytes)
by_store l s None bytes apart = apart
by_store l s (Some p) bytes apart = kept l s p.segment _ apart (λ x. refl) (λ x. listed-rebyte _ x.body)

-- the container that the caller names is seen, or the caller is hidden
hides : (l : LabelValue) (s : State) (t d : ℕ) → IsGuardedBy l s t → not (is_accessible s t d) ≡ false
    → seen_at l s d ≡ None → seen_at l s t ≡ None
hides l s t d (inl off) access none = off
hides l s t d (inr within) access none =
    let seen = observed_seen l s t d within (accessible_observed s t d (not-false _ access)) in
    let both : Some seen.0 ≡ None = sym (seen_if l s d seen.0 seen.1 seen.2) ∙ none in
    absurd (cc)

edit_open : (l : LabelValue) (s : State) (t : ℕ) (c : Call) → is_well_formed s ≡ true → IsOpen l s
    → refused s t c ≡ None → IsGuardedBy l s t → IsGuarded l s c t
    → (seen_at l s t ≡ None → seen_at l (restricted (edit s t c)) t ≡ None) → IsOpen l (edit s t c)
unfolding refused
edit_open l s t call.CatCreate sound apart h by guarded after =
    own_category l s t (own_label s t) (own_clearance s t) sound apart (caller_thread s t call.CatCreate h) after
edit_open l s t (call.SelfSetLabel x) sound apart h by guarded after =
    value l s (stored x) _ apart (λ m is. own l s t (labelled m) (caller_thread s t (call.SelfSetLabel x) h) apart
    (λ z. refl) (mine l s t (labelled m) sound (λ z. refl)
    (λ off. ap (λ v. seen_at l (restricted (with_value s v (λ w. changed s t (labelled w)))) t) (sym is) ∙ after off)))
edit_open l s t (call.SelfSetClearance y) sound apart h by guarded after =
    value l s (stored y) _ apart (λ m is. kept l s t (cleared m) apart (λ z. refl) (λ z. listed-rethread _ z.body))
edit_open l s t (call.SelfSetAs e) sound apart h by guarded after =
    kept l s t (spaced e) apart (λ z. refl) (λ z. listed-rethread _ z.body)
edit_open l s t (call.ContainerCreate k) sound apart h by guarded after =
    let none = none_hold (halted s t ++ row s t (call.ContainerCreate k)) h in
    made_of_open l s t k.container (stored k.label) k.quota _ sound apart (hides l s t k.container by none.1.0) none.1.0
    (in_range s t (stored k.label) none.1.1.1.1.1.1.1.1.1.1.0) refl
edit_open l s t (call.SegmentCreate k) sound apart h by guarded after =
    let none = none_hold (halted s t ++ row s t (call.SegmentCreate k)) h in
    made_of_open l s t k.container (stored k.label) k.quota _ sound apart (hides l s t k.container by none.1.0) none.1.0
    (in_range s t (stored k.label) none.1.1.1.1.1.1.1.1.1.1.0) refl
edit_open l s t (call.SegmentCopy k) sound apart h by guarded after =
    let none = none_hold (halted s t ++ row s t (call.SegmentCopy k)) h in
    made_of_open l s t k.container (stored k.label) k.quota _ sound apart (hides l s t k.container by none.1.1.1.1.1.0)
    none.1.1.1.1.1.0 (in_range s t (stored k.label) none.1.1.1.1.1.1.1.1.1.1.1.1.1.1.0) refl
edit_open l s t (call.AsCreate k) sound apart h by guarded after =
    let none = none_hold (halted s t ++ row s t (call.AsCreate k)) h in
    made_of_open l s t k.container (stored k.label) k.quota _ sound apart (hides l s t k.container by none.1.0) none.1.0
    (in_range s t (stored k.label) none.1.1.1.1.1.1.1.1.1.1.0) refl
edit_open l s t (call.ThreadCreate k) sound apart h by guarded after =
    let none = none_hold (halted s t ++ row s t (call.ThreadCreate k)) h in
    bearer_open l s t k.container (stored k.label) k.quota (stored k.clearance) _ sound apart
    (hides l s t k.container by none.1.0) none.1.0 (not-false _ none.1.1.1.1.1.1.1.1.1.1.1.0) (λ m. refl)
edit_open l s t (call.GateCreate k) sound apart h by guarded after =
    let none = none_hold (halted s t ++ row s t (call.GateCreate k)) h in
    bearer_open l s t k.container (stored k.label) k.quota (stored k.clearance) _ sound apart
    (hides l s t k.container by none.1.1.1.1.0) none.1.1.1.1.0
    (not-false _ none.1.1.1.1.1.1.1.1.1.1.1.1.1.1.0) (λ m. refl)
edit_open l s t (call.Link d e) sound apart h by guarded after =
    let none = none_hold (halted s t ++ row s t (call.Link d e)) h in
    linked l s d e.object apart (λ off. guarded (hides l s t d by none.1.0 off))
edit_open l s t (call.Unref e) sound apart h by guarded after =
    let none = none_hold (halted s t ++ row s t (call.Unref e)) h in
    let at : IsContainerAt s e.container =
    container_at s e.container (and_parts _ _ (and_parts _ _ (not-false (is_accessible s t e.container) none.1.0)).0).0 in
    cut_open l s e.container e.object at.object apart at.found
edit_open l s t (call.QuotaMove e n) sound apart h by guarded after =
    kept l s e.object _ apart (λ x. refl) (λ x. refl)
edit_open l s t (call.SetFixed e) sound apart h by guarded after = kept l s e.object _ apart (λ x. refl) (λ x. refl)
edit_open l s t (call.SetImmutable e) sound apart h by guarded after = kept l s e.object _ apart (λ x. refl) (λ x. refl)
edit_open l s t (call.MetaSet e bytes) sound apart h by guarded after = kept l s e.object _ apart (λ x. refl) (λ x. refl)
edit_open l s t (call.SegmentResize e pages) sound apart h by guarded after =
    kept l s e.object _ apart (λ x. refl) (λ x. listed-rebyte _ x.body)
edit_open l s t (call.SegmentWrite e a bytes) sound apart h by guarded after =
    kept l s e.object _ apart (λ x. refl) (λ x. listed-rebyte _ x.body)
edit_open l s t (call.AsMap e slot m) sound apart h by guarded after =
    kept l s e.object _ apart (λ x. refl) (λ x. reslot_lists _ x.body)
edit_open l s t (call.AsUnmap e slot) sound apart h by guarded after =
    kept l s e.object _ apart (λ x. refl) (λ x. reslot_lists _ x.body)
edit_open l s t (call.Store address bytes) sound apart h by guarded after =
    by_store l s (place_of s t address) bytes apart
edit_open l s t (call.GateEnter e r q v) sound apart h by guarded after =
    value l s (stored r) _ apart (λ m is_r. value l s (stored q) _ apart (λ y is_q. value l s (stored v) _ apart
    (λ z is_v. value l s (gate_at s e.object) _ apart (λ g is_g.
    own l s t (entered m y z g) (caller_thread s t (call.GateEnter e r q v) h) apart (λ x. listed-rethread _ x.body)
    (mine l s t (entered m y z g) sound (λ x. listed-rethread _ x.body)
    (λ off. (λ i. seen_at l (restricted (through_gate s t (sym is_r i) (sym is_q i) (sym is_v i) (sym is_g i))) t)
    ∙ after off))))))
edit_open l s t (call.DevSend e bytes) sound apart h by guarded after =
    kept l s e.object _ apart (λ x. refl) (λ x. requeue_lists _ x.body)
edit_open l s t (call.DevRecv e) sound apart h by guarded after =
    kept l s e.object _ apart (λ x. refl) (λ x. requeue_lists _ x.body)

pub open_stays : OpenStays
open_stays l s t c sound apart by guarded after =
    elim (refused s t c) as (λ v. refused s t c ≡ v → IsOpen l (next s t c)) [
      | None ↦ λ h.
          let done : next s t c ≡ restricted (edit s t c) = (step_done s t c h).1 in
          subst (λ (n : State). IsOpen l n) (sym done)
          (restricted_open l (edit s t c) (edit_open l s t c sound apart h by guarded
          (λ off. ap (λ n. seen_at l n t) (sym done) ∙ after off)))
      | Some r ↦ λ h. subst (λ (n : State). IsOpen l n) (sym (step_refused s t c r h).1) apart
    ] refl
