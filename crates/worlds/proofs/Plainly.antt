-- A call that makes nothing and names no category has one answer in two worlds, and changes alike what is seen.
use Rattle.std.proofs.Common.{◌≡◌, ℕ, ◌+◌, ◌*◌, ◌/◌, Bool, true, false, cond, not, ◌&&◌, ◌||◌, ◌==◌, ◌++◌, nat_lt, nat_le}
use Rattle.std.proofs.Common.{List, [], ◌∷◌, Option, Some, None, refl, sym, ◌∙◌, ap, subst, length, drop}
use Rattle.std.proofs.Common.{is_none, is_some, slice_get}
use Rattle.std.specs.List.{list_any}
use Rattle.std.specs.Ordering.{nat_cmp}
use Rattle.std.specs.BTreeMap.{is_at}
use Rattle.std.proofs.lemmas.Bool.{not-false}
use Rattle.base.specs.Live.{has, are_live}
use Rattle.base.specs.Sets.{may_write}
use Rattle.base.specs.declared.kinds.Kind.TheVariants as kinds
use Rattle.base.specs.declared.refusals.Refusal.{Refusal}
use Rattle.base.specs.declared.refusals.Refusal.TheVariants.{Halted, NoAccess, NoEntry}
use Rattle.label_lattice.specs.Label.{LabelValue}
use Rattle.label_lattice.specs.LabelRules.{visible}
use Rattle.kernel_rules.specs.State.{State, object_at, of_object, listed, lists_of, is_kind, is_kind_at, is_accessible, holds, is_live_kind}
use Rattle.kernel_rules.specs.State.{observes, bytes_of, slots_of, packets_of, kind_number}
use Rattle.kernel_rules.specs.Changes.{put, changed}
use Rattle.kernel_rules.specs.Changes.{rethread}
use Rattle.kernel_rules.specs.Conditions.{allows, meets}
use Rattle.kernel_rules.specs.Rows.{Row, refusal_of}
use Rattle.kernel_rules.specs.Table.{halted, refused, row}
use Rattle.kernel_rules.specs.Step.{next, answer, edit, accepted, stored_at, lister_of, first_packet}
use Rattle.kernel_rules.specs.Translate.{place_of, slot_in, names_none}
use Rattle.kernel_rules.specs.declared.calls.Call.{Call}
use Rattle.kernel_rules.specs.declared.calls.Call.TheVariants as call
use Rattle.kernel_rules.specs.declared.calls.Entry.{Entry}
use Rattle.kernel_rules.specs.declared.objects.Mapping.{Mapping}
use Rattle.kernel_rules.specs.declared.objects.Object.{Object}
use Rattle.kernel_rules.specs.declared.objects.Thread as thread
use Rattle.kernel_rules.specs.declared.objects.Body as body
use Rattle.kernel_rules.specs.declared.objects.Body.TheVariants as is
use Rattle.kernel_rules.specs.declared.places.Place.{Place}
use Rattle.kernel_rules.proofs.LookupLaws.{lookup_put}
use Rattle.kernel_rules.proofs.RecordLaws.{same_id, restricted_live}
use Rattle.kernel_rules.proofs.RowLaws.{none_hold}
use Rattle.kernel_rules.proofs.StepLaws.{step_refused, step_done}
use Rattle.kernel_rules.proofs.WellFormedLaws.{soundness_of}
use Rattle.worlds.specs.Seen.{if_visible, seen_at, outline, outline_of, IsSame}
use Rattle.worlds.specs.Laws.{StepsStayAlike, is_plain}
use Rattle.worlds.proofs.Relisting.{lists_of-changed, listed-rebyte, listed-rethread}
use Rattle.worlds.proofs.Unseen.{read_changed, lister_changed, same_from}
use Rattle.worlds.proofs.Quietly.{rebyte_outline, reslot_outline, reslot_lists, requeue_outline, requeue_lists}
use Rattle.worlds.proofs.Alike.{AlikeRows, alike_refusal, rises, cons_same, swapped}
use Rattle.worlds.proofs.Shared.{Worlds, observed_same, same_halted, Caller, caller_of}
use Rattle.worlds.proofs.Shared.{same_observes, same_accessible, same_holds, same_kind, seen_if, observed_seen}
use Rattle.worlds.proofs.Shared.{told_same, seen_object, shown_visible}
use Rattle.worlds.proofs.Placing.{same_place, place_observed, same_flows}

-- a change, looked up
pub changed_at : (s : State) (o : ℕ) (f : Object → Object) (x : Object) (q : ℕ) → object_at s o ≡ Some x
    → object_at (changed s o f) q ≡ cond (is_at (nat_cmp q) o) (Some (f x)) (object_at s q)
changed_at s o f x q found =
    ap (λ v. object_at (of_object s (λ z. put s o (f z)) v) q) found ∙ lookup_put o q s.objects x (f x) found

-- a test of what is seen after a change of an object that was seen, which leaves the test
pub tested_before : (l : LabelValue) (s : State) (o : ℕ) (f : Object → Object) (x : Object) (g : Object → Bool) (d : ℕ)
    → object_at s o ≡ Some x → visible x.label l ≡ true → g (f x) ≡ g x
    → of_object false g (seen_at l (changed s o f) d) ≡ true → of_object false g (seen_at l s d) ≡ true
tested_before l s o f x g d found seen same h =
    elim (is_at (nat_cmp d) o)
    as (λ b. is_at (nat_cmp d) o ≡ b
    → of_object false g (if_visible l (cond b (Some (f x)) (object_at s d))) ≡ true
    → of_object false g (seen_at l s d) ≡ true) [
      | true ↦ λ near e.
          ap (λ k. of_object false g (seen_at l s k)) (same_id d o near)
          ∙ ap (of_object false g) (seen_if l s o x found seen) ∙ sym same ∙ tested_then (f x) e
      | false ↦ λ far e. e
    ] refl (sym (ap (λ v. of_object false g (if_visible l v)) (changed_at s o f x d found)) ∙ h)
  where
    tested_then : (z : Object) → of_object false g (if_visible l (Some z)) ≡ true → g z ≡ true
    tested_then z =
        elim (visible z.label l) as (λ b. of_object false g (cond b (Some z) None) ≡ true → g z ≡ true) [
          | true ↦ λ e. e
          | false ↦ λ e. absurd (cc)
        ]

-- the parent of a container that is seen
pub lister_same : (l : LabelValue) (s n : State) (d : ℕ) → IsSame l s n
    → of_object false (is_kind kinds.Container) (seen_at l s d) ≡ true
    → lister_of d n.objects ≡ lister_of d s.objects
lister_same l s n d same on =
    let on_too : of_object false (is_kind kinds.Container) (seen_at l n d) ≡ true =
    ap (of_object false (is_kind kinds.Container)) (same.objects d) ∙ on in
    let is : Some (lister_of d n.objects) ≡ Some (lister_of d s.objects) =
    sym (ap (λ b. cond b (Some (lister_of d n.objects)) None) on_too) ∙ same.parents d
    ∙ ap (λ b. cond b (Some (lister_of d s.objects)) None) on in
    cc

-- the same change of an object that is seen
pub same_changed : (l : LabelValue) (s n : State) (o : ℕ) (f : Object → Object) (x : Object) → IsSame l s n
    → object_at s o ≡ Some x → visible x.label l ≡ true → outline_of (f x) ≡ outline_of x
    → listed (f x).body ≡ listed x.body → IsSame l (changed s o f) (changed n o f)
same_changed l s n o f x same found seen outlines lists =
    let too : object_at n o ≡ Some x = seen_object l s n o x same found seen ∙ found in
    same_from l (changed s o f) (changed n o f)
    (λ q. ap (if_visible l) (changed_at n o f x q too)
    ∙ elim (is_at (nat_cmp q) o)
    as (λ b. if_visible l (cond b (Some (f x)) (object_at n q)) ≡ if_visible l (cond b (Some (f x)) (object_at s q))) [
      | true ↦ refl
      | false ↦ same.objects q
    ]
    ∙ sym (ap (if_visible l) (changed_at s o f x q found)))
    (λ d q h. read_changed outline_of n o f (λ z at. only n too z at) q
    ∙ told_same l s n d q same
    (tested_before l s o f x (λ z. has (listed z.body) q) d found seen (ap (λ ids. has ids q) lists) h)
    ∙ sym (read_changed outline_of s o f (λ z at. only s found z at) q))
    (λ d h. lister_changed d n o f (λ z at. listed_only n too z d at)
    ∙ lister_same l s n d same
    (tested_before l s o f x (is_kind kinds.Container) d found seen
    (ap (λ u. kind_number u.kind == kind_number kinds.Container) outlines) h)
    ∙ sym (lister_changed d s o f (λ z at. listed_only s found z d at)))
  where
    only : (m : State) → object_at m o ≡ Some x → (z : Object) → object_at m o ≡ Some z
        → outline_of (f z) ≡ outline_of z
    only m at z is =
        let both_are : Some x ≡ Some z = sym at ∙ is in
        let on : x ≡ z = cc in
        subst (λ (y : Object). outline_of (f y) ≡ outline_of y) on outlines

    listed_only : (m : State) → object_at m o ≡ Some x → (z : Object) (d : ℕ) → object_at m o ≡ Some z
        → has (listed (f z).body) d ≡ has (listed z.body) d
    listed_only m at z d is =
        let both_are : Some x ≡ Some z = sym at ∙ is in
        let on : x ≡ z = cc in
        subst (λ (y : Object). has (listed (f y).body) d ≡ has (listed y.body) d) on (ap (λ ids. has ids d) lists)

-- two states of which l sees the same, in which all records are live
pub record Both (l : LabelValue) (s n : State) : Type 0 where
  pub same : IsSame l s n
  pub live : are_live (lists_of s.objects) ≡ true
  pub live_too : are_live (lists_of n.objects) ≡ true

pub both_changed : (l : LabelValue) (s n : State) (t o : ℕ) (f : Object → Object) (x : Object) → Worlds l s n t
    → object_at s o ≡ Some x → visible x.label l ≡ true → ((z : Object) → outline_of (f z) ≡ outline_of z)
    → ((z : Object) → listed (f z).body ≡ listed z.body) → Both l (changed s o f) (changed n o f)
both_changed l s n t o f x w found seen outlines lists = record {
  same = same_changed l s n o f x w.same found seen (outlines x) (lists x);
  live = ap are_live (lists_of-changed s o f lists) ∙ (soundness_of s w.sound).live;
  live_too = ap are_live (lists_of-changed n o f lists) ∙ (soundness_of n w.sound_too).live;
}

-- of an object that the caller observes
both_observed : (l : LabelValue) (s n : State) (t o : ℕ) (f : Object → Object) → Worlds l s n t
    → not (observes s t o) ≡ false → ((z : Object) → outline_of (f z) ≡ outline_of z)
    → ((z : Object) → listed (f z).body ≡ listed z.body) → Both l (changed s o f) (changed n o f)
both_observed l s n t o f w off outlines lists =
    let seen = observed_seen l s t o w.within (not-false (observes s t o) off) in
    both_changed l s n t o f seen.0 w seen.1 seen.2 outlines lists

rethread_outline : (f : thread.Thread → thread.Thread) (m : LabelValue) (q : ℕ) (b : body.Body)
    → outline m q (rethread f b) ≡ outline m q b
rethread_outline f m q (is.Segment bytes) = refl
rethread_outline f m q (is.Container avoid list) = refl
rethread_outline f m q (is.AddressSpace slots) = refl
rethread_outline f m q (is.Thread t) = refl
rethread_outline f m q (is.Gate g) = refl
rethread_outline f m q (is.Device packets) = refl

-- the entry of an address space that may name none
pub space_holds : (l : LabelValue) (s n : State) (t : ℕ) (e : Entry) → Worlds l s n t
    → (not (names_none e) && not (is_accessible s t e.container)) ≡ false
    → (not (names_none e) && not (holds n e)) ≡ (not (names_none e) && not (holds s e))
space_holds l s n t e w =
    elim (names_none e)
    as (λ b. (not b && not (is_accessible s t e.container)) ≡ false
    → (not b && not (holds n e)) ≡ (not b && not (holds s e))) [
      | true ↦ λ h. refl
      | false ↦ λ h. ap not (same_holds l s n t e w (not-false _ h))
    ]

pub space_kind : (l : LabelValue) (s n : State) (t : ℕ) (e : Entry) → Worlds l s n t
    → (not (names_none e) && not (is_accessible s t e.container)) ≡ false
    → (not (names_none e) && not (holds s e)) ≡ false
    → (not (names_none e) && not (is_kind_at n kinds.AddressSpace e.object))
    ≡ (not (names_none e) && not (is_kind_at s kinds.AddressSpace e.object))
space_kind l s n t e w =
    elim (names_none e)
    as (λ b. (not b && not (is_accessible s t e.container)) ≡ false → (not b && not (holds s e)) ≡ false
    → (not b && not (is_kind_at n kinds.AddressSpace e.object))
    ≡ (not b && not (is_kind_at s kinds.AddressSpace e.object))) [
      | true ↦ λ h g. refl
      | false ↦ λ h g. ap not (same_kind l s n t kinds.AddressSpace e w (not-false _ h) (not-false _ g))
    ]

-- the row of as_map, its conditions on entries put in the order of their numbers
abbrev map_row : State → ℕ → Entry → ℕ → Mapping → Row
map_row s t e slot m =
    halted s t ++ (NoAccess, not (is_accessible s t e.container)) ∷ (NoAccess, not (is_accessible s t m.entry.container))
    ∷ (NoEntry, not (holds s e)) ∷ (NoEntry, not (holds s m.entry)) ∷ drop 4 (row s t (call.AsMap e slot m))

map_sorted : (s : State) (t : ℕ) (e : Entry) (slot : ℕ) (m : Mapping)
    → refusal_of (halted s t ++ row s t (call.AsMap e slot m)) ≡ refusal_of (map_row s t e slot m)
map_sorted s t e slot m =
    let rest : Row = (NoEntry, not (holds s m.entry)) ∷ drop 4 (row s t (call.AsMap e slot m)) in
    let before : Row = (NoEntry, not (holds s e)) ∷ (NoAccess, not (is_accessible s t m.entry.container)) ∷ rest in
    let after : Row = (NoAccess, not (is_accessible s t m.entry.container)) ∷ (NoEntry, not (holds s e)) ∷ rest in
    let here : Refusal × Bool = (NoAccess, not (is_accessible s t e.container)) in
    cons_same (Halted, not (is_live_kind s kinds.Thread t)) (here ∷ before) (here ∷ after)
    (cons_same here before after
    (swapped NoEntry NoAccess refl (not (holds s e)) (not (is_accessible s t m.entry.container)) rest))

map_alike : (l : LabelValue) (s n : State) (t : ℕ) (e : Entry) (slot : ℕ) (m : Mapping) → Worlds l s n t
    → AlikeRows (map_row s t e slot m) (map_row n t e slot m)
map_alike l s n t e slot m w =
    (refl, same_halted l s n t w, λ h1. (refl, ap not (same_accessible l s n t e.container w), λ h2. (refl, ap not (same_accessible l s n t m.entry.container w), λ h3. (refl, ap not (same_holds l s n t e w (not-false _ h2)), λ h4. (refl, ap not (same_holds l s n t m.entry w (not-false _ h3)), λ h5. (refl, ap not (same_kind l s n t kinds.AddressSpace e w (not-false _ h2) (not-false _ h4)), λ h6. (refl, ap not (same_kind l s n t kinds.Segment m.entry w (not-false _ h3) (not-false _ h5)), λ h7. (refl, ap not (same_observes l s n t e.object w), λ h8. (refl, ap not (same_flows l s n t e.object w (observed_same l s n t e.object w (not-false _ h8))), λ h9. (refl, ap (λ v. of_object false (λ x. x.immutable) v) (observed_same l s n t e.object w (not-false _ h8)), λ h10. (refl, refl, λ h11. (refl, ap (λ v. is_some (slot_in (slice_get (of_object [] (λ x. slots_of x.body) v) slot)) || list_any (meets m) (of_object [] (λ x. slots_of x.body) v)) (observed_same l s n t e.object w (not-false _ h8)), λ h12. tt))))))))))))

-- the call whose row is put in order first
abbrev is_map : Call → Bool
is_map (call.AsMap e slot m) = true
is_map c = false

-- what the rows of the two worlds say
alike_call : (l : LabelValue) (s n : State) (t : ℕ) (c : Call) → is_plain c ≡ true → is_map c ≡ false
    → Worlds l s n t → AlikeRows (halted s t ++ row s t c) (halted n t ++ row n t c)
alike_call l s n t (call.SelfSetAs e) plain other w =
    (refl, same_halted l s n t w, λ h1. (refl, ap (λ b. not (names_none e) && not b) (same_accessible l s n t e.container w), λ h2. (refl, space_holds l s n t e w h2, λ h3. (refl, space_kind l s n t e w h2 h3, λ h4. tt))))
alike_call l s n t (call.SetFixed e) plain other w =
    (refl, same_halted l s n t w, λ h1. (refl, ap not (same_accessible l s n t e.container w), λ h2. (refl, ap not (same_holds l s n t e w (not-false _ h2)), λ h3. (refl, ap not (same_observes l s n t e.object w), λ h4. (refl, ap not (same_flows l s n t e.object w (observed_same l s n t e.object w (not-false _ h4))), λ h5. (refl, ap (λ v. of_object false (λ x. x.immutable) v) (observed_same l s n t e.object w (not-false _ h4)), λ h6. tt))))))
alike_call l s n t (call.SetImmutable e) plain other w =
    (refl, same_halted l s n t w, λ h1. (refl, ap not (same_accessible l s n t e.container w), λ h2. (refl, ap not (same_holds l s n t e w (not-false _ h2)), λ h3. (refl, same_kind l s n t kinds.Thread e w (not-false _ h2) (not-false _ h3), λ h4. (refl, same_kind l s n t kinds.Device e w (not-false _ h2) (not-false _ h3), λ h5. (refl, ap not (same_observes l s n t e.object w), λ h6. (refl, ap not (same_flows l s n t e.object w (observed_same l s n t e.object w (not-false _ h6))), λ h7. tt)))))))
alike_call l s n t (call.MetaSet e bytes) plain other w =
    (refl, same_halted l s n t w, λ h1. (refl, ap not (same_accessible l s n t e.container w), λ h2. (refl, ap not (same_holds l s n t e w (not-false _ h2)), λ h3. (refl, same_kind l s n t kinds.Thread e w (not-false _ h2) (not-false _ h3), λ h4. (refl, ap not (same_observes l s n t e.object w), λ h5. (refl, ap not (same_flows l s n t e.object w (observed_same l s n t e.object w (not-false _ h5))), λ h6. (refl, ap (λ v. of_object false (λ x. x.immutable) v) (observed_same l s n t e.object w (not-false _ h5)), λ h7. tt)))))))
alike_call l s n t (call.SegmentResize e pages) plain other w =
    (refl, same_halted l s n t w, λ h1. (refl, ap not (same_accessible l s n t e.container w), λ h2. (refl, ap not (same_holds l s n t e w (not-false _ h2)), λ h3. (refl, ap not (same_kind l s n t kinds.Segment e w (not-false _ h2) (not-false _ h3)), λ h4. (refl, ap not (same_observes l s n t e.object w), λ h5. (refl, ap not (same_flows l s n t e.object w (observed_same l s n t e.object w (not-false _ h5))), λ h6. (refl, ap (λ v. nat_lt (of_object 0 (λ x. x.quota) v) (1 + pages)) (observed_same l s n t e.object w (not-false _ h5)), λ h7. (refl, ap (λ v. of_object false (λ x. x.immutable) v) (observed_same l s n t e.object w (not-false _ h5)), λ h8. (refl, refl, λ h9. tt)))))))))
alike_call l s n t (call.SegmentWrite e a bytes) plain other w =
    (refl, same_halted l s n t w, λ h1. (refl, ap not (same_accessible l s n t e.container w), λ h2. (refl, ap not (same_holds l s n t e w (not-false _ h2)), λ h3. (refl, ap not (same_kind l s n t kinds.Segment e w (not-false _ h2) (not-false _ h3)), λ h4. (refl, ap not (same_observes l s n t e.object w), λ h5. (refl, ap not (same_flows l s n t e.object w (observed_same l s n t e.object w (not-false _ h5))), λ h6. (refl, ap (λ v. of_object false (λ x. x.immutable) v) (observed_same l s n t e.object w (not-false _ h5)), λ h7. (refl, refl, λ h8. (refl, ap (λ v. nat_lt (256 * (length (of_object [] (λ x. bytes_of x.body) v) / 256)) (a + length bytes)) (observed_same l s n t e.object w (not-false _ h5)), λ h9. tt)))))))))
alike_call l s n t (call.AsUnmap e slot) plain other w =
    (refl, same_halted l s n t w, λ h1. (refl, ap not (same_accessible l s n t e.container w), λ h2. (refl, ap not (same_holds l s n t e w (not-false _ h2)), λ h3. (refl, ap not (same_kind l s n t kinds.AddressSpace e w (not-false _ h2) (not-false _ h3)), λ h4. (refl, ap not (same_observes l s n t e.object w), λ h5. (refl, ap not (same_flows l s n t e.object w (observed_same l s n t e.object w (not-false _ h5))), λ h6. (refl, ap (λ v. of_object false (λ x. x.immutable) v) (observed_same l s n t e.object w (not-false _ h5)), λ h7. (refl, refl, λ h8. (refl, ap (λ v. is_none (slot_in (slice_get (of_object [] (λ x. slots_of x.body) v) slot))) (observed_same l s n t e.object w (not-false _ h5)), λ h9. tt)))))))))
alike_call l s n t (call.Store address bytes) plain other w =
    (refl, same_halted l s n t w, λ h1. (refl, refl, λ h2. (refl, ap is_none (same_place l s n t address w), λ h3. (refl, ap (λ p. not (allows may_write p)) (same_place l s n t address w), λ h4. tt))))
alike_call l s n t (call.DevSend e bytes) plain other w =
    (refl, same_halted l s n t w, λ h1. (refl, ap not (same_accessible l s n t e.container w), λ h2. (refl, ap not (same_holds l s n t e w (not-false _ h2)), λ h3. (refl, ap not (same_kind l s n t kinds.Device e w (not-false _ h2) (not-false _ h3)), λ h4. (refl, ap not (same_observes l s n t e.object w), λ h5. (refl, ap not (same_flows l s n t e.object w (observed_same l s n t e.object w (not-false _ h5))), λ h6. (refl, refl, λ h7. (refl, ap (λ v. nat_le 4 (length (of_object [] (λ x. packets_of x.body) v))) (observed_same l s n t e.object w (not-false _ h5)), λ h8. tt))))))))
alike_call l s n t (call.DevRecv e) plain other w =
    (refl, same_halted l s n t w, λ h1. (refl, ap not (same_accessible l s n t e.container w), λ h2. (refl, ap not (same_holds l s n t e w (not-false _ h2)), λ h3. (refl, ap not (same_kind l s n t kinds.Device e w (not-false _ h2) (not-false _ h3)), λ h4. (refl, ap not (same_observes l s n t e.object w), λ h5. (refl, ap not (same_flows l s n t e.object w (observed_same l s n t e.object w (not-false _ h5))), λ h6. (refl, ap (λ v. length (of_object [] (λ x. packets_of x.body) v) == 0) (observed_same l s n t e.object w (not-false _ h5)), λ h7. tt)))))))
alike_call l s n t call.CatCreate plain other w = absurd (cc)
alike_call l s n t (call.SelfSetLabel x) plain other w = absurd (cc)
alike_call l s n t (call.SelfSetClearance y) plain other w = absurd (cc)
alike_call l s n t (call.ContainerCreate k) plain other w = absurd (cc)
alike_call l s n t (call.SegmentCreate k) plain other w = absurd (cc)
alike_call l s n t (call.SegmentCopy k) plain other w = absurd (cc)
alike_call l s n t (call.AsCreate k) plain other w = absurd (cc)
alike_call l s n t (call.ThreadCreate k) plain other w = absurd (cc)
alike_call l s n t (call.GateCreate k) plain other w = absurd (cc)
alike_call l s n t (call.Link d e) plain other w = absurd (cc)
alike_call l s n t (call.Unref e) plain other w = absurd (cc)
alike_call l s n t (call.QuotaMove e k) plain other w = absurd (cc)
alike_call l s n t (call.GateEnter e r q v) plain other w = absurd (cc)
alike_call l s n t (call.AsMap e slot m) plain other w = absurd (cc)

rise : (s : State) (t : ℕ) (c : Call) → is_plain c ≡ true → is_map c ≡ false → rises (halted s t ++ row s t c) ≡ true
rise s t (call.SelfSetAs e) plain other = refl
rise s t (call.SetFixed e) plain other = refl
rise s t (call.SetImmutable e) plain other = refl
rise s t (call.MetaSet e bytes) plain other = refl
rise s t (call.SegmentResize e pages) plain other = refl
rise s t (call.SegmentWrite e a bytes) plain other = refl
rise s t (call.AsUnmap e slot) plain other = refl
rise s t (call.Store address bytes) plain other = refl
rise s t (call.DevSend e bytes) plain other = refl
rise s t (call.DevRecv e) plain other = refl
rise s t call.CatCreate plain other = absurd (cc)
rise s t (call.SelfSetLabel x) plain other = absurd (cc)
rise s t (call.SelfSetClearance y) plain other = absurd (cc)
rise s t (call.ContainerCreate k) plain other = absurd (cc)
rise s t (call.SegmentCreate k) plain other = absurd (cc)
rise s t (call.SegmentCopy k) plain other = absurd (cc)
rise s t (call.AsCreate k) plain other = absurd (cc)
rise s t (call.ThreadCreate k) plain other = absurd (cc)
rise s t (call.GateCreate k) plain other = absurd (cc)
rise s t (call.Link d e) plain other = absurd (cc)
rise s t (call.Unref e) plain other = absurd (cc)
rise s t (call.QuotaMove e k) plain other = absurd (cc)
rise s t (call.GateEnter e r q v) plain other = absurd (cc)
rise s t (call.AsMap e slot m) plain other = absurd (cc)

-- the refusal is one
pub same_refused : (l : LabelValue) (s n : State) (t : ℕ) (c : Call) → is_plain c ≡ true → Worlds l s n t
    → refused n t c ≡ refused s t c
unfolding refused
same_refused l s n t (call.AsMap e slot m) plain w =
    map_sorted n t e slot m
    ∙ alike_refusal (map_row s t e slot m) (map_row n t e slot m) (map_alike l s n t e slot m w) refl refl
    ∙ sym (map_sorted s t e slot m)
same_refused l s n t c plain w =
    elim (is_map c)
    as (λ b. is_map c ≡ b → refusal_of (halted n t ++ row n t c) ≡ refusal_of (halted s t ++ row s t c)) [
      | true ↦ λ is. absurd (cc)
      | false ↦ λ is.
          alike_refusal (halted s t ++ row s t c) (halted n t ++ row n t c) (alike_call l s n t c plain is w)
          (rise s t c plain is) (rise n t c plain is)
    ] refl

both_stored : (l : LabelValue) (s n : State) (t address : ℕ) (bytes : List ℕ) → Worlds l s n t
    → is_none (place_of s t address) ≡ false
    → Both l (stored_at s (place_of s t address) bytes) (stored_at n (place_of s t address) bytes)
both_stored l s n t address bytes w there =
    elim (place_of s t address)
    as (λ v. place_of s t address ≡ v → is_none v ≡ false → Both l (stored_at s v bytes) (stored_at n v bytes)) [
      | None ↦ λ is h. absurd (cc)
      | Some p ↦ λ is h.
          both_observed l s n t p.segment _ w (ap not (place_observed s t address p is))
          (λ x. rebyte_outline _ x.label x.quota x.body) (λ x. listed-rebyte _ x.body)
    ] refl there

-- the edits of the two worlds
both_edit : (l : LabelValue) (s n : State) (t : ℕ) (c : Call) → is_plain c ≡ true → Worlds l s n t
    → refused s t c ≡ None → Both l (edit s t c) (edit n t c)
unfolding refused
both_edit l s n t (call.SelfSetAs e) plain w h =
    let c : Caller l s t = caller_of l s t w.within in
    both_changed l s n t t _ c.object w c.found (shown_visible c.object.label l c.within)
    (λ x. rethread_outline _ x.label x.quota x.body) (λ x. listed-rethread _ x.body)
both_edit l s n t (call.SetFixed e) plain w h =
    let none = none_hold (halted s t ++ row s t (call.SetFixed e)) h in
    both_observed l s n t e.object _ w none.1.1.1.0 (λ x. refl) (λ x. refl)
both_edit l s n t (call.SetImmutable e) plain w h =
    let none = none_hold (halted s t ++ row s t (call.SetImmutable e)) h in
    both_observed l s n t e.object _ w none.1.1.1.1.1.0 (λ x. refl) (λ x. refl)
both_edit l s n t (call.MetaSet e bytes) plain w h =
    let none = none_hold (halted s t ++ row s t (call.MetaSet e bytes)) h in
    both_observed l s n t e.object _ w none.1.1.1.1.0 (λ x. refl) (λ x. refl)
both_edit l s n t (call.SegmentResize e pages) plain w h =
    let none = none_hold (halted s t ++ row s t (call.SegmentResize e pages)) h in
    both_observed l s n t e.object _ w none.1.1.1.1.0 (λ x. rebyte_outline _ x.label x.quota x.body)
    (λ x. listed-rebyte _ x.body)
both_edit l s n t (call.SegmentWrite e a bytes) plain w h =
    let none = none_hold (halted s t ++ row s t (call.SegmentWrite e a bytes)) h in
    both_observed l s n t e.object _ w none.1.1.1.1.0 (λ x. rebyte_outline _ x.label x.quota x.body)
    (λ x. listed-rebyte _ x.body)
both_edit l s n t (call.AsMap e slot m) plain w h =
    let none = none_hold (halted s t ++ row s t (call.AsMap e slot m)) h in
    both_observed l s n t e.object _ w none.1.1.1.1.1.1.1.0 (λ x. reslot_outline _ x.label x.quota x.body)
    (λ x. reslot_lists _ x.body)
both_edit l s n t (call.AsUnmap e slot) plain w h =
    let none = none_hold (halted s t ++ row s t (call.AsUnmap e slot)) h in
    both_observed l s n t e.object _ w none.1.1.1.1.0 (λ x. reslot_outline _ x.label x.quota x.body)
    (λ x. reslot_lists _ x.body)
both_edit l s n t (call.Store address bytes) plain w h =
    let none = none_hold (halted s t ++ row s t (call.Store address bytes)) h in
    subst (λ (p : Option Place). Both l (stored_at s (place_of s t address) bytes) (stored_at n p bytes))
    (sym (same_place l s n t address w)) (both_stored l s n t address bytes w none.1.1.0)
both_edit l s n t (call.DevSend e bytes) plain w h =
    let none = none_hold (halted s t ++ row s t (call.DevSend e bytes)) h in
    both_observed l s n t e.object _ w none.1.1.1.1.0 (λ x. requeue_outline _ x.label x.quota x.body)
    (λ x. requeue_lists _ x.body)
both_edit l s n t (call.DevRecv e) plain w h =
    let none = none_hold (halted s t ++ row s t (call.DevRecv e)) h in
    both_observed l s n t e.object _ w none.1.1.1.1.0 (λ x. requeue_outline _ x.label x.quota x.body)
    (λ x. requeue_lists _ x.body)
both_edit l s n t call.CatCreate plain w h = absurd (cc)
both_edit l s n t (call.SelfSetLabel x) plain w h = absurd (cc)
both_edit l s n t (call.SelfSetClearance y) plain w h = absurd (cc)
both_edit l s n t (call.ContainerCreate k) plain w h = absurd (cc)
both_edit l s n t (call.SegmentCreate k) plain w h = absurd (cc)
both_edit l s n t (call.SegmentCopy k) plain w h = absurd (cc)
both_edit l s n t (call.AsCreate k) plain w h = absurd (cc)
both_edit l s n t (call.ThreadCreate k) plain w h = absurd (cc)
both_edit l s n t (call.GateCreate k) plain w h = absurd (cc)
both_edit l s n t (call.Link d e) plain w h = absurd (cc)
both_edit l s n t (call.Unref e) plain w h = absurd (cc)
both_edit l s n t (call.QuotaMove e k) plain w h = absurd (cc)
both_edit l s n t (call.GateEnter e r q v) plain w h = absurd (cc)

-- what they answer
same_accepted : (l : LabelValue) (s n : State) (t : ℕ) (c : Call) → is_plain c ≡ true → Worlds l s n t
    → refused s t c ≡ None → accepted n t c ≡ accepted s t c
unfolding refused
same_accepted l s n t (call.SelfSetAs e) plain w h = refl
same_accepted l s n t (call.SetFixed e) plain w h = refl
same_accepted l s n t (call.SetImmutable e) plain w h = refl
same_accepted l s n t (call.MetaSet e bytes) plain w h = refl
same_accepted l s n t (call.SegmentResize e pages) plain w h = refl
same_accepted l s n t (call.SegmentWrite e a bytes) plain w h = refl
same_accepted l s n t (call.AsUnmap e slot) plain w h = refl
same_accepted l s n t (call.Store address bytes) plain w h = refl
same_accepted l s n t (call.DevSend e bytes) plain w h = refl
same_accepted l s n t (call.AsMap e slot m) plain w h = refl
same_accepted l s n t (call.DevRecv e) plain w h =
    let none = none_hold (halted s t ++ row s t (call.DevRecv e)) h in
    ap (λ v. first_packet (of_object [] (λ x. packets_of x.body) v))
    (observed_same l s n t e.object w (not-false _ none.1.1.1.1.0))
same_accepted l s n t call.CatCreate plain w h = absurd (cc)
same_accepted l s n t (call.SelfSetLabel x) plain w h = absurd (cc)
same_accepted l s n t (call.SelfSetClearance y) plain w h = absurd (cc)
same_accepted l s n t (call.ContainerCreate k) plain w h = absurd (cc)
same_accepted l s n t (call.SegmentCreate k) plain w h = absurd (cc)
same_accepted l s n t (call.SegmentCopy k) plain w h = absurd (cc)
same_accepted l s n t (call.AsCreate k) plain w h = absurd (cc)
same_accepted l s n t (call.ThreadCreate k) plain w h = absurd (cc)
same_accepted l s n t (call.GateCreate k) plain w h = absurd (cc)
same_accepted l s n t (call.Link d e) plain w h = absurd (cc)
same_accepted l s n t (call.Unref e) plain w h = absurd (cc)
same_accepted l s n t (call.QuotaMove e k) plain w h = absurd (cc)
same_accepted l s n t (call.GateEnter e r q v) plain w h = absurd (cc)

pub steps_alike : StepsStayAlike
steps_alike l s n t c sound sound_too same within plain =
    let w : Worlds l s n t =
    record { sound = sound; sound_too = sound_too; same = same; within = within } in
    elim (refused s t c)
    as (λ v. refused s t c ≡ v → (answer n t c ≡ answer s t c) × IsSame l (next s t c) (next n t c)) [
      | None ↦ λ h.
          let too : refused n t c ≡ None = same_refused l s n t c plain w ∙ h in
          let b : Both l (edit s t c) (edit n t c) = both_edit l s n t c plain w h in
          let here : next s t c ≡ edit s t c = (step_done s t c h).1 ∙ restricted_live (edit s t c) b.live in
          let there : next n t c ≡ edit n t c = (step_done n t c too).1 ∙ restricted_live (edit n t c) b.live_too in (
            (step_done n t c too).0 ∙ same_accepted l s n t c plain w h ∙ sym (step_done s t c h).0,
            subst (λ (m : State). IsSame l m (next n t c)) (sym here)
                (subst (λ (m : State). IsSame l (edit s t c) m) (sym there) b.same),
          )
      | Some r ↦ λ h.
          let too : refused n t c ≡ Some r = same_refused l s n t c plain w ∙ h in (
            (step_refused n t c r too).0 ∙ sym (step_refused s t c r h).0,
            subst (λ (m : State). IsSame l m (next n t c)) (sym (step_refused s t c r h).1)
                (subst (λ (m : State). IsSame l s m) (sym (step_refused n t c r too).1) same),
          )
    ] refl
