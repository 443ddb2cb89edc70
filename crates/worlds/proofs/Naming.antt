-- A link and a move of quota in two worlds, in which what is named has the same label, fixed and immutable flags.
use Rattle.std.proofs.Common.{◌≡◌, ◌≢◌, ℕ, ◌+◌, ◌-◌, Bool, true, false, cond, not, ◌&&◌, ◌||◌, ◌==◌, ◌++◌, nat_lt, [], ◌∷◌}
use Rattle.std.proofs.Common.{Option, Some, None, refl, sym, ◌∙◌, ap, subst, take, drop, ℤ}
use Rattle.std.specs.Option.{option_map, option_and_then}
use Rattle.std.specs.Ordering.{nat_cmp}
use Rattle.std.specs.BTreeMap.{is_at}
use Rattle.std.proofs.lemmas.Bool.{and_parts, not-false, both_ways, eq-eqb, eqb-true}
use Rattle.base.specs.Live.{has, are_live}
use Rattle.base.specs.declared.kinds.Kind as kind
use Rattle.base.specs.declared.kinds.Kind.TheVariants as kinds
use Rattle.label_lattice.specs.Label.{LabelValue}
use Rattle.label_lattice.specs.LabelRules.{both, below, visible}
use Rattle.kernel_rules.specs.State.{State, object_at, of_object, listed, is_kind, is_kind_at, holds}
use Rattle.kernel_rules.specs.State.{is_accessible, observes, avoids, clearance_of, use_of, kind_of}
use Rattle.kernel_rules.specs.Changes.{put, changed, listing, requoted}
use Rattle.kernel_rules.specs.Conditions.{pages_up, pages_down}
use Rattle.kernel_rules.specs.Rows.{row_of, running, at_container, in_container, not_of_kind}
use Rattle.kernel_rules.specs.Table.{halted, refused, row}
use Rattle.kernel_rules.specs.Step.{next, answer, accepted, edit}
use Rattle.kernel_rules.specs.declared.calls.Call.{Call}
use Rattle.kernel_rules.specs.declared.calls.Call.TheVariants as call
use Rattle.kernel_rules.specs.declared.calls.Entry.{Entry}
use Rattle.kernel_rules.specs.declared.objects.Object.{Object}
use Rattle.kernel_rules.proofs.LookupLaws.{lookup_put}
use Rattle.kernel_rules.proofs.RecordLaws.{same_id, restricted_live}
use Rattle.kernel_rules.proofs.RowLaws.{none_hold}
use Rattle.kernel_rules.proofs.StepLaws.{step_refused, step_done}
use Rattle.kernel_rules.proofs.WellFormedLaws.{soundness_of}
use Rattle.kernel_rules.proofs.ListingLaws.{kind-listing}
use Rattle.worlds.specs.Seen.{if_visible, seen_at, outline_of, Outline, IsSame, untold, Untold}
use Rattle.worlds.specs.Laws.{NamedStepsStayAlike, IsNamedAlike}
use Rattle.worlds.proofs.Relisting.{lists_of-changed}
use Rattle.worlds.proofs.Unseen.{read, read_changed, lister_changed, same_from}
use Rattle.worlds.proofs.Quietly.{has_linked, relist_outline, linked_live, seen_container}
use Rattle.worlds.proofs.Alike.{AlikeFront, front_refusal}
use Rattle.worlds.proofs.Shared.{Worlds, caller_same, observed_same, container_same, same_halted, observed_seen}
use Rattle.worlds.proofs.Shared.{same_observes, same_accessible, accessible_observed, same_holds, same_kind, seen_object}
use Rattle.worlds.proofs.Shared.{named_same, same_quota, told_same, lists_accessible}
use Rattle.worlds.proofs.Placing.{same_flows}
use Rattle.worlds.proofs.Queries.{same_use}
use Rattle.worlds.proofs.Plainly.{Both, changed_at, tested_before, lister_same}

-- each part of what is not told
abbrev labelled_so : Option Untold → Option LabelValue
labelled_so v = option_map (λ u. u.label) v

abbrev fixed_so : Option Untold → Bool
fixed_so None = false
fixed_so (Some u) = u.fixed

abbrev immutable_so : Option Untold → Bool
immutable_so None = false
immutable_so (Some u) = u.immutable

label_so : (v : Option Object) → option_map (λ x. x.label) v ≡ labelled_so (option_map untold v)
label_so None = refl
label_so (Some x) = refl

is_fixed_so : (v : Option Object) → of_object false (λ x. x.fixed) v ≡ fixed_so (option_map untold v)
is_fixed_so None = refl
is_fixed_so (Some x) = refl

is_immutable_so : (v : Option Object) → of_object false (λ x. x.immutable) v ≡ immutable_so (option_map untold v)
is_immutable_so None = refl
is_immutable_so (Some x) = refl

untold_label : (s n : State) (o : ℕ) → read untold n o ≡ read untold s o
    → option_map (λ x. x.label) (object_at n o) ≡ option_map (λ x. x.label) (object_at s o)
untold_label s n o h = label_so (object_at n o) ∙ ap labelled_so h ∙ sym (label_so (object_at s o))

untold_fixed : (s n : State) (o : ℕ) → read untold n o ≡ read untold s o
    → of_object false (λ x. x.fixed) (object_at n o) ≡ of_object false (λ x. x.fixed) (object_at s o)
untold_fixed s n o h = is_fixed_so (object_at n o) ∙ ap fixed_so h ∙ sym (is_fixed_so (object_at s o))

untold_immutable : (s n : State) (o : ℕ) → read untold n o ≡ read untold s o
    → of_object false (λ x. x.immutable) (object_at n o) ≡ of_object false (λ x. x.immutable) (object_at s o)
untold_immutable s n o h =
    is_immutable_so (object_at n o) ∙ ap immutable_so h ∙ sym (is_immutable_so (object_at s o))

-- whether a container avoids the kind of an outline
abbrev avoided : (kind.Kind → Bool) → Option Outline → Bool
avoided g None = true
avoided g (Some u) = g u.kind

avoided_is : (g : kind.Kind → Bool) (v : Option Object)
    → of_object true (λ x. g (kind_of x.body)) v ≡ avoided g (option_map outline_of v)
avoided_is g None = refl
avoided_is g (Some x) = refl

same_avoids : (s n : State) (d o : ℕ) → object_at n d ≡ object_at s d
    → read outline_of n o ≡ read outline_of s o
    → of_object true (λ x. of_object false (λ y. avoids (kind_of x.body) y.body) (object_at n d)) (object_at n o)
    ≡ of_object true (λ x. of_object false (λ y. avoids (kind_of x.body) y.body) (object_at s d)) (object_at s o)
same_avoids s n d o same h =
    avoided_is (λ k. of_object false (λ x. avoids k x.body) (object_at n d)) (object_at n o)
    ∙ (λ i. avoided (λ k. of_object false (λ x. avoids k x.body) (same i)) (h i))
    ∙ sym (avoided_is (λ k. of_object false (λ x. avoids k x.body) (object_at s d)) (object_at s o))

-- what is used is asked only where the object is observed
room_down : (l : LabelValue) (s n : State) (t o : ℕ) (b : Bool) (less : ℕ) → Worlds l s n t
    → (b && not (observes s t o)) ≡ false
    → (b && nat_lt (of_object 0 (λ x. x.quota) (object_at n o)) (use_of n o + less))
    ≡ (b && nat_lt (of_object 0 (λ x. x.quota) (object_at s o)) (use_of s o + less))
room_down l s n t o true less w h =
    let seen : observes s t o ≡ true = not-false _ h in
    (λ i. nat_lt (of_object 0 (λ x. x.quota) (observed_same l s n t o w seen i)) (same_use l s n t w o seen i + less))
room_down l s n t o false less w h = refl

link_alike : (l : LabelValue) (s n : State) (t d : ℕ) (e : Entry) → Worlds l s n t
    → read untold n e.object ≡ read untold s e.object
    → AlikeFront (row_of s t (running ++ at_container d ++ in_container e ++ not_of_kind kinds.Container e.object))
    (row_of n t (running ++ at_container d ++ in_container e ++ not_of_kind kinds.Container e.object))
    (drop 4 (row s t (call.Link d e))) (drop 4 (row n t (call.Link d e)))
link_alike l s n t d e w u =
    (refl, same_halted l s n t w, λ h1. (refl, ap not (same_accessible l s n t d w), λ h2. (refl, ap not (same_accessible l s n t e.container w), λ h3. (refl, ap not (same_holds l s n t e w (not-false _ h3)), λ h4. (refl, same_kind l s n t kinds.Container e w (not-false _ h3) (not-false _ h4), λ h5. (refl, ap not (same_observes l s n t d w), (refl, ap not (same_flows l s n t d w (container_same l s n t d w (not-false _ h2))), (refl, (λ i. not (both below (untold_label s n e.object u i) (option_and_then (λ x. clearance_of x.body) (caller_same l s n t w i)))), (refl, same_avoids s n d e.object (container_same l s n t d w (not-false _ h2)) (named_same l s n t e w (not-false _ h3) (not-false _ h4)), (refl, (λ i. nat_lt (of_object 0 (λ x. x.quota) ((container_same l s n t d w (not-false _ h2)) i)) (same_use l s n t w d (accessible_observed s t d (not-false _ h2)) i + same_quota s n e.object (named_same l s n t e w (not-false _ h3) (not-false _ h4)) i)), (refl, ap not (untold_fixed s n e.object u), (refl, ap (λ v. has (of_object [] (λ x. listed x.body) v) e.object) (container_same l s n t d w (not-false _ h2)), (refl, ap (of_object false (λ x. x.immutable)) (container_same l s n t d w (not-false _ h2)), tt)))))))))))))

move_alike : (l : LabelValue) (s n : State) (t : ℕ) (e : Entry) (m : ℤ) → Worlds l s n t
    → read untold n e.object ≡ read untold s e.object
    → AlikeFront (take 4 (halted s t ++ row s t (call.QuotaMove e m))) (take 4 (halted n t ++ row n t (call.QuotaMove e m)))
    (drop 3 (row s t (call.QuotaMove e m))) (drop 3 (row n t (call.QuotaMove e m)))
move_alike l s n t e m w u =
    (refl, same_halted l s n t w, λ h1. (refl, ap not (same_accessible l s n t e.container w), λ h2. (refl, ap (λ v. not (has (of_object [] (λ x. listed x.body) v) e.object)) (container_same l s n t e.container w (not-false _ h2)), λ h3. (refl, ap (λ b. nat_lt 0 (pages_down m) && not b) (same_observes l s n t e.object w), λ h4. (refl, ap not (same_observes l s n t e.container w), (refl, ap not (same_flows l s n t e.container w (container_same l s n t e.container w (not-false _ h2))), (refl, (λ i. not (both below (option_map (λ x. x.label) (caller_same l s n t w i)) (untold_label s n e.object u i))), (refl, (λ i. not (both below (untold_label s n e.object u i) (option_and_then (λ x. clearance_of x.body) (caller_same l s n t w i)))), (refl, (λ i. (nat_lt 0 (pages_up m) && nat_lt (of_object 0 (λ x. x.quota) ((container_same l s n t e.container w (not-false _ h2)) i)) (same_use l s n t w e.container (accessible_observed s t e.container (not-false _ h2)) i + pages_up m)) || room_down l s n t e.object (nat_lt 0 (pages_down m)) (pages_down m) w h4 i), (refl, untold_fixed s n e.object u, (refl, ap (of_object false (λ x. x.immutable)) (container_same l s n t e.container w (not-false _ h2)), (refl, untold_immutable s n e.object u, tt))))))))))))

-- a link more of what has the same outline in both
linked_same : (l : LabelValue) (s n : State) (d o : ℕ) (y : Object) → IsSame l s n → object_at s d ≡ Some y
    → visible y.label l ≡ true → read outline_of n o ≡ read outline_of s o
    → is_kind_at s kinds.Container o ≡ false → IsSame l (changed s d (listing o)) (changed n d (listing o))
linked_same l s n d o y same found seen outlines plain =
    let too : object_at n d ≡ Some y = seen_object l s n d y same found seen ∙ found in
    same_from l (changed s d (listing o)) (changed n d (listing o))
    (λ q. ap (if_visible l) (changed_at n d (listing o) y q too)
    ∙ elim (is_at (nat_cmp q) d)
    as (λ b. if_visible l (cond b (Some (listing o y)) (object_at n q))
    ≡ if_visible l (cond b (Some (listing o y)) (object_at s q))) [
      | true ↦ refl
      | false ↦ same.objects q
    ]
    ∙ sym (ap (if_visible l) (changed_at s d (listing o) y q found)))
    (λ c q h. read_changed outline_of n d (listing o)
    (λ x at. relist_outline (λ ids. ids ++ o ∷ []) x.label x.quota x.body) q
    ∙ elim (q == o)
    as (λ b. (q == o) ≡ b → read outline_of n q ≡ read outline_of s q) [
      | true ↦ λ is. subst (λ k. read outline_of n k ≡ read outline_of s k) (sym (eqb-true q o is)) outlines
      | false ↦ λ off. told_same l s n c q same
          (tested_before l s d (listing o) y (λ z. has (listed z.body) q) c found seen
          (has_linked o q y.body (λ on. both_ways (q == o) off (eq-eqb q o on))) h)
    ] refl
    ∙ sym (read_changed outline_of s d (listing o)
    (λ x at. relist_outline (λ ids. ids ++ o ∷ []) x.label x.quota x.body) q))
    (λ c h.
    let was : of_object false (is_kind kinds.Container) (seen_at l s c) ≡ true =
    tested_before l s d (listing o) y (is_kind kinds.Container) c found seen (kind-listing y o) h in
    let other : c ≢ o = (λ on.
    both_ways (is_kind_at s kinds.Container o) plain
    (subst (λ k. is_kind_at s kinds.Container k ≡ true) on (seen_container l s c was))) in
    lister_changed c n d (listing o) (λ x at. has_linked o c x.body other)
    ∙ lister_same l s n c same was
    ∙ sym (lister_changed c s d (listing o) (λ x at. has_linked o c x.body other)))

-- a change that is one of outlines, and leaves label, kind and list
pub mapped_at : (s : State) (o : ℕ) (f : Object → Object) (q : ℕ)
    → object_at (changed s o f) q ≡ cond (is_at (nat_cmp q) o) (option_map f (object_at s o)) (object_at s q)
mapped_at s o f q =
    elim (object_at s o)
    as (λ v. object_at s o ≡ v → object_at (of_object s (λ z. put s o (f z)) v) q
    ≡ cond (is_at (nat_cmp q) o) (option_map f v) (object_at s q)) [
      | None ↦ λ is. elim (is_at (nat_cmp q) o)
          as (λ b. is_at (nat_cmp q) o ≡ b → object_at s q ≡ cond b None (object_at s q)) [
            | true ↦ λ near. ap (object_at s) (same_id q o near) ∙ is
            | false ↦ λ far. refl
          ] refl
      | Some x ↦ λ is. lookup_put o q s.objects x (f x) is
    ] refl

moved_seen : (l : LabelValue) (more less : ℕ) (v : Option Object)
    → if_visible l (option_map (requoted more less) v) ≡ option_map (requoted more less) (if_visible l v)
moved_seen l more less None = refl
moved_seen l more less (Some x) =
    elim (visible x.label l)
    as (λ b. cond b (Some (requoted more less x)) None ≡ option_map (requoted more less) (cond b (Some x) None)) [
      | true ↦ refl
      | false ↦ refl
    ]

abbrev moved_outline : ℕ → ℕ → Outline → Outline
moved_outline more less u = record { kind = u.kind; quota = (u.quota + more) - less; label = u.label; gate = u.gate }

moved_told : (more less : ℕ) (v : Option Object)
    → option_map outline_of (option_map (requoted more less) v) ≡ option_map (moved_outline more less) (option_map outline_of v)
moved_told more less None = refl
moved_told more less (Some x) = refl

-- a test that the change leaves
tested_moved : (g : Object → Bool) (more less : ℕ) (v : Option Object)
    → ((x : Object) → g (requoted more less x) ≡ g x)
    → of_object false g (option_map (requoted more less) v) ≡ of_object false g v
tested_moved g more less None h = refl
tested_moved g more less (Some x) h = h x

moved_same : (l : LabelValue) (s n : State) (o more less : ℕ) → IsSame l s n
    → read outline_of n o ≡ read outline_of s o
    → IsSame l (changed s o (requoted more less)) (changed n o (requoted more less))
moved_same l s n o more less same outlines =
    same_from l (changed s o (requoted more less)) (changed n o (requoted more less))
    (λ q. seen_so n q
    ∙ (λ i. cond (is_at (nat_cmp q) o) (option_map (requoted more less) (same.objects o i)) (same.objects q i))
    ∙ sym (seen_so s q))
    (λ c q h. read_so n q
    ∙ (λ i. cond (is_at (nat_cmp q) o) (option_map (moved_outline more less) (outlines i))
    (told_same l s n c q same (before (λ z. has (listed z.body) q) c (λ x. refl) h) i))
    ∙ sym (read_so s q))
    (λ c h. lister_changed c n o (requoted more less) (λ x at. refl)
    ∙ lister_same l s n c same (before (is_kind kinds.Container) c (λ x. refl) h)
    ∙ sym (lister_changed c s o (requoted more less) (λ x at. refl)))
  where
    seen_so : (m : State) (q : ℕ) → seen_at l (changed m o (requoted more less)) q
        ≡ cond (is_at (nat_cmp q) o) (option_map (requoted more less) (seen_at l m o)) (seen_at l m q)
    seen_so m q =
        ap (if_visible l) (mapped_at m o (requoted more less) q) ∙
        elim (is_at (nat_cmp q) o)
        as (λ b. if_visible l (cond b (option_map (requoted more less) (object_at m o)) (object_at m q))
        ≡ cond b (option_map (requoted more less) (seen_at l m o)) (seen_at l m q)) [
          | true ↦ moved_seen l more less (object_at m o)
          | false ↦ refl
        ]

    read_so : (m : State) (q : ℕ) → read outline_of (changed m o (requoted more less)) q
        ≡ cond (is_at (nat_cmp q) o) (option_map (moved_outline more less) (read outline_of m o)) (read outline_of m q)
    read_so m q =
        ap (option_map outline_of) (mapped_at m o (requoted more less) q) ∙
        elim (is_at (nat_cmp q) o)
        as (λ b. option_map outline_of (cond b (option_map (requoted more less) (object_at m o)) (object_at m q))
        ≡ cond b (option_map (moved_outline more less) (read outline_of m o)) (read outline_of m q)) [
          | true ↦ moved_told more less (object_at m o)
          | false ↦ refl
        ]

    before : (g : Object → Bool) (c : ℕ) → ((x : Object) → g (requoted more less x) ≡ g x)
        → of_object false g (seen_at l (changed s o (requoted more less)) c) ≡ true
        → of_object false g (seen_at l s c) ≡ true
    before g c keeps h =
        elim (is_at (nat_cmp c) o)
        as (λ b. is_at (nat_cmp c) o ≡ b
        → of_object false g (cond b (option_map (requoted more less) (seen_at l s o)) (seen_at l s c)) ≡ true
        → of_object false g (seen_at l s c) ≡ true) [
          | true ↦ λ near e.
              ap (λ k. of_object false g (seen_at l s k)) (same_id c o near)
              ∙ sym (tested_moved g more less (seen_at l s o) keeps) ∙ e
          | false ↦ λ far e. e
        ] refl (sym (ap (of_object false g) (seen_so s c)) ∙ h)

both_linked : (l : LabelValue) (s n : State) (t d : ℕ) (e : Entry) → Worlds l s n t
    → is_accessible s t d ≡ true → is_accessible s t e.container ≡ true → holds s e ≡ true
    → is_kind_at s kinds.Container e.object ≡ false
    → Both l (changed s d (listing e.object)) (changed n d (listing e.object))
both_linked l s n t d e w access at held plain =
    let seen = observed_seen l s t d w.within (accessible_observed s t d access) in
    let kind : is_kind_at s kinds.Container d ≡ true = (and_parts _ _ (and_parts _ _ access).0).0 in
    let kind_too : is_kind_at n kinds.Container d ≡ true =
    ap (of_object false (is_kind kinds.Container)) (container_same l s n t d w access) ∙ kind in
    record {
      same = linked_same l s n d e.object seen.0 w.same seen.1 seen.2 (named_same l s n t e w at held) plain;
      live = linked_live s d e.object w.sound kind;
      live_too = linked_live n d e.object w.sound_too kind_too;
    }

step_both : (l : LabelValue) (s n : State) (t : ℕ) (c : Call) → refused n t c ≡ refused s t c → IsSame l s n
    → accepted n t c ≡ accepted s t c → (refused s t c ≡ None → Both l (edit s t c) (edit n t c))
    → (answer n t c ≡ answer s t c) × IsSame l (next s t c) (next n t c)
step_both l s n t c refusals same replies edits =
    elim (refused s t c)
    as (λ v. refused s t c ≡ v → (answer n t c ≡ answer s t c) × IsSame l (next s t c) (next n t c)) [
      | None ↦ λ h.
          let too : refused n t c ≡ None = refusals ∙ h in
          let b : Both l (edit s t c) (edit n t c) = edits h in
          let here : next s t c ≡ edit s t c = (step_done s t c h).1 ∙ restricted_live (edit s t c) b.live in
          let there : next n t c ≡ edit n t c = (step_done n t c too).1 ∙ restricted_live (edit n t c) b.live_too in (
            (step_done n t c too).0 ∙ replies ∙ sym (step_done s t c h).0,
            subst (λ (m : State). IsSame l m (next n t c)) (sym here)
                (subst (λ (m : State). IsSame l (edit s t c) m) (sym there) b.same),
          )
      | Some r ↦ λ h.
          let too : refused n t c ≡ Some r = refusals ∙ h in (
            (step_refused n t c r too).0 ∙ sym (step_refused s t c r h).0,
            subst (λ (m : State). IsSame l m (next n t c)) (sym (step_refused s t c r h).1)
                (subst (λ (m : State). IsSame l s m) (sym (step_refused n t c r too).1) same),
          )
    ] refl

pub link_stays : (l : LabelValue) (s n : State) (t d : ℕ) (e : Entry) → Worlds l s n t
    → read untold n e.object ≡ read untold s e.object
    → (answer n t (call.Link d e) ≡ answer s t (call.Link d e))
    × IsSame l (next s t (call.Link d e)) (next n t (call.Link d e))
unfolding refused
link_stays l s n t d e w u =
    step_both l s n t (call.Link d e)
    (front_refusal
    (row_of s t (running ++ at_container d ++ in_container e ++ not_of_kind kinds.Container e.object))
    (row_of n t (running ++ at_container d ++ in_container e ++ not_of_kind kinds.Container e.object))
    (drop 4 (row s t (call.Link d e))) (drop 4 (row n t (call.Link d e)))
    (link_alike l s n t d e w u) refl refl)
    w.same refl
    (λ h.
    let none = none_hold (halted s t ++ row s t (call.Link d e)) h in
    both_linked l s n t d e w (not-false _ none.1.0) (not-false _ none.1.1.0) (not-false _ none.1.1.1.0) none.1.1.1.1.0)

pub move_stays : (l : LabelValue) (s n : State) (t : ℕ) (e : Entry) (m : ℤ) → Worlds l s n t
    → read untold n e.object ≡ read untold s e.object
    → (answer n t (call.QuotaMove e m) ≡ answer s t (call.QuotaMove e m))
    × IsSame l (next s t (call.QuotaMove e m)) (next n t (call.QuotaMove e m))
unfolding refused
move_stays l s n t e m w u =
    step_both l s n t (call.QuotaMove e m)
    (front_refusal (take 4 (halted s t ++ row s t (call.QuotaMove e m))) (take 4 (halted n t ++ row n t (call.QuotaMove e m)))
    (drop 3 (row s t (call.QuotaMove e m))) (drop 3 (row n t (call.QuotaMove e m))) (move_alike l s n t e m w u) refl refl)
    w.same refl
    (λ h.
    let none = none_hold (halted s t ++ row s t (call.QuotaMove e m)) h in
    let outlines : read outline_of n e.object ≡ read outline_of s e.object =
    told_same l s n e.container e.object w.same
    (lists_accessible l s n t e.container e.object w (not-false _ none.1.0) (not-false _ none.1.1.0)) in
    record {
      same = moved_same l s n e.object (pages_up m) (pages_down m) w.same outlines;
      live =
          ap are_live (lists_of-changed s e.object (requoted (pages_up m) (pages_down m)) (λ x. refl))
          ∙ (soundness_of s w.sound).live;
      live_too =
          ap are_live (lists_of-changed n e.object (requoted (pages_up m) (pages_down m)) (λ x. refl))
          ∙ (soundness_of n w.sound_too).live;
    })

pub named_alike : NamedStepsStayAlike
named_alike l s n t c sound sound_too same within named =
    let w : Worlds l s n t =
    record { sound = sound; sound_too = sound_too; same = same; within = within } in
    by_call w c named
  where
    by_call : Worlds l s n t → (k : Call) → IsNamedAlike s n k
        → (answer n t k ≡ answer s t k) × IsSame l (next s t k) (next n t k)
    by_call w (call.Link d e) u = link_stays l s n t d e w u
    by_call w (call.QuotaMove e m) u = move_stays l s n t e m w u
    by_call w call.CatCreate u = absurd u
    by_call w (call.SelfSetLabel x) u = absurd u
    by_call w (call.SelfSetClearance y) u = absurd u
    by_call w (call.ContainerCreate k) u = absurd u
    by_call w (call.SegmentCreate k) u = absurd u
    by_call w (call.SegmentCopy k) u = absurd u
    by_call w (call.AsCreate k) u = absurd u
    by_call w (call.ThreadCreate k) u = absurd u
    by_call w (call.GateCreate k) u = absurd u
    by_call w (call.GateEnter e r q v) u = absurd u
    by_call w (call.SelfSetAs e) u = absurd u
    by_call w (call.SetFixed e) u = absurd u
    by_call w (call.SetImmutable e) u = absurd u
    by_call w (call.MetaSet e bytes) u = absurd u
    by_call w (call.SegmentResize e pages) u = absurd u
    by_call w (call.SegmentWrite e a bytes) u = absurd u
    by_call w (call.AsMap e slot m) u = absurd u
    by_call w (call.AsUnmap e slot) u = absurd u
    by_call w (call.Store address bytes) u = absurd u
    by_call w (call.DevSend e bytes) u = absurd u
    by_call w (call.DevRecv e) u = absurd u
    by_call w (call.Unref e) u = absurd u
