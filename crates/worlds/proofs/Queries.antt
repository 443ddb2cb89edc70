-- A query has one answer in two worlds, in which an observer sees the same and all that the asker observes.
use Rattle.std.proofs.Common.{◌≡◌, ℕ, ◌+◌, ◌*◌, ◌/◌, Bool, true, false, cond, not, ◌&&◌, ◌||◌, ◌==◌, ◌++◌, nat_lt}
use Rattle.std.proofs.Common.{List, [], ◌∷◌, Option, Some, None, refl, sym, ◌∙◌, ap, length, take, drop}
use Rattle.std.proofs.Common.{is_none, sum_by, slice_range, slice_get}
use Rattle.std.specs.Option.{option_map}
use Rattle.std.proofs.lemmas.Bool.{and_parts, not-false, eq-eqb}
use Rattle.std.proofs.lemmas.List.Sums.{sum_by-cons}
use Rattle.base.specs.Live.{has}
use Rattle.base.specs.Sets.{may_read}
use Rattle.base.specs.declared.kinds.Kind.TheVariants as kinds
use Rattle.base.specs.declared.refusals.Refusal.{Refusal}
use Rattle.label_lattice.specs.Label.{LabelValue}
use Rattle.label_lattice.specs.LabelRules.{both, shown}
use Rattle.kernel_rules.specs.State.{State, object_at, of_object, listed, is_kind, is_kind_at, label_at, list_at, holds}
use Rattle.kernel_rules.specs.State.{observes, is_accessible, bytes_of, own_cost, use_of, slots_of, kind_number, kind_of}
use Rattle.kernel_rules.specs.Conditions.{allows}
use Rattle.kernel_rules.specs.Table.{halted, query_refused, query_row}
use Rattle.kernel_rules.specs.Step.{query_answer, found, told_of, loaded, lister_of, or_refused}
use Rattle.kernel_rules.specs.Translate.{place_of, slot_in}
use Rattle.kernel_rules.specs.declared.calls.Entry.{Entry}
use Rattle.kernel_rules.specs.declared.calls.Query.{Query}
use Rattle.kernel_rules.specs.declared.calls.Query.TheVariants as query
use Rattle.kernel_rules.specs.declared.objects.Object.{Object}
use Rattle.kernel_rules.specs.declared.objects.Body as body
use Rattle.kernel_rules.specs.declared.objects.Body.TheVariants as is
use Rattle.kernel_rules.specs.declared.replies.Reply.{Reply}
use Rattle.kernel_rules.specs.declared.replies.Reply.TheVariants as reply
use Rattle.kernel_rules.proofs.RowLaws.{none_hold}
use Rattle.flow_rules.proofs.Sights.{labels, Labels}
use Rattle.worlds.specs.Seen.{seen_at, outline, outline_of, Outline, IsSame}
use Rattle.worlds.specs.Laws.{QueriesAnswerAlike}
use Rattle.worlds.proofs.Alike.{AlikeRows, alike_refusal, rises}
use Rattle.worlds.proofs.Shared.{Worlds, flip, caller_same, observed_same, container_same, equal_tests, same_halted}
use Rattle.worlds.proofs.Shared.{same_observes, same_accessible, accessible_observed, same_holds, same_kind, seen_if}
use Rattle.worlds.proofs.Shared.{named_same, observed_seen, told_same, same_quota, seen_object, shown_within, shown_visible}
use Rattle.worlds.proofs.Placing.{same_place, place_observed}

-- the label of an outline
abbrev pub outlined_label : Option Outline → Option LabelValue
outlined_label None = None
outlined_label (Some u) = u.label

-- of what is no thread the outline tells the label
pub lasting : (v : Option Object) → of_object false (is_kind kinds.Thread) v ≡ false
    → outlined_label (option_map outline_of v) ≡ option_map (λ x. x.label) v
lasting None h = refl
lasting (Some x) h = by_body x.label x.quota x.body h
  where
    by_body : (m : LabelValue) (q : ℕ) (b : body.Body) → (kind_number (kind_of b) == kind_number kinds.Thread) ≡ false
        → (outline m q b).label ≡ Some m
    by_body m q (is.Thread t) g = absurd (cc)
    by_body m q (is.Container avoid list) g = refl
    by_body m q (is.Segment bytes) g = refl
    by_body m q (is.AddressSpace slots) g = refl
    by_body m q (is.Gate gate) g = refl
    by_body m q (is.Device packets) g = refl

-- sums over ids of the same values
sum_same : (f g : ℕ → ℕ) (ids : List ℕ) → ((o : ℕ) → has ids o ≡ true → f o ≡ g o) → sum_by f ids ≡ sum_by g ids
sum_same f g [] h = refl
sum_same f g (i ∷ ids) h =
    sum_by-cons f i ids
    ∙ (λ k. h i (ap (λ b. b || has ids i) (eq-eqb i i refl)) k
    + sum_same f g ids (λ o listed. h o (later (o == i) (has ids o) listed)) k)
    ∙ sym (sum_by-cons g i ids)
  where
    later : (a b : Bool) → b ≡ true → (a || b) ≡ true
    later true b e = refl
    later false b e = e

-- a reply in place of a refusal
answered : (r q : Option Refusal) (a b : Reply) → q ≡ r → (r ≡ None → b ≡ a) → or_refused q b ≡ or_refused r a
answered None q a b same h = ap (λ v. or_refused v b) same ∙ h refl
answered (Some r) q a b same h = ap (λ v. or_refused v b) same

module _ (l : LabelValue) (s n : State) (t : ℕ) (w : Worlds l s n t) where
  -- a label is shown to the caller in both or in neither
  shown_too : (o : ℕ) → both shown (label_at s o) (label_at s t) ≡ true
      → object_at n o ≡ object_at s o
  shown_too o h =
      let b : Labels s shown o t = labels s shown o t h in
      let by : shown b.second.label l ≡ true =
      ap (λ v. both shown (option_map (λ x. x.label) v) (Some l)) (sym b.is_second) ∙ w.within in
      seen_object l s n o b.first w.same b.is_first
      (shown_visible b.first.label l (shown_within b.first.label b.second.label l b.holds by))

  both_shown : (o : ℕ) → both shown (label_at s o) (label_at s t) ≡ true
      → both shown (label_at n o) (label_at n t) ≡ true
  both_shown o h =
      (λ i. both shown (option_map (λ x. x.label) (shown_too o h i))
      (option_map (λ x. x.label) (caller_same l s n t w i))) ∙ h

  -- use is the same of what the caller observes
  pub same_use : (o : ℕ) → observes s t o ≡ true → use_of n o ≡ use_of s o
  same_use o h =
      let same : object_at n o ≡ object_at s o = observed_same l s n t o w h in
      let seen = observed_seen l s t o w.within h in
      (λ i. of_object 0 (λ x. own_cost x.body) (same i)
      + sum_by (λ q. of_object 0 (λ x. x.quota) (object_at n q)) (of_object [] (λ x. listed x.body) (same i)))
      ∙ ap (λ k. of_object 0 (λ x. own_cost x.body) (object_at s o) + k)
      (sum_same (λ q. of_object 0 (λ x. x.quota) (object_at n q))
      (λ q. of_object 0 (λ x. x.quota) (object_at s q)) (list_at s o)
      (λ q lists. same_quota s n q (told_same l s n o q w.same
      (ap (of_object false (λ x. has (listed x.body) q)) (seen_if l s o seen.0 seen.1 seen.2)
      ∙ sym (ap (λ v. has (of_object [] (λ x. listed x.body) v) q) seen.1) ∙ lists))))

label_shown_same : (l : LabelValue) (s n : State) (t o : ℕ) → Worlds l s n t
    → both shown (label_at n o) (label_at n t) ≡ both shown (label_at s o) (label_at s t)
label_shown_same l s n t o w =
    equal_tests (both shown (label_at n o) (label_at n t)) (both shown (label_at s o) (label_at s t))
    (both_shown l n s t (flip l s n t w) o) (both_shown l s n t w o)

-- the rows of a query
alike : (l : LabelValue) (s n : State) (t : ℕ) (q : Query) → Worlds l s n t
    → AlikeRows (halted s t ++ query_row s t q) (halted n t ++ query_row n t q)
alike l s n t query.SelfGet w =
    (refl, same_halted l s n t w, λ h1. tt)
alike l s n t (query.ObjLabel e) w =
    (refl, same_halted l s n t w, λ h1. (refl, ap not (same_accessible l s n t e.container w), λ h2. (refl, ap not (same_holds l s n t e w (not-false _ h2)), λ h3. (refl, (λ i. same_kind l s n t kinds.Thread e w (not-false _ h2) (not-false _ h3) i && not (label_shown_same l s n t e.object w i)), λ h4. tt))))
alike l s n t (query.ObjQuota e) w =
    (refl, same_halted l s n t w, λ h1. (refl, ap not (same_accessible l s n t e.container w), λ h2. (refl, ap not (same_holds l s n t e w (not-false _ h2)), λ h3. (refl, ap not (same_observes l s n t e.object w), λ h4. tt))))
alike l s n t (query.ContainerList d from) w =
    (refl, same_halted l s n t w, λ h1. (refl, ap not (same_accessible l s n t d w), λ h2. (refl, ap (λ v. nat_lt (length (of_object [] (λ x. listed x.body) v)) from) (container_same l s n t d w (not-false _ h2)), λ h3. tt)))
alike l s n t (query.ContainerParent d) w =
    (refl, same_halted l s n t w, λ h1. (refl, ap not (same_accessible l s n t d w), λ h2. tt))
alike l s n t (query.SegmentLen e) w =
    (refl, same_halted l s n t w, λ h1. (refl, ap not (same_accessible l s n t e.container w), λ h2. (refl, ap not (same_holds l s n t e w (not-false _ h2)), λ h3. (refl, ap not (same_kind l s n t kinds.Segment e w (not-false _ h2) (not-false _ h3)), λ h4. (refl, ap not (same_observes l s n t e.object w), λ h5. tt)))))
alike l s n t (query.SegmentRead e a k) w =
    (refl, same_halted l s n t w, λ h1. (refl, ap not (same_accessible l s n t e.container w), λ h2. (refl, ap not (same_holds l s n t e w (not-false _ h2)), λ h3. (refl, ap not (same_kind l s n t kinds.Segment e w (not-false _ h2) (not-false _ h3)), λ h4. (refl, ap not (same_observes l s n t e.object w), λ h5. (refl, refl, λ h6. (refl, ap (λ v. nat_lt (256 * (length (of_object [] (λ x. bytes_of x.body) v) / 256)) (a + k)) (observed_same l s n t e.object w (not-false _ h5)), λ h7. tt)))))))
alike l s n t (query.MetaGet e) w =
    (refl, same_halted l s n t w, λ h1. (refl, ap not (same_accessible l s n t e.container w), λ h2. (refl, ap not (same_holds l s n t e w (not-false _ h2)), λ h3. (refl, same_kind l s n t kinds.Thread e w (not-false _ h2) (not-false _ h3), λ h4. (refl, ap not (same_observes l s n t e.object w), λ h5. tt)))))
alike l s n t (query.AsGet e slot) w =
    (refl, same_halted l s n t w, λ h1. (refl, ap not (same_accessible l s n t e.container w), λ h2. (refl, ap not (same_holds l s n t e w (not-false _ h2)), λ h3. (refl, ap not (same_kind l s n t kinds.AddressSpace e w (not-false _ h2) (not-false _ h3)), λ h4. (refl, ap not (same_observes l s n t e.object w), λ h5. (refl, refl, λ h6. tt))))))
alike l s n t (query.Load address k) w =
    (refl, same_halted l s n t w, λ h1. (refl, refl, λ h2. (refl, ap is_none (same_place l s n t address w), λ h3. (refl, ap (λ p. not (allows may_read p)) (same_place l s n t address w), λ h4. tt))))

rise : (s : State) (t : ℕ) (q : Query) → rises (halted s t ++ query_row s t q) ≡ true
rise s t query.SelfGet = refl
rise s t (query.ObjLabel e) = refl
rise s t (query.ObjQuota e) = refl
rise s t (query.ContainerList d from) = refl
rise s t (query.ContainerParent d) = refl
rise s t (query.SegmentLen e) = refl
rise s t (query.SegmentRead e a k) = refl
rise s t (query.MetaGet e) = refl
rise s t (query.AsGet e slot) = refl
rise s t (query.Load address k) = refl

-- the label of a thread that is shown, or of another object
told_label : (l : LabelValue) (s n : State) (t : ℕ) (e : Entry) → Worlds l s n t
    → is_accessible s t e.container ≡ true → holds s e ≡ true
    → (is_kind_at s kinds.Thread e.object && not (both shown (label_at s e.object) (label_at s t))) ≡ false
    → label_at n e.object ≡ label_at s e.object
told_label l s n t e w access held off =
    elim (is_kind_at s kinds.Thread e.object)
    as (λ b. is_kind_at s kinds.Thread e.object ≡ b
    → (b && not (both shown (label_at s e.object) (label_at s t))) ≡ false
    → label_at n e.object ≡ label_at s e.object) [
      | true ↦ λ is g.
          ap (option_map (λ x. x.label)) (shown_too l s n t w e.object (not-false _ g))
      | false ↦ λ is g.
          sym (lasting (object_at n e.object) (same_kind l s n t kinds.Thread e w access held ∙ is))
          ∙ ap outlined_label (named_same l s n t e w access held)
          ∙ lasting (object_at s e.object) is
    ] refl off

-- a label that may not be there, as it is told
abbrev label_reply : Option LabelValue → Reply
label_reply None = reply.Done
label_reply (Some m) = reply.Label m

told_as : (v : Option Object) → of_object reply.Done (λ x. reply.Label x.label) v
    ≡ label_reply (option_map (λ x. x.label) v)
told_as None = refl
told_as (Some x) = refl

-- the parent of a container that is seen
parents : (l : LabelValue) (s n : State) (d : ℕ) (x : Object) → IsSame l s n → seen_at l s d ≡ Some x
    → is_kind kinds.Container x ≡ true
    → reply.Parent (lister_of d n.objects) ≡ reply.Parent (lister_of d s.objects)
parents l s n d x same at container =
    let on : of_object false (is_kind kinds.Container) (seen_at l s d) ≡ true =
    ap (of_object false (is_kind kinds.Container)) at ∙ container in
    let on_too : of_object false (is_kind kinds.Container) (seen_at l n d) ≡ true =
    ap (of_object false (is_kind kinds.Container)) (same.objects d) ∙ on in
    let is : Some (lister_of d n.objects) ≡ Some (lister_of d s.objects) =
    sym (ap (λ b. cond b (Some (lister_of d n.objects)) None) on_too) ∙ same.parents d
    ∙ ap (λ b. cond b (Some (lister_of d s.objects)) None) on in
    let equal : lister_of d n.objects ≡ lister_of d s.objects = cc in
    ap (λ k. reply.Parent k) equal

-- the bytes at a place, which is observed
loads : (l : LabelValue) (s n : State) (t address k : ℕ) → Worlds l s n t
    → is_none (place_of s t address) ≡ false
    → loaded n k (place_of s t address) ≡ loaded s k (place_of s t address)
loads l s n t address k w there =
    elim (place_of s t address)
    as (λ v. place_of s t address ≡ v → loaded n k v ≡ loaded s k v) [
      | None ↦ λ is. refl
      | Some p ↦ λ is.
          ap (λ v. reply.Bytes (slice_range (of_object [] (λ x. bytes_of x.body) v) p.offset (p.offset + k)))
          (observed_same l s n t p.segment w (place_observed s t address p is))
    ] refl

-- what the query finds
finds : (l : LabelValue) (s n : State) (t : ℕ) (q : Query) → Worlds l s n t → query_refused s t q ≡ None
    → found n t q ≡ found s t q
unfolding query_refused
finds l s n t query.SelfGet w h =
    ap (of_object reply.Done (λ x. told_of x.label x.body)) (caller_same l s n t w)
finds l s n t (query.ObjLabel e) w h =
    let none = none_hold (halted s t ++ query_row s t (query.ObjLabel e)) h in
    told_as (object_at n e.object)
    ∙ ap label_reply (told_label l s n t e w (not-false _ none.1.0) (not-false _ none.1.1.0) none.1.1.1.0)
    ∙ sym (told_as (object_at s e.object))
finds l s n t (query.ObjQuota e) w h =
    let none = none_hold (halted s t ++ query_row s t (query.ObjQuota e)) h in
    let seen : observes s t e.object ≡ true = not-false _ none.1.1.1.0 in
    (λ i. of_object reply.Done
    (λ x. reply.Quota x.quota (same_use l s n t w e.object seen i) x.fixed x.immutable)
    (observed_same l s n t e.object w seen i))
finds l s n t (query.ContainerList d from) w h =
    let none = none_hold (halted s t ++ query_row s t (query.ContainerList d from)) h in
    ap (λ v. reply.Listed (length (of_object [] (λ x. listed x.body) v))
    (take 16 (drop from (of_object [] (λ x. listed x.body) v))))
    (container_same l s n t d w (not-false _ none.1.0))
finds l s n t (query.ContainerParent d) w h =
    let none = none_hold (halted s t ++ query_row s t (query.ContainerParent d)) h in
    let access : is_accessible s t d ≡ true = not-false _ none.1.0 in
    let seen = observed_seen l s t d w.within (accessible_observed s t d access) in
    let at_s : seen_at l s d ≡ Some seen.0 = seen_if l s d seen.0 seen.1 seen.2 in
    let container : is_kind kinds.Container seen.0 ≡ true =
    sym (ap (of_object false (is_kind kinds.Container)) seen.1) ∙ (and_parts _ _ (and_parts _ _ access).0).0 in
    parents l s n d seen.0 w.same at_s container
finds l s n t (query.SegmentLen e) w h =
    let none = none_hold (halted s t ++ query_row s t (query.SegmentLen e)) h in
    ap (λ v. reply.Pages (length (of_object [] (λ x. bytes_of x.body) v) / 256))
    (observed_same l s n t e.object w (not-false _ none.1.1.1.1.0))
finds l s n t (query.SegmentRead e a k) w h =
    let none = none_hold (halted s t ++ query_row s t (query.SegmentRead e a k)) h in
    ap (λ v. reply.Bytes (slice_range (of_object [] (λ x. bytes_of x.body) v) a (a + k)))
    (observed_same l s n t e.object w (not-false _ none.1.1.1.1.0))
finds l s n t (query.MetaGet e) w h =
    let none = none_hold (halted s t ++ query_row s t (query.MetaGet e)) h in
    ap (of_object reply.Done (λ x. reply.Bytes x.metadata))
    (observed_same l s n t e.object w (not-false _ none.1.1.1.1.0))
finds l s n t (query.AsGet e slot) w h =
    let none = none_hold (halted s t ++ query_row s t (query.AsGet e slot)) h in
    ap (λ v. reply.Mapping (slot_in (slice_get (of_object [] (λ x. slots_of x.body) v) slot)))
    (observed_same l s n t e.object w (not-false _ none.1.1.1.1.0))
finds l s n t (query.Load address k) w h =
    let none = none_hold (halted s t ++ query_row s t (query.Load address k)) h in
    ap (loaded n k) (same_place l s n t address w)
    ∙ loads l s n t address k w none.1.1.0

pub queries_alike : QueriesAnswerAlike
unfolding query_answer query_refused
queries_alike l s n t q sound sound_too same within =
    let w : Worlds l s n t =
    record { sound = sound; sound_too = sound_too; same = same; within = within } in
    answered (query_refused s t q) (query_refused n t q) (found s t q) (found n t q)
    (alike_refusal (halted s t ++ query_row s t q) (halted n t ++ query_row n t q) (alike l s n t q w)
    (rise s t q) (rise n t q))
    (finds l s n t q w)
