-- A call that names categories or makes an object, in two worlds that give the same id and the same category.
use Rattle.std.proofs.Common.{◌≡◌, ℕ, ◌+◌, ◌/◌, Bool, true, false, not, ◌&&◌, ◌||◌, ◌==◌, ◌++◌, nat_lt, nat_le}
use Rattle.std.proofs.Common.{List, [], ◌∷◌, Option, Some, None, refl, sym, ◌∙◌, ap, subst, length, drop}
use Rattle.std.proofs.Common.{is_none}
use Rattle.std.specs.Option.{option_map, option_and_then}
use Rattle.std.proofs.lemmas.Bool.{and_parts, not-false}
use Rattle.base.specs.Limits.{spent}
use Rattle.base.specs.Live.{are_live}
use Rattle.base.specs.declared.sets.TypeSet.{TypeSet}
use Rattle.base.specs.declared.kinds.Kind.TheVariants as kinds
use Rattle.base.specs.declared.levels.Level.TheVariants.{Star, L3}
use Rattle.base.specs.declared.refusals.Refusal.{Refusal}
use Rattle.base.specs.declared.refusals.Refusal.TheVariants.{Halted, NoAccess, NoEntry, WrongType, CannotObserve}
use Rattle.label_lattice.specs.Label.{LabelValue}
use Rattle.label_lattice.specs.Raw.{is_bad_below, raw_has_star}
use Rattle.label_lattice.specs.declared.raw_labels.RawLabel.{RawLabel}
use Rattle.label_lattice.specs.LabelRules.{both, below, between, stored, with_category, may_clear, may_enter}
use Rattle.kernel_rules.specs.State.{State, object_at, of_object, listed, is_kind, is_kind_at, is_accessible}
use Rattle.kernel_rules.specs.State.{is_live_kind, holds, observes, bytes_of, bytes_at, avoids, clearance_of, gate_of, gate_at, label_at}
use Rattle.kernel_rules.specs.State.{kind_number, kind_of}
use Rattle.kernel_rules.specs.Changes.{put, listing, changed, fresh_object, labelled, cleared, entered, owning, joined, joined_at}
use Rattle.kernel_rules.specs.Conditions.{own_label, own_clearance, own_bearer, gate_bearer}
use Rattle.kernel_rules.specs.Rows.{Row, row_of, running, at_container, in_container, of_kind, observed, refusal_of}
use Rattle.kernel_rules.specs.Table.{halted, refused, row}
use Rattle.kernel_rules.specs.Step.{next, answer, edit, accepted, with_value, owned, made_of, made_bearer}
use Rattle.kernel_rules.specs.Step.{through_gate, told_by}
use Rattle.kernel_rules.specs.Translate.{names_none}
use Rattle.kernel_rules.specs.declared.calls.Call.{Call}
use Rattle.kernel_rules.specs.declared.calls.Call.TheVariants as call
use Rattle.kernel_rules.specs.declared.calls.Entry.{Entry}
use Rattle.kernel_rules.specs.declared.objects.Gate.{Gate}
use Rattle.kernel_rules.specs.declared.objects.Object.{Object}
use Rattle.kernel_rules.specs.declared.objects.Body as body
use Rattle.kernel_rules.specs.declared.objects.Body.TheVariants as is
use Rattle.kernel_rules.specs.declared.replies.Reply.TheVariants as reply
use Rattle.kernel_rules.proofs.RecordLaws.{restricted_live}
use Rattle.kernel_rules.proofs.RowLaws.{none_hold}
use Rattle.kernel_rules.proofs.StepLaws.{step_refused, step_done}
use Rattle.kernel_rules.proofs.WellFormedLaws.{soundness_of}
use Rattle.kernel_rules.proofs.ListingLaws.{IsContainerAt}
use Rattle.kernel_rules.proofs.GrownLaws.{Making, making_from}
use Rattle.flow_rules.proofs.Keeping.{caller_thread}
use Rattle.worlds.specs.Seen.{outline_of, Outline, IsSame}
use Rattle.worlds.specs.Laws.{CountedStepsStayAlike, is_counted, IsSameCount}
use Rattle.worlds.proofs.Relisting.{lists_of-changed, listed-rethread}
use Rattle.worlds.proofs.Quietly.{thread_outline, label_outline, made_live}
use Rattle.worlds.proofs.Alike.{AlikeFront, front_refusal, rises_over, cons_same, moved_two, moved_three}
use Rattle.worlds.proofs.Shared.{Worlds, caller_same, observed_same, container_same, same_halted, Caller, caller_of}
use Rattle.worlds.proofs.Shared.{same_observes, same_accessible, accessible_observed, same_holds, same_kind, observed_seen}
use Rattle.worlds.proofs.Shared.{named_same, shown_visible}
use Rattle.worlds.proofs.Placing.{same_flows}
use Rattle.worlds.proofs.Queries.{same_use, lasting, outlined_label}
use Rattle.worlds.proofs.Plainly.{Both, same_changed, space_holds, space_kind}
use Rattle.worlds.proofs.Making.{same_made}

same_own_label : (l : LabelValue) (s n : State) (t : ℕ) → Worlds l s n t → IsSameCount s n
    → own_label n t ≡ own_label s t
same_own_label l s n t w c =
    (λ i. option_and_then (λ m. with_category m (record { 0 = c.next_category i }) Star)
    (option_map (λ x. x.label) (caller_same l s n t w i)))

same_own_clearance : (l : LabelValue) (s n : State) (t : ℕ) → Worlds l s n t → IsSameCount s n
    → own_clearance n t ≡ own_clearance s t
same_own_clearance l s n t w c =
    (λ i. option_and_then (λ m. with_category m (record { 0 = c.next_category i }) L3)
    (option_and_then (λ x. clearance_of x.body) (caller_same l s n t w i)))

-- what a gate hands on stands in its outline
abbrev outlined_gate : Option Outline → Option Gate
outlined_gate None = None
outlined_gate (Some u) = u.gate

gate_is : (v : Option Object) → option_and_then (λ x. gate_of x.body) v ≡ outlined_gate (option_map outline_of v)
gate_is None = refl
gate_is (Some x) = refl

same_gate : (l : LabelValue) (s n : State) (t : ℕ) (e : Entry) → Worlds l s n t
    → is_accessible s t e.container ≡ true → holds s e ≡ true → gate_at n e.object ≡ gate_at s e.object
same_gate l s n t e w access held =
    gate_is (object_at n e.object) ∙ ap outlined_gate (named_same l s n t e w access held)
    ∙ sym (gate_is (object_at s e.object))

-- what is a gate is no thread
no_thread : (v : Option Object) → of_object false (is_kind kinds.Gate) v ≡ true
    → of_object false (is_kind kinds.Thread) v ≡ false
no_thread None h = refl
no_thread (Some x) h = by_body x.body h
  where
    by_body : (b : body.Body) → (kind_number (kind_of b) == kind_number kinds.Gate) ≡ true
        → (kind_number (kind_of b) == kind_number kinds.Thread) ≡ false
    by_body (is.Thread r) g = absurd (cc)
    by_body (is.Container avoid list) g = refl
    by_body (is.Segment bytes) g = refl
    by_body (is.AddressSpace slots) g = refl
    by_body (is.Gate r) g = refl
    by_body (is.Device packets) g = refl

same_gate_label : (l : LabelValue) (s n : State) (t : ℕ) (e : Entry) → Worlds l s n t
    → is_accessible s t e.container ≡ true → holds s e ≡ true → is_kind_at s kinds.Gate e.object ≡ true
    → label_at n e.object ≡ label_at s e.object
same_gate_label l s n t e w access held gate =
    sym (lasting (object_at n e.object)
    (no_thread (object_at n e.object) (same_kind l s n t kinds.Gate e w access held ∙ gate)))
    ∙ ap outlined_label (named_same l s n t e w access held)
    ∙ lasting (object_at s e.object) (no_thread (object_at s e.object) gate)

same_may_enter : (l : LabelValue) (s n : State) (t : ℕ) (e : Entry) (r q v : RawLabel) → Worlds l s n t
    → is_accessible s t e.container ≡ true → holds s e ≡ true → is_kind_at s kinds.Gate e.object ≡ true
    → not (may_enter (own_bearer n t) (gate_bearer n e.object) (record {
      label = stored r;
      clearance = stored q;
      verify = stored v;
    })) ≡ not (may_enter (own_bearer s t) (gate_bearer s e.object) (record {
      label = stored r;
      clearance = stored q;
      verify = stored v;
    }))
same_may_enter l s n t e r q v w access held gate =
    (λ i. not (may_enter (record {
      label = option_map (λ x. x.label) (caller_same l s n t w i);
      clearance = option_and_then (λ x. clearance_of x.body) (caller_same l s n t w i);
    }) (record {
      label = same_gate_label l s n t e w access held gate i;
      clearance = option_map (λ g. g.clearance) (same_gate l s n t e w access held i);
    }) (record {
      label = stored r;
      clearance = stored q;
      verify = stored v;
    })))

-- the first conditions of a row, in the order of their numbers, past which all that is asked is observed
abbrev front : State → ℕ → Call → Row
front s t (call.ContainerCreate k) = row_of s t (running ++ at_container k.container)
front s t (call.SegmentCreate k) = row_of s t (running ++ at_container k.container)
front s t (call.AsCreate k) = row_of s t (running ++ at_container k.container)
front s t (call.ThreadCreate k) = row_of s t (running ++ at_container k.container)
front s t (call.SegmentCopy k) =
    halted s t ++ row_of s t (at_container k.source.container) ++ row_of s t (at_container k.container)
    ++ (NoEntry, not (holds s k.source)) ∷ row_of s t (of_kind kinds.Segment k.source.object)
    ++ row_of s t (observed k.source.object)
front s t (call.GateCreate k) =
    halted s t ++ (NoAccess, not (names_none k.space) && not (is_accessible s t k.space.container))
    ∷ row_of s t (at_container k.container) ++ (NoEntry, not (names_none k.space) && not (holds s k.space))
    ∷ (WrongType, not (names_none k.space) && not (is_kind_at s kinds.AddressSpace k.space.object)) ∷ []
front s t (call.GateEnter e r q v) = row_of s t (running ++ in_container e ++ of_kind kinds.Gate e.object)
front s t k = halted s t

-- and those that follow
abbrev rest : State → ℕ → Call → Row
rest s t (call.ContainerCreate k) = drop 1 (row s t (call.ContainerCreate k))
rest s t (call.SegmentCreate k) = drop 1 (row s t (call.SegmentCreate k))
rest s t (call.AsCreate k) = drop 1 (row s t (call.AsCreate k))
rest s t (call.ThreadCreate k) = drop 1 (row s t (call.ThreadCreate k))
rest s t (call.SegmentCopy k) = drop 5 (row s t (call.SegmentCopy k))
rest s t (call.GateCreate k) = drop 4 (row s t (call.GateCreate k))
rest s t (call.GateEnter e r q v) = drop 3 (row s t (call.GateEnter e r q v))
rest s t k = row s t k

alike_counted : (l : LabelValue) (s n : State) (t : ℕ) (k : Call) → Worlds l s n t → IsSameCount s n
    → is_counted k ≡ true → AlikeFront (front s t k) (front n t k) (rest s t k) (rest n t k)
alike_counted l s n t call.CatCreate w c counted =
    (refl, same_halted l s n t w, λ h1. (refl, (λ i. is_none (same_own_label l s n t w c i) || is_none (same_own_clearance l s n t w c i)), (refl, ap (λ j. nat_le spent j) c.next_category, tt)))
alike_counted l s n t (call.SelfSetLabel x) w c counted =
    (refl, same_halted l s n t w, λ h1. (refl, ap (λ j. is_bad_below j x) c.next_category, (refl, ap (λ v. not (between (option_map (λ x. x.label) v) (stored x) (option_and_then (λ x. clearance_of x.body) v))) (caller_same l s n t w), tt)))
alike_counted l s n t (call.SelfSetClearance y) w c counted =
    (refl, same_halted l s n t w, λ h1. (refl, ap (λ j. is_bad_below j y) c.next_category, (refl, ap (λ v. not (may_clear (option_map (λ x. x.label) v) (option_and_then (λ x. clearance_of x.body) v) (stored y))) (caller_same l s n t w), tt)))
alike_counted l s n t (call.ContainerCreate k) w c counted =
    (refl, same_halted l s n t w, λ h1. (refl, ap not (same_accessible l s n t k.container w), λ h2. (refl, ap not (same_observes l s n t k.container w), (refl, ap not (same_flows l s n t k.container w (container_same l s n t k.container w (not-false _ h2))), (refl, ap (of_object false (λ x. avoids kinds.Container x.body)) (container_same l s n t k.container w (not-false _ h2)), (refl, refl, (refl, (λ i. nat_lt (of_object 0 (λ x. x.quota) ((container_same l s n t k.container w (not-false _ h2)) i)) (same_use l s n t w k.container (accessible_observed s t k.container (not-false _ h2)) i + k.quota)), (refl, ap (of_object false (λ x. x.immutable)) (container_same l s n t k.container w (not-false _ h2)), (refl, ap (λ j. nat_le spent j) c.next_id, (refl, ap (λ j. is_bad_below j k.label || raw_has_star k.label) c.next_category, (refl, ap (λ v. not (between (option_map (λ x. x.label) v) (stored k.label) (option_and_then (λ x. clearance_of x.body) v))) (caller_same l s n t w), tt)))))))))))
alike_counted l s n t (call.SegmentCreate k) w c counted =
    (refl, same_halted l s n t w, λ h1. (refl, ap not (same_accessible l s n t k.container w), λ h2. (refl, ap not (same_observes l s n t k.container w), (refl, ap not (same_flows l s n t k.container w (container_same l s n t k.container w (not-false _ h2))), (refl, ap (of_object false (λ x. avoids kinds.Segment x.body)) (container_same l s n t k.container w (not-false _ h2)), (refl, refl, (refl, (λ i. nat_lt (of_object 0 (λ x. x.quota) ((container_same l s n t k.container w (not-false _ h2)) i)) (same_use l s n t w k.container (accessible_observed s t k.container (not-false _ h2)) i + k.quota)), (refl, ap (of_object false (λ x. x.immutable)) (container_same l s n t k.container w (not-false _ h2)), (refl, ap (λ j. nat_le spent j) c.next_id, (refl, ap (λ j. is_bad_below j k.label || raw_has_star k.label) c.next_category, (refl, ap (λ v. not (between (option_map (λ x. x.label) v) (stored k.label) (option_and_then (λ x. clearance_of x.body) v))) (caller_same l s n t w), (refl, refl, tt))))))))))))
alike_counted l s n t (call.SegmentCopy k) w c counted =
    (refl, same_halted l s n t w, λ h1. (refl, ap not (same_accessible l s n t k.source.container w), λ h2. (refl, ap not (same_accessible l s n t k.container w), λ h3. (refl, ap not (same_holds l s n t k.source w (not-false _ h2)), λ h4. (refl, ap not (same_kind l s n t kinds.Segment k.source w (not-false _ h2) (not-false _ h4)), λ h5. (refl, ap not (same_observes l s n t k.source.object w), λ h6. (refl, ap not (same_observes l s n t k.container w), (refl, ap not (same_flows l s n t k.container w (container_same l s n t k.container w (not-false _ h3))), (refl, ap (of_object false (λ x. avoids kinds.Segment x.body)) (container_same l s n t k.container w (not-false _ h3)), (refl, ap (λ v. nat_lt k.quota (1 + length (of_object [] (λ x. bytes_of x.body) v) / 256)) (observed_same l s n t k.source.object w (not-false _ h6)), (refl, (λ i. nat_lt (of_object 0 (λ x. x.quota) ((container_same l s n t k.container w (not-false _ h3)) i)) (same_use l s n t w k.container (accessible_observed s t k.container (not-false _ h3)) i + k.quota)), (refl, ap (of_object false (λ x. x.immutable)) (container_same l s n t k.container w (not-false _ h3)), (refl, ap (λ j. nat_le spent j) c.next_id, (refl, ap (λ j. is_bad_below j k.label || raw_has_star k.label) c.next_category, (refl, ap (λ v. not (between (option_map (λ x. x.label) v) (stored k.label) (option_and_then (λ x. clearance_of x.body) v))) (caller_same l s n t w), tt)))))))))))))))
alike_counted l s n t (call.AsCreate k) w c counted =
    (refl, same_halted l s n t w, λ h1. (refl, ap not (same_accessible l s n t k.container w), λ h2. (refl, ap not (same_observes l s n t k.container w), (refl, ap not (same_flows l s n t k.container w (container_same l s n t k.container w (not-false _ h2))), (refl, ap (of_object false (λ x. avoids kinds.AddressSpace x.body)) (container_same l s n t k.container w (not-false _ h2)), (refl, refl, (refl, (λ i. nat_lt (of_object 0 (λ x. x.quota) ((container_same l s n t k.container w (not-false _ h2)) i)) (same_use l s n t w k.container (accessible_observed s t k.container (not-false _ h2)) i + k.quota)), (refl, ap (of_object false (λ x. x.immutable)) (container_same l s n t k.container w (not-false _ h2)), (refl, ap (λ j. nat_le spent j) c.next_id, (refl, ap (λ j. is_bad_below j k.label || raw_has_star k.label) c.next_category, (refl, ap (λ v. not (between (option_map (λ x. x.label) v) (stored k.label) (option_and_then (λ x. clearance_of x.body) v))) (caller_same l s n t w), tt)))))))))))
alike_counted l s n t (call.ThreadCreate k) w c counted =
    (refl, same_halted l s n t w, λ h1. (refl, ap not (same_accessible l s n t k.container w), λ h2. (refl, ap not (same_observes l s n t k.container w), (refl, ap not (same_flows l s n t k.container w (container_same l s n t k.container w (not-false _ h2))), (refl, ap (of_object false (λ x. avoids kinds.Thread x.body)) (container_same l s n t k.container w (not-false _ h2)), (refl, refl, (refl, (λ i. nat_lt (of_object 0 (λ x. x.quota) ((container_same l s n t k.container w (not-false _ h2)) i)) (same_use l s n t w k.container (accessible_observed s t k.container (not-false _ h2)) i + k.quota)), (refl, ap (of_object false (λ x. x.immutable)) (container_same l s n t k.container w (not-false _ h2)), (refl, ap (λ j. nat_le spent j) c.next_id, (refl, ap (λ j. is_bad_below j k.label) c.next_category, (refl, ap (λ j. is_bad_below j k.clearance) c.next_category, (refl, ap (λ v. not (both below (option_map (λ x. x.label) v) (stored k.label))) (caller_same l s n t w), (refl, ap (λ v. not (between (stored k.label) (stored k.clearance) (option_and_then (λ x. clearance_of x.body) v))) (caller_same l s n t w), tt)))))))))))))
alike_counted l s n t (call.GateCreate k) w c counted =
    (refl, same_halted l s n t w, λ h1. (refl, ap (λ b. not (names_none k.space) && not b) (same_accessible l s n t k.space.container w), λ h2. (refl, ap not (same_accessible l s n t k.container w), λ h3. (refl, space_holds l s n t k.space w h2, λ h4. (refl, space_kind l s n t k.space w h2 h4, λ h5. (refl, ap not (same_observes l s n t k.container w), (refl, ap not (same_flows l s n t k.container w (container_same l s n t k.container w (not-false _ h3))), (refl, ap (of_object false (λ x. avoids kinds.Gate x.body)) (container_same l s n t k.container w (not-false _ h3)), (refl, refl, (refl, (λ i. nat_lt (of_object 0 (λ x. x.quota) ((container_same l s n t k.container w (not-false _ h3)) i)) (same_use l s n t w k.container (accessible_observed s t k.container (not-false _ h3)) i + k.quota)), (refl, ap (of_object false (λ x. x.immutable)) (container_same l s n t k.container w (not-false _ h3)), (refl, ap (λ j. nat_le spent j) c.next_id, (refl, ap (λ j. is_bad_below j k.label) c.next_category, (refl, ap (λ j. is_bad_below j k.clearance) c.next_category, (refl, ap (λ v. not (both below (option_map (λ x. x.label) v) (stored k.label))) (caller_same l s n t w), (refl, ap (λ v. not (between (stored k.label) (stored k.clearance) (option_and_then (λ x. clearance_of x.body) v))) (caller_same l s n t w), tt))))))))))))))))
alike_counted l s n t (call.GateEnter e r q v) w c counted =
    (refl, same_halted l s n t w, λ h1. (refl, ap not (same_accessible l s n t e.container w), λ h2. (refl, ap not (same_holds l s n t e w (not-false _ h2)), λ h3. (refl, ap not (same_kind l s n t kinds.Gate e w (not-false _ h2) (not-false _ h3)), λ h4. (refl, ap (λ j. is_bad_below j r) c.next_category, (refl, ap (λ j. is_bad_below j q) c.next_category, (refl, ap (λ j. is_bad_below j v) c.next_category, (refl, same_may_enter l s n t e r q v w (not-false _ h2) (not-false _ h3) (not-false _ h4), tt))))))))
alike_counted l s n t (call.SelfSetAs e) w c counted = absurd (cc)
alike_counted l s n t (call.SetFixed e) w c counted = absurd (cc)
alike_counted l s n t (call.SetImmutable e) w c counted = absurd (cc)
alike_counted l s n t (call.MetaSet e bytes) w c counted = absurd (cc)
alike_counted l s n t (call.SegmentResize e pages) w c counted = absurd (cc)
alike_counted l s n t (call.SegmentWrite e a bytes) w c counted = absurd (cc)
alike_counted l s n t (call.AsMap e slot m) w c counted = absurd (cc)
alike_counted l s n t (call.AsUnmap e slot) w c counted = absurd (cc)
alike_counted l s n t (call.Store address bytes) w c counted = absurd (cc)
alike_counted l s n t (call.DevSend e bytes) w c counted = absurd (cc)
alike_counted l s n t (call.DevRecv e) w c counted = absurd (cc)
alike_counted l s n t (call.Link d e) w c counted = absurd (cc)
alike_counted l s n t (call.Unref e) w c counted = absurd (cc)
alike_counted l s n t (call.QuotaMove e k) w c counted = absurd (cc)

rise : (s : State) (t : ℕ) (k : Call) → is_counted k ≡ true → rises_over (front s t k) (rest s t k) ≡ true
rise s t call.CatCreate counted = refl
rise s t (call.SelfSetLabel x) counted = refl
rise s t (call.SelfSetClearance y) counted = refl
rise s t (call.ContainerCreate k) counted = refl
rise s t (call.SegmentCreate k) counted = refl
rise s t (call.SegmentCopy k) counted = refl
rise s t (call.AsCreate k) counted = refl
rise s t (call.ThreadCreate k) counted = refl
rise s t (call.GateCreate k) counted = refl
rise s t (call.GateEnter e r q v) counted = refl
rise s t (call.SelfSetAs e) counted = absurd (cc)
rise s t (call.SetFixed e) counted = absurd (cc)
rise s t (call.SetImmutable e) counted = absurd (cc)
rise s t (call.MetaSet e bytes) counted = absurd (cc)
rise s t (call.SegmentResize e pages) counted = absurd (cc)
rise s t (call.SegmentWrite e a bytes) counted = absurd (cc)
rise s t (call.AsMap e slot m) counted = absurd (cc)
rise s t (call.AsUnmap e slot) counted = absurd (cc)
rise s t (call.Store address bytes) counted = absurd (cc)
rise s t (call.DevSend e bytes) counted = absurd (cc)
rise s t (call.DevRecv e) counted = absurd (cc)
rise s t (call.Link d e) counted = absurd (cc)
rise s t (call.Unref e) counted = absurd (cc)
rise s t (call.QuotaMove e k) counted = absurd (cc)

-- the row has the refusal of front and rest
sorted : (s : State) (t : ℕ) (k : Call) → is_counted k ≡ true
    → refusal_of (halted s t ++ row s t k) ≡ refusal_of (front s t k ++ rest s t k)
sorted s t call.CatCreate counted = refl
sorted s t (call.SelfSetLabel x) counted = refl
sorted s t (call.SelfSetClearance y) counted = refl
sorted s t (call.ContainerCreate k) counted = refl
sorted s t (call.SegmentCreate k) counted = refl
sorted s t (call.SegmentCopy k) counted =
    let after : Row = rest s t (call.SegmentCopy k) in
    let source : Refusal × Bool = (NoAccess, not (is_accessible s t k.source.container)) in
    let row_before : Row =
    (NoEntry, not (holds s k.source)) ∷ (WrongType, not (is_kind_at s kinds.Segment k.source.object))
    ∷ (CannotObserve, not (observes s t k.source.object)) ∷ (NoAccess, not (is_accessible s t k.container)) ∷ after in
    let row_after : Row =
    (NoAccess, not (is_accessible s t k.container)) ∷ (NoEntry, not (holds s k.source))
    ∷ (WrongType, not (is_kind_at s kinds.Segment k.source.object))
    ∷ (CannotObserve, not (observes s t k.source.object)) ∷ after in
    cons_same (Halted, not (is_live_kind s kinds.Thread t)) (source ∷ row_before) (source ∷ row_after)
    (cons_same source row_before row_after
    (moved_three NoEntry WrongType CannotObserve NoAccess refl refl refl (not (holds s k.source))
    (not (is_kind_at s kinds.Segment k.source.object)) (not (observes s t k.source.object))
    (not (is_accessible s t k.container)) after))
sorted s t (call.AsCreate k) counted = refl
sorted s t (call.ThreadCreate k) counted = refl
sorted s t (call.GateCreate k) counted =
    let after : Row = rest s t (call.GateCreate k) in
    let space : Refusal × Bool = (NoAccess, not (names_none k.space) && not (is_accessible s t k.space.container)) in
    let row_before : Row =
    (NoEntry, not (names_none k.space) && not (holds s k.space))
    ∷ (WrongType, not (names_none k.space) && not (is_kind_at s kinds.AddressSpace k.space.object))
    ∷ (NoAccess, not (is_accessible s t k.container)) ∷ after in
    let row_after : Row =
    (NoAccess, not (is_accessible s t k.container)) ∷ (NoEntry, not (names_none k.space) && not (holds s k.space))
    ∷ (WrongType, not (names_none k.space) && not (is_kind_at s kinds.AddressSpace k.space.object)) ∷ after in
    cons_same (Halted, not (is_live_kind s kinds.Thread t)) (space ∷ row_before) (space ∷ row_after)
    (cons_same space row_before row_after
    (moved_two NoEntry WrongType NoAccess refl refl (not (names_none k.space) && not (holds s k.space))
    (not (names_none k.space) && not (is_kind_at s kinds.AddressSpace k.space.object))
    (not (is_accessible s t k.container)) after))
sorted s t (call.GateEnter e r q v) counted = refl
sorted s t (call.SelfSetAs e) counted = absurd (cc)
sorted s t (call.SetFixed e) counted = absurd (cc)
sorted s t (call.SetImmutable e) counted = absurd (cc)
sorted s t (call.MetaSet e bytes) counted = absurd (cc)
sorted s t (call.SegmentResize e pages) counted = absurd (cc)
sorted s t (call.SegmentWrite e a bytes) counted = absurd (cc)
sorted s t (call.AsMap e slot m) counted = absurd (cc)
sorted s t (call.AsUnmap e slot) counted = absurd (cc)
sorted s t (call.Store address bytes) counted = absurd (cc)
sorted s t (call.DevSend e bytes) counted = absurd (cc)
sorted s t (call.DevRecv e) counted = absurd (cc)
sorted s t (call.Link d e) counted = absurd (cc)
sorted s t (call.Unref e) counted = absurd (cc)
sorted s t (call.QuotaMove e k) counted = absurd (cc)

same_refused : (l : LabelValue) (s n : State) (t : ℕ) (k : Call) → is_counted k ≡ true → Worlds l s n t
    → IsSameCount s n → refused n t k ≡ refused s t k
unfolding refused
same_refused l s n t k counted w c =
    sorted n t k counted
    ∙ front_refusal (front s t k) (front n t k) (rest s t k) (rest n t k) (alike_counted l s n t k w c counted)
    (rise s t k counted) (rise n t k counted)
    ∙ sym (sorted s t k counted)

-- the same states, in which all are live, and the same counts
record Counted (l : LabelValue) (s n : State) : Type 0 where
  both : Both l s n
  count : IsSameCount s n

as_before : (l : LabelValue) (s n : State) (t : ℕ) → Worlds l s n t → IsSameCount s n → Counted l s n
as_before l s n t w c = record {
  both = record {
    same = w.same;
    live = (soundness_of s w.sound).live;
    live_too = (soundness_of n w.sound_too).live;
  };
  count = c;
}

next_of : (s : State) (o : ℕ) (f : Object → Object)
    → ((changed s o f).next_id ≡ s.next_id) × ((changed s o f).next_category ≡ s.next_category)
next_of s o f =
    elim (object_at s o)
    as (λ v. ((of_object s (λ x. put s o (f x)) v).next_id ≡ s.next_id)
    × ((of_object s (λ x. put s o (f x)) v).next_category ≡ s.next_category)) [
      | None ↦ (refl, refl)
      | Some x ↦ (refl, refl)
    ]

count_changed : (s n : State) (o : ℕ) (f : Object → Object) → IsSameCount s n
    → IsSameCount (changed s o f) (changed n o f)
count_changed s n o f c = record {
  next_id = (next_of n o f).0 ∙ c.next_id ∙ sym (next_of s o f).0;
  next_category = (next_of n o f).1 ∙ c.next_category ∙ sym (next_of s o f).1;
}

-- a change of the caller
own : (l : LabelValue) (s n : State) (t : ℕ) (f : Object → Object) → Worlds l s n t → IsSameCount s n
    → is_kind_at s kinds.Thread t ≡ true → ((x : Object) → is_kind kinds.Thread x ≡ true → outline_of (f x) ≡ outline_of x)
    → ((x : Object) → listed (f x).body ≡ listed x.body) → Counted l (changed s t f) (changed n t f)
own l s n t f w c thread outlines lists =
    let who : Caller l s t = caller_of l s t w.within in
    record {
      both = record {
        same = same_changed l s n t f who.object w.same who.found (shown_visible who.object.label l who.within)
            (outlines who.object (sym (ap (of_object false (is_kind kinds.Thread)) who.found) ∙ thread))
            (lists who.object);
        live = ap are_live (lists_of-changed s t f lists) ∙ (soundness_of s w.sound).live;
        live_too = ap are_live (lists_of-changed n t f lists) ∙ (soundness_of n w.sound_too).live;
      };
      count = count_changed s n t f c;
    }

value : {X : Type 0} (l : LabelValue) (s n : State) (v : Option X) (f g : X → State) → Counted l s n
    → ((x : X) → Counted l (f x) (g x)) → Counted l (with_value s v f) (with_value n v g)
value l s n None f g old each = old
value l s n (Some x) f g old each = each x

own_category : (l : LabelValue) (s n : State) (t : ℕ) (m c : Option LabelValue) → Worlds l s n t → IsSameCount s n
    → is_kind_at s kinds.Thread t ≡ true → Counted l (owned s t m c) (owned n t m c)
own_category l s n t None c w k thread = as_before l s n t w k
own_category l s n t (Some m) None w k thread = as_before l s n t w k
own_category l s n t (Some m) (Some c) w k thread =
    let mine : Counted l (changed s t (owning m c)) (changed n t (owning m c)) =
    own l s n t (owning m c) w k thread
    (λ x kind. thread_outline (λ r. record r { clearance = c }) m x.label x.quota x.body kind)
    (λ x. listed-rethread (λ r. record r { clearance = c }) x.body) in
    record {
      both = record {
        same = record {
          objects = mine.both.same.objects;
          told = mine.both.same.told;
          parents = mine.both.same.parents;
        };
        live = mine.both.live;
        live_too = mine.both.live_too;
      };
      count = record { next_id = mine.count.next_id; next_category = ap (λ j. j + 1) k.next_category };
    }

-- a new object of the stored label in a container that the caller may name
made_both : (l : LabelValue) (s n : State) (t d : ℕ) (v : Option LabelValue) (q : ℕ) (b : body.Body)
    → Worlds l s n t → IsSameCount s n → is_accessible s t d ≡ true → listed b ≡ []
    → Counted l (made_of s d v q b) (made_of n d v q b)
made_both l s n t d None q b w c access empty = as_before l s n t w c
made_both l s n t d (Some m) q b w c access empty =
    let seen = observed_seen l s t d w.within (accessible_observed s t d access) in
    let kind : is_kind_at s kinds.Container d ≡ true = (and_parts _ _ (and_parts _ _ access).0).0 in
    let is : is_kind kinds.Container seen.0 ≡ true =
    sym (ap (of_object false (is_kind kinds.Container)) seen.1) ∙ kind in
    let found_too : object_at n d ≡ Some seen.0 = container_same l s n t d w access ∙ seen.1 in
    let at : IsContainerAt s d = record { object = seen.0; found = seen.1; kind = is } in
    let at_n : IsContainerAt n d = record { object = seen.0; found = found_too; kind = is } in
    let m_s : Making s d seen.0 = making_from s d at (soundness_of s w.sound) in
    let m_n : Making n d seen.0 = making_from n d at_n (soundness_of n w.sound_too) in
    record {
      both = record {
        same = same_made l s n d seen.0 (fresh_object m q b) w.sound w.sound_too w.same c.next_id m_s m_n seen.2 empty;
        live = made_live s d seen.0 (fresh_object m q b) w.sound m_s;
        live_too = made_live n d seen.0 (fresh_object m q b) w.sound_too m_n;
      };
      count = record {
        next_id = ap (λ j. j + 1) (next_of n d (listing n.next_id)).0 ∙ ap (λ j. j + 1) c.next_id
            ∙ sym (ap (λ j. j + 1) (next_of s d (listing s.next_id)).0);
        next_category = (next_of n d (listing n.next_id)).1 ∙ c.next_category
            ∙ sym (next_of s d (listing s.next_id)).1;
      };
    }

bearer_both : (l : LabelValue) (s n : State) (t d : ℕ) (v : Option LabelValue) (q : ℕ) (y : Option LabelValue)
    (b : LabelValue → body.Body) → Worlds l s n t → IsSameCount s n → is_accessible s t d ≡ true
    → ((c : LabelValue) → listed (b c) ≡ []) → Counted l (made_bearer s d v q y b) (made_bearer n d v q y b)
bearer_both l s n t d v q None b w c access empty = as_before l s n t w c
bearer_both l s n t d v q (Some m) b w c access empty =
    made_both l s n t d v q (b m) w c access (empty m)

-- the edits of the two worlds
edits : (l : LabelValue) (s n : State) (t : ℕ) (k : Call) → is_counted k ≡ true → Worlds l s n t
    → IsSameCount s n → refused s t k ≡ None → Counted l (edit s t k) (edit n t k)
unfolding refused
edits l s n t call.CatCreate counted w c h =
    subst (λ (y : Option LabelValue). Counted l (edit s t call.CatCreate) (owned n t (own_label n t) y))
    (sym (same_own_clearance l s n t w c))
    (subst (λ (m : Option LabelValue). Counted l (edit s t call.CatCreate) (owned n t m (own_clearance s t)))
    (sym (same_own_label l s n t w c))
    (own_category l s n t (own_label s t) (own_clearance s t) w c (caller_thread s t call.CatCreate h)))
edits l s n t (call.SelfSetLabel x) counted w c h =
    value l s n (stored x) _ _ (as_before l s n t w c)
    (λ m. own l s n t (labelled m) w c (caller_thread s t (call.SelfSetLabel x) h)
    (λ z kind. label_outline m z.label z.quota z.body kind) (λ z. refl))
edits l s n t (call.SelfSetClearance y) counted w c h =
    value l s n (stored y) _ _ (as_before l s n t w c)
    (λ m. own l s n t (cleared m) w c (caller_thread s t (call.SelfSetClearance y) h)
    (λ z kind. thread_outline _ z.label z.label z.quota z.body kind) (λ z. listed-rethread _ z.body))
edits l s n t (call.ContainerCreate k) counted w c h =
    let none = none_hold (halted s t ++ row s t (call.ContainerCreate k)) h in
    let access : is_accessible s t k.container ≡ true = not-false _ none.1.0 in
    subst (λ (a : TypeSet). Counted l (edit s t (call.ContainerCreate k))
    (made_of n k.container (stored k.label) k.quota (is.Container a [])))
    (sym (ap (of_object k.avoid (λ x. joined k.avoid x.body)) (container_same l s n t k.container w access)))
    (made_both l s n t k.container (stored k.label) k.quota (is.Container (joined_at s k.avoid k.container) []) w c
    access refl)
edits l s n t (call.SegmentCreate k) counted w c h =
    let none = none_hold (halted s t ++ row s t (call.SegmentCreate k)) h in
    made_both l s n t k.container (stored k.label) k.quota _ w c (not-false _ none.1.0) refl
edits l s n t (call.SegmentCopy k) counted w c h =
    let none = none_hold (halted s t ++ row s t (call.SegmentCopy k)) h in
    subst (λ (bytes : List ℕ). Counted l (edit s t (call.SegmentCopy k))
    (made_of n k.container (stored k.label) k.quota (is.Segment bytes)))
    (sym (ap (of_object [] (λ x. bytes_of x.body)) (observed_same l s n t k.source.object w (not-false _ none.1.1.1.1.0))))
    (made_both l s n t k.container (stored k.label) k.quota (is.Segment (bytes_at s k.source.object)) w c
    (not-false _ none.1.1.1.1.1.0) refl)
edits l s n t (call.AsCreate k) counted w c h =
    let none = none_hold (halted s t ++ row s t (call.AsCreate k)) h in
    made_both l s n t k.container (stored k.label) k.quota _ w c (not-false _ none.1.0) refl
edits l s n t (call.ThreadCreate k) counted w c h =
    let none = none_hold (halted s t ++ row s t (call.ThreadCreate k)) h in
    bearer_both l s n t k.container (stored k.label) k.quota (stored k.clearance) _ w c (not-false _ none.1.0)
    (λ m. refl)
edits l s n t (call.GateCreate k) counted w c h =
    let none = none_hold (halted s t ++ row s t (call.GateCreate k)) h in
    bearer_both l s n t k.container (stored k.label) k.quota (stored k.clearance) _ w c
    (not-false _ none.1.1.1.1.0) (λ m. refl)
edits l s n t (call.GateEnter e r q v) counted w c h =
    let none = none_hold (halted s t ++ row s t (call.GateEnter e r q v)) h in
    subst (λ (g : Option Gate). Counted l (edit s t (call.GateEnter e r q v))
    (through_gate n t (stored r) (stored q) (stored v) g))
    (sym (same_gate l s n t e w (not-false _ none.1.0) (not-false _ none.1.1.0)))
    (value l s n (stored r) _ _ (as_before l s n t w c) (λ m. value l s n (stored q) _ _ (as_before l s n t w c)
    (λ y. value l s n (stored v) _ _ (as_before l s n t w c) (λ z. value l s n (gate_at s e.object) _ _
    (as_before l s n t w c) (λ g. own l s n t (entered m y z g) w c (caller_thread s t (call.GateEnter e r q v) h)
    (λ x kind. thread_outline _ m x.label x.quota x.body kind) (λ x. listed-rethread _ x.body))))))
edits l s n t (call.SelfSetAs e) counted w c h = absurd (cc)
edits l s n t (call.SetFixed e) counted w c h = absurd (cc)
edits l s n t (call.SetImmutable e) counted w c h = absurd (cc)
edits l s n t (call.MetaSet e bytes) counted w c h = absurd (cc)
edits l s n t (call.SegmentResize e pages) counted w c h = absurd (cc)
edits l s n t (call.SegmentWrite e a bytes) counted w c h = absurd (cc)
edits l s n t (call.AsMap e slot m) counted w c h = absurd (cc)
edits l s n t (call.AsUnmap e slot) counted w c h = absurd (cc)
edits l s n t (call.Store address bytes) counted w c h = absurd (cc)
edits l s n t (call.DevSend e bytes) counted w c h = absurd (cc)
edits l s n t (call.DevRecv e) counted w c h = absurd (cc)
edits l s n t (call.Link d e) counted w c h = absurd (cc)
edits l s n t (call.Unref e) counted w c h = absurd (cc)
edits l s n t (call.QuotaMove e k) counted w c h = absurd (cc)

same_accepted : (l : LabelValue) (s n : State) (t : ℕ) (k : Call) → is_counted k ≡ true → Worlds l s n t
    → IsSameCount s n → refused s t k ≡ None → accepted n t k ≡ accepted s t k
unfolding refused
same_accepted l s n t call.CatCreate counted w c h = ap (λ j. reply.Category (record { 0 = j })) c.next_category
same_accepted l s n t (call.SelfSetLabel x) counted w c h = refl
same_accepted l s n t (call.SelfSetClearance y) counted w c h = refl
same_accepted l s n t (call.GateEnter e r q v) counted w c h =
    let none = none_hold (halted s t ++ row s t (call.GateEnter e r q v)) h in
    ap told_by (same_gate l s n t e w (not-false _ none.1.0) (not-false _ none.1.1.0))
same_accepted l s n t (call.ContainerCreate k) counted w c h = ap (λ j. reply.Object j) c.next_id
same_accepted l s n t (call.SegmentCreate k) counted w c h = ap (λ j. reply.Object j) c.next_id
same_accepted l s n t (call.SegmentCopy k) counted w c h = ap (λ j. reply.Object j) c.next_id
same_accepted l s n t (call.AsCreate k) counted w c h = ap (λ j. reply.Object j) c.next_id
same_accepted l s n t (call.ThreadCreate k) counted w c h = ap (λ j. reply.Object j) c.next_id
same_accepted l s n t (call.GateCreate k) counted w c h = ap (λ j. reply.Object j) c.next_id
same_accepted l s n t (call.SelfSetAs e) counted w c h = absurd (cc)
same_accepted l s n t (call.SetFixed e) counted w c h = absurd (cc)
same_accepted l s n t (call.SetImmutable e) counted w c h = absurd (cc)
same_accepted l s n t (call.MetaSet e bytes) counted w c h = absurd (cc)
same_accepted l s n t (call.SegmentResize e pages) counted w c h = absurd (cc)
same_accepted l s n t (call.SegmentWrite e a bytes) counted w c h = absurd (cc)
same_accepted l s n t (call.AsMap e slot m) counted w c h = absurd (cc)
same_accepted l s n t (call.AsUnmap e slot) counted w c h = absurd (cc)
same_accepted l s n t (call.Store address bytes) counted w c h = absurd (cc)
same_accepted l s n t (call.DevSend e bytes) counted w c h = absurd (cc)
same_accepted l s n t (call.DevRecv e) counted w c h = absurd (cc)
same_accepted l s n t (call.Link d e) counted w c h = absurd (cc)
same_accepted l s n t (call.Unref e) counted w c h = absurd (cc)
same_accepted l s n t (call.QuotaMove e k) counted w c h = absurd (cc)

pub counted_alike : CountedStepsStayAlike
counted_alike l s n t k sound sound_too same within counted c =
    let w : Worlds l s n t =
    record { sound = sound; sound_too = sound_too; same = same; within = within } in
    elim (refused s t k)
    as (λ v. refused s t k ≡ v
    → (answer n t k ≡ answer s t k) × IsSame l (next s t k) (next n t k) × IsSameCount (next s t k) (next n t k)) [
      | None ↦ λ h.
          let too : refused n t k ≡ None = same_refused l s n t k counted w c ∙ h in
          let b : Counted l (edit s t k) (edit n t k) = edits l s n t k counted w c h in
          let here : next s t k ≡ edit s t k = (step_done s t k h).1 ∙ restricted_live (edit s t k) b.both.live in
          let there : next n t k ≡ edit n t k = (step_done n t k too).1 ∙ restricted_live (edit n t k) b.both.live_too in (
            (step_done n t k too).0 ∙ same_accepted l s n t k counted w c h ∙ sym (step_done s t k h).0,
            subst (λ (m : State). IsSame l m (next n t k)) (sym here)
                (subst (λ (m : State). IsSame l (edit s t k) m) (sym there) b.both.same),
            subst (λ (m : State). IsSameCount m (next n t k)) (sym here)
                (subst (λ (m : State). IsSameCount (edit s t k) m) (sym there) b.count),
          )
      | Some r ↦ λ h.
          let too : refused n t k ≡ Some r = same_refused l s n t k counted w c ∙ h in (
            (step_refused n t k r too).0 ∙ sym (step_refused s t k r h).0,
            subst (λ (m : State). IsSame l m (next n t k)) (sym (step_refused s t k r h).1)
                (subst (λ (m : State). IsSame l s m) (sym (step_refused n t k r too).1) same),
            subst (λ (m : State). IsSameCount m (next n t k)) (sym (step_refused s t k r h).1)
                (subst (λ (m : State). IsSameCount s m) (sym (step_refused n t k r too).1) c),
          )
    ] refl
