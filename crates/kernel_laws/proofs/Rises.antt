-- Which calls may lower a category of the caller's label.
use Rattle.std.proofs.Common.{◌≡◌, ◌≢◌, ℕ, Bool, true, false, List, Option, Some, None, refl, sym, ◌∙◌, ap}
use Rattle.std.proofs.Common.{subst, ◌++◌, cond, arith}
use Rattle.std.specs.Option.{option_map}
use Rattle.std.proofs.lemmas.Bool.{and_parts, not-false}
use Rattle.label_lattice.specs.Label.{LabelValue}
use Rattle.label_lattice.specs.declared.raw_labels.RawLabel.{RawLabel}
use Rattle.label_lattice.specs.Order.{levels, Leq}
use Rattle.label_lattice.proofs.OrderLemmas.{leq_test-Leq, IsDescribed-levels}
use Rattle.label_lattice.specs.LabelRules.{both, below, stored}
use Rattle.kernel_rules.specs.State.{State, object_at, of_object, label_at}
use Rattle.kernel_rules.specs.Step.{next, edit, made_of, made_bearer, stored_at, with_value}
use Rattle.kernel_rules.specs.Conditions.{in_range_of}
use Rattle.kernel_rules.specs.Table.{halted, refused, row}
use Rattle.kernel_rules.specs.Changes.{put, changed, made, fresh_object, labelled}
use Rattle.kernel_rules.specs.declared.calls.Call.{Call}
use Rattle.kernel_rules.specs.declared.calls.Call.TheVariants as call
use Rattle.kernel_rules.specs.declared.objects.Body.{Body}
use Rattle.kernel_rules.specs.declared.objects.Object.{Object}
use Rattle.kernel_rules.specs.declared.places.Place.{Place}
use Rattle.kernel_rules.proofs.LookupLaws.{lookup_put, at_self}
use Rattle.kernel_rules.proofs.RowLaws.{none_hold}
use Rattle.kernel_rules.proofs.StepLaws.{step_refused}
use Rattle.kernel_laws.specs.Laws.{may_lower}
use Rattle.kernel_laws.proofs.Frames.{Frame, frame_same, frame_changed, frame_made, frame_value}
use Rattle.kernel_laws.proofs.Frames.{recorded_edited}

-- the label is the same
abbrev Same : ℕ → Object → Object → Type 0
Same o x y = y.label ≡ x.label

same_same : (o : ℕ) (x : Object) → Same o x x
same_same o x = refl

kept : (s : State) (d : ℕ) (f : Object → Object) → ((x : Object) → (f x).label ≡ x.label)
    → Frame Same s (changed s d f)
kept s d f same = frame_changed Same same_same s d f same

new_made : (s : State) (d : ℕ) (x : Option LabelValue) (q : ℕ) (b : Body) → Frame Same s (made_of s d x q b)
new_made s d x q b =
    frame_value Same same_same s x (λ l. made s d (fresh_object l q b))
    (λ l. frame_made Same same_same s d (fresh_object l q b) (λ z. refl))

new_bearer : (s : State) (d : ℕ) (x : Option LabelValue) (q : ℕ) (y : Option LabelValue)
    (b : LabelValue → Body) → Frame Same s (made_bearer s d x q y b)
new_bearer s d x q y b =
    frame_value Same same_same s y (λ c. made_of s d x q (b c)) (λ c. new_made s d x q (b c))

store_frame : (s : State) (p : Option Place) (bytes : List ℕ) → Frame Same s (stored_at s p bytes)
store_frame s None bytes = frame_same Same same_same s
store_frame s (Some p) bytes = kept s p.segment _ (λ x. refl)

-- the calls that give nobody another label
abbrev keeps_labels : Call → Bool
keeps_labels call.CatCreate = false
keeps_labels (call.SelfSetLabel x) = false
keeps_labels (call.GateEnter e r q v) = false
keeps_labels c = true

edit_frame : (s : State) (t : ℕ) (c : Call) → keeps_labels c ≡ true → Frame Same s (edit s t c)
edit_frame s t call.CatCreate h = absurd (cc)
edit_frame s t (call.SelfSetLabel x) h = absurd (cc)
edit_frame s t (call.SelfSetClearance y) h = frame_value Same same_same s _ _ (λ c. kept s t _ (λ x. refl))
edit_frame s t (call.SelfSetAs e) h = kept s t _ (λ x. refl)
edit_frame s t (call.ContainerCreate n) h = new_made s n.container _ n.quota _
edit_frame s t (call.SegmentCreate n) h = new_made s n.container _ n.quota _
edit_frame s t (call.SegmentCopy n) h = new_made s n.container _ n.quota _
edit_frame s t (call.AsCreate n) h = new_made s n.container _ n.quota _
edit_frame s t (call.ThreadCreate n) h = new_bearer s n.container _ n.quota _ _
edit_frame s t (call.GateCreate n) h = new_bearer s n.container _ n.quota _ _
edit_frame s t (call.Link d e) h = kept s d _ (λ x. refl)
edit_frame s t (call.Unref e) h = kept s e.container _ (λ x. refl)
edit_frame s t (call.QuotaMove e n) h = kept s e.object _ (λ x. refl)
edit_frame s t (call.SetFixed e) h = kept s e.object _ (λ x. refl)
edit_frame s t (call.SetImmutable e) h = kept s e.object _ (λ x. refl)
edit_frame s t (call.MetaSet e bytes) h = kept s e.object _ (λ x. refl)
edit_frame s t (call.SegmentResize e pages) h = kept s e.object _ (λ x. refl)
edit_frame s t (call.SegmentWrite e a bytes) h = kept s e.object _ (λ x. refl)
edit_frame s t (call.AsMap e slot m) h = kept s e.object _ (λ x. refl)
edit_frame s t (call.AsUnmap e slot) h = kept s e.object _ (λ x. refl)
edit_frame s t (call.Store address bytes) h = store_frame s _ bytes
edit_frame s t (call.GateEnter e r q v) h = absurd (cc)
edit_frame s t (call.DevSend e bytes) h = kept s e.object _ (λ x. refl)
edit_frame s t (call.DevRecv e) h = kept s e.object _ (λ x. refl)

-- a label is at most itself
same_leq : (a b : LabelValue) → b ≡ a → Leq (levels a) (levels b)
same_leq a b is = subst (λ (l : LabelValue). Leq (levels a) (levels l)) (sym is) (λ c. omega arith)

below_leq : (a b : LabelValue) → below a b ≡ true → Leq (levels a) (levels b)
unfolding below
below_leq a b h =
    (leq_test-Leq (levels a) (levels b) (IsDescribed-levels a) (IsDescribed-levels b)).0 h

-- the object of a change, after it
changed_here : (s : State) (d : ℕ) (f : Object → Object) (x : Object) → object_at s d ≡ Some x
    → object_at (changed s d f) d ≡ Some (f x)
changed_here s d f x found =
    ap (λ v. object_at (of_object s (λ z. put s d (f z)) v) d) found
    ∙ lookup_put d d s.objects x (f x) found
    ∙ ap (λ b. cond b (Some (f x)) (object_at s d)) (at_self d)

-- the label of who is recorded
own_label_of : (v : Option LabelValue) (x : Object) (w : Option Object) → w ≡ Some x
    → both below (option_map (λ z. z.label) w) v ≡ true → (l : LabelValue) → v ≡ Some l
    → below x.label l ≡ true
own_label_of v x w found h l is =
    subst (λ u. both below (Some x.label) u ≡ true) is
    (subst (λ u. both below (option_map (λ z. z.label) u) v ≡ true) found h)

set_label_rises : (s : State) (t : ℕ) (raw : RawLabel) (x y : Object)
    → refused s t (call.SelfSetLabel raw) ≡ None → object_at s t ≡ Some x
    → object_at (edit s t (call.SelfSetLabel raw)) t ≡ Some y → Leq (levels x.label) (levels y.label)
unfolding refused
set_label_rises s t raw x y h before now =
    let none = none_hold (halted s t ++ row s t (call.SelfSetLabel raw)) h in
    let range : both below (label_at s t) (stored raw) ≡ true =
    (and_parts _ _ (not-false (in_range_of s t (stored raw)) none.1.1.0)).0 in
    elim (stored raw)
    as (λ v. stored raw ≡ v → object_at (with_value s v (λ l. changed s t (labelled l))) t ≡ Some y
    → Leq (levels x.label) (levels y.label)) [
      | None ↦ λ is n. let is_y : x ≡ y = cc in same_leq x.label y.label (ap (λ z. z.label) (sym is_y))
      | Some l ↦ λ is n.
          let there : Some (labelled l x) ≡ Some y = sym (changed_here s t (labelled l) x before) ∙ n in
          let is_y : labelled l x ≡ y = cc in
          subst (λ (k : LabelValue). Leq (levels x.label) (levels k)) (ap (λ z. z.label) is_y)
          (below_leq x.label l (own_label_of (stored raw) x (object_at s t) before range l is))
    ] refl now

accepted_rise : (s : State) (t : ℕ) (c : Call) (x y : Object) → may_lower c ≡ false → refused s t c ≡ None
    → t ≢ s.next_id → object_at s t ≡ Some x → object_at (edit s t c) t ≡ Some y
    → Leq (levels x.label) (levels y.label)
accepted_rise s t (call.SelfSetLabel raw) x y low h old before now = set_label_rises s t raw x y h before now
accepted_rise s t c x y low h old before now =
    elim (keeps_labels c)
    as (λ v. keeps_labels c ≡ v → Leq (levels x.label) (levels y.label)) [
      | true ↦ λ is. same_leq x.label y.label (edit_frame s t c is t x y old before now)
      | false ↦ λ is. absurd (cc)
    ] refl

pub labels_rise : (s : State) (t : ℕ) (c : Call) (x y : Object) → may_lower c ≡ false → t ≢ s.next_id
    → object_at s t ≡ Some x → object_at (next s t c) t ≡ Some y → Leq (levels x.label) (levels y.label)
labels_rise s t c x y low old before now =
    elim (refused s t c) as (λ v. refused s t c ≡ v → Leq (levels x.label) (levels y.label)) [
      | None ↦ λ h. accepted_rise s t c x y low h old before (recorded_edited s t c t y h now)
      | Some r ↦ λ h.
          same_leq x.label y.label (frame_same Same same_same s t x y old before
          (ap (λ n. object_at n t) (sym (step_refused s t c r h).1) ∙ now))
    ] refl
