-- Whose label a call may change.
use Rattle.std.proofs.Common.{◌≡◌, ◌≢◌, ℕ, List, Option, Some, None, refl, sym, ◌∙◌, ap}
use Rattle.label_lattice.specs.Label.{LabelValue}
use Rattle.label_lattice.specs.LabelRules.{stored}
use Rattle.kernel_rules.specs.State.{State, object_at, gate_at}
use Rattle.kernel_rules.specs.Step.{next, edit, owned, made_of, made_bearer, through_gate, stored_at}
use Rattle.kernel_rules.specs.Step.{with_value}
use Rattle.kernel_rules.specs.Table.{refused}
use Rattle.kernel_rules.specs.Changes.{changed, made, fresh_object, owning}
use Rattle.kernel_rules.specs.Changes.{labelled, entered}
use Rattle.kernel_rules.specs.declared.calls.Call.{Call}
use Rattle.kernel_rules.specs.declared.calls.Call.TheVariants as call
use Rattle.kernel_rules.specs.declared.objects.Body.{Body}
use Rattle.kernel_rules.specs.declared.objects.Gate.{Gate}
use Rattle.kernel_rules.specs.declared.objects.Object.{Object}
use Rattle.kernel_rules.specs.declared.places.Place.{Place}
use Rattle.kernel_rules.proofs.StepLaws.{step_refused}
use Rattle.kernel_laws.proofs.Frames.{Frame, frame_same, frame_changed, frame_made, frame_value}
use Rattle.kernel_laws.proofs.Frames.{recorded_edited}

-- whoever is not t keeps its label
abbrev Own : ℕ → ℕ → Object → Object → Type 0
Own t o x y = o ≢ t → y.label ≡ x.label

own_same : (t o : ℕ) (x : Object) → Own t o x x
own_same t o x other = refl

-- a change of one object that leaves its label
kept : (s : State) (t d : ℕ) (f : Object → Object) → ((x : Object) → (f x).label ≡ x.label)
    → Frame (Own t) s (changed s d f)
kept s t d f same = frame_changed (Own t) (own_same t) s d f (λ x other. same x)

-- a change of the caller itself
own_changed : (s : State) (t : ℕ) (f : Object → Object) → Frame (Own t) s (changed s t f)
own_changed s t f = frame_changed (Own t) (own_same t) s t f (λ x other. absurd (other refl))

-- a new object
new_made : (s : State) (t d : ℕ) (x : Option LabelValue) (q : ℕ) (b : Body) → Frame (Own t) s (made_of s d x q b)
new_made s t d x q b =
    frame_value (Own t) (own_same t) s x (λ l. made s d (fresh_object l q b))
    (λ l. frame_made (Own t) (own_same t) s d (fresh_object l q b) (λ z other. refl))

new_bearer : (s : State) (t d : ℕ) (x : Option LabelValue) (q : ℕ) (y : Option LabelValue)
    (b : LabelValue → Body) → Frame (Own t) s (made_bearer s d x q y b)
new_bearer s t d x q y b =
    frame_value (Own t) (own_same t) s y (λ c. made_of s d x q (b c)) (λ c. new_made s t d x q (b c))

owned_frame : (s : State) (t : ℕ) (l c : Option LabelValue) → Frame (Own t) s (owned s t l c)
owned_frame s t None c = frame_same (Own t) (own_same t) s
owned_frame s t (Some l) None = frame_same (Own t) (own_same t) s
owned_frame s t (Some l) (Some c) = own_changed s t (owning l c)

gate_frame : (s : State) (t : ℕ) (r q v : Option LabelValue) (g : Option Gate)
    → Frame (Own t) s (through_gate s t r q v g)
gate_frame s t r q v g =
    frame_value (Own t) (own_same t) s r
    (λ l. with_value s q (λ c. with_value s v (λ w. with_value s g (λ gate. changed s t (entered l c w gate)))))
    (λ l. frame_value (Own t) (own_same t) s q
    (λ c. with_value s v (λ w. with_value s g (λ gate. changed s t (entered l c w gate))))
    (λ c. frame_value (Own t) (own_same t) s v
    (λ w. with_value s g (λ gate. changed s t (entered l c w gate)))
    (λ w. frame_value (Own t) (own_same t) s g (λ gate. changed s t (entered l c w gate))
    (λ gate. own_changed s t (entered l c w gate)))))

store_frame : (s : State) (t : ℕ) (p : Option Place) (bytes : List ℕ) → Frame (Own t) s (stored_at s p bytes)
store_frame s t None bytes = frame_same (Own t) (own_same t) s
store_frame s t (Some p) bytes = kept s t p.segment _ (λ x. refl)

edit_frame : (s : State) (t : ℕ) (c : Call) → Frame (Own t) s (edit s t c)
edit_frame s t call.CatCreate = owned_frame s t _ _
edit_frame s t (call.SelfSetLabel x) = frame_value (Own t) (own_same t) s _ _ (λ l. own_changed s t (labelled l))
edit_frame s t (call.SelfSetClearance y) = frame_value (Own t) (own_same t) s _ _ (λ c. own_changed s t _)
edit_frame s t (call.SelfSetAs e) = own_changed s t _
edit_frame s t (call.ContainerCreate n) = new_made s t n.container _ n.quota _
edit_frame s t (call.SegmentCreate n) = new_made s t n.container _ n.quota _
edit_frame s t (call.SegmentCopy n) = new_made s t n.container _ n.quota _
edit_frame s t (call.AsCreate n) = new_made s t n.container _ n.quota _
edit_frame s t (call.ThreadCreate n) = new_bearer s t n.container _ n.quota _ _
edit_frame s t (call.GateCreate n) = new_bearer s t n.container _ n.quota _ _
edit_frame s t (call.Link d e) = kept s t d _ (λ x. refl)
edit_frame s t (call.Unref e) = kept s t e.container _ (λ x. refl)
edit_frame s t (call.QuotaMove e n) = kept s t e.object _ (λ x. refl)
edit_frame s t (call.SetFixed e) = kept s t e.object _ (λ x. refl)
edit_frame s t (call.SetImmutable e) = kept s t e.object _ (λ x. refl)
edit_frame s t (call.MetaSet e bytes) = kept s t e.object _ (λ x. refl)
edit_frame s t (call.SegmentResize e pages) = kept s t e.object _ (λ x. refl)
edit_frame s t (call.SegmentWrite e a bytes) = kept s t e.object _ (λ x. refl)
edit_frame s t (call.AsMap e slot m) = kept s t e.object _ (λ x. refl)
edit_frame s t (call.AsUnmap e slot) = kept s t e.object _ (λ x. refl)
edit_frame s t (call.Store address bytes) = store_frame s t _ bytes
edit_frame s t (call.GateEnter e r q v) =
    gate_frame s t (stored r) (stored q) (stored v) (gate_at s e.object)
edit_frame s t (call.DevSend e bytes) = kept s t e.object _ (λ x. refl)
edit_frame s t (call.DevRecv e) = kept s t e.object _ (λ x. refl)

pub labels_own : (s : State) (t : ℕ) (c : Call) (o : ℕ) (x y : Object) → o ≢ t → o ≢ s.next_id
    → object_at s o ≡ Some x → object_at (next s t c) o ≡ Some y → y.label ≡ x.label
labels_own s t c o x y other old before now =
    elim (refused s t c) as (λ v. refused s t c ≡ v → y.label ≡ x.label) [
      | None ↦ λ h. edit_frame s t c o x y old before (recorded_edited s t c o y h now) other
      | Some r ↦ λ h.
          frame_same (Own t) (own_same t) s o x y old before
          (ap (λ n. object_at n o) (sym (step_refused s t c r h).1) ∙ now) other
    ] refl
