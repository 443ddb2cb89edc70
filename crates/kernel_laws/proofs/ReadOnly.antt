-- An immutable object never changes.
use Rattle.std.proofs.Common.{◌≡◌, ◌≢◌, ℕ, true, false, List, Option, Some, None, refl, sym, ◌∙◌}
use Rattle.std.proofs.Common.{ap, ◌++◌}
use Rattle.std.proofs.lemmas.Bool.{and_parts, not-false, both_ways}
use Rattle.base.specs.declared.kinds.Kind.TheVariants as kinds
use Rattle.label_lattice.specs.Label.{LabelValue}
use Rattle.label_lattice.specs.LabelRules.{stored}
use Rattle.kernel_rules.specs.State.{gate_at}
use Rattle.kernel_rules.specs.State.{State, object_at, of_object, is_kind, is_kind_at, is_immutable}
use Rattle.kernel_rules.specs.Step.{next, edit, owned, made_of, made_bearer, through_gate, stored_at}
use Rattle.kernel_rules.specs.Step.{with_value}
use Rattle.kernel_rules.specs.Table.{halted, refused, row}
use Rattle.kernel_rules.specs.Translate.{place_of}
use Rattle.kernel_rules.specs.Changes.{changed, made, fresh_object, owning, entered, labelled}
use Rattle.kernel_rules.specs.declared.calls.Call.{Call}
use Rattle.kernel_rules.specs.declared.calls.Call.TheVariants as call
use Rattle.kernel_rules.specs.declared.objects.Body.{Body}
use Rattle.kernel_rules.specs.declared.objects.Gate.{Gate}
use Rattle.kernel_rules.specs.declared.objects.Object.{Object}
use Rattle.kernel_rules.specs.declared.places.Place.{Place}
use Rattle.kernel_rules.proofs.RowLaws.{none_hold}
use Rattle.kernel_rules.proofs.StepLaws.{step_refused}
use Rattle.kernel_laws.specs.Laws.{IsUntouched}
use Rattle.kernel_laws.proofs.Frames.{Frame, frame_same, frame_found, frame_changed, frame_made_found, frame_value}
use Rattle.kernel_laws.proofs.Frames.{recorded_edited}
use Rattle.kernel_laws.proofs.Places.{written_open}

-- an immutable object that is neither thread nor device is untouched
abbrev Still : ℕ → Object → Object → Type 0
Still o x y =
    x.immutable ≡ true → is_kind kinds.Thread x ≡ false → is_kind kinds.Device x ≡ false → IsUntouched x y

still_same : (o : ℕ) (x : Object) → Still o x x
still_same o x is thread device =
    record { body = refl; metadata = refl; quota = refl; fixed = refl; immutable = is }

-- a change of what is not immutable
open_frame : (s : State) (d : ℕ) (f : Object → Object) → is_immutable s d ≡ false → Frame Still s (changed s d f)
open_frame s d f free =
    frame_found Still still_same s d f
    (λ x found is thread device. absurd (both_ways x.immutable
    (sym (ap (of_object false (λ z. z.immutable)) found) ∙ free) is))

-- a change of a thread
thread_frame : (s : State) (t : ℕ) (f : Object → Object) → is_kind_at s kinds.Thread t ≡ true
    → Frame Still s (changed s t f)
thread_frame s t f acts =
    frame_found Still still_same s t f
    (λ x found is thread device. absurd (both_ways (is_kind kinds.Thread x) thread
    (sym (ap (of_object false (is_kind kinds.Thread)) found) ∙ acts)))

-- a change of a device
device_frame : (s : State) (d : ℕ) (f : Object → Object) → is_kind_at s kinds.Device d ≡ true
    → Frame Still s (changed s d f)
device_frame s d f there =
    frame_found Still still_same s d f
    (λ x found is thread device. absurd (both_ways (is_kind kinds.Device x) device
    (sym (ap (of_object false (is_kind kinds.Device)) found) ∙ there)))

-- a new object in a container that is not immutable
new_made : (s : State) (d : ℕ) (x : Option LabelValue) (q : ℕ) (b : Body) → is_immutable s d ≡ false
    → Frame Still s (made_of s d x q b)
new_made s d x q b free =
    frame_value Still still_same s x (λ l. made s d (fresh_object l q b))
    (λ l. frame_made_found Still still_same s d (fresh_object l q b)
    (λ z found is thread device. absurd (both_ways z.immutable
    (sym (ap (of_object false (λ w. w.immutable)) found) ∙ free) is)))

new_bearer : (s : State) (d : ℕ) (x : Option LabelValue) (q : ℕ) (y : Option LabelValue)
    (b : LabelValue → Body) → is_immutable s d ≡ false → Frame Still s (made_bearer s d x q y b)
new_bearer s d x q y b free =
    frame_value Still still_same s y (λ c. made_of s d x q (b c)) (λ c. new_made s d x q (b c) free)

owned_frame : (s : State) (t : ℕ) (l c : Option LabelValue) → is_kind_at s kinds.Thread t ≡ true
    → Frame Still s (owned s t l c)
owned_frame s t None c acts = frame_same Still still_same s
owned_frame s t (Some l) None acts = frame_same Still still_same s
owned_frame s t (Some l) (Some c) acts = thread_frame s t (owning l c) acts

gate_frame : (s : State) (t : ℕ) (r q v : Option LabelValue) (g : Option Gate)
    → is_kind_at s kinds.Thread t ≡ true → Frame Still s (through_gate s t r q v g)
gate_frame s t r q v g acts =
    frame_value Still still_same s r
    (λ l. with_value s q (λ c. with_value s v (λ w. with_value s g (λ gate. changed s t (entered l c w gate)))))
    (λ l. frame_value Still still_same s q
    (λ c. with_value s v (λ w. with_value s g (λ gate. changed s t (entered l c w gate))))
    (λ c. frame_value Still still_same s v
    (λ w. with_value s g (λ gate. changed s t (entered l c w gate)))
    (λ w. frame_value Still still_same s g (λ gate. changed s t (entered l c w gate))
    (λ gate. thread_frame s t (entered l c w gate) acts))))

store_frame : (s : State) (p : Option Place) (bytes : List ℕ)
    → ((q : Place) → p ≡ Some q → is_immutable s q.segment ≡ false) → Frame Still s (stored_at s p bytes)
store_frame s None bytes free = frame_same Still still_same s
store_frame s (Some p) bytes free = open_frame s p.segment _ (free p refl)

-- the caller is a thread, where nothing refuses its call
acts_of : (s : State) (t : ℕ) (c : Call) → refused s t c ≡ None → is_kind_at s kinds.Thread t ≡ true
unfolding refused
acts_of s t c h = (and_parts _ _ (not-false _ (none_hold (halted s t ++ row s t c) h).0)).0

edit_frame : (s : State) (t : ℕ) (c : Call) → refused s t c ≡ None → Frame Still s (edit s t c)
unfolding refused
edit_frame s t call.CatCreate h = owned_frame s t _ _ (acts_of s t call.CatCreate h)
edit_frame s t (call.SelfSetLabel x) h =
    frame_value Still still_same s _ _ (λ l. thread_frame s t (labelled l) (acts_of s t (call.SelfSetLabel x) h))
edit_frame s t (call.SelfSetClearance y) h =
    frame_value Still still_same s _ _ (λ l. thread_frame s t _ (acts_of s t (call.SelfSetClearance y) h))
edit_frame s t (call.SelfSetAs e) h = thread_frame s t _ (acts_of s t (call.SelfSetAs e) h)
edit_frame s t (call.ContainerCreate n) h =
    new_made s n.container _ n.quota _ (none_hold (halted s t ++ row s t (call.ContainerCreate n)) h).1.1.1.1.1.1.1.0
edit_frame s t (call.SegmentCreate n) h =
    new_made s n.container _ n.quota _ (none_hold (halted s t ++ row s t (call.SegmentCreate n)) h).1.1.1.1.1.1.1.0
edit_frame s t (call.SegmentCopy n) h =
    new_made s n.container _ n.quota _
    (none_hold (halted s t ++ row s t (call.SegmentCopy n)) h).1.1.1.1.1.1.1.1.1.1.1.0
edit_frame s t (call.AsCreate n) h =
    new_made s n.container _ n.quota _ (none_hold (halted s t ++ row s t (call.AsCreate n)) h).1.1.1.1.1.1.1.0
edit_frame s t (call.ThreadCreate n) h =
    new_bearer s n.container _ n.quota _ _
    (none_hold (halted s t ++ row s t (call.ThreadCreate n)) h).1.1.1.1.1.1.1.0
edit_frame s t (call.GateCreate n) h =
    new_bearer s n.container _ n.quota _ _
    (none_hold (halted s t ++ row s t (call.GateCreate n)) h).1.1.1.1.1.1.1.1.1.1.0
edit_frame s t (call.Link d e) h =
    open_frame s d _ (none_hold (halted s t ++ row s t (call.Link d e)) h).1.1.1.1.1.1.1.1.1.1.1.1.0
edit_frame s t (call.Unref e) h =
    open_frame s e.container _ (none_hold (halted s t ++ row s t (call.Unref e)) h).1.1.1.1.1.1.0
edit_frame s t (call.QuotaMove e n) h =
    open_frame s e.object _ (none_hold (halted s t ++ row s t (call.QuotaMove e n)) h).1.1.1.1.1.1.1.1.1.1.1.0
edit_frame s t (call.SetFixed e) h =
    open_frame s e.object _ (none_hold (halted s t ++ row s t (call.SetFixed e)) h).1.1.1.1.1.0
edit_frame s t (call.SetImmutable e) h =
    frame_changed Still still_same s e.object _
    (λ x is thread device.
    record { body = refl; metadata = refl; quota = refl; fixed = refl; immutable = refl })
edit_frame s t (call.MetaSet e bytes) h =
    open_frame s e.object _ (none_hold (halted s t ++ row s t (call.MetaSet e bytes)) h).1.1.1.1.1.1.0
edit_frame s t (call.SegmentResize e pages) h =
    open_frame s e.object _ (none_hold (halted s t ++ row s t (call.SegmentResize e pages)) h).1.1.1.1.1.1.1.0
edit_frame s t (call.SegmentWrite e a bytes) h =
    open_frame s e.object _ (none_hold (halted s t ++ row s t (call.SegmentWrite e a bytes)) h).1.1.1.1.1.1.0
edit_frame s t (call.AsMap e slot m) h =
    open_frame s e.object _ (none_hold (halted s t ++ row s t (call.AsMap e slot m)) h).1.1.1.1.1.1.1.1.1.0
edit_frame s t (call.AsUnmap e slot) h =
    open_frame s e.object _ (none_hold (halted s t ++ row s t (call.AsUnmap e slot)) h).1.1.1.1.1.1.0
edit_frame s t (call.Store address bytes) h =
    store_frame s (place_of s t address) bytes
    (λ p is. written_open s t address p is
    (not-false _ (none_hold (halted s t ++ row s t (call.Store address bytes)) h).1.1.1.0))
edit_frame s t (call.GateEnter e r q v) h = gate_frame s t (stored r) (stored q) (stored v) (gate_at s e.object)
    (acts_of s t (call.GateEnter e r q v) h)
edit_frame s t (call.DevSend e bytes) h =
    device_frame s e.object _ (not-false _ (none_hold (halted s t ++ row s t (call.DevSend e bytes)) h).1.1.1.0)
edit_frame s t (call.DevRecv e) h =
    device_frame s e.object _ (not-false _ (none_hold (halted s t ++ row s t (call.DevRecv e)) h).1.1.1.0)

pub read_only : (s : State) (t : ℕ) (c : Call) (o : ℕ) (x y : Object) → x.immutable ≡ true
    → is_kind kinds.Thread x ≡ false → is_kind kinds.Device x ≡ false → o ≢ s.next_id
    → object_at s o ≡ Some x → object_at (next s t c) o ≡ Some y → IsUntouched x y
read_only s t c o x y is thread device old before now =
    elim (refused s t c) as (λ v. refused s t c ≡ v → IsUntouched x y) [
      | None ↦ λ h. edit_frame s t c h o x y old before (recorded_edited s t c o y h now) is thread device
      | Some r ↦ λ h.
          frame_same Still still_same s o x y old before
          (ap (λ n. object_at n o) (sym (step_refused s t c r h).1) ∙ now) is thread device
    ] refl
