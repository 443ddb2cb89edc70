-- A call touches no row but those that it names.
use Rattle.std.proofs.Common.{is_some, ◌≡◌, ℕ, true, false, cond, not, ◌==◌, ◌++◌}
use Rattle.std.proofs.Common.{Option, Some, None, refl, sym, ◌∙◌, ap, subst, inl, inr, ◌+◌}
use Rattle.std.specs.Option.{option_map}
use Rattle.std.proofs.lemmas.Bool.{and_parts, not-false, eqb-true}
use Rattle.base.specs.Live.{has, is_live}
use Rattle.base.specs.Sets.{reading}
use Rattle.base.specs.declared.kinds.Kind.TheVariants as kinds
use Rattle.base.specs.declared.sets.Rights.{Rights}
use Rattle.label_lattice.specs.Label.{LabelValue}
use Rattle.label_lattice.specs.LabelRules.{stored}
use Rattle.kernel_rules.specs.Changes.{changed, made, fresh_object, labelled, owning, entered, delisting}
use Rattle.kernel_rules.specs.Changes.{made_immutable, put}
use Rattle.kernel_rules.specs.Table.{halted, refused, row}
use Rattle.kernel_rules.specs.State.{State, list_at, object_at, of_object, lists_of, is_kind_at, is_accessible}
use Rattle.kernel_rules.specs.State.{gate_at}
use Rattle.kernel_rules.specs.Step.{next, edit, owned, made_of, made_bearer, with_value}
use Rattle.kernel_rules.specs.Translate.{translate, own_space, place_of}
use Rattle.kernel_rules.specs.WellFormed.{is_well_formed}
use Rattle.kernel_rules.specs.declared.calls.Call.{Call}
use Rattle.kernel_rules.specs.declared.calls.Call.TheVariants as call
use Rattle.kernel_rules.specs.declared.calls.Entry.{Entry}
use Rattle.kernel_rules.specs.declared.objects.Body as body
use Rattle.kernel_rules.specs.declared.objects.Object.{Object}
use Rattle.kernel_rules.proofs.RowLaws.{none_hold}
use Rattle.kernel_rules.proofs.StepLaws.{step_done, step_refused}
use Rattle.kernel_laws.proofs.Frames.{recorded_are}
use Rattle.kernel_rules.proofs.WellFormedLaws.{soundness_of}
use Rattle.kernel_laws.specs.Alike.{unwritten}
use Rattle.kernel_laws.specs.TranslationLaws.{LabelChangesKeepRows}
use Rattle.kernel_laws.specs.Names.{IsNamedRightly}
use Rattle.kernel_laws.specs.Through.{Through, mapped_entry}
use Rattle.kernel_laws.proofs.Shut.{stale_cut_lem}
use Rattle.kernel_laws.specs.Touches.{Touches, GoesThrough, Shows}
use Rattle.kernel_laws.proofs.Dead.{death_keeps_lem}
use Rattle.kernel_laws.proofs.Lists.{listing_lem, cut_lem}
use Rattle.kernel_laws.proofs.Made.{made_lem, made_own}
use Rattle.kernel_laws.proofs.Named.{unless_none, through_names, names_no_new, names_no_thread}
use Rattle.kernel_laws.proofs.Names.{accessible_kind}
use Rattle.kernel_laws.proofs.Plain.{plain_lem}
use Rattle.kernel_laws.proofs.Slots.{slot_lem, immutable_lem}
use Rattle.kernel_laws.proofs.Threads.{spaced_lem, labels_lem, label_own, owning_own, entered_own}

pub rows_value : {X : Type 0} (s : State) (q i : ℕ) (v : Option X) (f : X → State)
    → ((x : X) → translate (f x) q i ≡ translate s q i) → translate (with_value s v f) q i ≡ translate s q i
rows_value s q i None f each = refl
rows_value s q i (Some x) f each = each x

-- a new object, where the entries name rightly
made_row : (s : State) (d : ℕ) (x : Object) (q i : ℕ) → is_well_formed s ≡ true → IsNamedRightly s
    → is_kind_at s kinds.Container d ≡ true → (q ≡ s.next_id → ⊥) → translate (made s d x) q i ≡ translate s q i
made_row s d x q i wf names kind other =
    unless_none s (made s d x) q i (made_own s d x q wf kind other)
    (λ some. made_lem s d x q i wf kind other (λ e on. names_no_new s e (through_names s q i e names some on)))

pub created_row : (s : State) (d : ℕ) (l : Option LabelValue) (quota : ℕ) (b : body.Body) (q i : ℕ)
    → is_well_formed s ≡ true → IsNamedRightly s → is_kind_at s kinds.Container d ≡ true
    → (q ≡ s.next_id → ⊥) → translate (made_of s d l quota b) q i ≡ translate s q i
created_row s d l quota b q i wf names kind other =
    rows_value s q i l (λ l. made s d (fresh_object l quota b))
    (λ l. made_row s d (fresh_object l quota b) q i wf names kind other)

bearer_row : (s : State) (d : ℕ) (l : Option LabelValue) (quota : ℕ) (y : Option LabelValue)
    (b : LabelValue → body.Body) (q i : ℕ)
    → is_well_formed s ≡ true → IsNamedRightly s → is_kind_at s kinds.Container d ≡ true
    → (q ≡ s.next_id → ⊥) → translate (made_bearer s d l quota y b) q i ≡ translate s q i
bearer_row s d l quota y b q i wf names kind other =
    rows_value s q i y (λ c. made_of s d l quota (b c))
    (λ c. created_row s d l quota (b c) q i wf names kind other)

-- a container that the caller reaches is one
reached : (s : State) (t d : ℕ) → (not (is_accessible s t d)) ≡ false → is_kind_at s kinds.Container d ≡ true
reached s t d h = accessible_kind s t d (not-false _ h)

-- a thread's label, where the entries name rightly
pub labels_row : (s n : State) (t q i : ℕ) → IsNamedRightly s → is_kind_at s kinds.Thread t ≡ true → (q ≡ t → ⊥)
    → own_space n q ≡ own_space s q
    → (LabelChangesKeepRows s t q i → translate n q i ≡ translate s q i) → translate n q i ≡ translate s q i
labels_row s n t q i names kind other own each =
    unless_none s n q i own
    (λ some. each (labels_lem s t q i kind other
    (λ e on. names_no_thread s t e kind (through_names s q i e names some on))))

counted_row : (s : State) (k q i : ℕ) → translate (record s { next_category = k }) q i ≡ translate s q i
unfolding translate
counted_row s k q i = refl

pub owned_row : (s : State) (t q i : ℕ) (l c : Option LabelValue) → IsNamedRightly s
    → is_kind_at s kinds.Thread t ≡ true → (q ≡ t → ⊥) → translate (owned s t l c) q i ≡ translate s q i
owned_row s t q i None c names kind other = refl
owned_row s t q i (Some l) None names kind other = refl
owned_row s t q i (Some l) (Some c) names kind other =
    counted_row (changed s t (owning l c)) (s.next_category + 1) q i
    ∙ labels_row s (changed s t (owning l c)) t q i names kind other (owning_own s t q l c other)
    (λ law. law.owning l c)

-- the caller is a thread, where nothing refuses its call
acts_of : (s : State) (t : ℕ) (c : Call) → refused s t c ≡ None → is_kind_at s kinds.Thread t ≡ true
unfolding refused
acts_of s t c h = (and_parts _ _ (not-false _ (none_hold (halted s t ++ row s t c) h).0)).0

-- what becomes immutable is shown by no row that it touches not
immutable_row : (s : State) (o q i : ℕ) → (Shows s q i o → ⊥)
    → translate (changed s o made_immutable) q i ≡ translate s q i
immutable_row s o q i hidden =
    elim (object_at s o)
    as (λ v. object_at s o ≡ v
    → translate (of_object s (λ x. put s o (made_immutable x)) v) q i ≡ translate s q i) [
      | None ↦ λ is. refl
      | Some x ↦ λ is.
          ap (λ v. translate (of_object s (λ x. put s o (made_immutable x)) v) q i) (sym is)
          ∙ immutable_lem s o q i x is ∙ kept (translate s q i) refl
    ] refl
  where
    kept : (v : Option (ℕ × Rights)) → translate s q i ≡ v → option_map (unwritten o) v ≡ v
    kept None at = refl
    kept (Some shown) at =
        elim (shown.0 == o) as (λ v. (shown.0 == o) ≡ v → option_map (λ p. unwritten o p) (Some shown) ≡ Some shown) [
          | true ↦ λ near. absurd (hidden (shown, at, eqb-true shown.0 o near))
          | false ↦ λ far. ap (λ b. Some (cond b (shown.0, reading shown.1) shown)) far
        ] refl

-- an entry stands in its container, or the row stays as it is
by_listed : (s : State) (d o q i : ℕ) (e : Entry) → Through s q i e
    → (has (list_at s e.container) e.object ≡ true → translate (changed s d (delisting o)) q i ≡ translate s q i)
    → translate (changed s d (delisting o)) q i ≡ translate s q i
by_listed s d o q i e on each =
    elim (has (list_at s e.container) e.object)
    as (λ v. has (list_at s e.container) e.object ≡ v
    → translate (changed s d (delisting o)) q i ≡ translate s q i) [
      | true ↦ λ is. each is
      | false ↦ λ is. stale_cut_lem s d o q i e on is
    ] refl

-- an entry that may not be there stands, or the row stays as it is
by_entry : (s : State) (d o q i : ℕ) (v : Option Entry) → ((e : Entry) → v ≡ Some e → Through s q i e)
    → (((e : Entry) → v ≡ Some e → has (list_at s e.container) e.object ≡ true)
    → translate (changed s d (delisting o)) q i ≡ translate s q i)
    → translate (changed s d (delisting o)) q i ≡ translate s q i
by_entry s d o q i None on each = each (λ e is. absurd (cc))
by_entry s d o q i (Some a) on each =
    by_listed s d o q i a (on a refl)
    (λ stands. each (λ e is.
    let at : a ≡ e = cc in
    subst (λ (z : Entry). has (list_at s z.container) z.object ≡ true) at stands))

cut_row : (s : State) (d o q i : ℕ) → (GoesThrough s d o q i → ⊥)
    → translate (changed s d (delisting o)) q i ≡ translate s q i
cut_row s d o q i stays =
    by_entry s d o q i (own_space s q) (λ e is. inl is) (λ own.
    by_entry s d o q i (mapped_entry s q i) (λ e is. inr is) (λ mapped.
    cut_lem s d o q i (λ e on. (
      elim (is_live (lists_of (changed s d (delisting o)).objects) e.container)
          as (λ v. is_live (lists_of (changed s d (delisting o)).objects) e.container ≡ v → v ≡ true) [
            | true ↦ λ is. refl
            | false ↦ λ is. absurd (stays (e, on, (stands e own mapped on, inl is)))
          ] refl,
      λ at same. stays (e, on, (stands e own mapped on, inr (at, same))),
    ))))
  where
    stands : (e : Entry) → ((e : Entry) → own_space s q ≡ Some e → has (list_at s e.container) e.object ≡ true)
        → ((e : Entry) → mapped_entry s q i ≡ Some e → has (list_at s e.container) e.object ≡ true)
        → Through s q i e → has (list_at s e.container) e.object ≡ true
    stands e own mapped (inl is) = own e is
    stands e own mapped (inr is) = mapped e is

edit_row : (s : State) (t : ℕ) (c : Call) (q i : ℕ) → is_well_formed s ≡ true → IsNamedRightly s
    → refused s t c ≡ None → (Touches s t c q i → ⊥) → translate (edit s t c) q i ≡ translate s q i
unfolding refused
edit_row s t call.CatCreate q i wf names r out =
    owned_row s t q i _ _ names (acts_of s t call.CatCreate r) out
edit_row s t (call.SelfSetLabel x) q i wf names r out =
    rows_value s q i (stored x) _
    (λ l. labels_row s (changed s t (labelled l)) t q i names (acts_of s t (call.SelfSetLabel x) r) out
    (label_own s t q l out) (λ law. law.label l))
edit_row s t (call.SelfSetClearance y) q i wf names r out =
    rows_value s q i (stored y) _ (λ c. (plain_lem s t q i).clearance c)
edit_row s t (call.SelfSetAs e) q i wf names r out =
    spaced_lem s t q i e (acts_of s t (call.SelfSetAs e) r) out
edit_row s t (call.ContainerCreate n) q i wf names r out =
    created_row s n.container _ n.quota _ q i wf names
    (reached s t n.container (none_hold (halted s t ++ row s t (call.ContainerCreate n)) r).1.0) out
edit_row s t (call.SegmentCreate n) q i wf names r out =
    created_row s n.container _ n.quota _ q i wf names
    (reached s t n.container (none_hold (halted s t ++ row s t (call.SegmentCreate n)) r).1.0) out
edit_row s t (call.SegmentCopy n) q i wf names r out =
    created_row s n.container _ n.quota _ q i wf names
    (reached s t n.container (none_hold (halted s t ++ row s t (call.SegmentCopy n)) r).1.1.1.1.1.0) out
edit_row s t (call.AsCreate n) q i wf names r out =
    created_row s n.container _ n.quota _ q i wf names
    (reached s t n.container (none_hold (halted s t ++ row s t (call.AsCreate n)) r).1.0) out
edit_row s t (call.ThreadCreate n) q i wf names r out =
    bearer_row s n.container _ n.quota _ _ q i wf names
    (reached s t n.container (none_hold (halted s t ++ row s t (call.ThreadCreate n)) r).1.0) out
edit_row s t (call.GateCreate n) q i wf names r out =
    bearer_row s n.container _ n.quota _ _ q i wf names
    (reached s t n.container (none_hold (halted s t ++ row s t (call.GateCreate n)) r).1.1.1.1.0) out
edit_row s t (call.Link d e) q i wf names r out =
    listing_lem s d e.object q i (soundness_of s wf).live
    (λ a on at same. out (subst (λ (z : Entry). Through s q i z)
    (λ j. record { container = at j; object = same j }) on))
edit_row s t (call.Unref e) q i wf names r out = cut_row s e.container e.object q i out
edit_row s t (call.QuotaMove e n) q i wf names r out = (plain_lem s e.object q i).quota _ _
edit_row s t (call.SetFixed e) q i wf names r out = (plain_lem s e.object q i).fixed
edit_row s t (call.SetImmutable e) q i wf names r out = immutable_row s e.object q i out
edit_row s t (call.MetaSet e bytes) q i wf names r out = (plain_lem s e.object q i).metadata bytes
edit_row s t (call.SegmentResize e pages) q i wf names r out = (plain_lem s e.object q i).bytes _
edit_row s t (call.SegmentWrite e a bytes) q i wf names r out = (plain_lem s e.object q i).bytes _
edit_row s t (call.AsMap e slot m) q i wf names r out =
    slot_lem s e.object slot q i (Some m) (λ a own at on. out (a, own, at, on))
edit_row s t (call.AsUnmap e slot) q i wf names r out =
    slot_lem s e.object slot q i None (λ a own at on. out (a, own, at, on))
edit_row s t (call.Store address bytes) q i wf names r out =
    rows_value s q i (place_of s t address) _ (λ p. (plain_lem s p.segment q i).bytes _)
edit_row s t (call.GateEnter e r v w) q i wf names ref out =
    rows_value s q i (stored r) _ (λ l. rows_value s q i (stored v) _ (λ c.
    rows_value s q i (stored w) _ (λ u. rows_value s q i (gate_at s e.object) _ (λ gate.
    labels_row s (changed s t (entered l c u gate)) t q i names (acts_of s t (call.GateEnter e r v w) ref) out
    (entered_own s t q l c u gate out) (λ law. law.entered l c u gate)))))
edit_row s t (call.DevSend e bytes) q i wf names r out = (plain_lem s e.object q i).packets _
edit_row s t (call.DevRecv e) q i wf names r out = (plain_lem s e.object q i).packets _

pub touched_lem : (s : State) (t : ℕ) (c : Call) (q i : ℕ) → is_well_formed s ≡ true → IsNamedRightly s
    → is_some (object_at (next s t c) q) ≡ true → (Touches s t c q i → ⊥)
    → translate (next s t c) q i ≡ translate s q i
touched_lem s t c q i wf names there out =
    elim (refused s t c) as (λ v. refused s t c ≡ v → translate (next s t c) q i ≡ translate s q i) [
      | Some r ↦ λ h. ap (λ n. translate n q i) (step_refused s t c r h).1
      | None ↦ λ h.
          let alive : is_live (lists_of (edit s t c).objects) q ≡ true =
          (and_parts (is_live (lists_of (edit s t c).objects) q) (is_some (object_at (edit s t c) q))
          (sym (recorded_are s t c q h) ∙ there)).0 in
          ap (λ n. translate n q i) (step_done s t c h).1 ∙ death_keeps_lem (edit s t c) q i alive
          ∙ edit_row s t c q i wf names h out
    ] refl
