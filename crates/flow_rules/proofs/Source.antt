-- What a call records: nothing that was not recorded before, but the object that it makes.
use Rattle.std.proofs.Common.{◌≡◌, ◌≢◌, ℕ, ◌≤◌, ◌+◌, Bool, true, false, cond, List, Option, Some, None, is_some}
use Rattle.std.proofs.Common.{refl, sym, ◌∙◌, ap, subst, arith, not, ◌++◌, ◌⊎◌, inl, inr, [], ◌∷◌, Less, Equal, Greater}
use Rattle.std.proofs.lemmas.Bool.{and_parts, not-false}
use Rattle.std.specs.Ordering.{nat_cmp, match_ordering, is_eq}
use Rattle.std.specs.Map.{lookup}
use Rattle.std.specs.BTreeMap.{is_at, insert_entry}
use Rattle.label_lattice.specs.Label.{LabelValue}
use Rattle.label_lattice.specs.declared.raw_labels.RawLabel.{RawLabel}
use Rattle.label_lattice.specs.LabelRules.{both, below, between, stored}
use Rattle.kernel_rules.specs.State.{State, object_at, of_object, gate_at, label_at, clearance_at}
use Rattle.kernel_rules.specs.Conditions.{in_range_of}
use Rattle.kernel_rules.specs.Table.{halted, refused, row}
use Rattle.kernel_rules.specs.Step.{next, edit, owned, made_of, made_bearer, through_gate, stored_at}
use Rattle.kernel_rules.specs.Step.{with_value}
use Rattle.kernel_rules.specs.Changes.{put, changed, made, fresh_object, owning, listing}
use Rattle.kernel_rules.specs.Changes.{entered}
use Rattle.kernel_rules.specs.declared.calls.Call.{Call}
use Rattle.kernel_rules.specs.declared.calls.Call.TheVariants as call
use Rattle.kernel_rules.specs.declared.objects.Body.{Body}
use Rattle.kernel_rules.specs.declared.objects.Gate.{Gate}
use Rattle.kernel_rules.specs.declared.objects.Object.{Object}
use Rattle.kernel_rules.specs.declared.places.Place.{Place}
use Rattle.kernel_rules.proofs.LookupLaws.{lookup_put, at_self}
use Rattle.kernel_rules.proofs.RowLaws.{none_hold}
use Rattle.kernel_rules.proofs.RecordLaws.{same_id, next_id-changed}
use Rattle.kernel_rules.proofs.StepLaws.{step_refused, step_done}
use Rattle.kernel_laws.proofs.Frames.{lookup_inserted, recorded_edited}

-- n records what s did, and gives no id
record Kept (s n : State) : Type 0 where
  old : (o : ℕ) → is_some (object_at n o) ≡ true → is_some (object_at s o) ≡ true
  next : n.next_id ≡ s.next_id

-- n has one object more, of a label that its thread t may give
pub record Makes (s : State) (t : ℕ) (n : State) : Type 0 where
  pub raw : RawLabel
  pub label : LabelValue
  pub is_stored : stored raw ≡ Some label
  pub above : both below (label_at s t) (Some label) ≡ true
  pub container : ℕ
  pub quota : ℕ
  pub body : Body
  pub is : n ≡ made s container (fresh_object label quota body)

kept_same : (s : State) → Kept s s
kept_same s = record { old = λ o h. h; next = refl }

old_changed : (s : State) (d : ℕ) (f : Object → Object) (o : ℕ)
    → is_some (object_at (changed s d f) o) ≡ true → is_some (object_at s o) ≡ true
old_changed s d f o =
    elim (object_at s d)
    as (λ v. object_at s d ≡ v → is_some (object_at (of_object s (λ z. put s d (f z)) v) o) ≡ true
    → is_some (object_at s o) ≡ true) [
      | None ↦ λ is h. h
      | Some z ↦ λ is h.
          let there : is_some (cond (is_at (nat_cmp o) d) (Some (f z)) (object_at s o)) ≡ true =
          ap is_some (sym (lookup_put d o s.objects z (f z) is)) ∙ h in
          elim (is_at (nat_cmp o) d)
          as (λ v. is_at (nat_cmp o) d ≡ v → is_some (cond v (Some (f z)) (object_at s o)) ≡ true
          → is_some (object_at s o) ≡ true) [
            | true ↦ λ near g.
                ap (λ k. is_some (object_at s k)) (same_id o d near) ∙ ap is_some is
            | false ↦ λ far g. g
          ] refl there
    ] refl

kept_changed : (s : State) (d : ℕ) (f : Object → Object) → Kept s (changed s d f)
kept_changed s d f = record { old = old_changed s d f; next = next_id-changed s d f }

kept_value : {X : Type 0} (s : State) (v : Option X) (f : X → State) → ((x : X) → Kept s (f x))
    → Kept s (with_value s v f)
kept_value s None f each = kept_same s
kept_value s (Some x) f each = each x

owned_kept : (s : State) (t : ℕ) (l c : Option LabelValue) → Kept s (owned s t l c)
owned_kept s t None c = kept_same s
owned_kept s t (Some l) None = kept_same s
owned_kept s t (Some l) (Some c) =
    record { old = old_changed s t (owning l c); next = next_id-changed s t (owning l c) }

gate_kept : (s : State) (t : ℕ) (r q v : Option LabelValue) (g : Option Gate)
    → Kept s (through_gate s t r q v g)
gate_kept s t r q v g =
    kept_value s r _ (λ l. kept_value s q _ (λ c. kept_value s v _ (λ w. kept_value s g _ (λ gate.
    kept_changed s t (entered l c w gate)))))

store_kept : (s : State) (p : Option Place) (bytes : List ℕ) → Kept s (stored_at s p bytes)
store_kept s None bytes = kept_same s
store_kept s (Some p) bytes = kept_changed s p.segment _

no_label : (a : Option LabelValue) → both below a None ≡ true → ⊥
no_label None h = cc h
no_label (Some l) h = cc h

makes_of : (s : State) (t d : ℕ) (raw : RawLabel) (q : ℕ) (b : Body) (v : Option LabelValue) → stored raw ≡ v
    → both below (label_at s t) v ≡ true → Makes s t (made_of s d v q b)
makes_of s t d raw q b None is h = absurd (no_label (label_at s t) h)
makes_of s t d raw q b (Some l) is h = record {
  raw = raw;
  label = l;
  is_stored = is;
  above = h;
  container = d;
  quota = q;
  body = b;
  is = refl;
}

makes_bearer : (s : State) (t d : ℕ) (raw : RawLabel) (q : ℕ) (y : Option LabelValue) (b : LabelValue → Body)
    → both below (label_at s t) (stored raw) ≡ true → both below (stored raw) y ≡ true
    → Makes s t (made_bearer s d (stored raw) q y b)
makes_bearer s t d raw q None b h g = absurd (no_label (stored raw) g)
makes_bearer s t d raw q (Some c) b h g = makes_of s t d raw q (b c) (stored raw) refl h

in_range : (s : State) (t : ℕ) (x : Option LabelValue) → not (in_range_of s t x) ≡ false
    → both below (label_at s t) x ≡ true
in_range s t x h = (and_parts _ _ (not-false (in_range_of s t x) h)).0

range : (s : State) (t : ℕ) (x y : Option LabelValue) → not (between x y (clearance_at s t)) ≡ false
    → both below x y ≡ true
range s t x y h = (and_parts _ _ (not-false (between x y (clearance_at s t)) h)).0

-- the calls that make an object
abbrev pub makes : Call → Bool
makes (call.ContainerCreate n) = true
makes (call.SegmentCreate n) = true
makes (call.SegmentCopy n) = true
makes (call.AsCreate n) = true
makes (call.ThreadCreate n) = true
makes (call.GateCreate n) = true
makes c = false

-- the edit of an accepted call
Effect : State → ℕ → Call → Type 0
Effect s t c = ((makes c ≡ false) × Kept s (edit s t c)) ⊎ Makes s t (edit s t c)

effect : (s : State) (t : ℕ) (c : Call) → refused s t c ≡ None → Effect s t c
unfolding Effect refused
effect s t call.CatCreate h = inl (refl, (owned_kept s t _ _))
effect s t (call.SelfSetLabel x) h = inl (refl, (kept_value s _ _ (λ l. kept_changed s t _)))
effect s t (call.SelfSetClearance y) h = inl (refl, (kept_value s _ _ (λ c. kept_changed s t _)))
effect s t (call.SelfSetAs e) h = inl (refl, (kept_changed s t _))
effect s t (call.ContainerCreate n) h =
    let none = none_hold (halted s t ++ row s t (call.ContainerCreate n)) h in
    inr (makes_of s t n.container n.label n.quota _ (stored n.label) refl
    (in_range s t (stored n.label) none.1.1.1.1.1.1.1.1.1.1.0))
effect s t (call.SegmentCreate n) h =
    let none = none_hold (halted s t ++ row s t (call.SegmentCreate n)) h in
    inr (makes_of s t n.container n.label n.quota _ (stored n.label) refl
    (in_range s t (stored n.label) none.1.1.1.1.1.1.1.1.1.1.0))
effect s t (call.SegmentCopy n) h =
    let none = none_hold (halted s t ++ row s t (call.SegmentCopy n)) h in
    inr (makes_of s t n.container n.label n.quota _ (stored n.label) refl
    (in_range s t (stored n.label) none.1.1.1.1.1.1.1.1.1.1.1.1.1.1.0))
effect s t (call.AsCreate n) h =
    let none = none_hold (halted s t ++ row s t (call.AsCreate n)) h in
    inr (makes_of s t n.container n.label n.quota _ (stored n.label) refl
    (in_range s t (stored n.label) none.1.1.1.1.1.1.1.1.1.1.0))
effect s t (call.ThreadCreate n) h =
    let none = none_hold (halted s t ++ row s t (call.ThreadCreate n)) h in
    inr (makes_bearer s t n.container n.label n.quota (stored n.clearance) _
    (not-false _ none.1.1.1.1.1.1.1.1.1.1.1.0)
    (range s t (stored n.label) (stored n.clearance) none.1.1.1.1.1.1.1.1.1.1.1.1.0))
effect s t (call.GateCreate n) h =
    let none = none_hold (halted s t ++ row s t (call.GateCreate n)) h in
    inr (makes_bearer s t n.container n.label n.quota (stored n.clearance) _
    (not-false _ none.1.1.1.1.1.1.1.1.1.1.1.1.1.1.0)
    (range s t (stored n.label) (stored n.clearance) none.1.1.1.1.1.1.1.1.1.1.1.1.1.1.1.0))
effect s t (call.Link d e) h = inl (refl, (kept_changed s d _))
effect s t (call.Unref e) h = inl (refl, (kept_changed s e.container _))
effect s t (call.QuotaMove e n) h = inl (refl, (kept_changed s e.object _))
effect s t (call.SetFixed e) h = inl (refl, (kept_changed s e.object _))
effect s t (call.SetImmutable e) h = inl (refl, (kept_changed s e.object _))
effect s t (call.MetaSet e bytes) h = inl (refl, (kept_changed s e.object _))
effect s t (call.SegmentResize e pages) h = inl (refl, (kept_changed s e.object _))
effect s t (call.SegmentWrite e a bytes) h = inl (refl, (kept_changed s e.object _))
effect s t (call.AsMap e slot m) h = inl (refl, (kept_changed s e.object _))
effect s t (call.AsUnmap e slot) h = inl (refl, (kept_changed s e.object _))
effect s t (call.Store address bytes) h = inl (refl, (store_kept s _ bytes))
effect s t (call.GateEnter e r q v) h =
    inl (refl, (gate_kept s t (stored r) (stored q) (stored v) (gate_at s e.object)))
effect s t (call.DevSend e bytes) h = inl (refl, (kept_changed s e.object _))
effect s t (call.DevRecv e) h = inl (refl, (kept_changed s e.object _))

inserted_at : (k : ℕ) (es : List (ℕ × Object)) (x : Object)
    → lookup (is_at (nat_cmp k)) (insert_entry nat_cmp es k x) ≡ Some x
inserted_at k [] x = ap (λ b. cond b (Some x) None) (at_self k)
inserted_at k (e ∷ es) x =
    elim (nat_cmp k e.0)
    as (λ v. nat_cmp k e.0 ≡ v
    → lookup (is_at (nat_cmp k))
    (match_ordering v ((k, x) ∷ e ∷ es) ((e.0, x) ∷ es) (e ∷ insert_entry nat_cmp es k x)) ≡ Some x) [
      | Less ↦ λ by. ap (λ b. cond b (Some x) (lookup (is_at (nat_cmp k)) (e ∷ es))) (at_self k)
      | Equal ↦ λ by. ap (λ v. cond (is_eq v) (Some x) (lookup (is_at (nat_cmp k)) es)) by
      | Greater ↦ λ by.
          ap (λ v. cond (is_eq v) (Some e.1) (lookup (is_at (nat_cmp k)) (insert_entry nat_cmp es k x))) by
          ∙ inserted_at k es x
    ] refl

made_next : (s : State) (d : ℕ) (x : Object) → (made s d x).next_id ≡ s.next_id + 1
made_next s d x = ap (λ k. k + 1) (next_id-changed s d (listing s.next_id))

made_at : (s : State) (d : ℕ) (x : Object) → object_at (made s d x) s.next_id ≡ Some x
made_at s d x =
    let mid : State = changed s d (listing s.next_id) in
    subst (λ k. lookup (is_at (nat_cmp k)) (insert_entry nat_cmp mid.objects mid.next_id x) ≡ Some x)
    (next_id-changed s d (listing s.next_id)) (inserted_at mid.next_id mid.objects x)

made_old : (s : State) (d : ℕ) (x : Object) (o : ℕ) → o ≢ s.next_id
    → is_some (object_at (made s d x) o) ≡ true → is_some (object_at s o) ≡ true
made_old s d x o other h =
    let mid : State = changed s d (listing s.next_id) in
    let next : mid.next_id ≡ s.next_id = next_id-changed s d (listing s.next_id) in
    old_changed s d (listing s.next_id) o
    (ap is_some (sym (lookup_inserted mid.next_id o mid.objects x (λ g. other (g ∙ next)))) ∙ h)

-- what is recorded after a call was recorded before, or is what the call made, of the next id
pub record IsNew (s : State) (t o : ℕ) (n : State) (y : Object) : Type 0 where
  pub next : o ≡ s.next_id
  pub more : n.next_id ≡ s.next_id + 1
  pub raw : RawLabel
  pub is_stored : stored raw ≡ Some y.label
  pub above : both below (label_at s t) (Some y.label) ≡ true

made_source : (s : State) (t o : ℕ) (e : State) (y : Object) → Makes s t e → object_at e o ≡ Some y
    → (is_some (object_at s o) ≡ true) ⊎ IsNew s t o e y
made_source s t o e y m at =
    let x : Object = fresh_object m.label m.quota m.body in
    let there : object_at (made s m.container x) o ≡ Some y = ap (λ n. object_at n o) (sym m.is) ∙ at in
    elim (is_at (nat_cmp o) s.next_id)
    as (λ v. is_at (nat_cmp o) s.next_id ≡ v → (is_some (object_at s o) ≡ true) ⊎ IsNew s t o e y) [
      | true ↦ λ near.
          let on : o ≡ s.next_id = same_id o s.next_id near in
          let new : Some x ≡ Some y =
          sym (made_at s m.container x) ∙ ap (object_at (made s m.container x)) (sym on) ∙ there in
          let is_y : x ≡ y = cc in
          let label : m.label ≡ y.label = ap (λ z. z.label) is_y in
          inr (record {
            next = on;
            more = ap (λ n. n.next_id) m.is ∙ made_next s m.container x;
            raw = m.raw;
            is_stored = m.is_stored ∙ ap Some label;
            above = ap (λ l. both below (label_at s t) (Some l)) (sym label) ∙ m.above;
          })
      | false ↦ λ far.
          let other : o ≢ s.next_id = (λ g.
          let near : is_at (nat_cmp o) s.next_id ≡ true =
          subst (λ k. is_at (nat_cmp o) k ≡ true) g (at_self o) in
          absurd (cc)) in
          inl (made_old s m.container x o other (ap is_some there))
    ] refl

pub source : (s : State) (t : ℕ) (c : Call) (o : ℕ) (y : Object) → object_at (next s t c) o ≡ Some y
    → (is_some (object_at s o) ≡ true) ⊎ IsNew s t o (next s t c) y
unfolding Effect
source s t c o y now =
    elim (refused s t c)
    as (λ v. refused s t c ≡ v → (is_some (object_at s o) ≡ true) ⊎ IsNew s t o (next s t c) y) [
      | None ↦ λ h. elim (effect s t c h) [
        | inl k ↦ inl (k.1.old o (ap is_some (recorded_edited s t c o y h now)))
        | inr m ↦ elim (made_source s t o (edit s t c) y m (recorded_edited s t c o y h now)) [
          | inl old ↦ inl old
          | inr new ↦ inr (record {
            next = new.next;
            more = ap (λ n. n.next_id) (step_done s t c h).1 ∙ new.more;
            raw = new.raw;
            is_stored = new.is_stored;
            above = new.above;
          })
        ]
      ]
      | Some r ↦ λ h. inl (ap (λ n. is_some (object_at n o)) (sym (step_refused s t c r h).1) ∙ ap is_some now)
    ] refl

-- no id is taken back
pub next_rises : (s : State) (t : ℕ) (c : Call) → s.next_id ≤ (next s t c).next_id
unfolding Effect
next_rises s t c =
    elim (refused s t c) as (λ v. refused s t c ≡ v → s.next_id ≤ (next s t c).next_id) [
      | None ↦ λ h.
          let done : (next s t c).next_id ≡ (edit s t c).next_id = ap (λ n. n.next_id) (step_done s t c h).1 in
          elim (effect s t c h) [
            | inl k ↦ let same : (edit s t c).next_id ≡ s.next_id = k.1.next in omega arith
            | inr m ↦
                let more : (edit s t c).next_id ≡ s.next_id + 1 =
                ap (λ n. n.next_id) m.is ∙ made_next s m.container (fresh_object m.label m.quota m.body) in
                omega arith
          ]
      | Some r ↦ λ h.
          let same : (next s t c).next_id ≡ s.next_id = ap (λ n. n.next_id) (step_refused s t c r h).1 in
          omega arith
    ] refl

-- a call that makes an object gives an id
pub makes_more : (s : State) (t : ℕ) (c : Call) → makes c ≡ true → refused s t c ≡ None
    → (next s t c).next_id ≡ s.next_id + 1
unfolding Effect
makes_more s t c is h =
    elim (effect s t c h) [
      | inl k ↦ let never : makes c ≡ false = k.0 in absurd (cc)
      | inr m ↦
          ap (λ n. n.next_id) (step_done s t c h).1 ∙ ap (λ n. n.next_id) m.is
          ∙ made_next s m.container (fresh_object m.label m.quota m.body)
    ]
