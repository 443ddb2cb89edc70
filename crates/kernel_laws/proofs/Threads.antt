-- The rows where a thread changes.
use Rattle.std.proofs.Common.{◌≡◌, ◌≢◌, ℕ, Bool, true, false, ◌&&◌, ◌==◌, Some, None}
use Rattle.std.proofs.Common.{refl, sym, ◌∙◌, ap, inl, inr}
use Rattle.std.specs.Option.{option_map}
use Rattle.std.proofs.lemmas.Bool.{eqb-true, eq-eqb, both_ways}
use Rattle.base.specs.Live.{has, is_live}
use Rattle.base.specs.declared.kinds.Kind.TheVariants as kinds
use Rattle.label_lattice.specs.Label.{LabelValue}
use Rattle.kernel_rules.specs.State.{State, object_at, of_object, lists_of, list_at, is_kind}
use Rattle.kernel_rules.specs.State.{is_kind_at, observes, kind_number, label_at}
use Rattle.kernel_rules.specs.Changes.{put, changed, rethread, labelled, owning, entered, spaced}
use Rattle.kernel_rules.specs.Translate.{translate, own_space, opens}
use Rattle.kernel_rules.specs.declared.calls.Entry.{Entry}
use Rattle.kernel_rules.specs.declared.objects.Body as body
use Rattle.kernel_rules.specs.declared.objects.Body.TheVariants as is
use Rattle.kernel_rules.specs.declared.objects.Gate.{Gate}
use Rattle.kernel_rules.specs.declared.objects.Object.{Object}
use Rattle.kernel_rules.specs.declared.objects.Thread as thread
use Rattle.kernel_laws.specs.Through.{ShowsNot}
use Rattle.kernel_laws.specs.TranslationLaws.{LabelChangesKeepRows}
use Rattle.kernel_laws.proofs.Bodies.{kind-rethread, list-rethread, slots-rethread}
use Rattle.kernel_laws.proofs.Depends.{row_same, row_reads_lem, opens_same, usable_same}
use Rattle.kernel_laws.proofs.Put.{label_read, space_read, at_any, at_other, entry_put, slot_put}
use Rattle.kernel_laws.proofs.Put.{found_or_same}

-- a thread is no container
no_container : (x : Object) → is_kind kinds.Thread x ≡ true → is_kind kinds.Container x ≡ false
no_container x h = at_body x.body h
  where
    at_body : (b : body.Body) → is_kind kinds.Thread (record x { body = b }) ≡ true
        → is_kind kinds.Container (record x { body = b }) ≡ false
    at_body (is.Container avoid list) h = absurd (both_ways false refl h)
    at_body (is.Segment bytes) h = refl
    at_body (is.AddressSpace slots) h = refl
    at_body (is.Thread t) h = refl
    at_body (is.Gate g) h = refl
    at_body (is.Device packets) h = refl

-- where thread r became y with another body and label
module _ (s : State) (r : ℕ) (f : thread.Thread → thread.Thread) (l : LabelValue) (x : Object)
    (found : object_at s r ≡ Some x) (thread_is : is_kind kinds.Thread x ≡ true) where
  abbrev turned : Object
  turned = record x { label = l; body = rethread f x.body }

  kind_turned : is_kind kinds.Container turned ≡ is_kind kinds.Container x
  kind_turned = ap (λ k. kind_number k == 0) (kind-rethread f x.body)

  opens_turned : (t : ℕ) (e : Entry) → t ≢ r → e.object ≢ r → opens (put s r turned) t e ≡ opens s t e
  opens_turned t e other apart =
      elim (e.container == r)
      as (λ v. (e.container == r) ≡ v → opens (put s r turned) t e ≡ opens s t e) [
        | true ↦ λ near.
            let on : e.container ≡ r = eqb-true e.container r near in
            let before : is_kind_at s kinds.Container e.container ≡ false =
            ap (is_kind_at s kinds.Container) on ∙ ap (of_object false (is_kind kinds.Container)) found
            ∙ no_container x thread_is in
            let after : is_kind_at (put s r turned) kinds.Container e.container ≡ false =
            at_any (of_object false (is_kind kinds.Container)) s r e.container x turned found kind_turned
            ∙ before in
            shut (is_kind_at (put s r turned) kinds.Container e.container)
            (is_live (lists_of (put s r turned).objects) e.container)
            (observes (put s r turned) t e.container) (has (list_at (put s r turned) e.container) e.object)
            (observes (put s r turned) t e.object) after
            ∙ sym (shut (is_kind_at s kinds.Container e.container)
            (is_live (lists_of s.objects) e.container)
            (observes s t e.container) (has (list_at s e.container) e.object) (observes s t e.object) before)
        | false ↦ λ far.
            opens_same s (put s r turned) t e (at_other label_read s r t x turned found other)
            (entry_put s r x turned found kind_turned (list-rethread f x.body) e
            (at_other label_read s r e.container x turned found (λ on. both_ways (e.container == r) far (eq-eqb e.container r on)))
            (at_other label_read s r e.object x turned found apart))
      ] refl
    where
      shut : (k l a h b : Bool) → k ≡ false → (k && l && a && h && b) ≡ false
      shut true l a h b w = absurd (both_ways true w refl)
      shut false l a h b w = refl

  turned_row : (t i : ℕ) → t ≢ r → ShowsNot s t i r → translate (put s r turned) t i ≡ translate s t i
  turned_row t i other apart =
      row_same s (put s r turned) t i (at_other space_read s r t x turned found other)
      (λ e own. opens_turned t e other (apart e (inl own)))
      (λ e own opened. slot_put s r x turned found (slots-rethread f x.body) e.object i)
      (λ m there. opens_turned t m.entry other (apart m.entry (inr (ap (option_map (λ m. m.entry)) there))))
      (λ m there opened.
      let away : m.entry.object ≢ r = apart m.entry (inr (ap (option_map (λ m. m.entry)) there)) in
      usable_same s (put s r turned) t m (at_other label_read s r t x turned found other)
      (at_other label_read s r m.entry.object x turned found away)
      (at_other (of_object false (λ z. z.immutable)) s r m.entry.object x turned found away))

  -- where the label is what it was, no other thread's row changes at all
  spaced_row : (t i : ℕ) → t ≢ r → l ≡ x.label → translate (put s r turned) t i ≡ translate s t i
  spaced_row t i other same =
      let labels : (q : ℕ) → label_at (put s r turned) q ≡ label_at s q =
      (λ q. at_any label_read s r q x turned found (ap Some same)) in
      row_reads_lem s (put s r turned) t i (at_other space_read s r t x turned found other) (labels t)
      (λ e on. entry_put s r x turned found kind_turned (list-rethread f x.body) e (labels e.container)
      (labels e.object))
      (λ e own. slot_put s r x turned found (slots-rethread f x.body) e.object i)
      (λ e there. at_any (of_object false (λ z. z.immutable)) s r e.object x turned found refl)

is_thread : (s : State) (r : ℕ) (x : Object) → object_at s r ≡ Some x → is_kind_at s kinds.Thread r ≡ true
    → is_kind kinds.Thread x ≡ true
is_thread s r x found kind = sym (ap (of_object false (is_kind kinds.Thread)) found) ∙ kind

same_body : (b : body.Body) → rethread (λ t. t) b ≡ b
same_body (is.Thread t) = refl
same_body (is.Container avoid list) = refl
same_body (is.Segment bytes) = refl
same_body (is.AddressSpace slots) = refl
same_body (is.Gate g) = refl
same_body (is.Device packets) = refl

pub label_lem : (s : State) (r t i : ℕ) (l : LabelValue) → is_kind_at s kinds.Thread r ≡ true → t ≢ r
    → ShowsNot s t i r → translate (changed s r (labelled l)) t i ≡ translate s t i
label_lem s r t i l kind other apart =
    found_or_same s r (labelled l) t i
    (λ x found.
    ap (λ b. translate (put s r (record x { label = l; body = b })) t i) (sym (same_body x.body))
    ∙ turned_row s r (λ t. t) l x found (is_thread s r x found kind) t i other apart)

pub owning_lem : (s : State) (r t i : ℕ) (l c : LabelValue) → is_kind_at s kinds.Thread r ≡ true → t ≢ r
    → ShowsNot s t i r → translate (changed s r (owning l c)) t i ≡ translate s t i
owning_lem s r t i l c kind other apart =
    found_or_same s r (owning l c) t i
    (λ x found. turned_row s r (λ t. record t { clearance = c }) l x found (is_thread s r x found kind) t i other
    apart)

pub entered_lem : (s : State) (r t i : ℕ) (l c v : LabelValue) (gate : Gate)
    → is_kind_at s kinds.Thread r ≡ true → t ≢ r → ShowsNot s t i r
    → translate (changed s r (entered l c v gate)) t i ≡ translate s t i
entered_lem s r t i l c v gate kind other apart =
    found_or_same s r (entered l c v gate) t i
    (λ x found. turned_row s r (λ t. record {
      clearance = c;
      verify = v;
      space = gate.space;
      entry_point = gate.entry_point;
      closure = gate.closure;
    }) l x found (is_thread s r x found kind) t i other apart)

pub spaced_lem : (s : State) (r t i : ℕ) (e : Entry) → is_kind_at s kinds.Thread r ≡ true → t ≢ r
    → translate (changed s r (spaced e)) t i ≡ translate s t i
spaced_lem s r t i e kind other =
    found_or_same s r (spaced e) t i
    (λ x found. spaced_row s r (λ t. record t { space = e }) x.label x found (is_thread s r x found kind) t i other
    refl)

pub labels_lem : (s : State) (r t i : ℕ) → is_kind_at s kinds.Thread r ≡ true → t ≢ r → ShowsNot s t i r
    → LabelChangesKeepRows s r t i
labels_lem s r t i kind other apart = record {
  label = λ l. label_lem s r t i l kind other apart;
  owning = λ l c. owning_lem s r t i l c kind other apart;
  entered = λ l c v gate. entered_lem s r t i l c v gate kind other apart;
}

-- no other thread's address space changes
own_changed : (s : State) (r q : ℕ) (f : Object → Object) → q ≢ r → own_space (changed s r f) q ≡ own_space s q
own_changed s r q f other =
    elim (object_at s r)
    as (λ v. object_at s r ≡ v → own_space (of_object s (λ x. put s r (f x)) v) q ≡ own_space s q) [
      | None ↦ λ found. refl
      | Some x ↦ λ found. at_other space_read s r q x (f x) found other
    ] refl

pub label_own : (s : State) (r q : ℕ) (l : LabelValue) → q ≢ r
    → own_space (changed s r (labelled l)) q ≡ own_space s q
label_own s r q l other = own_changed s r q (labelled l) other

pub owning_own : (s : State) (r q : ℕ) (l c : LabelValue) → q ≢ r
    → own_space (changed s r (owning l c)) q ≡ own_space s q
owning_own s r q l c other = own_changed s r q (owning l c) other

pub entered_own : (s : State) (r q : ℕ) (l c v : LabelValue) (gate : Gate) → q ≢ r
    → own_space (changed s r (entered l c v gate)) q ≡ own_space s q
entered_own s r q l c v gate other = own_changed s r q (entered l c v gate) other
