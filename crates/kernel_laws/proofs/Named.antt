-- The rows of a state whose entries name rightly.
use Rattle.std.proofs.Common.{◌≡◌, ◌≢◌, ◌<◌, ◌⊎◌, ℕ, true, false, []}
use Rattle.std.proofs.Common.{Option, Some, None, refl, sym, ◌∙◌, ap, subst, inl, inr, arith, slice_get}
use Rattle.std.specs.Option.{option_map, option_and_then}
use Rattle.std.proofs.lemmas.Bool.{both_ways}
use Rattle.base.specs.declared.kinds.Kind.TheVariants as kinds
use Rattle.kernel_rules.specs.State.{State, object_at, of_object, is_kind, is_kind_at, slots_of, thread_of}
use Rattle.kernel_rules.specs.Translate.{translate, own_space, names_none, slot_at, slot_in}
use Rattle.kernel_rules.specs.declared.calls.Entry.{Entry}
use Rattle.kernel_rules.specs.declared.objects.Body as body
use Rattle.kernel_rules.specs.declared.objects.Body.TheVariants as is
use Rattle.kernel_rules.specs.declared.objects.Mapping.{Mapping}
use Rattle.kernel_rules.specs.declared.objects.Object.{Object}
use Rattle.kernel_laws.specs.Names.{NamesKind, NamesSpace, IsNamedRightly, space_in}
use Rattle.kernel_laws.specs.Through.{Through, slot_by, mapped_entry}
use Rattle.kernel_laws.proofs.Made.{none_named_lem}

-- a row is the same if it is where the thread's entry names some address space
pub unless_none : (s n : State) (t i : ℕ) → own_space n t ≡ own_space s t
    → (((e : Entry) → own_space s t ≡ Some e → names_none e ≡ false) → translate n t i ≡ translate s t i)
    → translate n t i ≡ translate s t i
unless_none s n t i own each =
    elim (own_space s t)
    as (λ v. own_space s t ≡ v → translate n t i ≡ translate s t i) [
      | None ↦ λ is. each (λ e on. let never : None ≡ Some e = sym is ∙ on in absurd (cc))
      | Some a ↦ λ is. elim (names_none a)
          as (λ v. names_none a ≡ v → translate n t i ≡ translate s t i) [
            | true ↦ λ none.
                none_named_lem n t i a (own ∙ is) none ∙ sym (none_named_lem s t i a is none)
            | false ↦ λ some. each (λ e on.
                let same : Some a ≡ Some e = sym is ∙ on in
                let at : a ≡ e = cc in
                subst (λ (z : Entry). names_none z ≡ false) at some)
          ] refl
    ] refl

space_thread : (b : body.Body) (e : Entry) → option_map (λ r. r.space) (thread_of b) ≡ Some e
    → space_in b ≡ Some e
space_thread (is.Thread t) e h = h
space_thread (is.Container avoid list) e h = absurd (cc)
space_thread (is.Segment bytes) e h = absurd (cc)
space_thread (is.AddressSpace slots) e h = absurd (cc)
space_thread (is.Gate g) e h = absurd (cc)
space_thread (is.Device packets) e h = absurd (cc)

own_names : (s : State) (t : ℕ) (e : Entry) → IsNamedRightly s → own_space s t ≡ Some e → NamesSpace s e
own_names s t e h =
    elim (object_at s t)
    as (λ v. object_at s t ≡ v
    → option_map (λ r. r.space) (option_and_then (λ x. thread_of x.body) v) ≡ Some e → NamesSpace s e) [
      | None ↦ λ found on. absurd (cc)
      | Some x ↦ λ found on. (h t x found).space e (space_thread x.body e on)
    ] refl

slot_names : (s : State) (a i : ℕ) (m : Mapping) → IsNamedRightly s → slot_at s a i ≡ Some m
    → NamesKind s kinds.Segment m.entry
slot_names s a i m h =
    elim (object_at s a)
    as (λ v. object_at s a ≡ v → slot_in (slice_get (of_object [] (λ x. slots_of x.body) v) i) ≡ Some m
    → NamesKind s kinds.Segment m.entry) [
      | None ↦ λ found on. absurd (cc)
      | Some x ↦ λ found on. (h a x found).slots i m on
    ] refl

pub mapped_names : (s : State) (t i : ℕ) (e : Entry) → IsNamedRightly s → mapped_entry s t i ≡ Some e
    → NamesKind s kinds.Segment e
mapped_names s t i e h on = by_space (own_space s t) on
  where
    by_mapping : (a : ℕ) (v : Option Mapping) → slot_at s a i ≡ v → option_map (λ m. m.entry) v ≡ Some e
        → NamesKind s kinds.Segment e
    by_mapping a None at g = absurd (cc)
    by_mapping a (Some m) at g =
        let same : m.entry ≡ e = cc in
        subst (λ (z : Entry). NamesKind s kinds.Segment z) same (slot_names s a i m h at)

    by_space : (v : Option Entry) → option_map (λ m. m.entry) (slot_by s i v) ≡ Some e
        → NamesKind s kinds.Segment e
    by_space None g = absurd (cc)
    by_space (Some a) g = by_mapping a.object (slot_at s a.object i) refl g

-- each entry that a row goes through names something, where the thread's own does
pub through_names : (s : State) (t i : ℕ) (e : Entry) → IsNamedRightly s
    → ((e : Entry) → own_space s t ≡ Some e → names_none e ≡ false) → Through s t i e
    → NamesKind s kinds.AddressSpace e ⊎ NamesKind s kinds.Segment e
through_names s t i e h some (inl on) = inl (own_names s t e h on (some e on))
through_names s t i e h some (inr on) = inr (mapped_names s t i e h on)

below_not : (q k : ℕ) → q < k → q ≢ k
below_not q k h on = let less : q < k = h in absurd (omega arith)

-- so it names no id to come
pub names_no_new : (s : State) (e : Entry)
    → NamesKind s kinds.AddressSpace e ⊎ NamesKind s kinds.Segment e
    → (e.container ≢ s.next_id) × (e.object ≢ s.next_id)
names_no_new s e (inl h) =
    (below_not e.container s.next_id h.container, below_not e.object s.next_id h.object)
names_no_new s e (inr h) =
    (below_not e.container s.next_id h.container, below_not e.object s.next_id h.object)

-- and no thread
kinds_apart : (b : body.Body) (x : Object) → is_kind kinds.Thread (record x { body = b }) ≡ true
    → (is_kind kinds.AddressSpace (record x { body = b }) ≡ false)
    × (is_kind kinds.Segment (record x { body = b }) ≡ false)
kinds_apart (is.Thread t) x h = (refl, refl)
kinds_apart (is.Container avoid list) x h = absurd (both_ways false refl h)
kinds_apart (is.Segment bytes) x h = absurd (both_ways false refl h)
kinds_apart (is.AddressSpace slots) x h = absurd (both_ways false refl h)
kinds_apart (is.Gate g) x h = absurd (both_ways false refl h)
kinds_apart (is.Device packets) x h = absurd (both_ways false refl h)

pub names_no_thread : (s : State) (r : ℕ) (e : Entry) → is_kind_at s kinds.Thread r ≡ true
    → NamesKind s kinds.AddressSpace e ⊎ NamesKind s kinds.Segment e → e.object ≢ r
names_no_thread s r e kind h on =
    elim (object_at s r)
    as (λ v. object_at s r ≡ v → of_object false (is_kind kinds.Thread) v ≡ true → ⊥) [
      | None ↦ λ found k. absurd (both_ways false refl k)
      | Some x ↦ λ found k.
          let apart = kinds_apart x.body x k in
          elim h [
            | inl names ↦
                let at : is_kind kinds.AddressSpace x ≡ true =
                ap (of_object true (is_kind kinds.AddressSpace)) (sym found ∙ ap (object_at s) (sym on))
                ∙ names.kind in
                absurd (both_ways (is_kind kinds.AddressSpace x) apart.0 at)
            | inr names ↦
                let at : is_kind kinds.Segment x ≡ true =
                ap (of_object true (is_kind kinds.Segment)) (sym found ∙ ap (object_at s) (sym on))
                ∙ names.kind in
                absurd (both_ways (is_kind kinds.Segment x) apart.1 at)
          ]
    ] refl kind
