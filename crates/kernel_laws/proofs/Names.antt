-- A state whose entries name rightly leads to such states.
use Rattle.std.proofs.Common.{◌≡◌, ◌≢◌, ◌≤◌, ◌<◌, ◌⊎◌, ℕ, zero, suc, ◌+◌, Bool, true, false, cond, not, ◌&&◌}
use Rattle.std.proofs.Common.{◌==◌, nat_lt, List, [], ◌∷◌, ◌++◌, Option, Some, None, refl, sym, ◌∙◌, ap, subst}
use Rattle.std.proofs.Common.{inl, inr, arith, slice_get, slice_set, replicate, Less, Equal, Greater}
use Rattle.std.specs.List.{list_all}
use Rattle.std.specs.Option.{option_and_then}
use Rattle.std.specs.Ordering.{nat_cmp, match_ordering, is_eq}
use Rattle.std.specs.Map.{lookup}
use Rattle.std.specs.BTreeMap.{is_at, insert_entry}
use Rattle.std.proofs.lemmas.Bool.{and_parts, not-false, both_ways, ltb-true, eqb-true, eq-eqb}
use Rattle.std.proofs.lemmas.List.Folds.{list_all-map}
use Rattle.base.specs.Live.{is_live}
use Rattle.base.specs.declared.kinds.Kind as kind
use Rattle.base.specs.declared.kinds.Kind.TheVariants as kinds
use Rattle.label_lattice.specs.Label.{LabelValue}
use Rattle.label_lattice.specs.LabelRules.{stored}
use Rattle.kernel_rules.specs.Changes.{put, changed, listing, with_new, made, fresh_object, relist, rebyte}
use Rattle.kernel_rules.specs.Changes.{requeue, rethread, reslot, owning, entered, with_body}
use Rattle.kernel_rules.specs.Changes.{labelled, cleared, spaced, without}
use Rattle.kernel_rules.specs.Table.{halted, refused, row}
use Rattle.kernel_rules.specs.State.{State, object_at, of_object, lists_of, listed, is_kind, is_kind_at}
use Rattle.kernel_rules.specs.State.{kind_of, kind_number, slots_of, thread_of, gate_of, gate_at}
use Rattle.kernel_rules.specs.State.{is_accessible, is_live_kind, observes}
use Rattle.kernel_rules.specs.Step.{next, edit, owned, made_of, made_bearer}
use Rattle.kernel_rules.specs.Step.{with_value, restricted, new_thread, new_gate}
use Rattle.kernel_rules.specs.Translate.{slot_in, names_none, place_of}
use Rattle.kernel_rules.specs.WellFormed.{is_well_formed}
use Rattle.kernel_rules.specs.declared.calls.Call.{Call}
use Rattle.kernel_rules.specs.declared.calls.Call.TheVariants as call
use Rattle.kernel_rules.specs.declared.calls.Entry.{Entry}
use Rattle.kernel_rules.specs.declared.objects.Body as body
use Rattle.kernel_rules.specs.declared.objects.Body.TheVariants as is
use Rattle.kernel_rules.specs.declared.objects.Gate.{Gate}
use Rattle.kernel_rules.specs.declared.objects.Mapping.{Mapping}
use Rattle.kernel_rules.specs.declared.objects.Object.{Object}
use Rattle.kernel_rules.specs.declared.objects.Thread as thread
use Rattle.kernel_rules.proofs.LookupLaws.{lookup_put, at_self, all_at}
use Rattle.kernel_rules.proofs.RowLaws.{none_hold}
use Rattle.kernel_rules.proofs.StepLaws.{step_refused, step_done}
use Rattle.kernel_rules.proofs.WellFormedLaws.{soundness_of}
use Rattle.kernel_laws.proofs.Frames.{lookup_inserted, restricted_at}
use Rattle.kernel_laws.specs.Names.{NamesKind, NamesSpace, NamesRightly, IsNamedRightly, space_in}
use Rattle.kernel_laws.proofs.Put.{at_any}

-- ids given before are given, and what is recorded there keeps its kind
record Follows (s n : State) : Type 0 where
  next : s.next_id ≤ n.next_id
  kinds : (k : kind.Kind) (q : ℕ) → q < s.next_id → of_object true (is_kind k) (object_at s q) ≡ true
      → of_object true (is_kind k) (object_at n q) ≡ true

below : (q a b : ℕ) → q < a → a ≤ b → q < b
below q a b h w = omega arith

follow_kind : (s n : State) (k : kind.Kind) (e : Entry) → Follows s n → NamesKind s k e → NamesKind n k e
follow_kind s n k e f h = record {
  container = below e.container s.next_id n.next_id h.container f.next;
  object = below e.object s.next_id n.next_id h.object f.next;
  kind = f.kinds k e.object h.object h.kind;
}

follow_space : (s n : State) (e : Entry) → Follows s n → NamesSpace s e → NamesSpace n e
follow_space s n e f h = λ some. follow_kind s n kinds.AddressSpace e f (h some)

follow : (s n : State) (b : body.Body) → Follows s n → NamesRightly s b → NamesRightly n b
follow s n b f h = record {
  space = λ e on. follow_space s n e f (h.space e on);
  slots = λ i m on. follow_kind s n kinds.Segment m.entry f (h.slots i m on);
}

follows_put : (s : State) (o : ℕ) (x y : Object) → object_at s o ≡ Some x → kind_of y.body ≡ kind_of x.body
    → Follows s (put s o y)
follows_put s o x y found kind = record {
  next = omega arith;
  kinds = λ k q old h.
      at_any (of_object true (is_kind k)) s o q x y found (ap (λ n. kind_number n == kind_number k) kind) ∙ h;
}

follows_changed : (s : State) (o : ℕ) (f : Object → Object)
    → ((x : Object) → kind_of (f x).body ≡ kind_of x.body) → Follows s (changed s o f)
follows_changed s o f kind =
    elim (object_at s o) as (λ v. object_at s o ≡ v → Follows s (of_object s (λ x. put s o (f x)) v)) [
      | None ↦ λ found. record { next = omega arith; kinds = λ k q old h. h }
      | Some x ↦ λ found. follows_put s o x (f x) found (kind x)
    ] refl

named_put : (s : State) (o : ℕ) (x y : Object) → IsNamedRightly s → object_at s o ≡ Some x
    → kind_of y.body ≡ kind_of x.body → NamesRightly s y.body → IsNamedRightly (put s o y)
named_put s o x y h found kind new q z now =
    let there : cond (is_at (nat_cmp q) o) (Some y) (object_at s q) ≡ Some z =
    sym (lookup_put o q s.objects x y found) ∙ now in
    elim (is_at (nat_cmp q) o)
    as (λ v. cond v (Some y) (object_at s q) ≡ Some z → NamesRightly (put s o y) z.body) [
      | true ↦ λ f.
          let same : y ≡ z = cc in
          follow s (put s o y) z.body (follows_put s o x y found kind)
          (subst (λ (w : Object). NamesRightly s w.body) same new)
      | false ↦ λ f. follow s (put s o y) z.body (follows_put s o x y found kind) (h q z f)
    ] there

named_changed : (s : State) (o : ℕ) (f : Object → Object) → IsNamedRightly s
    → ((x : Object) → kind_of (f x).body ≡ kind_of x.body)
    → ((x : Object) → object_at s o ≡ Some x → NamesRightly s (f x).body) → IsNamedRightly (changed s o f)
named_changed s o f h kind new =
    elim (object_at s o)
    as (λ v. object_at s o ≡ v → IsNamedRightly (of_object s (λ x. put s o (f x)) v)) [
      | None ↦ λ found. h
      | Some x ↦ λ found. named_put s o x (f x) h found (kind x) (new x found)
    ] refl

-- a body with the same entries
same_names : (s : State) (a b : body.Body) → space_in b ≡ space_in a → slots_of b ≡ slots_of a
    → NamesRightly s a → NamesRightly s b
same_names s a b space slots h = record {
  space = λ e on. h.space e (sym space ∙ on);
  slots = λ i m on. h.slots i m (ap (λ l. slot_in (slice_get l i)) (sym slots) ∙ on);
}

pub named_alike : (s : State) (o : ℕ) (f : Object → Object) → IsNamedRightly s
    → ((x : Object) → kind_of (f x).body ≡ kind_of x.body)
    → ((x : Object) → space_in (f x).body ≡ space_in x.body)
    → ((x : Object) → slots_of (f x).body ≡ slots_of x.body) → IsNamedRightly (changed s o f)
named_alike s o f h kind space slots =
    named_changed s o f h kind (λ x found. same_names s x.body (f x).body (space x) (slots x) (h o x found))

-- what is live names as before
pub named_rest : (s : State) → IsNamedRightly s → IsNamedRightly (restricted s)
named_rest s h o x now =
    follow s (restricted s) x.body (record { next = omega arith; kinds = kept })
    (elim (is_live (lists_of s.objects) o)
    as (λ v. cond v (object_at s o) None ≡ Some x → NamesRightly s x.body) [
      | true ↦ λ f. h o x f
      | false ↦ λ f. absurd (cc)
    ] (sym (restricted_at s o) ∙ now))
  where
    either : (k : kind.Kind) (b : Bool) (v : Option Object) → of_object true (is_kind k) v ≡ true
        → of_object true (is_kind k) (cond b v None) ≡ true
    either k true v h = h
    either k false v h = refl

    kept : (k : kind.Kind) (q : ℕ) → q < s.next_id → of_object true (is_kind k) (object_at s q) ≡ true
        → of_object true (is_kind k) (object_at (restricted s) q) ≡ true
    kept k q old g =
        ap (of_object true (is_kind k)) (restricted_at s q)
        ∙ either k (is_live (lists_of s.objects) q) (object_at s q) g

inserted_at : (k : ℕ) (es : List (ℕ × Object)) (x : Object)
    → lookup (is_at (nat_cmp k)) (insert_entry nat_cmp es k x) ≡ Some x
inserted_at k [] x = ap (λ b. cond b (Some x) None) (at_self k)
inserted_at k (e ∷ es) x =
    elim (nat_cmp k e.0)
    as (λ v. nat_cmp k e.0 ≡ v
    → lookup (is_at (nat_cmp k))
    (match_ordering v ((k, x) ∷ e ∷ es) ((e.0, x) ∷ es) (e ∷ insert_entry nat_cmp es k x)) ≡ Some x) [
      | Less ↦ λ by. ap (λ b. cond b (Some x) (lookup (is_at (nat_cmp k)) (e ∷ es))) (at_self k)
      | Equal ↦ λ by. ap (λ v. cond (is_eq v) (Some x) (lookup (is_at (nat_cmp k)) es)) by
      | Greater ↦ λ by.
          ap (λ v. cond (is_eq v) (Some e.1) (lookup (is_at (nat_cmp k)) (insert_entry nat_cmp es k x))) by
          ∙ inserted_at k es x
    ] refl

apart : (q k : ℕ) → q < k → q ≢ k
apart q k h on = let both : q < k = h in absurd (omega arith)

follows_new : (s : State) (x : Object) → Follows s (with_new s x)
follows_new s x = record {
  next = omega arith;
  kinds = λ k q old h.
      ap (of_object true (is_kind k)) (lookup_inserted s.next_id q s.objects x (apart q s.next_id old)) ∙ h;
}

named_new : (s : State) (x : Object) → IsNamedRightly s → NamesRightly s x.body → IsNamedRightly (with_new s x)
named_new s x h new q z now =
    elim (q == s.next_id) as (λ v. (q == s.next_id) ≡ v → NamesRightly (with_new s x) z.body) [
      | true ↦ λ on.
          let at : object_at (with_new s x) q ≡ Some x =
          ap (object_at (with_new s x)) (eqb-true q s.next_id on) ∙ inserted_at s.next_id s.objects x in
          let same : x ≡ z = cc in
          follow s (with_new s x) z.body (follows_new s x)
          (subst (λ (w : Object). NamesRightly s w.body) same new)
      | false ↦ λ off.
          follow s (with_new s x) z.body (follows_new s x)
          (h q z (sym (lookup_inserted s.next_id q s.objects x
          (λ on. both_ways (q == s.next_id) off (eq-eqb q s.next_id on))) ∙ now))
    ] refl

kind-relist : (f : List ℕ → List ℕ) (b : body.Body) → kind_of (relist f b) ≡ kind_of b
kind-relist f (is.Container avoid list) = refl
kind-relist f (is.Segment bytes) = refl
kind-relist f (is.AddressSpace slots) = refl
kind-relist f (is.Thread t) = refl
kind-relist f (is.Gate g) = refl
kind-relist f (is.Device packets) = refl

space-relist : (f : List ℕ → List ℕ) (b : body.Body) → space_in (relist f b) ≡ space_in b
space-relist f (is.Container avoid list) = refl
space-relist f (is.Segment bytes) = refl
space-relist f (is.AddressSpace slots) = refl
space-relist f (is.Thread t) = refl
space-relist f (is.Gate g) = refl
space-relist f (is.Device packets) = refl

slots-relist : (f : List ℕ → List ℕ) (b : body.Body) → slots_of (relist f b) ≡ slots_of b
slots-relist f (is.Container avoid list) = refl
slots-relist f (is.Segment bytes) = refl
slots-relist f (is.AddressSpace slots) = refl
slots-relist f (is.Thread t) = refl
slots-relist f (is.Gate g) = refl
slots-relist f (is.Device packets) = refl

kind-rebyte : (f : List ℕ → List ℕ) (b : body.Body) → kind_of (rebyte f b) ≡ kind_of b
kind-rebyte f (is.Container avoid list) = refl
kind-rebyte f (is.Segment bytes) = refl
kind-rebyte f (is.AddressSpace slots) = refl
kind-rebyte f (is.Thread t) = refl
kind-rebyte f (is.Gate g) = refl
kind-rebyte f (is.Device packets) = refl

space-rebyte : (f : List ℕ → List ℕ) (b : body.Body) → space_in (rebyte f b) ≡ space_in b
space-rebyte f (is.Container avoid list) = refl
space-rebyte f (is.Segment bytes) = refl
space-rebyte f (is.AddressSpace slots) = refl
space-rebyte f (is.Thread t) = refl
space-rebyte f (is.Gate g) = refl
space-rebyte f (is.Device packets) = refl

slots-rebyte : (f : List ℕ → List ℕ) (b : body.Body) → slots_of (rebyte f b) ≡ slots_of b
slots-rebyte f (is.Container avoid list) = refl
slots-rebyte f (is.Segment bytes) = refl
slots-rebyte f (is.AddressSpace slots) = refl
slots-rebyte f (is.Thread t) = refl
slots-rebyte f (is.Gate g) = refl
slots-rebyte f (is.Device packets) = refl

kind-requeue : (f : List (List ℕ) → List (List ℕ)) (b : body.Body) → kind_of (requeue f b) ≡ kind_of b
kind-requeue f (is.Container avoid list) = refl
kind-requeue f (is.Segment bytes) = refl
kind-requeue f (is.AddressSpace slots) = refl
kind-requeue f (is.Thread t) = refl
kind-requeue f (is.Gate g) = refl
kind-requeue f (is.Device packets) = refl

space-requeue : (f : List (List ℕ) → List (List ℕ)) (b : body.Body) → space_in (requeue f b) ≡ space_in b
space-requeue f (is.Container avoid list) = refl
space-requeue f (is.Segment bytes) = refl
space-requeue f (is.AddressSpace slots) = refl
space-requeue f (is.Thread t) = refl
space-requeue f (is.Gate g) = refl
space-requeue f (is.Device packets) = refl

slots-requeue : (f : List (List ℕ) → List (List ℕ)) (b : body.Body) → slots_of (requeue f b) ≡ slots_of b
slots-requeue f (is.Container avoid list) = refl
slots-requeue f (is.Segment bytes) = refl
slots-requeue f (is.AddressSpace slots) = refl
slots-requeue f (is.Thread t) = refl
slots-requeue f (is.Gate g) = refl
slots-requeue f (is.Device packets) = refl

kind-rethread : (f : thread.Thread → thread.Thread) (b : body.Body) → kind_of (rethread f b) ≡ kind_of b
kind-rethread f (is.Container avoid list) = refl
kind-rethread f (is.Segment bytes) = refl
kind-rethread f (is.AddressSpace slots) = refl
kind-rethread f (is.Thread t) = refl
kind-rethread f (is.Gate g) = refl
kind-rethread f (is.Device packets) = refl

kind-reslot : (f : List (Option Mapping) → List (Option Mapping)) (b : body.Body) → kind_of (reslot f b) ≡ kind_of b
kind-reslot f (is.Container avoid list) = refl
kind-reslot f (is.Segment bytes) = refl
kind-reslot f (is.AddressSpace slots) = refl
kind-reslot f (is.Thread t) = refl
kind-reslot f (is.Gate g) = refl
kind-reslot f (is.Device packets) = refl

-- a thread with another entry
rethread_names : (s : State) (f : thread.Thread → thread.Thread) (b : body.Body)
    → ((r : thread.Thread) → thread_of b ≡ Some r → NamesSpace s (f r).space) → NamesRightly s b
    → NamesRightly s (rethread f b)
rethread_names s f (is.Container avoid list) new h = h
rethread_names s f (is.Segment bytes) new h = h
rethread_names s f (is.AddressSpace slots) new h = h
rethread_names s f (is.Thread t) new h = record {
  space = λ e on. let same : (f t).space ≡ e = cc in subst (λ (a : Entry). NamesSpace s a) same (new t refl);
  slots = λ i m on. h.slots i m on;
}
rethread_names s f (is.Gate g) new h = h
rethread_names s f (is.Device packets) new h = h

-- an element of a list of which one was written
set_cases : (xs : List (Option Mapping)) (k i : ℕ) (v : Option Mapping) (m : Mapping)
    → slot_in (slice_get (slice_set xs k v) i) ≡ Some m
    → (v ≡ Some m) ⊎ (slot_in (slice_get xs i) ≡ Some m)
set_cases [] k i v m h = inr h
set_cases (x ∷ xs) zero zero v m h = inl h
set_cases (x ∷ xs) zero (suc i) v m h = inr h
set_cases (x ∷ xs) (suc k) zero v m h = inr h
set_cases (x ∷ xs) (suc k) (suc i) v m h = set_cases xs k i v m h

-- an address space with another slot
reslot_names : (s : State) (k : ℕ) (v : Option Mapping) (b : body.Body)
    → ((m : Mapping) → v ≡ Some m → NamesKind s kinds.Segment m.entry) → NamesRightly s b
    → NamesRightly s (reslot (λ slots. slice_set slots k v) b)
reslot_names s k v (is.Container avoid list) new h = h
reslot_names s k v (is.Segment bytes) new h = h
reslot_names s k v (is.AddressSpace slots) new h = record {
  space = λ e on. h.space e on;
  slots = λ i m on. elim (set_cases slots.slots k i v m on) [
    | inl fresh ↦ new m fresh
    | inr old ↦ h.slots i m old
  ];
}
reslot_names s k v (is.Thread t) new h = h
reslot_names s k v (is.Gate g) new h = h
reslot_names s k v (is.Device packets) new h = h

-- a body that names nothing
pub empty_slots : (n i : ℕ) → slot_in (slice_get (replicate n None) i) ≡ None
empty_slots zero i = refl
empty_slots (suc n) zero = refl
empty_slots (suc n) (suc i) = empty_slots n i

-- a body without entries
pub nameless : (s : State) (b : body.Body) → ((e : Entry) → space_in b ≡ Some e → NamesSpace s e)
    → ((i : ℕ) → slot_in (slice_get (slots_of b) i) ≡ None) → NamesRightly s b
nameless s b space none = record {
  space = space;
  slots = λ i m on. let never : Some m ≡ None = sym on ∙ none i in absurd (cc);
}

pub named_value : {X : Type 0} (s : State) (v : Option X) (f : X → State) → IsNamedRightly s
    → ((x : X) → v ≡ Some x → IsNamedRightly (f x)) → IsNamedRightly (with_value s v f)
named_value s None f h each = h
named_value s (Some x) f h each = each x refl

named_made : (s : State) (d : ℕ) (x : Object) → IsNamedRightly s → NamesRightly s x.body
    → IsNamedRightly (made s d x)
named_made s d x h new =
    let kinds : (y : Object) → kind_of (listing s.next_id y).body ≡ kind_of y.body =
    (λ y. kind-relist (λ ids. ids ++ s.next_id ∷ []) y.body) in
    let mid : IsNamedRightly (changed s d (listing s.next_id)) =
    named_alike s d (listing s.next_id) h kinds (λ y. space-relist (λ ids. ids ++ s.next_id ∷ []) y.body)
    (λ y. slots-relist (λ ids. ids ++ s.next_id ∷ []) y.body) in
    let there : NamesRightly (changed s d (listing s.next_id)) x.body =
    follow s (changed s d (listing s.next_id)) x.body (follows_changed s d (listing s.next_id) kinds) new in
    named_new (changed s d (listing s.next_id)) x mid there

pub named_created : (s : State) (d : ℕ) (x : Option LabelValue) (q : ℕ) (b : body.Body) → IsNamedRightly s
    → NamesRightly s b → IsNamedRightly (made_of s d x q b)
named_created s d x q b h new =
    named_value s x (λ l. made s d (fresh_object l q b)) h
    (λ l is. named_made s d (fresh_object l q b) h new)

named_bearer : (s : State) (d : ℕ) (x : Option LabelValue) (q : ℕ) (y : Option LabelValue)
    (b : LabelValue → body.Body) → IsNamedRightly s → ((c : LabelValue) → NamesRightly s (b c))
    → IsNamedRightly (made_bearer s d x q y b)
named_bearer s d x q y b h new =
    named_value s y (λ c. made_of s d x q (b c)) h (λ c is. named_created s d x q (b c) h (new c))

-- the entry that a thread or gate has
space_thread : (b : body.Body) (r : thread.Thread) → thread_of b ≡ Some r → space_in b ≡ Some r.space
space_thread (is.Thread t) r h = let same : t ≡ r = cc in ap (λ (z : thread.Thread). Some z.space) same
space_thread (is.Container avoid list) r h = absurd (cc)
space_thread (is.Segment bytes) r h = absurd (cc)
space_thread (is.AddressSpace slots) r h = absurd (cc)
space_thread (is.Gate g) r h = absurd (cc)
space_thread (is.Device packets) r h = absurd (cc)

space_gate : (b : body.Body) (g : Gate) → gate_of b ≡ Some g → space_in b ≡ Some g.space
space_gate (is.Gate t) r h = let same : t ≡ r = cc in ap (λ (z : Gate). Some z.space) same
space_gate (is.Container avoid list) r h = absurd (cc)
space_gate (is.Segment bytes) r h = absurd (cc)
space_gate (is.AddressSpace slots) r h = absurd (cc)
space_gate (is.Thread t) r h = absurd (cc)
space_gate (is.Device packets) r h = absurd (cc)

pub gate_space : (s : State) (g : ℕ) (gate : Gate) → IsNamedRightly s → gate_at s g ≡ Some gate
    → NamesSpace s gate.space
gate_space s g gate h =
    elim (object_at s g)
    as (λ v. object_at s g ≡ v → option_and_then (λ x. gate_of x.body) v ≡ Some gate
    → NamesSpace s gate.space) [
      | None ↦ λ found at. absurd (cc)
      | Some x ↦ λ found at. (h g x found).space gate.space (space_gate x.body gate at)
    ] refl

-- a thread with another body
pub named_thread : (s : State) (t : ℕ) (f : Object → Object) (g : thread.Thread → thread.Thread) → IsNamedRightly s
    → ((x : Object) → (f x).body ≡ rethread g x.body)
    → ((x : Object) (r : thread.Thread) → object_at s t ≡ Some x → thread_of x.body ≡ Some r
    → NamesSpace s (g r).space) → IsNamedRightly (changed s t f)
named_thread s t f g h same new =
    named_changed s t f h (λ x. ap kind_of (same x) ∙ kind-rethread g x.body)
    (λ x found. subst (λ (b : body.Body). NamesRightly s b) (sym (same x))
    (rethread_names s g x.body (λ r on. new x r found on) (h t x found)))

pub old_space : (s : State) (t : ℕ) (x : Object) (r : thread.Thread) → IsNamedRightly s → object_at s t ≡ Some x
    → thread_of x.body ≡ Some r → NamesSpace s r.space
old_space s t x r h found on = (h t x found).space r.space (space_thread x.body r on)

pub named_owned : (s : State) (t : ℕ) (l c : Option LabelValue) → IsNamedRightly s → IsNamedRightly (owned s t l c)
named_owned s t None c h = h
named_owned s t (Some l) None h = h
named_owned s t (Some l) (Some c) h =
    let mid : IsNamedRightly (changed s t (owning l c)) =
    named_thread s t (owning l c) (λ r. record r { clearance = c }) h (λ x. refl)
    (λ x r found on. old_space s t x r h found on) in
    (λ o x found.
    follow (changed s t (owning l c)) (record (changed s t (owning l c)) { next_category = s.next_category + 1 })
    x.body (record { next = omega arith; kinds = λ k q old g. g }) (mid o x found))

-- what is recorded was given
pub given_kind : (s : State) (k : kind.Kind) (o : ℕ) → is_well_formed s ≡ true → is_kind_at s k o ≡ true
    → (o < s.next_id) × (of_object true (is_kind k) (object_at s o) ≡ true)
given_kind s k o wf h =
    let given : list_all (λ e. nat_lt e.0 s.next_id) s.objects ≡ true =
    sym (list_all-map (λ e. nat_lt e.0 s.next_id) (λ e. (e.0, listed e.1.body)) s.objects)
    ∙ (soundness_of s wf).given in
    elim (object_at s o)
    as (λ v. object_at s o ≡ v → of_object false (is_kind k) v ≡ true
    → (o < s.next_id) × (of_object true (is_kind k) v ≡ true)) [
      | None ↦ λ found at. absurd (both_ways false refl at)
      | Some x ↦ λ found at.
          (ltb-true o s.next_id (all_at (λ q y. nat_lt q s.next_id) s.objects o x given found), at)
    ] refl h

pub accessible_kind : (s : State) (t d : ℕ) → is_accessible s t d ≡ true → is_kind_at s kinds.Container d ≡ true
accessible_kind s t d h =
    (and_parts (is_kind_at s kinds.Container d) (is_live (lists_of s.objects) d)
    (and_parts (is_live_kind s kinds.Container d) (observes s t d) h).0).0

names_from : (s : State) (t : ℕ) (k : kind.Kind) (e : Entry) → is_well_formed s ≡ true
    → is_accessible s t e.container ≡ true → is_kind_at s k e.object ≡ true → NamesKind s k e
names_from s t k e wf first second =
    let a = given_kind s kinds.Container e.container wf (accessible_kind s t e.container first) in
    let b = given_kind s k e.object wf second in
    record { container = a.0; object = b.0; kind = b.1 }

space_from : (s : State) (t : ℕ) (e : Entry) → is_well_formed s ≡ true
    → (not (names_none e) && not (is_accessible s t e.container)) ≡ false
    → (not (names_none e) && not (is_kind_at s kinds.AddressSpace e.object)) ≡ false → NamesSpace s e
space_from s t e wf first second =
    elim (names_none e)
    as (λ v. names_none e ≡ v → (not v && not (is_accessible s t e.container)) ≡ false
    → (not v && not (is_kind_at s kinds.AddressSpace e.object)) ≡ false → NamesSpace s e) [
      | true ↦ λ none a b. λ some. absurd (both_ways (names_none e) some none)
      | false ↦ λ some a b.
          λ _. names_from s t kinds.AddressSpace e wf (not-false _ a) (not-false _ b)
    ] refl first second

pub named_bytes : (s : State) (o : ℕ) (f : List ℕ → List ℕ) → IsNamedRightly s
    → IsNamedRightly (changed s o (with_body (rebyte f)))
named_bytes s o f h =
    named_alike s o (with_body (rebyte f)) h (λ x. kind-rebyte f x.body) (λ x. space-rebyte f x.body)
    (λ x. slots-rebyte f x.body)

pub named_packets : (s : State) (o : ℕ) (f : List (List ℕ) → List (List ℕ)) → IsNamedRightly s
    → IsNamedRightly (changed s o (with_body (requeue f)))
named_packets s o f h =
    named_alike s o (with_body (requeue f)) h (λ x. kind-requeue f x.body) (λ x. space-requeue f x.body)
    (λ x. slots-requeue f x.body)

pub named_lists : (s : State) (o : ℕ) (f : List ℕ → List ℕ) → IsNamedRightly s
    → IsNamedRightly (changed s o (with_body (relist f)))
named_lists s o f h =
    named_alike s o (with_body (relist f)) h (λ x. kind-relist f x.body) (λ x. space-relist f x.body)
    (λ x. slots-relist f x.body)

pub named_slot : (s : State) (o k : ℕ) (v : Option Mapping) → IsNamedRightly s
    → ((m : Mapping) → v ≡ Some m → NamesKind s kinds.Segment m.entry)
    → IsNamedRightly (changed s o (with_body (reslot (λ slots. slice_set slots k v))))
named_slot s o k v h new =
    named_changed s o (with_body (reslot (λ slots. slice_set slots k v))) h
    (λ x. kind-reslot (λ slots. slice_set slots k v) x.body)
    (λ x found. reslot_names s k v x.body new (h o x found))

pub nothing_named : (s : State) (b : body.Body) → space_in b ≡ None → slots_of b ≡ [] → NamesRightly s b
nothing_named s b space slots =
    nameless s b (λ e on. let never : Some e ≡ None = sym on ∙ space in absurd (cc))
    (λ i. ap (λ l. slot_in (slice_get l i)) slots)

named_edit : (s : State) (t : ℕ) (c : Call) → is_well_formed s ≡ true → refused s t c ≡ None
    → IsNamedRightly s → IsNamedRightly (edit s t c)
unfolding refused
named_edit s t call.CatCreate wf r h = named_owned s t _ _ h
named_edit s t (call.SelfSetLabel x) wf r h =
    named_value s (stored x) _ h
    (λ l at. named_alike s t (labelled l) h (λ x. refl) (λ x. refl) (λ x. refl))
named_edit s t (call.SelfSetClearance y) wf r h =
    named_value s (stored y) _ h
    (λ l at. named_thread s t (cleared l) (λ r. record r { clearance = l }) h (λ x. refl)
    (λ x r found on. old_space s t x r h found on))
named_edit s t (call.SelfSetAs e) wf r h =
    let none = none_hold (halted s t ++ row s t (call.SelfSetAs e)) r in
    named_thread s t (spaced e) (λ r. record r { space = e }) h (λ x. refl)
    (λ x r found on. space_from s t e wf none.1.0 none.1.1.1.0)
named_edit s t (call.ContainerCreate n) wf r h =
    named_created s n.container _ n.quota _ h (nothing_named s _ refl refl)
named_edit s t (call.SegmentCreate n) wf r h =
    named_created s n.container _ n.quota _ h (nothing_named s _ refl refl)
named_edit s t (call.SegmentCopy n) wf r h =
    named_created s n.container _ n.quota _ h (nothing_named s _ refl refl)
named_edit s t (call.AsCreate n) wf r h =
    named_created s n.container _ n.quota _ h
    (nameless s (is.AddressSpace (record { slots = replicate 16 None })) (λ e on. absurd (cc)) (empty_slots 16))
named_edit s t (call.ThreadCreate n) wf r h =
    named_bearer s n.container _ n.quota _ _ h
    (λ c. nameless s (new_thread c n.entry_point)
    (λ e on. let same : (record { container = 0; object = 0 }) ≡ e = cc in
    subst (λ (a : Entry). NamesSpace s a) same (λ some. absurd (both_ways true some refl))) (λ i. refl))
named_edit s t (call.GateCreate n) wf r h =
    let none = none_hold (halted s t ++ row s t (call.GateCreate n)) r in
    named_bearer s n.container _ n.quota _ _ h
    (λ c. nameless s (new_gate c n.space n.entry_point n.closure)
    (λ e on. let same : n.space ≡ e = cc in
    subst (λ (a : Entry). NamesSpace s a) same (space_from s t n.space wf none.1.0 none.1.1.1.0)) (λ i. refl))
named_edit s t (call.Link d e) wf r h = named_lists s d (λ ids. ids ++ e.object ∷ []) h
named_edit s t (call.Unref e) wf r h = named_lists s e.container (without e.object) h
named_edit s t (call.QuotaMove e n) wf r h =
    named_alike s e.object _ h (λ x. refl) (λ x. refl) (λ x. refl)
named_edit s t (call.SetFixed e) wf r h = named_alike s e.object _ h (λ x. refl) (λ x. refl) (λ x. refl)
named_edit s t (call.SetImmutable e) wf r h = named_alike s e.object _ h (λ x. refl) (λ x. refl) (λ x. refl)
named_edit s t (call.MetaSet e bytes) wf r h =
    named_alike s e.object _ h (λ x. refl) (λ x. refl) (λ x. refl)
named_edit s t (call.SegmentResize e pages) wf r h = named_bytes s e.object _ h
named_edit s t (call.SegmentWrite e a bytes) wf r h = named_bytes s e.object _ h
named_edit s t (call.AsMap e slot m) wf r h =
    let none = none_hold (halted s t ++ row s t (call.AsMap e slot m)) r in
    named_slot s e.object slot (Some m) h
    (λ a on. let same : m ≡ a = cc in
    subst (λ (z : Mapping). NamesKind s kinds.Segment z.entry) same
    (names_from s t kinds.Segment m.entry wf (not-false _ none.1.1.1.0) (not-false _ none.1.1.1.1.1.1.0)))
named_edit s t (call.AsUnmap e slot) wf r h = named_slot s e.object slot None h (λ m on. absurd (cc))
named_edit s t (call.Store address bytes) wf r h =
    named_value s (place_of s t address) _ h (λ p at. named_bytes s p.segment _ h)
named_edit s t (call.GateEnter e r q v) wf ref h =
    named_value s (stored r) _ h (λ l first. named_value s (stored q) _ h (λ c second.
    named_value s (stored v) _ h (λ w third. named_value s (gate_at s e.object) _ h (λ gate at.
    named_thread s t (entered l c w gate) (λ r. record {
      clearance = c;
      verify = w;
      space = gate.space;
      entry_point = gate.entry_point;
      closure = gate.closure;
    }) h (λ x. refl) (λ x r found on. gate_space s e.object gate h at)))))
named_edit s t (call.DevSend e bytes) wf r h = named_packets s e.object _ h
named_edit s t (call.DevRecv e) wf r h = named_packets s e.object _ h

pub named_lem : (s : State) (t : ℕ) (c : Call) → is_well_formed s ≡ true → IsNamedRightly s
    → IsNamedRightly (next s t c)
named_lem s t c wf h =
    elim (refused s t c) as (λ v. refused s t c ≡ v → IsNamedRightly (next s t c)) [
      | None ↦ λ r. subst IsNamedRightly (sym (step_done s t c r).1)
          (named_rest (edit s t c) (named_edit s t c wf r h))
      | Some w ↦ λ r. subst IsNamedRightly (sym (step_refused s t c w r).1) h
    ] refl
