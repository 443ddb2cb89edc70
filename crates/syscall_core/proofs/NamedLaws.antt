-- Entries name rightly after each change of a state in which they do.
use Rattle.std.proofs.Common.{◌≡◌, ℕ, ◌*◌, [], true, Option, None, Some, refl, replicate, subst, inl, inr, IfSome}
use Rattle.std.proofs.lemmas.Bool.{and_parts, both_ways, or_cases}
use Rattle.label_lattice.specs.Label.{LabelValue}
use Rattle.base.specs.declared.kinds.Kind as kind
use Rattle.base.specs.declared.kinds.Kind.TheVariants as kinds
use Rattle.kernel_rules.specs.Changes.{changed, cleared, entered, labelled, spaced}
use Rattle.kernel_rules.specs.State.{State, bytes_at, gate_at, is_kind_at}
use Rattle.kernel_rules.specs.Step.{new_thread, with_value}
use Rattle.kernel_rules.specs.Translate.{names_none}
use Rattle.kernel_rules.specs.WellFormed.{is_well_formed}
use Rattle.kernel_rules.specs.declared.calls.Entry.{Entry}
use Rattle.kernel_rules.specs.declared.objects.Gate.{Gate}
use Rattle.kernel_rules.specs.declared.objects.Mapping.{Mapping}
use Rattle.kernel_rules.specs.declared.objects.Body.TheVariants as is
use Rattle.kernel_store.specs.Named.{names, names_space}
use Rattle.kernel_store.specs.NewBodies.{new_body, IsSourced}
use Rattle.kernel_store.specs.declared.new_bodies.NewBody.{NewBody}
use Rattle.kernel_store.specs.declared.new_bodies.NewBody.TheVariants as new
use Rattle.kernel_laws.specs.Names.{NamesKind, NamesSpace, NamesRightly, IsNamedRightly}
use Rattle.kernel_laws.proofs.Names.{given_kind, named_value, named_alike, named_thread, old_space, gate_space, nameless, nothing_named, empty_slots}

-- what a store is handed
pub kind_named : (s : State) (k : kind.Kind) (e : Entry) → is_well_formed s ≡ true → names s k e ≡ true → NamesKind s k e
kind_named s k e wf h =
    let both : (is_kind_at s kinds.Container e.container ≡ true) × (is_kind_at s k e.object ≡ true)
    = and_parts (is_kind_at s kinds.Container e.container) (is_kind_at s k e.object) h in
    let a = given_kind s kinds.Container e.container wf both.0 in
    let b = given_kind s k e.object wf both.1 in
    record { container = a.0; object = b.0; kind = b.1 }

pub space_named : (s : State) (e : Entry) → is_well_formed s ≡ true → names_space s e ≡ true → NamesSpace s e
space_named s e wf h = λ some. elim (or_cases (names_none e) (names s kinds.AddressSpace e) h) [
  | inl none ↦ absurd (both_ways (names_none e) some none)
  | inr named ↦ kind_named s kinds.AddressSpace e wf named
]

pub mapping_named : (s : State) (v : Option Mapping) → is_well_formed s ≡ true
    → IfSome v (λ m. names s kinds.Segment m.entry ≡ true) → (m : Mapping) → v ≡ Some m → NamesKind s kinds.Segment m.entry
mapping_named s v wf h m is =
    kind_named s kinds.Segment m.entry wf
    (subst (λ (w : Option Mapping). IfSome w (λ m. names s kinds.Segment m.entry ≡ true)) is h)

-- changes of a thread
pub labelled_named : (s : State) (t : ℕ) (v : Option LabelValue) → IsNamedRightly s
    → IsNamedRightly (with_value s v (λ l. changed s t (labelled l)))
labelled_named s t v h =
    named_value s v (λ l. changed s t (labelled l)) h
    (λ l at. named_alike s t (labelled l) h (λ x. refl) (λ x. refl) (λ x. refl))

pub cleared_named : (s : State) (t : ℕ) (v : Option LabelValue) → IsNamedRightly s
    → IsNamedRightly (with_value s v (λ c. changed s t (cleared c)))
cleared_named s t v h =
    named_value s v (λ c. changed s t (cleared c)) h
    (λ c at. named_thread s t (cleared c) (λ r. record r { clearance = c }) h (λ x. refl)
    (λ x r found on. old_space s t x r h found on))

pub spaced_named : (s : State) (t : ℕ) (e : Entry) → NamesSpace s e → IsNamedRightly s
    → IsNamedRightly (changed s t (spaced e))
spaced_named s t e right h =
    named_thread s t (spaced e) (λ r. record r { space = e }) h (λ x. refl) (λ x r found on. right)

pub entered_named : (s : State) (t id : ℕ) (l c v : LabelValue) (gate : Gate) → gate_at s id ≡ Some gate → IsNamedRightly s
    → IsNamedRightly (changed s t (entered l c v gate))
entered_named s t id l c v gate at h =
    named_thread s t (entered l c v gate) (λ r. record {
      clearance = c;
      verify = v;
      space = gate.space;
      entry_point = gate.entry_point;
      closure = gate.closure;
    }) h (λ x. refl) (λ x r found on. gate_space s id gate h at)

-- a new gate
pub gate_named : (s : State) (g : Gate) → NamesSpace s g.space → NamesRightly s (is.Gate g)
gate_named s g right =
    nameless s (is.Gate g) (λ e on. let same : g.space ≡ e = cc in subst (λ (a : Entry). NamesSpace s a) same right)
    (λ i. refl)

-- a new thread
pub thread_named : (s : State) (c : LabelValue) (entry_point : ℕ) → NamesRightly s (new_thread c entry_point)
thread_named s c entry_point =
    nameless s (new_thread c entry_point)
    (λ e on.
    let none : Entry = record { container = 0; object = 0 } in
    let same : none ≡ e = cc in
    subst (λ (a : Entry). NamesSpace s a) same (λ some. absurd (both_ways true some refl))) (λ i. refl)

-- a new object
pub new_named : {L : Type 0} (id : L → ℕ) (stands : L → Type 0) (s : State) (b : NewBody L) → is_well_formed s ≡ true
    → IsSourced stands s b → NamesRightly s (new_body id s b)
new_named id stands s (new.Container kinds) wf h = nothing_named s (is.Container kinds []) refl refl
new_named id stands s (new.Segment pages) wf h = nothing_named s (is.Segment (replicate (256 * pages) 0)) refl refl
new_named id stands s (new.Copy source) wf h = nothing_named s (is.Segment (bytes_at s (id source))) refl refl
new_named id stands s new.AddressSpace wf h =
    nameless s (is.AddressSpace (record { slots = replicate 16 None })) (λ e on. absurd (cc)) (empty_slots 16)
new_named id stands s (new.Thread start) wf h = thread_named s start.clearance.now start.entry_point
new_named id stands s (new.Gate gate) wf h = gate_named s gate.now (space_named s gate.now.space wf h)
