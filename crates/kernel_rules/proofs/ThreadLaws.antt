-- A thread whose label, clearance or address space changes keeps its place.
use Rattle.std.proofs.Common.{◌≡◌, ℕ, Bool, true, ◌&&◌, ◌==◌, length, refl, ◌∙◌}
use Rattle.std.proofs.lemmas.Bool.{and_parts, and_from}
use Rattle.label_lattice.specs.Label.{LabelValue, IsStored}
use Rattle.kernel_rules.specs.Changes.{changed, with_body, rethread, labelled, cleared, spaced}
use Rattle.kernel_rules.specs.Changes.{entered}
use Rattle.kernel_rules.specs.State.{State}
use Rattle.kernel_rules.specs.WellFormed.{is_well_formed, is_whole_body, is_stored}
use Rattle.kernel_rules.specs.declared.calls.Entry.{Entry}
use Rattle.kernel_rules.specs.declared.objects.Body as body
use Rattle.kernel_rules.specs.declared.objects.Body.TheVariants as is
use Rattle.kernel_rules.specs.declared.objects.Gate.{Gate}
use Rattle.kernel_rules.specs.declared.objects.Object.{Object}
use Rattle.kernel_rules.specs.declared.objects.Thread as thread
use Rattle.kernel_rules.proofs.KeptLaws.{KeepsPlace, changed_sound}
use Rattle.kernel_rules.proofs.StoredLaws.{stored_test}
use Rattle.kernel_rules.proofs.WellFormedLaws.{soundness_of, well_formed_from}

-- a change that keeps each object's place keeps the state well formed
pub kept_well_formed : (s : State) (o : ℕ) (f : Object → Object) → ((x : Object) → KeepsPlace x (f x))
    → is_well_formed s ≡ true → is_well_formed (changed s o f) ≡ true
kept_well_formed s o f keeps h =
    well_formed_from (changed s o f) (changed_sound s o f (λ x found. keeps x) (soundness_of s h))

keeps_twice : (x y z : Object) → KeepsPlace x y → KeepsPlace y z → KeepsPlace x z
keeps_twice x y z a b = record {
  list = b.list ∙ a.list;
  kind = b.kind ∙ a.kind;
  quota = b.quota ∙ a.quota;
  cost = b.cost ∙ a.cost;
  fixed = λ f. b.fixed (a.fixed f);
  whole = λ w. b.whole (a.whole w);
}

pub labelled_keeps : (l : LabelValue) → is_stored l ≡ true → (x : Object) → KeepsPlace x (labelled l x)
labelled_keeps l label x = record {
  list = refl;
  kind = refl;
  quota = refl;
  cost = refl;
  fixed = λ f. f;
  whole = λ w. rest (length x.metadata == 64) (is_whole_body x.body) w;
}
  where
    rest : (m b : Bool) → (is_stored x.label && m && b) ≡ true → (is_stored l && m && b) ≡ true
    rest m b w =
        let outer : ((is_stored x.label && m) ≡ true) × (b ≡ true) = and_parts (is_stored x.label && m) b w in
        and_from (is_stored l && m) b
        (and_from (is_stored l) m label (and_parts (is_stored x.label) m outer.0).1) outer.1

-- a thread with other fields, of stored labels
thread_keeps : (f : thread.Thread → thread.Thread)
    → ((t : thread.Thread) → (is_stored t.clearance && is_stored t.verify) ≡ true
    → (is_stored (f t).clearance && is_stored (f t).verify) ≡ true)
    → (x : Object) → KeepsPlace x (with_body (rethread f) x)
thread_keeps f whole x = at_body x.body
  where
    at_body : (y : body.Body)
        → KeepsPlace (record x { body = y }) (with_body (rethread f) (record x { body = y }))
    at_body (is.Thread t) = record {
      list = refl;
      kind = refl;
      quota = refl;
      cost = refl;
      fixed = λ f. f;
      whole = λ w.
          let outer : ((is_stored x.label && length x.metadata == 64) ≡ true)
          × ((is_stored t.clearance && is_stored t.verify) ≡ true)
          = and_parts (is_stored x.label && length x.metadata == 64)
          (is_stored t.clearance && is_stored t.verify) w in
          and_from (is_stored x.label && length x.metadata == 64)
          (is_stored (f t).clearance && is_stored (f t).verify) outer.0 (whole t outer.1);
    }
    at_body (is.Container avoid list) =
        record { list = refl; kind = refl; quota = refl; cost = refl; fixed = λ f. f; whole = λ w. w }
    at_body (is.Segment bytes) =
        record { list = refl; kind = refl; quota = refl; cost = refl; fixed = λ f. f; whole = λ w. w }
    at_body (is.AddressSpace slots) =
        record { list = refl; kind = refl; quota = refl; cost = refl; fixed = λ f. f; whole = λ w. w }
    at_body (is.Gate g) =
        record { list = refl; kind = refl; quota = refl; cost = refl; fixed = λ f. f; whole = λ w. w }
    at_body (is.Device packets) =
        record { list = refl; kind = refl; quota = refl; cost = refl; fixed = λ f. f; whole = λ w. w }

pub cleared_keeps : (c : LabelValue) → is_stored c ≡ true → (x : Object) → KeepsPlace x (cleared c x)
cleared_keeps c clearance x =
    thread_keeps (λ t. record t { clearance = c })
    (λ t w. and_from (is_stored c) (is_stored t.verify) clearance
    (and_parts (is_stored t.clearance) (is_stored t.verify) w).1) x

pub spaced_keeps : (e : Entry) (x : Object) → KeepsPlace x (spaced e x)
spaced_keeps e x = thread_keeps (λ t. record t { space = e }) (λ t w. w) x

pub entered_keeps : (l c v : LabelValue) (g : Gate) → is_stored l ≡ true → is_stored c ≡ true
    → is_stored v ≡ true → (x : Object) → KeepsPlace x (entered l c v g x)
entered_keeps l c v g label clearance verify x =
    let f : thread.Thread → thread.Thread =
    λ t. record {
      clearance = c;
      verify = v;
      space = g.space;
      entry_point = g.entry_point;
      closure = g.closure;
    } in
    keeps_twice x (labelled l x) (entered l c v g x) (labelled_keeps l label x)
    (thread_keeps f (λ t w. and_from (is_stored c) (is_stored v) clearance verify) (labelled l x))

pub labelled_well_formed : (s : State) (t : ℕ) (l : LabelValue) → IsStored l
    → is_well_formed s ≡ true → is_well_formed (changed s t (labelled l)) ≡ true
labelled_well_formed s t l label h =
    kept_well_formed s t (labelled l) (labelled_keeps l (stored_test l label)) h

pub cleared_well_formed : (s : State) (t : ℕ) (c : LabelValue) → IsStored c
    → is_well_formed s ≡ true → is_well_formed (changed s t (cleared c)) ≡ true
cleared_well_formed s t c clearance h =
    kept_well_formed s t (cleared c) (cleared_keeps c (stored_test c clearance)) h

pub spaced_well_formed : (s : State) (t : ℕ) (e : Entry) → is_well_formed s ≡ true
    → is_well_formed (changed s t (spaced e)) ≡ true
spaced_well_formed s t e h = kept_well_formed s t (spaced e) (spaced_keeps e) h

pub entered_well_formed : (s : State) (t : ℕ) (l c v : LabelValue) (g : Gate) → IsStored l → IsStored c
    → IsStored v → is_well_formed s ≡ true → is_well_formed (changed s t (entered l c v g)) ≡ true
entered_well_formed s t l c v g label clearance verify h =
    kept_well_formed s t (entered l c v g)
    (entered_keeps l c v g (stored_test l label) (stored_test c clearance) (stored_test v verify)) h
