-- Edits of one record.
use Rattle.std.proofs.Common.{◌≡◌, ◌≤◌, ◌∙◌, ◌+◌, ℕ, true, List, Option, refl, sym, ap, subst, arith, get_or, IsSome}
use Rattle.std.proofs.lemmas.Bool.{leb-true}
use Rattle.std.proofs.lemmas.List.{get_or_read}
use Rattle.containers.specs.Tree.{HasSlot}
use Rattle.label_intern.specs.Held.{held_at}
use Rattle.kernel_rules.specs.State.{State, use_of}
use Rattle.kernel_rules.specs.Changes.{changed, spaced}
use Rattle.kernel_rules.specs.declared.calls.Entry.{Entry}
use Rattle.kernel_rules.specs.declared.objects.Object.{Object}
use Rattle.kernel_rules.specs.WellFormed.{is_well_formed, is_kept}
use Rattle.kernel_rules.proofs.KeptLaws.{KeepsPlace}
use Rattle.kernel_rules.proofs.ListerLaws.{kept_parts}
use Rattle.kernel_rules.proofs.LookupLaws.{all_at}
use Rattle.kernel_rules.proofs.WellFormedLaws.{soundness_of}
use Rattle.kernel_rules.proofs.ThreadLaws.{kept_well_formed}
use Rattle.label_intern.specs.declared.held.Held.{Held}
use Rattle.label_intern.specs.Owners.{one_at}
use Rattle.arena_state.specs.declared.records.Record.{Record}
use Rattle.arena_state.specs.declared.records.Kept as kept
use Rattle.arena_state.specs.declared.records.Kept.TheVariants as keeps
use Rattle.arena_state.specs.declared.pieces.Pieces.{Pieces}
use Rattle.arena_state.specs.Assembled.{pieces_state, record_in, assembled, body_of, blank, claims, body_claims, body_use, use_in, with_space, respaced}
use Rattle.arena_state.specs.Sound.{IsSound}
use Rattle.arena_state.proofs.RowLaws.{row_place}
use Rattle.arena_state.proofs.SoundLaws.{held_label_there, with_record, changed_state, record_sound, object_here, row_found, slot_within}

module _ (p : Pieces) (s : IsSound p) (id slot : ℕ) (h : HasSlot p.places id slot) where
  -- what was read in the slot
  pub read_is : (q : Record) → q ≡ get_or p.holdings.records.items slot q → q ≡ record_in p.holdings.records.items slot
  read_is q is = get_or_read p.holdings.records.items slot q (slot_within p s id slot h) is blank

  -- what is kept of its use is its use, and within its quota
  pub kept_use_is : body_use (record_in p.holdings.records.items slot).body ≡ use_of (pieces_state p) id
  kept_use_is = sym (ap (use_in p.holdings.records.items) (row_found p s id slot h)
      ∙ ap (λ (x : ℕ). body_use (record_in p.holdings.records.items x).body) h.slot_is) ∙ s.uses id

  pub use_within : body_use (record_in p.holdings.records.items slot).body ≤ (record_in p.holdings.records.items slot).quota
  use_within =
      let x = assembled p.holdings.labels (record_in p.holdings.records.items slot) (row_place p.places.lists p.places.slots h.place).list in
      let parts = kept_parts (pieces_state p) id x
      (all_at (λ j w. is_kept (pieces_state p) j w) (pieces_state p).objects id x (soundness_of (pieces_state p) s.formed).kept (object_here p s id slot h)) in
      omega (arith, kept_use_is, leb-true (use_of (pieces_state p) id) x.quota parts.within)

  -- the label that was read there is held
  pub held_read : (q : Record) → q ≡ get_or p.holdings.records.items slot q → IsSome (held_at p.holdings.labels q.label.0)
  held_read q is =
      subst (λ (x : Record). IsSome (held_at p.holdings.labels x.label.0)) (sym (read_is q is))
      (held_label_there p s id slot h)

  -- a change of the record that keeps labels, place and use
  module _ (g : Record → Record) (f : Object → Object)
      (shape : (r : Record) (l : List ℕ) → assembled p.holdings.labels (g r) l ≡ f (assembled p.holdings.labels r l))
      (keeps : (x : Object) → KeepsPlace x (f x)) (claim : (i : ℕ) (r : Record) → claims i (g r) ≡ claims i r)
      (used : (r : Record) → body_use (g r).body ≡ body_use r.body) where
    abbrev old : Record
    old = record_in p.holdings.records.items slot

    abbrev listed_there : List ℕ
    listed_there = (row_place p.places.lists p.places.slots h.place).list

    state_there : pieces_state (with_record p slot (g old)) ≡ changed (pieces_state p) id f
    state_there = changed_state p s id slot h (g old) f (shape old listed_there)

    sound_there : IsSound (with_record p slot (g old))
    sound_there = record_sound p s id slot h (g old)
        (subst (λ (x : Object). KeepsPlace (assembled p.holdings.labels old listed_there) x) (sym (shape old listed_there))
        (keeps (assembled p.holdings.labels old listed_there)))
        (subst (λ (x : State). is_well_formed x ≡ true) (sym state_there) (kept_well_formed (pieces_state p) id f keeps s.formed))
        (λ i. claim i old) (used old)

    pub edited_state : (q : Record) → q ≡ get_or p.holdings.records.items slot q
        → pieces_state (with_record p slot (g q)) ≡ changed (pieces_state p) id f
    edited_state q is =
        subst (λ (x : Record). pieces_state (with_record p slot (g x)) ≡ changed (pieces_state p) id f) (sym (read_is q is)) state_there

    pub edited_sound : (q : Record) → q ≡ get_or p.holdings.records.items slot q → IsSound (with_record p slot (g q))
    edited_sound q is = subst (λ (x : Record). IsSound (with_record p slot (g x))) (sym (read_is q is)) sound_there

-- a thread's record with another address space is its thread with it
pub spaced_shape : (e : Entry) (labels : List (Option Held)) (r : Record) (l : List ℕ)
    → assembled labels (with_space e r) l ≡ spaced e (assembled labels r l)
spaced_shape e labels r l = (λ i. record (assembled labels r l) { body = of_body r.body i })
  where
    of_body : (b : kept.Kept) → body_of labels (respaced e b) l ≡ (spaced e (record (assembled labels r l) { body = body_of labels b l })).body
    of_body (keeps.Container avoid used) = refl
    of_body (keeps.Segment pages) = refl
    of_body keeps.AddressSpace = refl
    of_body (keeps.Thread t) = refl
    of_body (keeps.Gate g) = refl
    of_body keeps.Device = refl

pub spaced_claims : (e : Entry) (i : ℕ) (r : Record) → claims i (with_space e r) ≡ claims i r
spaced_claims e i r = ap (λ (n : ℕ). one_at i r.label.0 + n) (of_body r.body)
  where
    of_body : (b : kept.Kept) → body_claims i (respaced e b) ≡ body_claims i b
    of_body (keeps.Container avoid used) = refl
    of_body (keeps.Segment pages) = refl
    of_body keeps.AddressSpace = refl
    of_body (keeps.Thread t) = refl
    of_body (keeps.Gate g) = refl
    of_body keeps.Device = refl

pub spaced_use : (e : Entry) (r : Record) → body_use (with_space e r).body ≡ body_use r.body
spaced_use e r = of_body r.body
  where
    of_body : (b : kept.Kept) → body_use (respaced e b) ≡ body_use b
    of_body (keeps.Container avoid used) = refl
    of_body (keeps.Segment pages) = refl
    of_body keeps.AddressSpace = refl
    of_body (keeps.Thread t) = refl
    of_body (keeps.Gate g) = refl
    of_body keeps.Device = refl
