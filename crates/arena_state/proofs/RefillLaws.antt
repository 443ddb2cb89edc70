-- Pieces whose slot of one object has other bytes or other packets.
use Rattle.std.proofs.Common.{◌≡◌, ◌≢◌, ℕ, ◌+◌, ◌<◌, ◌≤◌, ◌&&◌, ◌==◌, true, false, List, [], ◌++◌, length, take, drop, get_or, set, Option, Some, refl, sym, ◌∙◌, ap, subst, arith, inl, inr}
use Rattle.std.proofs.Common.{get_or-set_same, get_or-set_other, length-set, length-append, length-drop}
use Rattle.std.proofs.lemmas.List.{length-take}
use Rattle.std.proofs.lemmas.Bool.{cases_eq, and_parts, both_ways}
use Rattle.std.proofs.lemmas.Option.{same_Some}
use Rattle.containers.specs.Tree.{HasSlot}
use Rattle.label_intern.specs.declared.held.Held.{Held}
use Rattle.kernel_rules.specs.declared.objects.Object.{Object}
use Rattle.kernel_rules.specs.declared.objects.Body.TheVariants as is
use Rattle.kernel_rules.specs.State.{State, object_at}
use Rattle.kernel_rules.specs.Changes.{changed, with_body, rebyte, requeue, reslot}
use Rattle.kernel_rules.specs.WellFormed.{is_well_formed, is_whole_body, is_kept, is_stored}
use Rattle.kernel_rules.specs.Written.{written}
use Rattle.kernel_rules.proofs.ListerLaws.{kept_parts}
use Rattle.kernel_rules.proofs.LookupLaws.{all_at}
use Rattle.kernel_rules.proofs.WellFormedLaws.{soundness_of}
use Rattle.arena_memory.specs.Segments.{bytes_in}
use Rattle.arena_memory.specs.Queues.{packets_in}
use Rattle.arena_memory.specs.Mappings.{places_at}
use Rattle.kernel_rules.specs.declared.objects.Mapping.{Mapping}
use Rattle.arena_state.specs.declared.records.Kept as kept
use Rattle.arena_state.specs.declared.records.Kept.TheVariants as keeps
use Rattle.arena_state.specs.declared.pieces.Pieces.{Pieces}
use Rattle.arena_state.specs.Assembled.{record_in, assembled, body_of, pieces_state}
use Rattle.arena_state.specs.Contents.{keeps_device}
use Rattle.arena_state.specs.Filled.{Content, filled, filled_body}
use Rattle.arena_state.specs.Sound.{IsSound}
use Rattle.arena_state.specs.Stocked.{content_in, whole_state, keeps_space, is_space_at, IsStocked}
use Rattle.arena_state.proofs.ContentLaws.{refilled}
use Rattle.arena_state.proofs.RowLaws.{row_place}
use Rattle.arena_state.proofs.SoundLaws.{object_here, slot_within}
use Rattle.arena_state.proofs.StockLaws.{object_whole, live_slot}

-- the pieces with other packets
abbrev pub with_queues : Pieces → List (List (List ℕ)) → Pieces
with_queues p zs = record p { holdings = record p.holdings { queues = zs } }

-- the pieces with other bytes
abbrev pub with_segments : Pieces → List (List ℕ) → Pieces
with_segments p xs = record p { holdings = record p.holdings { segments = xs } }

pub queues_sound : (p : Pieces) (zs : List (List (List ℕ))) → IsSound p → IsSound (with_queues p zs)
queues_sound p zs s = record {
  formed = s.formed;
  tree = s.tree;
  lists = s.lists;
  owned = s.owned;
  uses = s.uses;
  climbs = s.climbs;
  cells = s.cells;
  records = s.records;
  pool = s.pool;
  rooted = s.rooted;
  root = s.root;
}

pub segments_sound : (p : Pieces) (xs : List (List ℕ)) → IsSound p → IsSound (with_segments p xs)
segments_sound p xs s = record {
  formed = s.formed;
  tree = s.tree;
  lists = s.lists;
  owned = s.owned;
  uses = s.uses;
  climbs = s.climbs;
  cells = s.cells;
  records = s.records;
  pool = s.pool;
  rooted = s.rooted;
  root = s.root;
}

module _ (labels : List (Option Held)) (l : List ℕ) where
  -- other packets show in a device
  requeued_body : (c d : Content) (f : List (List ℕ) → List (List ℕ)) → d.packets ≡ f c.packets → (k : kept.Kept)
      → keeps_device k ≡ true → filled_body d (body_of labels k l) ≡ requeue f (filled_body c (body_of labels k l))
  requeued_body c d f same (keeps.Container avoid used) h = absurd (cc)
  requeued_body c d f same (keeps.Segment pages) h = absurd (cc)
  requeued_body c d f same keeps.AddressSpace h = absurd (cc)
  requeued_body c d f same (keeps.Thread t) h = absurd (cc)
  requeued_body c d f same (keeps.Gate g) h = absurd (cc)
  requeued_body c d f same keeps.Device h = ap (λ (ps : List (List ℕ)). is.Device ps) same

  -- and in nothing else
  unqueued_body : (c : Content) (f : List (List ℕ) → List (List ℕ)) (k : kept.Kept)
      → keeps_device k ≡ false → filled_body c (body_of labels k l) ≡ requeue f (filled_body c (body_of labels k l))
  unqueued_body c f (keeps.Container avoid used) h = refl
  unqueued_body c f (keeps.Segment pages) h = refl
  unqueued_body c f keeps.AddressSpace h = refl
  unqueued_body c f (keeps.Thread t) h = refl
  unqueued_body c f (keeps.Gate g) h = refl
  unqueued_body c f keeps.Device h = absurd (cc)

  device_whole : (c : Content) (k : kept.Kept) → keeps_device k ≡ true
      → is_whole_body (filled_body c (body_of labels k l)) ≡ true → is_whole_body (is.Device c.packets) ≡ true
  device_whole c (keeps.Container avoid used) h w = absurd (cc)
  device_whole c (keeps.Segment pages) h w = absurd (cc)
  device_whole c keeps.AddressSpace h w = absurd (cc)
  device_whole c (keeps.Thread t) h w = absurd (cc)
  device_whole c (keeps.Gate g) h w = absurd (cc)
  device_whole c keeps.Device h w = w

  -- other bytes show in a segment alone
  rebyted_body : (c : Content) (xs : List ℕ) (f : List ℕ → List ℕ) → xs ≡ f c.bytes → (k : kept.Kept)
      → filled_body (record { bytes = xs; slots = c.slots; packets = c.packets }) (body_of labels k l)
      ≡ rebyte f (filled_body c (body_of labels k l))
  rebyted_body c xs f same (keeps.Container avoid used) = refl
  rebyted_body c xs f same (keeps.Segment pages) = ap (λ (v : List ℕ). is.Segment v) same
  rebyted_body c xs f same keeps.AddressSpace = refl
  rebyted_body c xs f same (keeps.Thread t) = refl
  rebyted_body c xs f same (keeps.Gate g) = refl
  rebyted_body c xs f same keeps.Device = refl

-- the body of an object of a well-formed state is whole
whole_at : (t : State) (o : ℕ) (y : Object) → is_well_formed t ≡ true → object_at t o ≡ Some y → is_whole_body y.body ≡ true
whole_at t o y wf found =
    let all = (kept_parts t o y (all_at (λ j w. is_kept t j w) t.objects o y (soundness_of t wf).kept found)).whole in
    (and_parts (is_stored y.label && length y.metadata == 64) (is_whole_body y.body) all).1

-- an object that has a slot
module _ (p : Pieces) (s : IsSound p) (id slot : ℕ) (h : HasSlot p.places id slot) where
  abbrev listed_here : List ℕ
  listed_here = (row_place p.places.lists p.places.slots h.place).list

  bare_is : (x : Object) → object_at (pieces_state p) id ≡ Some x
      → assembled p.holdings.labels (record_in p.holdings.records.items slot) listed_here ≡ x
  bare_is x found = sym (same_Some x (assembled p.holdings.labels (record_in p.holdings.records.items slot) listed_here)
      (sym found ∙ object_here p s id slot h))

  -- a change that its body doesn't show
  pub unshown : (f : List (List ℕ) → List (List ℕ)) → keeps_device (record_in p.holdings.records.items slot).body ≡ false
      → whole_state p ≡ changed (whole_state p) id (with_body (requeue f))
  unshown f none =
      refilled p p s id slot h refl (λ i. refl) (λ j off. refl) (with_body (requeue f))
      (λ x found. subst (λ (y : Object). filled (content_in p.holdings slot) y ≡ with_body (requeue f) (filled (content_in p.holdings slot) y))
      (bare_is x found)
      (λ i. record (assembled p.holdings.labels (record_in p.holdings.records.items slot) listed_here) {
        body = unqueued_body p.holdings.labels listed_here (content_in p.holdings slot) f (record_in p.holdings.records.items slot).body none i;
      }))

  -- a device's packets change
  module _ (k : IsStocked p) (f : List (List ℕ) → List (List ℕ)) (zs : List (List (List ℕ)))
      (after : zs ≡ set p.holdings.queues slot (f (packets_in p.holdings.queues slot)))
      (device : keeps_device (record_in p.holdings.records.items slot).body ≡ true) where
    within : slot < length p.holdings.queues
    within = omega (arith, slot_within p s id slot h, s.records, k.queues)

    packets_are : packets_in zs slot ≡ f (packets_in p.holdings.queues slot)
    packets_are =
        ap (λ (v : List (List (List ℕ))). get_or v slot []) after
        ∙ get_or-set_same p.holdings.queues slot (f (packets_in p.holdings.queues slot)) [] within

    packets_off : (j : ℕ) → j ≢ slot → packets_in zs j ≡ packets_in p.holdings.queues j
    packets_off j off =
        ap (λ (v : List (List (List ℕ))). get_or v j []) after
        ∙ get_or-set_other p.holdings.queues slot j (f (packets_in p.holdings.queues slot)) [] off

    pub requeued : whole_state (with_queues p zs) ≡ changed (whole_state p) id (with_body (requeue f))
    requeued =
        refilled p (with_queues p zs) s id slot h refl (λ i. refl)
        (λ j off. (λ i. record {
          bytes = bytes_in p.holdings.segments j;
          slots = places_at p.holdings.spaces j;
          packets = packets_off j off i;
        }))
        (with_body (requeue f))
        (λ x found. subst (λ (y : Object). filled (content_in (with_queues p zs).holdings slot) y
        ≡ with_body (requeue f) (filled (content_in p.holdings slot) y))
        (bare_is x found)
        (λ i. record (assembled p.holdings.labels (record_in p.holdings.records.items slot) listed_here) {
          body = requeued_body p.holdings.labels listed_here (content_in p.holdings slot) (content_in (with_queues p zs).holdings slot)
              f packets_are (record_in p.holdings.records.items slot).body device i;
        }))

    pub requeued_stocked : is_well_formed (changed (whole_state p) id (with_body (requeue f))) ≡ true
        → IsStocked (with_queues p zs)
    requeued_stocked wf = record {
      segments = k.segments;
      queues = ap (λ (v : List (List (List ℕ))). length v) after ∙ length-set p.holdings.queues slot (f (packets_in p.holdings.queues slot)) ∙ k.queues;
      spaces = k.spaces;
      paged = k.paged;
      sixteen = k.sixteen;
      unmapped = k.unmapped;
      queued = λ j. elim (cases_eq j slot) [
        | inl same ↦
            subst (λ (i : ℕ). is_whole_body (is.Device (packets_in zs i)) ≡ true) (sym same)
            (device_whole p.holdings.labels listed_here (content_in (with_queues p zs).holdings slot)
            (record_in p.holdings.records.items slot).body device
            (whole_at (whole_state (with_queues p zs)) id _
            (ap is_well_formed requeued ∙ wf)
            (object_whole (with_queues p zs) (queues_sound p zs s) id slot h)))
        | inr off ↦ ap (λ (v : List (List ℕ)). is_whole_body (is.Device v)) (packets_off j off) ∙ k.queued j
      ];
    }

  -- bytes change
  module _ (f : List ℕ → List ℕ) (xs : List (List ℕ))
      (after : xs ≡ set p.holdings.segments slot (f (bytes_in p.holdings.segments slot)))
      (slot_in : slot < length p.holdings.segments) where
    pub bytes_are : bytes_in xs slot ≡ f (bytes_in p.holdings.segments slot)
    bytes_are =
        ap (λ (v : List (List ℕ)). get_or v slot []) after
        ∙ get_or-set_same p.holdings.segments slot (f (bytes_in p.holdings.segments slot)) [] slot_in

    pub bytes_off : (j : ℕ) → j ≢ slot → bytes_in xs j ≡ bytes_in p.holdings.segments j
    bytes_off j off =
        ap (λ (v : List (List ℕ)). get_or v j []) after
        ∙ get_or-set_other p.holdings.segments slot j (f (bytes_in p.holdings.segments slot)) [] off

    pub rebyted_at : whole_state (with_segments p xs) ≡ changed (whole_state p) id (with_body (rebyte f))
    rebyted_at =
        refilled p (with_segments p xs) s id slot h refl (λ i. refl)
        (λ j off. (λ i. record {
          bytes = bytes_off j off i;
          slots = places_at p.holdings.spaces j;
          packets = packets_in p.holdings.queues j;
        }))
        (with_body (rebyte f))
        (λ x found. subst (λ (y : Object). filled (content_in (with_segments p xs).holdings slot) y
        ≡ with_body (rebyte f) (filled (content_in p.holdings slot) y))
        (bare_is x found)
        (λ i. record (assembled p.holdings.labels (record_in p.holdings.records.items slot) listed_here) {
          body = rebyted_body p.holdings.labels listed_here (content_in p.holdings slot) (bytes_in xs slot)
              f bytes_are (record_in p.holdings.records.items slot).body i;
        }))

  -- bytes change, as many as there were
  module _ (k : IsStocked p) (f : List ℕ → List ℕ) (xs : List (List ℕ))
      (after : xs ≡ set p.holdings.segments slot (f (bytes_in p.holdings.segments slot)))
      (long : length (f (bytes_in p.holdings.segments slot)) ≡ length (bytes_in p.holdings.segments slot)) where
    segments_in : slot < length p.holdings.segments
    segments_in = omega (arith, slot_within p s id slot h, s.records, k.segments)

    pub rebyted : whole_state (with_segments p xs) ≡ changed (whole_state p) id (with_body (rebyte f))
    rebyted = rebyted_at f xs after segments_in

    pub rebyted_stocked : IsStocked (with_segments p xs)
    rebyted_stocked = record {
      segments = ap (λ (v : List (List ℕ)). length v) after
          ∙ length-set p.holdings.segments slot (f (bytes_in p.holdings.segments slot)) ∙ k.segments;
      queues = k.queues;
      spaces = k.spaces;
      paged = λ j. elim (cases_eq j slot) [
        | inl same ↦
            ap (λ (i : ℕ). length (bytes_in xs i)) same ∙ ap (λ (v : List ℕ). length v) (bytes_are f xs after segments_in) ∙ long
            ∙ ap (λ (i : ℕ). length (bytes_in p.holdings.segments i)) (sym same) ∙ k.paged j
        | inr off ↦ ap (λ (v : List ℕ). length v) (bytes_off f xs after segments_in j off) ∙ k.paged j
      ];
      sixteen = k.sixteen;
      unmapped = k.unmapped;
      queued = k.queued;
    }

-- the pieces with other mappings
abbrev pub with_spaces : Pieces → List (List (Option Mapping)) → Pieces
with_spaces p v = record p { holdings = record p.holdings { spaces = v } }

pub spaces_sound : (p : Pieces) (v : List (List (Option Mapping))) → IsSound p → IsSound (with_spaces p v)
spaces_sound p v s = record {
  formed = s.formed;
  tree = s.tree;
  lists = s.lists;
  owned = s.owned;
  uses = s.uses;
  climbs = s.climbs;
  cells = s.cells;
  records = s.records;
  pool = s.pool;
  rooted = s.rooted;
  root = s.root;
}

module _ (labels : List (Option Held)) (l : List ℕ) where
  -- other mappings show in an address space
  reslotted_body : (c d : Content) (f : List (Option Mapping) → List (Option Mapping)) → d.slots ≡ f c.slots → (k : kept.Kept)
      → keeps_space k ≡ true → filled_body d (body_of labels k l) ≡ reslot f (filled_body c (body_of labels k l))
  reslotted_body c d f same (keeps.Container avoid used) h = absurd (cc)
  reslotted_body c d f same (keeps.Segment pages) h = absurd (cc)
  reslotted_body c d f same keeps.AddressSpace h = (λ i. is.AddressSpace (record { slots = same i }))
  reslotted_body c d f same (keeps.Thread t) h = absurd (cc)
  reslotted_body c d f same (keeps.Gate g) h = absurd (cc)
  reslotted_body c d f same keeps.Device h = absurd (cc)

  -- and in nothing else
  unslotted_body : (c : Content) (f : List (Option Mapping) → List (Option Mapping)) (k : kept.Kept)
      → keeps_space k ≡ false → filled_body c (body_of labels k l) ≡ reslot f (filled_body c (body_of labels k l))
  unslotted_body c f (keeps.Container avoid used) h = refl
  unslotted_body c f (keeps.Segment pages) h = refl
  unslotted_body c f keeps.AddressSpace h = absurd (cc)
  unslotted_body c f (keeps.Thread t) h = refl
  unslotted_body c f (keeps.Gate g) h = refl
  unslotted_body c f keeps.Device h = refl

module _ (p : Pieces) (s : IsSound p) (id slot : ℕ) (h : HasSlot p.places id slot)
    (f : List (Option Mapping) → List (Option Mapping)) where
  abbrev list_here : List ℕ
  list_here = (row_place p.places.lists p.places.slots h.place).list

  pub unslotted : keeps_space (record_in p.holdings.records.items slot).body ≡ false
      → whole_state p ≡ changed (whole_state p) id (with_body (reslot f))
  unslotted none =
      refilled p p s id slot h refl (λ i. refl) (λ j off. refl) (with_body (reslot f))
      (λ x found. subst (λ (y : Object). filled (content_in p.holdings slot) y ≡ with_body (reslot f) (filled (content_in p.holdings slot) y))
      (bare_is p s id slot h x found)
      (λ i. record (assembled p.holdings.labels (record_in p.holdings.records.items slot) list_here) {
        body = unslotted_body p.holdings.labels list_here (content_in p.holdings slot) f (record_in p.holdings.records.items slot).body none i;
      }))

  -- an address space's mappings change, as many as there were
  module _ (k : IsStocked p) (v : List (List (Option Mapping)))
      (after : v ≡ set p.holdings.spaces slot (f (places_at p.holdings.spaces slot)))
      (long : length (f (places_at p.holdings.spaces slot)) ≡ length (places_at p.holdings.spaces slot))
      (space : keeps_space (record_in p.holdings.records.items slot).body ≡ true) where
    space_in : slot < length p.holdings.spaces
    space_in = omega (arith, slot_within p s id slot h, s.records, k.spaces)

    places_are : places_at v slot ≡ f (places_at p.holdings.spaces slot)
    places_are =
        ap (λ (m : List (List (Option Mapping))). get_or m slot []) after
        ∙ get_or-set_same p.holdings.spaces slot (f (places_at p.holdings.spaces slot)) [] space_in

    places_off : (j : ℕ) → j ≢ slot → places_at v j ≡ places_at p.holdings.spaces j
    places_off j off =
        ap (λ (m : List (List (Option Mapping))). get_or m j []) after
        ∙ get_or-set_other p.holdings.spaces slot j (f (places_at p.holdings.spaces slot)) [] off

    pub reslotted : whole_state (with_spaces p v) ≡ changed (whole_state p) id (with_body (reslot f))
    reslotted =
        refilled p (with_spaces p v) s id slot h refl (λ i. refl)
        (λ j off. (λ i. record {
          bytes = bytes_in p.holdings.segments j;
          slots = places_off j off i;
          packets = packets_in p.holdings.queues j;
        }))
        (with_body (reslot f))
        (λ x found. subst (λ (y : Object). filled (content_in (with_spaces p v).holdings slot) y
        ≡ with_body (reslot f) (filled (content_in p.holdings slot) y))
        (bare_is p s id slot h x found)
        (λ i. record (assembled p.holdings.labels (record_in p.holdings.records.items slot) list_here) {
          body = reslotted_body p.holdings.labels list_here (content_in p.holdings slot) (content_in (with_spaces p v).holdings slot)
              f places_are (record_in p.holdings.records.items slot).body space i;
        }))

    pub reslotted_stocked : IsStocked (with_spaces p v)
    reslotted_stocked = record {
      segments = k.segments;
      queues = k.queues;
      spaces = ap (λ (m : List (List (Option Mapping))). length m) after
          ∙ length-set p.holdings.spaces slot (f (places_at p.holdings.spaces slot)) ∙ k.spaces;
      paged = k.paged;
      sixteen = λ j within. elim (cases_eq j slot) [
        | inl same ↦
            ap (λ (i : ℕ). length (places_at v i)) same ∙ ap (λ (m : List (Option Mapping)). length m) places_are ∙ long
            ∙ ap (λ (i : ℕ). length (places_at p.holdings.spaces i)) (sym same) ∙ k.sixteen j within
        | inr off ↦ ap (λ (m : List (Option Mapping)). length m) (places_off j off) ∙ k.sixteen j within
      ];
      unmapped = λ j within none. elim (cases_eq j slot) [
        | inl same ↦
            let there : is_space_at p j ≡ true =
            ap (is_space_at p) same ∙ ap (λ b. b && keeps_space (record_in p.holdings.records.items slot).body) (live_slot p s id slot h)
            ∙ space in
            absurd (both_ways (is_space_at p j) none there)
        | inr off ↦ places_off j off ∙ k.unmapped j within none
      ];
      queued = k.queued;
    }

-- what is written over is as long as it was
pub written_long : (at : ℕ) (new old : List ℕ) → at + length new ≤ length old → length (written at new old) ≡ length old
written_long at new old fits =
    length-append (take at old ++ new) (drop (at + length new) old)
    ∙ ap (λ n. n + length (drop (at + length new) old)) (length-append (take at old) new)
    ∙ omega (arith, fits, length-take at old, length-drop (at + length new) old)
