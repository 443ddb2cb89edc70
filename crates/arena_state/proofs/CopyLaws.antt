-- A new segment with the bytes of another: it fits as so many pages of 0 do, and shows what was found.
use Rattle.std.proofs.Common.{◌≡◌, ℕ, ◌+◌, ◌*◌, ◌/◌, ◌<◌, true, ◌&&◌, ◌==◌, nat_le, List, [], ◌∷◌, ◌++◌, length, get_or, set, replicate, Option, Some, None, IfSome, IfNone, refl, sym, ◌∙◌, ap, subst, arith}
use Rattle.std.proofs.lemmas.Bool.{and_parts, eqb-true}
use Rattle.std.proofs.lemmas.List.{length-replicate}
use Rattle.std.proofs.Math.Seq.{get_or-append_seam}
use Rattle.base.specs.declared.ids.Slot.{Slot}
use Rattle.containers.specs.Tree.{HasSlot}
use Rattle.label_lattice.specs.Label.{LabelValue}
use Rattle.label_intern.specs.declared.held.Held.{Held}
use Rattle.label_intern.specs.Held.{label_of}
use Rattle.label_intern.specs.Owners.{one_at, Takes}
use Rattle.label_intern.proofs.OwnersLemmas.{takes_as}
use Rattle.kernel_rules.specs.State.{object_at, of_object, bytes_of, bytes_at, page_count}
use Rattle.kernel_rules.specs.Changes.{made, fresh_object}
use Rattle.kernel_rules.specs.Fitting.{IsFitting}
use Rattle.kernel_rules.specs.WellFormed.{is_stored, is_whole_body}
use Rattle.kernel_rules.specs.declared.objects.Body.TheVariants as is
use Rattle.arena_memory.specs.Segments.{bytes_in, pages_of, HasRoom}
use Rattle.arena_state.specs.declared.records.Record.{Record}
use Rattle.arena_state.specs.declared.records.Kept as kept
use Rattle.arena_state.specs.declared.records.Kept.TheVariants as keeps
use Rattle.arena_state.specs.declared.pieces.Pieces.{Pieces}
use Rattle.arena_state.specs.declared.states.ArenaState.{ArenaState}
use Rattle.arena_state.specs.Assembled.{pieces_state, record_in, body_of, body_claims, fresh_record}
use Rattle.arena_state.specs.Contents.{bytes_found}
use Rattle.arena_state.specs.Creations.{IsPlaced}
use Rattle.arena_state.specs.Filled.{Content, filled_body}
use Rattle.arena_state.specs.Sound.{IsSound}
use Rattle.arena_state.specs.States.{state_of, HasRow}
use Rattle.arena_state.specs.Stocked.{content_in, kept_pages, whole_state, IsStocked}
use Rattle.arena_state.proofs.RecordLaws.{segment_cost}
use Rattle.arena_state.proofs.StockLaws.{object_whole, pages_here}
use Rattle.arena_state.proofs.CreateLaws.{with_labels}
use Rattle.arena_state.proofs.PageRoomLaws.{new_room}
use Rattle.arena_state.proofs.WholeLaws.{fitting_bare}
use Rattle.arena_state.proofs.WholeCreateLaws.{no_element, bytes_vacant, stocked_sound, created_stocked, created_whole}

module _ (c : Content) (labels : List (Option Held)) (l : List ℕ) where
  bytes_all : (k : kept.Kept) → length c.bytes ≡ 256 * kept_pages k → bytes_of (filled_body c (body_of labels k l)) ≡ c.bytes
  bytes_all (keeps.Container avoid used) paged = sym (no_element c.bytes paged)
  bytes_all (keeps.Segment pages) paged = refl
  bytes_all keeps.AddressSpace paged = sym (no_element c.bytes paged)
  bytes_all (keeps.Thread t) paged = sym (no_element c.bytes paged)
  bytes_all (keeps.Gate g) paged = sym (no_element c.bytes paged)
  bytes_all keeps.Device paged = sym (no_element c.bytes paged)

-- an object's bytes are those that its slot holds
module _ (a : ArenaState) (id : ℕ) where
  bytes_is : (slot : ℕ) → HasSlot a.pieces.places id slot → bytes_at (state_of a) id ≡ bytes_in a.pieces.holdings.segments slot
  bytes_is slot h =
      ap (of_object [] (λ x. bytes_of x.body)) (object_whole a.pieces a.sound id slot h)
      ∙ bytes_all (content_in a.pieces.holdings slot) a.pieces.holdings.labels _ (record_in a.pieces.holdings.records.items slot).body
      (a.stocked.paged slot ∙ ap {B = ℕ} (λ (n : ℕ). 256 * n) (pages_here a.pieces a.sound a.stocked id slot h))

  found_is : (from : Option Slot) → IfSome from (λ s. HasRow a id s.0) → IfNone from (object_at (state_of a) id ≡ None)
      → bytes_found a.pieces.holdings.segments from ≡ bytes_at (state_of a) id
  found_is None some none = sym (ap (of_object [] (λ x. bytes_of x.body)) none)
  found_is (Some slot) some none = sym (bytes_is slot.0 some.has)

  pub found_within : (from : Option Slot) → IfSome from (λ s. HasRow a id s.0)
      → IfSome from (λ s. s.0 < length a.pieces.holdings.segments)
  found_within None some = some
  found_within (Some slot) some = omega (arith, some.within, a.sound.records, a.stocked.segments)

whole_long : (bytes : List ℕ) (pages : ℕ) → pages ≡ length bytes / 256 → is_whole_body (is.Segment bytes) ≡ true
    → length bytes ≡ 256 * pages
whole_long bytes pages counted whole =
    let parts = and_parts (length bytes == 256 * (length bytes / 256)) (nat_le (length bytes) (256 * 16)) whole in
    eqb-true (length bytes) (256 * (length bytes / 256)) parts.0 ∙ ap {B = ℕ} (λ (n : ℕ). 256 * n) (sym counted)

-- where some bytes fit, so many pages of 0 do
zeros_fit : (p : Pieces) → IsSound p → IsStocked p → (d q : ℕ) (bytes : List ℕ) (pages : ℕ) → pages ≡ length bytes / 256
    → IsFitting (whole_state p) d q (is.Segment bytes) → IsFitting (pieces_state p) d q (is.Segment (replicate (256 * pages) 0))
zeros_fit p s k d q bytes pages counted f =
    let long : length {A = ℕ} (replicate (256 * pages) 0) ≡ length bytes
    = length-replicate (256 * pages) 0 ∙ sym (whole_long bytes pages counted f.whole) in
    fitting_bare p s k d q (is.Segment bytes) (is.Segment (replicate (256 * pages) 0)) f
    (ap {B = ℕ} (λ (n : ℕ). 1 + n / 256) long)
    refl
    (ap (λ (n : ℕ). (n == 256 * (n / 256)) && nat_le n (256 * 16)) long ∙ f.whole)

module _ (a : ArenaState) (d quota : ℕ) (l : LabelValue) (o pages : ℕ) (counted : pages ≡ page_count (state_of a) o)
    (f : IsFitting (state_of a) d quota (is.Segment (bytes_at (state_of a) o))) where
  -- as many pages of 0 fit
  pub blank_fits : IsFitting (pieces_state a.pieces) d quota (is.Segment (replicate (256 * pages) 0))
  blank_fits = zeros_fit a.pieces a.sound a.stocked d quota (bytes_at (state_of a) o) pages counted f

  module _ (stored : is_stored l ≡ true) (pslot : ℕ) (at_d : HasSlot a.pieces.places d pslot) (ls : List (Option Held)) (index : ℕ)
      (x : Record) (x_is : x ≡ fresh_record index quota (keeps.Segment pages)) (q : Pieces)
      (c : IsPlaced (with_labels a.pieces ls) q d pslot x) (takes : Takes a.pieces.holdings.labels ls (λ i. one_at i index))
      (label : label_of ls index ≡ l) (slot : ℕ) (slots : q.places.slots ≡ a.pieces.places.slots ++ slot ∷ []) (from : Option Slot)
      (some : IfSome from (λ s. HasRow a o s.0)) (none : IfNone from (object_at (state_of a) o ≡ None)) where
    takes_all : Takes a.pieces.holdings.labels ls (λ i. one_at i index + body_claims i (keeps.Segment pages))
    takes_all = takes_as _ _ _ _ (λ i. omega arith) takes

    slot_is : slot ≡ c.slot
    slot_is = sym (get_or-append_seam a.pieces.places.slots slot [] 0)
        ∙ ap (λ (xs : List ℕ). get_or xs (length a.pieces.places.slots) 0) (sym slots ∙ c.slots)
        ∙ get_or-append_seam a.pieces.places.slots c.slot [] 0

    found : bytes_found q.holdings.segments from ≡ bytes_at (state_of a) o
    found = ap (λ (xs : List (List ℕ)). bytes_found xs from) c.segments ∙ found_is a o from some none

    long : length (bytes_at (state_of a) o) ≡ 256 * pages
    long = whole_long (bytes_at (state_of a) o) pages counted f.whole

    vacant_slot : bytes_in a.pieces.holdings.segments c.slot ≡ []
    vacant_slot = bytes_vacant a.pieces a.sound d quota l (is.Segment (replicate (256 * pages) 0)) blank_fits stored pslot at_d ls index
        (keeps.Segment pages) x x_is q c takes_all label refl (segment_cost pages) a.stocked

    pub copy_blank : bytes_in q.holdings.segments slot ≡ []
    copy_blank = (λ i. bytes_in (c.segments i) (slot_is i)) ∙ vacant_slot

    pub copy_from : IfSome from (λ s. s.0 < length q.holdings.segments)
    copy_from = subst (λ (xs : List (List ℕ)). IfSome from (λ s. s.0 < length xs)) (sym c.segments) (found_within a o from some)

    pub copy_room : HasRoom q.holdings.segments slot (pages_of (bytes_found q.holdings.segments from))
    copy_room =
        let room = new_room a.pieces a.sound d quota l (is.Segment (replicate (256 * pages) 0)) blank_fits stored pslot at_d ls index
        (keeps.Segment pages) x x_is q c takes_all label refl (segment_cost pages) a.stocked in
        let same : pages_of (bytes_found q.holdings.segments from) ≡ pages = ap pages_of found ∙ sym counted in
        omega (arith, room, same)

    module _ (segs : List (List ℕ)) (is' : segs ≡ set q.holdings.segments slot (bytes_found q.holdings.segments from)) where
      segs_is : segs ≡ set a.pieces.holdings.segments c.slot (bytes_at (state_of a) o)
      segs_is = is' ∙ (λ i. set (c.segments i) (slot_is i) (found i))

      abbrev copied_pieces : Pieces
      copied_pieces = record q { holdings = record q.holdings { segments = segs } }

      pub copy_sound : IsSound copied_pieces
      copy_sound = stocked_sound a.pieces a.sound d quota l (is.Segment (replicate (256 * pages) 0)) blank_fits stored pslot at_d ls index
          (keeps.Segment pages) x x_is q c takes_all label refl (segment_cost pages) a.stocked segs (bytes_at (state_of a) o) segs_is long

      pub copy_stocked : IsStocked copied_pieces
      copy_stocked = created_stocked a.pieces a.sound d quota l (is.Segment (replicate (256 * pages) 0)) blank_fits stored pslot at_d ls index
          (keeps.Segment pages) x x_is q c takes_all label refl (segment_cost pages) a.stocked segs (bytes_at (state_of a) o) segs_is long

      pub copy_whole : whole_state copied_pieces
          ≡ made (state_of a) d (fresh_object l quota (is.Segment (bytes_at (state_of a) o)))
      copy_whole = created_whole a.pieces a.sound d quota l (is.Segment (replicate (256 * pages) 0)) blank_fits stored pslot at_d ls index
          (keeps.Segment pages) x x_is q c takes_all label refl (segment_cost pages) a.stocked segs (bytes_at (state_of a) o) segs_is long
