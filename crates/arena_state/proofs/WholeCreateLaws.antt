-- A new object, with what its slot holds.
use Rattle.std.proofs.Common.{◌≡◌, ◌≢◌, ℕ, ◌+◌, ◌*◌, ◌<◌, Bool, true, false, cond, ◌&&◌, ◌||◌, ◌==◌, List, [], ◌∷◌, ◌++◌, ◌-◌, length, get_or, set, take, replicate, Option, Some, None, refl, sym, ◌∙◌, ap, subst, arith, inl, inr, length-set}
use Rattle.std.proofs.lemmas.Bool.{cases_Bool, cases_eq, both_ways, eq-eqb, eqb-true}
use Rattle.std.proofs.lemmas.List.{get_or-set_same, get_or-set_other, set-get_or, length-take}
use Rattle.std.proofs.Math.Seq.{get_or-append_seam}
use Rattle.kernel_rules.specs.Written.{resized}
use Rattle.std.proofs.lemmas.Option.{none-some}
use Rattle.base.specs.Live.{has}
use Rattle.base.specs.declared.ranges.Limits.{Limits}
use Rattle.containers.specs.Tree.{ids_in, add_lists, HasSlot}
use Rattle.containers.proofs.Views.{at_has, has_at}
use Rattle.containers.proofs.Lists.{ids_added}
use Rattle.label_lattice.specs.Label.{LabelValue}
use Rattle.label_intern.specs.declared.held.Held.{Held}
use Rattle.label_intern.specs.Held.{label_of}
use Rattle.label_intern.specs.Owners.{one_at, Takes}
use Rattle.kernel_rules.specs.State.{object_at, own_cost}
use Rattle.kernel_rules.specs.Changes.{made, fresh_object, listing}
use Rattle.kernel_rules.specs.Fitting.{IsFitting}
use Rattle.kernel_rules.specs.WellFormed.{is_stored, is_whole_body}
use Rattle.kernel_rules.specs.declared.objects.Body.{Body}
use Rattle.kernel_rules.specs.declared.objects.Body.TheVariants as is
use Rattle.kernel_rules.specs.declared.objects.Object.{Object}
use Rattle.kernel_rules.proofs.GrownLaws.{making_from}
use Rattle.kernel_rules.proofs.ListingLaws.{container_at, has-append_other}
use Rattle.kernel_rules.proofs.WellFormedLaws.{soundness_of}
use Rattle.arena_state.specs.declared.records.Record.{Record}
use Rattle.arena_state.specs.declared.records.Kept.{Kept}
use Rattle.arena_state.specs.declared.pieces.Pieces.{Pieces}
use Rattle.arena_state.specs.Rows.{row_slot}
use Rattle.arena_state.specs.Filled.{Content, filled, filled_state}
use Rattle.arena_state.specs.Assembled.{pieces_state, record_in, body_of, body_claims, body_use, fresh_record, with_use}
use Rattle.arena_state.specs.Creations.{IsPlaced}
use Rattle.arena_state.specs.Stocked.{slot_of, content_in, content_at, whole_state, kept_pages, keeps_space, pages_at, is_space_at, IsStocked}
use Rattle.arena_memory.specs.Segments.{bytes_in}
use Rattle.arena_memory.specs.Queues.{packets_in}
use Rattle.kernel_rules.specs.declared.objects.Mapping.{Mapping}
use Rattle.arena_memory.specs.Mappings.{places_at}
use Rattle.arena_state.specs.Sound.{IsSound}
use Rattle.arena_state.proofs.SoundLaws.{object_none}
use Rattle.arena_state.proofs.FilledLaws.{same_filled}
use Rattle.arena_state.proofs.MadeFilledLaws.{made_filled}
use Rattle.arena_state.proofs.StockLaws.{slot_is, slot_there}
use Rattle.arena_state.proofs.HeldLaws.{slots_by_ids}
use Rattle.arena_state.proofs.WholeEditLaws.{reuse_pages, reuse_space}
use Rattle.arena_state.proofs.CreateLaws.{with_labels, other, record_kept, record_new}
use Rattle.arena_state.proofs.CreatedLaws.{y, row_now, row_then, object_then, not_d}
use Rattle.arena_state.proofs.NewLaws.{claims_are, object_is, used_is, new_sound, new_state}

pub has_last : (xs : List ℕ) (y : ℕ) → has (xs ++ y ∷ []) y ≡ true
has_last [] y = ap (λ (b : Bool). b || false) (eq-eqb y y refl)
has_last (x ∷ xs) y =
    elim (y == x) as (λ v. (v || has (xs ++ y ∷ []) y) ≡ true) [
      | true ↦ refl
      | false ↦ has_last xs y
    ]

pub no_element : (xs : List ℕ) → length xs ≡ 0 → xs ≡ []
no_element [] none = refl
no_element (x ∷ xs) none = absurd (omega arith)

-- bytes are bound to nothing but what slots hold
pub with_segments : (q : Pieces) → IsSound q → (segs : List (List ℕ)) → IsSound (record q { holdings = record q.holdings { segments = segs } })
with_segments q s segs = record {
  formed = s.formed;
  tree = s.tree;
  lists = s.lists;
  owned = s.owned;
  uses = s.uses;
  climbs = s.climbs;
  cells = s.cells;
  records = s.records;
  pool = s.pool;
  rooted = s.rooted;
  root = s.root;
}

-- of no byte all are 0
pub from_none : (n : ℕ) → resized n [] ≡ replicate n 0
from_none n =
    ap (λ (xs : List ℕ). xs ++ replicate (n - 0) 0) (no_element (take n []) (taken n)) ∙ ap (λ (m : ℕ). replicate m 0) (whole n)
  where
    taken : (m : ℕ) → length (take {A = ℕ} m []) ≡ 0
    taken m = let e = length-take {A = ℕ} m [] in omega (arith, e)

    whole : (m : ℕ) → m - 0 ≡ m
    whole m = omega arith

-- the bytes of a segment in a slot that had none
pub resized_new : (old : List ℕ) (slot placed : ℕ) (new : List ℕ) → new ≡ old ++ slot ∷ [] → new ≡ old ++ placed ∷ []
    → (was mid : List (List ℕ)) → mid ≡ was → (pages : ℕ) (segs : List (List ℕ))
    → segs ≡ set mid slot (resized (256 * pages) (bytes_in mid slot)) → bytes_in was placed ≡ []
    → segs ≡ set was placed (replicate (256 * pages) 0)
resized_new old slot placed new first second was mid same pages segs is' none =
    let at : slot ≡ placed
    = sym (get_or-append_seam old slot [] 0) ∙ ap (λ (xs : List ℕ). get_or xs (length old) 0) (sym first ∙ second)
    ∙ get_or-append_seam old placed [] 0 in
    is' ∙ (λ i. set (same i) (at i) (resized (256 * pages) (bytes_in (same i) (at i))))
    ∙ ap (λ (xs : List ℕ). set was placed (resized (256 * pages) xs)) none
    ∙ ap (set was placed) (from_none (256 * pages))

module _ (p : Pieces) (s : IsSound p) (d quota : ℕ) (l : LabelValue) (b : Body) (fits : IsFitting (pieces_state p) d quota b)
    (stored : is_stored l ≡ true) (pslot : ℕ) (at_d : HasSlot p.places d pslot) (ls : List (Option Held)) (index : ℕ) (kp : Kept)
    (x : Record) (x_is : x ≡ fresh_record index quota kp) (q : Pieces) (c : IsPlaced (with_labels p ls) q d pslot x)
    (takes : Takes p.holdings.labels ls (λ i. one_at i index + body_claims i kp)) (label : label_of ls index ≡ l)
    (body : body_of ls kp [] ≡ b) (used : body_use kp ≡ own_cost b) (k : IsStocked p) where
  pub vacant : has p.places.slots c.slot ≡ false
  vacant = elim (cases_Bool (has p.places.slots c.slot)) [
    | inl there ↦
        let at = at_has p.places.slots c.slot there in
        absurd (other p s d quota l b fits stored pslot at_d ls x q c
        (claims_are p s d quota l b fits stored pslot at_d ls index kp x x_is q c takes label body used)
        (object_is p s d quota l b fits stored pslot at_d ls index kp x x_is q c takes label body used)
        (used_is p s d quota l b fits stored pslot at_d ls index kp x x_is q c takes label body used) at.0 at.1 at.2)
    | inr off ↦ off
  ]

  within : c.slot < p.limits.pages
  within = omega (arith, c.within, s.cells)

  pub bytes_vacant : bytes_in p.holdings.segments c.slot ≡ []
  bytes_vacant = no_element (bytes_in p.holdings.segments c.slot)
      (k.paged c.slot ∙ ap {B = ℕ} (λ (v : Bool). 256 * cond v (kept_pages (record_in p.holdings.records.items c.slot).body) 0) vacant)

  -- where no byte is given the segments stay
  pub segments_kept : q.holdings.segments ≡ set p.holdings.segments c.slot []
  segments_kept = c.segments ∙ sym (ap (set p.holdings.segments c.slot) (sym bytes_vacant) ∙ set-get_or p.holdings.segments c.slot [])

  slots_new : has q.places.slots c.slot ≡ true
  slots_new = ap (λ (xs : List ℕ). has xs c.slot) c.slots ∙ has_last p.places.slots c.slot

  slots_old : (y : ℕ) → y ≢ c.slot → has q.places.slots y ≡ has p.places.slots y
  slots_old y off = ap (λ (xs : List ℕ). has xs y) c.slots ∙ has-append_other p.places.slots c.slot y off

  pub new_record : record_in q.holdings.records.items c.slot ≡ x
  new_record = record_new p s d quota l b fits stored pslot at_d ls x q c
      (claims_are p s d quota l b fits stored pslot at_d ls index kp x x_is q c takes label body used)
      (object_is p s d quota l b fits stored pslot at_d ls index kp x x_is q c takes label body used)
      (used_is p s d quota l b fits stored pslot at_d ls index kp x x_is q c takes label body used)

  pub old_record : (y : ℕ) → y ≢ c.slot → (n : ℕ) × (record_in q.holdings.records.items y ≡ with_use n (record_in p.holdings.records.items y))
  old_record = record_kept p s d quota l b fits stored pslot at_d ls x q c
      (claims_are p s d quota l b fits stored pslot at_d ls index kp x x_is q c takes label body used)
      (object_is p s d quota l b fits stored pslot at_d ls index kp x x_is q c takes label body used)
      (used_is p s d quota l b fits stored pslot at_d ls index kp x x_is q c takes label body used)

  pages_old : (y : ℕ) → y ≢ c.slot → pages_at q y ≡ pages_at p y
  pages_old y off =
      let was = old_record y off in
      (λ i. cond (slots_old y off i)
      ((ap (λ (r : Record). kept_pages r.body) was.1 ∙ reuse_pages was.0 (record_in p.holdings.records.items y).body) i) 0)

  space_old : (y : ℕ) → y ≢ c.slot → is_space_at q y ≡ is_space_at p y
  space_old y off =
      let was = old_record y off in
      (λ i. slots_old y off i
      && (ap (λ (r : Record). keeps_space r.body) was.1 ∙ reuse_space was.0 (record_in p.holdings.records.items y).body) i)

  next_slot : slot_of q p.next_id ≡ c.slot
  next_slot = ap row_slot (row_now p s d quota l b fits stored pslot at_d ls x q c
      (claims_are p s d quota l b fits stored pslot at_d ls index kp x x_is q c takes label body used)
      (object_is p s d quota l b fits stored pslot at_d ls index kp x x_is q c takes label body used)
      (used_is p s d quota l b fits stored pslot at_d ls index kp x x_is q c takes label body used))

  old_slot : (i : ℕ) → (i == p.next_id) ≡ false → slot_of q i ≡ slot_of p i
  old_slot i off =
      ap row_slot (row_then p s d quota l b fits stored pslot at_d ls x q c
      (claims_are p s d quota l b fits stored pslot at_d ls index kp x x_is q c takes label body used)
      (object_is p s d quota l b fits stored pslot at_d ls index kp x x_is q c takes label body used)
      (used_is p s d quota l b fits stored pslot at_d ls index kp x x_is q c takes label body used) i off)
      ∙ slots_by_ids p.places.lists (add_lists p.places.lists d p.next_id) p.places.slots (ids_added p.places.lists d p.next_id) i

  old_there : (i : ℕ) (z : Object) → (i == p.next_id) ≡ false → object_at (pieces_state q) i ≡ Some z → has (ids_in p.places.lists) i ≡ true
  old_there i z off found = elim (cases_Bool (has (ids_in p.places.lists) i)) [
    | inl there ↦ there
    | inr gone ↦
        let none : object_at (pieces_state q) i ≡ None
        = object_then p s d quota l b fits stored pslot at_d ls x q c
        (claims_are p s d quota l b fits stored pslot at_d ls index kp x x_is q c takes label body used)
        (object_is p s d quota l b fits stored pslot at_d ls index kp x x_is q c takes label body used)
        (used_is p s d quota l b fits stored pslot at_d ls index kp x x_is q c takes label body used) i off
        ∙ ap (λ (v : Bool). cond v (Some (listing p.next_id (y p s d quota l b fits stored pslot at_d ls x q c
        (claims_are p s d quota l b fits stored pslot at_d ls index kp x x_is q c takes label body used)
        (object_is p s d quota l b fits stored pslot at_d ls index kp x x_is q c takes label body used)
        (used_is p s d quota l b fits stored pslot at_d ls index kp x x_is q c takes label body used)))) (object_at (pieces_state p) i)) (not_d p s d quota l b fits stored pslot at_d ls x q c
        (claims_are p s d quota l b fits stored pslot at_d ls index kp x x_is q c takes label body used)
        (object_is p s d quota l b fits stored pslot at_d ls index kp x x_is q c takes label body used)
        (used_is p s d quota l b fits stored pslot at_d ls index kp x x_is q c takes label body used) i gone)
        ∙ object_none p s i gone in
        absurd (none-some z (sym none ∙ found))
  ]

  -- an old id has another slot than the new one
  old_apart : (i : ℕ) → has (ids_in p.places.lists) i ≡ true → slot_of p i ≢ c.slot
  old_apart i there same =
      let at = slot_there p s i there in
      both_ways (has p.places.slots c.slot) vacant
      (has_at p.places.slots at.1.place c.slot (omega (arith, at.1.within, s.tree.beside))
      (at.1.slot_is ∙ sym (slot_is p s i at.0 at.1) ∙ same))

  -- the new slot got bytes
  module _ (segs : List (List ℕ)) (bytes : List ℕ) (segs_is : segs ≡ set p.holdings.segments c.slot bytes)
      (paged : length bytes ≡ 256 * kept_pages kp) where
    abbrev pub stocked_pieces : Pieces
    stocked_pieces = record q { holdings = record q.holdings { segments = segs } }

    abbrev new_content : Content
    new_content = record { bytes = bytes; slots = replicate 16 None; packets = packets_in p.holdings.queues c.slot }

    bytes_new : bytes_in segs c.slot ≡ bytes
    bytes_new = ap (λ (xs : List (List ℕ)). bytes_in xs c.slot) segs_is
        ∙ get_or-set_same p.holdings.segments c.slot bytes [] (omega (arith, within, k.segments))

    bytes_old : (y : ℕ) → y ≢ c.slot → bytes_in segs y ≡ bytes_in p.holdings.segments y
    bytes_old y off = ap (λ (xs : List (List ℕ)). bytes_in xs y) segs_is ∙ get_or-set_other p.holdings.segments c.slot y bytes [] off

    empty_new : places_at p.holdings.spaces c.slot ≡ replicate 16 None
    empty_new = k.unmapped c.slot within
        (ap (λ (v : Bool). v && keeps_space (record_in p.holdings.records.items c.slot).body) vacant)

    paged_now : (y : ℕ) → length (bytes_in segs y) ≡ 256 * pages_at q y
    paged_now y = elim (cases_eq y c.slot) [
      | inl same ↦
          let here : pages_at q c.slot ≡ kept_pages kp
          = (λ i. cond (slots_new i) (kept_pages ((new_record ∙ x_is) i).body) 0) in
          subst (λ (j : ℕ). length (bytes_in segs j) ≡ 256 * pages_at q j) (sym same)
          (ap (λ (xs : List ℕ). length xs) bytes_new ∙ paged ∙ ap {B = ℕ} (λ (n : ℕ). 256 * n) (sym here))
      | inr off ↦
          ap (λ (xs : List ℕ). length xs) (bytes_old y off) ∙ k.paged y ∙ ap {B = ℕ} (λ (n : ℕ). 256 * n) (sym (pages_old y off))
    ]

    unmapped_now : (y : ℕ) → y < p.limits.pages → is_space_at q y ≡ false → places_at p.holdings.spaces y ≡ replicate 16 None
    unmapped_now y y_in none = elim (cases_eq y c.slot) [
      | inl same ↦ subst (λ (j : ℕ). places_at p.holdings.spaces j ≡ replicate 16 None) (sym same) empty_new
      | inr off ↦ k.unmapped y y_in (sym (space_old y off) ∙ none)
    ]

    -- the pieces are as sound as without the bytes
    pub stocked_sound : IsSound stocked_pieces
    stocked_sound = with_segments q (new_sound p s d quota l b fits stored pslot at_d ls index kp x x_is q c takes label body used) segs

    pub created_stocked : IsStocked stocked_pieces
    created_stocked = record {
      segments = ap (λ (xs : List (List ℕ)). length xs) segs_is ∙ length-set p.holdings.segments c.slot bytes ∙ k.segments
          ∙ ap (λ (z : Limits). z.pages) (sym c.limits);
      queues = ap (λ (xs : List (List (List ℕ))). length xs) c.queues ∙ k.queues ∙ ap (λ (z : Limits). z.pages) (sym c.limits);
      spaces = ap (λ (v : List (List (Option Mapping))). length v) c.spaces ∙ k.spaces ∙ ap (λ (z : Limits). z.pages) (sym c.limits);
      paged = paged_now;
      sixteen = λ y y_in. ap (λ (v : List (List (Option Mapping))). length (places_at v y)) c.spaces
          ∙ k.sixteen y (subst (λ (z : Limits). y < z.pages) c.limits y_in);
      unmapped = λ y y_in none. ap (λ (v : List (List (Option Mapping))). places_at v y) c.spaces
          ∙ unmapped_now y (subst (λ (z : Limits). y < z.pages) c.limits y_in) none;
      queued = λ y. ap (λ (xs : List (List (List ℕ))). is_whole_body (is.Device (packets_in xs y))) c.queues ∙ k.queued y;
    }

    -- what the slots of ids hold
    abbrev new_contents : ℕ → Content
    new_contents i = cond (i == p.next_id) new_content (content_at p i)

    content_new : content_at stocked_pieces p.next_id ≡ new_content
    content_new =
        ap (content_in stocked_pieces.holdings) next_slot
        ∙ (λ i. record {
          bytes = bytes_new i;
          slots = (ap (λ (v : List (List (Option Mapping))). places_at v c.slot) c.spaces ∙ empty_new) i;
          packets = packets_in (c.queues i) c.slot;
        })

    content_old : (i : ℕ) (z : Object) → (i == p.next_id) ≡ false → object_at (pieces_state q) i ≡ Some z
        → content_at stocked_pieces i ≡ content_at p i
    content_old i z off found =
        ap (content_in stocked_pieces.holdings) (old_slot i off)
        ∙ (λ j. record {
          bytes = bytes_old (slot_of p i) (old_apart i (old_there i z off found)) j;
          slots = places_at (c.spaces j) (slot_of p i);
          packets = packets_in (c.queues j) (slot_of p i);
        })

    contents_are : (i : ℕ) (z : Object) → object_at (pieces_state q) i ≡ Some z → content_at stocked_pieces i ≡ new_contents i
    contents_are i z found = elim (cases_Bool (i == p.next_id)) [
      | inl is' ↦
          ap (content_at stocked_pieces) (eqb-true i p.next_id is') ∙ content_new
          ∙ sym (ap (λ (v : Bool). cond v new_content (content_at p i)) is')
      | inr off ↦ content_old i z off found ∙ sym (ap (λ (v : Bool). cond v new_content (content_at p i)) off)
    ]

    pub created_whole : whole_state stocked_pieces ≡ made (whole_state p) d (filled new_content (fresh_object l quota b))
    created_whole =
        let sq = new_sound p s d quota l b fits stored pslot at_d ls index kp x x_is q c takes label body used in
        let state = pieces_state p in
        (λ i. record (pieces_state q) {
          objects = same_filled new_contents (content_at stocked_pieces) (pieces_state q).objects contents_are
              (soundness_of (pieces_state q) sq.formed).rise i;
        })
        ∙ ap (filled_state new_contents) (new_state p s d quota l b fits stored pslot at_d ls index kp x x_is q c takes label body used)
        ∙ made_filled (content_at p) new_contents state d (container_at state d fits.container).object (fresh_object l quota b)
        (making_from state d (container_at state d fits.container) (soundness_of state s.formed))
        (soundness_of state s.formed).rise
        (λ i off. ap (λ (v : Bool). cond v new_content (content_at p i)) (not_next i off))
        ∙ ap (λ (e : Content). made (whole_state p) d (filled e (fresh_object l quota b)))
        (ap (λ (v : Bool). cond v new_content (content_at p p.next_id)) (eq-eqb p.next_id p.next_id refl))
      where
        not_next : (i : ℕ) → i ≢ p.next_id → (i == p.next_id) ≡ false
        not_next i off = elim (cases_Bool (i == p.next_id)) [
          | inl is' ↦ absurd (off (eqb-true i p.next_id is'))
          | inr other ↦ other
        ]
