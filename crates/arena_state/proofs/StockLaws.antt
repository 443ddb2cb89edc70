-- What is read off pieces with what slots hold.
use Rattle.std.proofs.Common.{◌≡◌, ℕ, ◌*◌, ◌/◌, ◌<◌, Bool, true, false, cond, ◌&&◌, ◌==◌, nat_le, List, length, get_or, replicate, Option, Some, None, refl, sym, ◌∙◌, ap, subst, arith, inl, inr}
use Rattle.std.specs.Option.{option_map}
use Rattle.std.proofs.lemmas.Bool.{cases_Bool, and_parts, eq-eqb}
use Rattle.std.proofs.lemmas.List.{length-replicate}
use Rattle.std.proofs.lemmas.Option.{same_Some, none-some}
use Rattle.base.specs.Live.{has}
use Rattle.containers.specs.Tree.{ids_in, HasSlot}
use Rattle.containers.proofs.Views.{at_has, has_at}
use Rattle.label_intern.specs.declared.held.Held.{Held}
use Rattle.kernel_rules.specs.State.{object_at, own_cost, use_of}
use Rattle.kernel_rules.specs.WellFormed.{is_well_formed, is_whole_body, is_kept, is_stored}
use Rattle.kernel_rules.specs.declared.objects.Object.{Object}
use Rattle.kernel_rules.specs.declared.objects.Body.TheVariants as is
use Rattle.kernel_rules.proofs.ListerLaws.{kept_parts}
use Rattle.kernel_rules.proofs.LookupLaws.{all_at}
use Rattle.kernel_rules.proofs.WellFormedLaws.{soundness_of}
use Rattle.arena_state.specs.declared.records.Kept as kept
use Rattle.arena_state.specs.declared.records.Kept.TheVariants as keeps
use Rattle.arena_state.specs.declared.pieces.Pieces.{Pieces}
use Rattle.arena_state.specs.Rows.{row_slot}
use Rattle.arena_state.specs.Filled.{Content, filled, filled_body}
use Rattle.arena_state.specs.Assembled.{pieces_state, record_in, assembled, body_of}
use Rattle.arena_state.specs.Stocked.{slot_of, content_in, content_at, whole_state, kept_pages, pages_at, IsStocked}
use Rattle.arena_state.specs.Sound.{IsSound}
use Rattle.arena_state.proofs.RowLaws.{row_place}
use Rattle.arena_state.proofs.SoundLaws.{row_found, object_here, object_none, slot_within}
use Rattle.arena_state.proofs.FilledLaws.{at_filled}
use Rattle.arena_state.proofs.FormedLaws.{IsFit, formed_filled, use_filled}

-- whole pages cost what so many pages of 0 cost
whole_pages : (n m : ℕ) → n ≡ 256 * m → n / 256 ≡ m
whole_pages n m e = omega arith

pages_cost : (pages : ℕ) (bytes : List ℕ) → length bytes ≡ 256 * pages
    → own_cost (is.Segment bytes) ≡ own_cost (is.Segment (replicate (256 * pages) 0))
pages_cost pages bytes long =
    let zeros : length {A = ℕ} (replicate (256 * pages) 0) ≡ 256 * pages = length-replicate (256 * pages) 0 in
    omega (arith, whole_pages (length bytes) pages long, whole_pages (length {A = ℕ} (replicate (256 * pages) 0)) pages zeros)

-- what a slot holds fits a body of so many pages
pub fit_body : (labels : List (Option Held)) (k : kept.Kept) (l : List ℕ) (c : Content) → is_whole_body (body_of labels k l) ≡ true
    → length c.bytes ≡ 256 * kept_pages k → length c.slots ≡ 16 → is_whole_body (is.Device c.packets) ≡ true
    → (is_whole_body (filled_body c (body_of labels k l)) ≡ true) × (own_cost (filled_body c (body_of labels k l)) ≡ own_cost (body_of labels k l))
fit_body labels (keeps.Container avoid used) l c whole paged sixteen queued = (whole, refl)
fit_body labels (keeps.Segment pages) l c whole paged sixteen queued = (
  ap (λ (n : ℕ). (n == 256 * (n / 256)) && nat_le n (256 * 16)) (paged ∙ sym (length-replicate {A = ℕ} (256 * pages) 0)) ∙ whole,
  pages_cost pages c.bytes paged,
)
fit_body labels keeps.AddressSpace l c whole paged sixteen queued = (eq-eqb (length c.slots) 16 sixteen, refl)
fit_body labels (keeps.Thread t) l c whole paged sixteen queued = (whole, refl)
fit_body labels (keeps.Gate g) l c whole paged sixteen queued = (whole, refl)
fit_body labels keeps.Device l c whole paged sixteen queued = (queued, refl)

-- without what slots hold
module _ (p : Pieces) (s : IsSound p) where
  pub slot_is : (id slot : ℕ) → HasSlot p.places id slot → slot_of p id ≡ slot
  slot_is id slot h = ap row_slot (row_found p s id slot h) ∙ h.slot_is

  pub live_slot : (id slot : ℕ) → HasSlot p.places id slot → has p.places.slots slot ≡ true
  live_slot id slot h = has_at p.places.slots h.place slot (omega (arith, h.within, s.tree.beside)) h.slot_is

  pub slot_there : (id : ℕ) → has (ids_in p.places.lists) id ≡ true → (slot : ℕ) × HasSlot p.places id slot
  slot_there id there =
      let at = at_has (ids_in p.places.lists) id there in
      (get_or p.places.slots at.0 0, record { place = at.0; within = at.1; id_is = at.2; slot_is = refl })

  -- the object that is looked up, with what its slot holds
  pub object_whole : (id slot : ℕ) (h : HasSlot p.places id slot)
      → object_at (whole_state p) id ≡ Some (filled (content_in p.holdings slot)
      (assembled p.holdings.labels (record_in p.holdings.records.items slot) (row_place p.places.lists p.places.slots h.place).list))
  object_whole id slot h =
      at_filled (content_at p) id (pieces_state p).objects
      ∙ ap (option_map (filled (content_at p id))) (object_here p s id slot h)
      ∙ ap (λ (j : ℕ). Some (filled (content_in p.holdings j)
      (assembled p.holdings.labels (record_in p.holdings.records.items slot) (row_place p.places.lists p.places.slots h.place).list)))
      (slot_is id slot h)

  pub none_whole : (id : ℕ) → object_at (pieces_state p) id ≡ None → object_at (whole_state p) id ≡ None
  none_whole id none = at_filled (content_at p) id (pieces_state p).objects ∙ ap (option_map (filled (content_at p id))) none

  pub absent_whole : (id : ℕ) → has (ids_in p.places.lists) id ≡ false → object_at (whole_state p) id ≡ None
  absent_whole id off = none_whole id (object_none p s id off)

module _ (p : Pieces) (s : IsSound p) (k : IsStocked p) where
  pub pages_here : (id slot : ℕ) → HasSlot p.places id slot
      → pages_at p slot ≡ kept_pages (record_in p.holdings.records.items slot).body
  pages_here id slot h =
      ap {B = ℕ} (λ (b : Bool). cond b (kept_pages (record_in p.holdings.records.items slot).body) 0) (live_slot p s id slot h)

  fit_slot : (id slot : ℕ) (h : HasSlot p.places id slot) (x : Object) → object_at (pieces_state p) id ≡ Some x
      → IsFit (content_in p.holdings slot) x
  fit_slot id slot h x found =
      let r = record_in p.holdings.records.items slot in
      let l = (row_place p.places.lists p.places.slots h.place).list in
      let same : x ≡ assembled p.holdings.labels r l
      = same_Some x (assembled p.holdings.labels r l) (sym found ∙ object_here p s id slot h) in
      let all = (kept_parts (pieces_state p) id x (all_at (λ j w. is_kept (pieces_state p) j w) (pieces_state p).objects id x
      (soundness_of (pieces_state p) s.formed).kept found)).whole in
      let whole : is_whole_body x.body ≡ true
      = (and_parts (is_stored x.label && length x.metadata == 64) (is_whole_body x.body) all).1 in
      let within : slot < p.limits.pages = omega (arith, slot_within p s id slot h, s.records) in
      let fit = fit_body p.holdings.labels r.body l (content_in p.holdings slot)
      (ap (λ (y : Object). is_whole_body y.body) (sym same) ∙ whole)
      (k.paged slot ∙ ap {B = ℕ} (λ (n : ℕ). 256 * n) (pages_here id slot h)) (k.sixteen slot within) (k.queued slot) in
      subst (λ (y : Object). IsFit (content_in p.holdings slot) y) (sym same) (record { whole = fit.0; cost = fit.1 })

  pub fits : (o : ℕ) (x : Object) → object_at (pieces_state p) o ≡ Some x → IsFit (content_at p o) x
  fits o x found = elim (cases_Bool (has (ids_in p.places.lists) o)) [
    | inl there ↦
        let at = slot_there p s o there in
        subst (λ (j : ℕ). IsFit (content_in p.holdings j) x) (sym (slot_is p s o at.0 at.1)) (fit_slot o at.0 at.1 x found)
    | inr off ↦ absurd (none-some x (sym (object_none p s o off) ∙ found))
  ]

  -- the state with what slots hold is well formed, and uses are the same
  pub whole_formed : is_well_formed (whole_state p) ≡ true
  whole_formed = formed_filled (content_at p) (pieces_state p) s.formed fits

  pub whole_use : (o : ℕ) → use_of (whole_state p) o ≡ use_of (pieces_state p) o
  whole_use o = use_filled (content_at p) (pieces_state p) s.formed fits o
