-- Pieces in which each id keeps its slot, and each slot what it owns: they are sound where their state is well formed
-- and each use is kept.
use Rattle.std.proofs.Common.{◌≡◌, ℕ, ◌+◌, ◌*◌, ◌<◌, true, false, List, [], length, get_or, Option, Some, None, refl, sym, ◌∙◌, ap, subst, arith, sum_by, inl, inr}
use Rattle.std.specs.Option.{option_map}
use Rattle.std.specs.Ordering.{nat_cmp}
use Rattle.std.specs.Map.{lookup}
use Rattle.std.specs.BTreeMap.{is_at}
use Rattle.std.proofs.lemmas.Bool.{cases_Bool}
use Rattle.std.proofs.lemmas.Map.Made.{lookup-map_values}
use Rattle.base.specs.Live.{has, links}
use Rattle.base.specs.declared.kinds.Kind.TheVariants as kinds
use Rattle.base.specs.declared.ranges.Limits.{Limits}
use Rattle.containers.specs.Tree.{ids_in, HasSlot}
use Rattle.containers.specs.WellFormed.{IsWellFormed}
use Rattle.containers.proofs.Views.{at_has}
use Rattle.label_intern.specs.declared.held.Held.{Held}
use Rattle.label_intern.specs.Held.{held_at, owners_in}
use Rattle.kernel_rules.specs.State.{object_at, of_object, use_of, cost_at, list_at, quota_at, is_kind_at, lists_of, own_cost, listed}
use Rattle.kernel_rules.specs.WellFormed.{is_well_formed}
use Rattle.kernel_laws.proofs.Sums.{sum_same}
use Rattle.arena_state.specs.declared.pieces.Pieces.{Pieces}
use Rattle.arena_state.specs.Rows.{rows_of}
use Rattle.arena_state.specs.Assembled.{pieces_state, object_in, record_in, claims, claims_in, use_in, body_use}
use Rattle.arena_state.specs.Sound.{IsSound}
use Rattle.arena_state.proofs.RowLaws.{row_place, row_at, row_none}

pub record IsRekept (p q : Pieces) : Type 0 where
  pub limits : q.limits ≡ p.limits
  pub ids : ids_in q.places.lists ≡ ids_in p.places.lists
  pub slots : q.places.slots ≡ p.places.slots
  pub cells : length q.places.cells ≡ length p.places.cells
  pub tree : IsWellFormed q.places
  pub labels : q.holdings.labels ≡ p.holdings.labels
  pub room : length q.holdings.records.items ≡ length p.holdings.records.items
  pub claim : (i x : ℕ) → claims i (record_in q.holdings.records.items x) ≡ claims i (record_in p.holdings.records.items x)

-- an id that has no list uses nothing
use_absent : (q : Pieces) (i : ℕ) → has (ids_in q.places.lists) i ≡ false → use_of (pieces_state q) i ≡ 0
use_absent q i off =
    let none : object_at (pieces_state q) i ≡ None
    = lookup-map_values (object_in q.holdings) (is_at (nat_cmp i)) (rows_of q.places.lists q.places.slots)
    ∙ ap (option_map (object_in q.holdings)) (row_none q.places.lists q.places.slots i off) in
    let cost : cost_at (pieces_state q) i ≡ 0 = ap (of_object 0 (λ x. own_cost x.body)) none in
    let list : list_at (pieces_state q) i ≡ [] = ap (of_object [] (λ x. listed x.body)) none in
    let sum : sum_by (quota_at (pieces_state q)) (list_at (pieces_state q) i) ≡ 0
    = ap (sum_by (quota_at (pieces_state q))) list in
    omega (arith, cost, sum)

-- uses that are kept by slots are kept by ids
uses_from : (q : Pieces) → IsWellFormed q.places
    → ((id slot : ℕ) → HasSlot q.places id slot → body_use (record_in q.holdings.records.items slot).body ≡ use_of (pieces_state q) id)
    → (o : ℕ) → use_in q.holdings.records.items (lookup (is_at (nat_cmp o)) (rows_of q.places.lists q.places.slots))
    ≡ use_of (pieces_state q) o
uses_from q t kept o = elim (cases_Bool (has (ids_in q.places.lists) o)) [
  | inl there ↦
      let at = at_has (ids_in q.places.lists) o there in
      let row : lookup (is_at (nat_cmp o)) (rows_of q.places.lists q.places.slots)
      ≡ Some (row_place q.places.lists q.places.slots at.0)
      = subst (λ (k : ℕ). lookup (is_at (nat_cmp k)) (rows_of q.places.lists q.places.slots)
      ≡ Some (row_place q.places.lists q.places.slots at.0)) at.2
      (row_at q.places.lists q.places.slots at.0 t.beside t.rises at.1) in
      ap (use_in q.holdings.records.items) row
      ∙ kept o (get_or q.places.slots at.0 0) (record { place = at.0; within = at.1; id_is = at.2; slot_is = refl })
  | inr off ↦
      ap (use_in q.holdings.records.items) (row_none q.places.lists q.places.slots o off) ∙ sym (use_absent q o off)
]

module _ (p q : Pieces) (s : IsSound p) (k : IsRekept p q) where
  -- who has a slot had it
  pub had_slot : (id slot : ℕ) → HasSlot q.places id slot → HasSlot p.places id slot
  had_slot id slot h = record {
    place = h.place;
    within = omega (arith, h.within, ap (λ (xs : List ℕ). length xs) k.ids);
    id_is = ap (λ (xs : List ℕ). get_or xs h.place 0) (sym k.ids) ∙ h.id_is;
    slot_is = ap (λ (xs : List ℕ). get_or xs h.place 0) (sym k.slots) ∙ h.slot_is;
  }

  owned : (i : ℕ) → owners_in (held_at q.holdings.labels i) ≡ claims_in q.holdings.records.items q.places.slots i
  owned i =
      ap (λ (ls : List (Option Held)). owners_in (held_at ls i)) k.labels ∙ s.owned i
      ∙ sum_same (λ (x : ℕ). claims i (record_in p.holdings.records.items x))
      (λ (x : ℕ). claims i (record_in q.holdings.records.items x)) p.places.slots (λ x. sym (k.claim i x))
      ∙ ap (λ (xs : List ℕ). claims_in q.holdings.records.items xs i) (sym k.slots)

  pub rekept_sound : is_well_formed (pieces_state q) ≡ true → lists_of (pieces_state q).objects ≡ q.places.lists
      → ((id slot : ℕ) → HasSlot q.places id slot → body_use (record_in q.holdings.records.items slot).body ≡ use_of (pieces_state q) id)
      → ((a b : ℕ) → is_kind_at (pieces_state q) kinds.Container b ≡ true → links q.places.lists a b ≡ true → a < b)
      → quota_at (pieces_state q) 1 ≡ quota_at (pieces_state p) 1 → IsSound q
  rekept_sound formed lists used climbs root = record {
    formed = formed;
    tree = k.tree;
    lists = lists;
    owned = owned;
    uses = uses_from q k.tree used;
    climbs = climbs;
    cells = k.cells ∙ s.cells ∙ ap (λ (l : Limits). l.pages) (sym k.limits);
    records = k.room ∙ s.records ∙ ap (λ (l : Limits). l.pages) (sym k.limits);
    pool = ap (λ (ls : List (Option Held)). length ls) k.labels ∙ s.pool ∙ ap (λ (l : Limits). 3 * l.pages + 3) (sym k.limits);
    rooted = ap (λ (xs : List ℕ). has xs 1) k.ids ∙ s.rooted;
    root = root ∙ s.root ∙ ap (λ (l : Limits). l.pages) (sym k.limits);
  }
