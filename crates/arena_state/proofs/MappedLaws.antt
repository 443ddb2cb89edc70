-- Objects that no address space maps.
use Rattle.std.proofs.Common.{◌≡◌, ◌≢◌, ℕ, suc, Bool, false, ◌||◌, List, [], ◌∷◌, Option, Some, None, get_or, refl, ap, ◌∙◌, inl, inr}
use Rattle.std.specs.List.{list_any}
use Rattle.std.proofs.lemmas.Bool.{cases_Bool, ne_eqb}
use Rattle.base.specs.Live.{has}
use Rattle.containers.specs.Tree.{HasSlot, ids_in}
use Rattle.arena_memory.specs.Mappings.{mapping_at, places_at}
use Rattle.kernel_rules.specs.State.{of_object, slots_of, slots_at}
use Rattle.kernel_rules.specs.declared.objects.Mapping.{Mapping}
use Rattle.arena_state.specs.declared.states.ArenaState.{ArenaState}
use Rattle.arena_state.specs.Assembled.{record_in}
use Rattle.arena_state.specs.States.{state_of}
use Rattle.arena_state.specs.Stocked.{keeps_space}
use Rattle.arena_state.specs.Touched.{IsUnmapped, maps}
use Rattle.arena_state.proofs.BodyLaws.{slots_here, no_slots_here}
use Rattle.arena_state.proofs.StockLaws.{absent_whole, slot_there}

-- where no place maps an object, none of the list does
not_mapped : (o : ℕ) (v : Option Mapping) → ((m : Mapping) → v ≡ Some m → m.entry.object ≢ o) → maps o v ≡ false
not_mapped o None off = refl
not_mapped o (Some m) off = ne_eqb m.entry.object o (off m refl)

none_in : (o : ℕ) (slots : List (Option Mapping))
    → ((place : ℕ) (m : Mapping) → get_or slots place None ≡ Some m → m.entry.object ≢ o) → list_any (maps o) slots ≡ false
none_in o [] off = refl
none_in o (v ∷ vs) off =
    ap (λ (b : Bool). b || list_any (maps o) vs) (not_mapped o v (off 0))
    ∙ none_in o vs (λ place. off (suc place))

-- so no object has it, where no slot maps it
module _ (a : ArenaState) (o : ℕ)
    (off : (space place : ℕ) (m : Mapping) → mapping_at a.pieces.holdings.spaces space place ≡ Some m
    → m.entry.object ≢ o) where
  in_slot : (id slot : ℕ) → HasSlot a.pieces.places id slot → list_any (maps o) (slots_at (state_of a) id) ≡ false
  in_slot id slot h = elim (cases_Bool (keeps_space (record_in a.pieces.holdings.records.items slot).body)) [
    | inl is ↦
        ap (list_any (maps o)) (slots_here a id slot h is)
        ∙ none_in o (places_at a.pieces.holdings.spaces slot) (off slot)
    | inr off ↦ ap (list_any (maps o)) (no_slots_here a id slot h off)
  ]

  pub unmapped : IsUnmapped (state_of a) o
  unmapped id = elim (cases_Bool (has (ids_in a.pieces.places.lists) id)) [
    | inl there ↦ let at = slot_there a.pieces a.sound id there in in_slot id at.0 at.1
    | inr gone ↦ ap (λ v. list_any (maps o) (of_object [] (λ x. slots_of x.body) v)) (absent_whole a.pieces a.sound id gone)
  ]
