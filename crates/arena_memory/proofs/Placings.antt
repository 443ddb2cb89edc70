-- What stands in the places of address spaces after a write.
use Rattle.std.proofs.Common.{◌≡◌, ℕ, ◌<◌, Option, None, List, [], length, get_or, set, sym, ap, ◌∙◌, inl, inr}
use Rattle.std.proofs.lemmas.Bool.{cases_eq}
use Rattle.std.proofs.lemmas.List.{get_or-set_same, get_or-set_other}
use Rattle.kernel_rules.specs.declared.objects.Mapping.{Mapping}
use Rattle.arena_memory.specs.Mappings.{mapping_at, places_at, with_mapping}

module _ (ms : List (List (Option Mapping))) (space place : ℕ) (m : Option Mapping) where
  -- the mapping of a place after a write
  pub mapping_here : space < length ms → place < length (places_at ms space) → mapping_at (with_mapping ms space place m) space place ≡ m
  mapping_here below within =
      let row = set (places_at ms space) place m in
      ap (λ (xs : List (Option Mapping)). get_or xs place None) (get_or-set_same ms space row [] below)
      ∙ get_or-set_same (places_at ms space) place m None within

  pub mapping_other : (a b : ℕ) → space < length ms → (a ≡ space → b ≡ place → ⊥) → mapping_at (with_mapping ms space place m) a b ≡ mapping_at ms a b
  mapping_other a b below apart =
      let row = set (places_at ms space) place m in
      elim (cases_eq a space) [
        | inl same ↦
            ap (λ (i : ℕ). mapping_at (with_mapping ms space place m) i b) same
            ∙ ap (λ (xs : List (Option Mapping)). get_or xs b None) (get_or-set_same ms space row [] below)
            ∙ get_or-set_other (places_at ms space) place b m None (apart same)
            ∙ ap (λ (i : ℕ). mapping_at ms i b) (sym same)
        | inr differs ↦ ap (λ (xs : List (Option Mapping)). get_or xs b None) (get_or-set_other ms space a row [] differs)
      ]
