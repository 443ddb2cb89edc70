-- Mappings by slot of an address space and place, of which each has 16.
use Rattle.std.specs.Prelude.{ℕ, List, [], Option, None, slice_index_or, slice_set}
use Rattle.kernel_rules.specs.declared.objects.Mapping.{Mapping}

-- the places of a slot
abbrev pub places_at : List (List (Option Mapping)) → ℕ → List (Option Mapping)
places_at mappings space = slice_index_or mappings space []

-- the mapping of a place, if it has one
abbrev pub mapping_at : List (List (Option Mapping)) → ℕ → ℕ → Option Mapping
mapping_at mappings space place = slice_index_or (places_at mappings space) place None

-- the mappings, and this at a place
abbrev pub with_mapping : List (List (Option Mapping)) → ℕ → ℕ → Option Mapping
    → List (List (Option Mapping))
with_mapping mappings space place m =
    slice_set mappings space (slice_set (places_at mappings space) place m)
