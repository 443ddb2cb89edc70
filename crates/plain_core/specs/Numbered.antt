-- The filled slots, as a checkpoint writes them.
use Rattle.std.specs.Prelude.{ℕ, ◌+◌, List, [], ◌∷◌, Option, Some, None}
use Rattle.kernel_rules.specs.declared.objects.Mapping.{Mapping}
use Rattle.checkpoints.specs.declared.slot_lists.FilledSlot.{FilledSlot}

-- the filled ones of these slots, the first of which has the number i
abbrev pub filled_from : ℕ → List (Option Mapping) → List FilledSlot
filled_from i [] = []
filled_from i (None ∷ ms) = filled_from (i + 1) ms
filled_from i (Some m ∷ ms) = record { slot = i; mapping = m } ∷ filled_from (i + 1) ms
