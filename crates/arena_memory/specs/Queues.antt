-- The packets of devices, by slot.
use Rattle.std.specs.Prelude.{ℕ, List, [], slice_index_or}

-- the packets that wait in a slot, the first one first
abbrev pub packets_in : List (List (List ℕ)) → ℕ → List (List ℕ)
packets_in queues slot = slice_index_or queues slot []
