-- Places at which objects are listed, and a walk over them: the root, and below each container what it lists, in the order of
-- its list.
use Rattle.std.specs.Prelude.{ℕ, ◌+◌, List, [], ◌++◌, zero, suc}
use Rattle.std.specs.List.{flat_map}
use Rattle.kernel_rules.specs.State.{State, list_at}
use Rattle.shown_dumps.specs.declared.tree.places.Place.{Place}

-- where the root stands: in no container
abbrev pub root : Place
root = record { depth = 0; container = 0; id = 1 }

-- the place of what the object at a place lists
abbrev pub below : Place → ℕ → Place
below p id = record { depth = p.depth + 1; container = p.id; id = id }

-- so many levels of what is told of each place, before what the object there lists and after it
abbrev pub walk : (Place → List ℕ) → (Place → List ℕ) → State → ℕ → Place → List ℕ
walk opened closed s zero p = []
walk opened closed s (suc levels) p =
    opened p ++ flat_map (λ id. walk opened closed s levels (below p id)) (list_at s p.id) ++ closed p

abbrev pub nothing : Place → List ℕ
nothing p = []
