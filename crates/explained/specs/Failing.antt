-- The categories at which a comparison fails.
use Rattle.std.specs.Prelude.{ℕ, ◌==◌, ◌++◌, Bool, nat_lt, List, [], ◌∷◌, Option, Some, None, if◌then◌else◌}
use Rattle.label_lattice.specs.Order.{Levels}
use Rattle.explained.specs.Ranks.{rank_at}
use Rattle.explained.specs.declared.failing.Failure.{Failure}
use Rattle.explained.specs.declared.failing.Ranks.{Ranks}

-- what either side has, by its number
abbrev pub ranks_of : ℕ → ℕ → Ranks
ranks_of left right = record { left = rank_at left; right = rank_at right }

-- where the left side is above the other
abbrev pub failing_sides : ℕ → ℕ → Option Ranks
failing_sides left right = if nat_lt right left then Some (ranks_of left right) else None

-- a category with what either side has there
abbrev pub failure_at : Levels → Levels → ℕ → Failure
failure_at l r c = record {
  category = record { 0 = c };
  ranks = ranks_of (l.at c) (r.at c);
}

-- a failure in its place by rising categories, unless its category stands there already
abbrev pub put : Failure → List Failure → List Failure
put f [] = f ∷ []
put f (g ∷ gs) =
    if nat_lt g.category.0 f.category.0 then g ∷ put f gs
    else if g.category.0 == f.category.0 then g ∷ gs else f ∷ g ∷ gs

-- the comparison fails at a category
abbrev pub fails_at : Levels → Levels → ℕ → Bool
fails_at l r c = nat_lt (r.at c) (l.at c)

-- one more category was looked at
abbrev pub looked : Levels → Levels → ℕ → List Failure → List Failure
looked l r c found = if fails_at l r c then put (failure_at l r c) found else found

-- those categories of a list at which it fails, put into what was found
abbrev pub gathered : Levels → Levels → List ℕ → List Failure → List Failure
gathered l r [] found = found
gathered l r (c ∷ cs) found = gathered l r cs (looked l r c found)

-- those exceptions of either side at which it fails, by rising categories
unfoldable pub failing : Levels → Levels → List Failure
failing l r = gathered l r (l.points ++ r.points) []

-- what either side has at each category that is no exception, where the comparison fails there: then
-- it fails for all categories but finitely many
abbrev pub failing_rest : Levels → Levels → Option Ranks
failing_rest l r = failing_sides l.rest r.rest
