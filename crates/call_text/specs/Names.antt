-- Whether a line may stand after others.
use Rattle.std.specs.Prelude.{◌≡◌, ◌+◌, ℕ, List, Option, Some, None, Bool, true, false}
use Rattle.call_text.specs.Line.{Written}
use Rattle.call_text.specs.Script.{bind, next}
use Rattle.call_text.specs.declared.batches.Open.{Open}

-- Whether the name, where there is one, is not among the old ones. The new ones are then those
-- and it.
abbrev pub Binds : Option (List ℕ) → List (List ℕ) → List (List ℕ) → Bool → Type 0
Binds name old new true = bind old name ≡ Some new
Binds name old new false = bind old name ≡ None

-- Whether the line may stand after so many lines, where these names are bound and these batches are
-- open. The new ones are then those after it. Where it may not, the batches stay.
abbrev pub Admits : ℕ → Written → List (List ℕ) → List (List ℕ) → List Open → List Open
    → Bool → Type 0
Admits lines l old new batches later true =
    next (record { lines = lines; bound = old; open_batches = batches }) l
    ≡ Some (record { lines = lines + 1; bound = new; open_batches = later })
Admits lines l old new batches later false =
    (next (record { lines = lines; bound = old; open_batches = batches }) l ≡ None)
    × (later ≡ batches)
