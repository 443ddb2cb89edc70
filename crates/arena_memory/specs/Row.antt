-- A row as it is kept: an object at each place, and beside it the rights, where the place shows something. No public
-- clause cites this module.
use Rattle.std.specs.Prelude.{ℕ, List, [], ◌∷◌, Option, Some, None}
use Rattle.base.specs.declared.sets.Rights.{Rights}

-- what a place shows
abbrev pub shown_as : ℕ → Option Rights → Option (ℕ × Rights)
shown_as object None = None
shown_as object (Some rights) = Some (object, rights)

-- what each place shows
abbrev pub shows : List ℕ → List (Option Rights) → List (Option (ℕ × Rights))
shows [] rights = []
shows (x ∷ xs) [] = []
shows (x ∷ xs) (r ∷ rs) = shown_as x r ∷ shows xs rs

-- the object that a place keeps, of what it shows
abbrev pub object_of : Option (ℕ × Rights) → ℕ
object_of None = 1
object_of (Some shown) = shown.0

-- and the rights
abbrev pub rights_of : Option (ℕ × Rights) → Option Rights
rights_of None = None
rights_of (Some shown) = Some shown.1
