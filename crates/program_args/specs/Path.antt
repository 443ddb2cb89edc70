-- The path that words name: the second of two words, where it begins with no hyphen (45). The first
-- is the program's name.
use Rattle.std.specs.Prelude.{Bool, false, ◌==◌, List, [], ◌∷◌, Option, Some, None}
use Rattle.std.specs.Prelude.{if◌then◌else◌}
use Rattle.clap.specs.Words.{Text}

abbrev pub begins_with_hyphen : Text → Bool
begins_with_hyphen [] = false
begins_with_hyphen (x ∷ rest) = x == 45

abbrev pub path_of : List Text → Option Text
path_of (name ∷ path ∷ []) = if begins_with_hyphen path then None else Some path
path_of _ = None
