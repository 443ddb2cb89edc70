-- Which line binds a name, and whether it is used.
use Rattle.std.specs.Prelude.{ℕ, List, Option, Some, None, Bool, false, fold, if◌then◌else◌}
use Rattle.std.specs.List.{list_any}
use Rattle.std.specs.Str.{bytes_eq}
use Rattle.check_text.specs.declared.script_checks.mentions.Mention.{Mention}
use Rattle.check_text.specs.declared.script_checks.outlines.Outline.{Outline}

-- whether it is this name
abbrev pub is_name : List ℕ → Option (List ℕ) → Bool
is_name name None = false
is_name name (Some other) = bytes_eq name other

-- the last line that binds the name; no two lines of a script bind one name
abbrev pub binder : List ℕ → List Outline → Option Outline
binder name outlines =
    fold (λ found (o : Outline). if is_name name o.binds then Some o else found) None outlines

-- whether a line uses the name
abbrev pub is_used : List ℕ → List Mention → Bool
is_used name mentions = list_any (λ (m : Mention). bytes_eq name m.name) mentions
