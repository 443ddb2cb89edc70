-- What names are bound to.
use Rattle.std.specs.Prelude.{ℕ, ◌==◌, Bool, false, List, [], ◌∷◌, codes, Option, Some, None}
use Rattle.std.specs.Prelude.{if◌then◌else◌}
use Rattle.std.specs.Str.{bytes_eq}
use Rattle.call_text.specs.declared.known_names.Named.{Named}
use Rattle.call_text.specs.declared.known_names.Value.{Value}
use Rattle.call_text.specs.declared.known_names.Value.TheVariants.{Object, Category}

-- what the first entry with the name has
abbrev pub value_of : List ℕ → List Named → Option Value
value_of name [] = None
value_of name (n ∷ named) = if bytes_eq n.name name then Some n.value else value_of name named

-- two values are one
abbrev pub is_value : Value → Value → Bool
is_value (Object a) (Object b) = a == b
is_value (Object a) (Category d) = false
is_value (Category c) (Object b) = false
is_value (Category c) (Category d) = c.0 == d.0

-- the name of the first entry with the value
abbrev pub name_of : Value → List Named → Option (List ℕ)
name_of value [] = None
name_of value (n ∷ named) = if is_value n.value value then Some n.name else name_of value named

-- the names that are known at the start of each script, with their values
abbrev pub start_values : List Named
start_values =
    record { name = codes "root"; value = Object 1 }
    ∷ record { name = codes "boot"; value = Object 2 }
    ∷ record { name = codes "dev"; value = Object 3 }
    ∷ []
