-- The names of a script, as the entries of a map, and the file that they go to.
use Rattle.std.specs.Prelude.{◌≡◌, ℕ, Bool, true, false, List, [], ◌∷◌, map, nat_eq, Option}
use Rattle.call_text.specs.declared.known_names.Named.{Named}
use Rattle.call_text.specs.declared.known_names.Value.{Value}
use Rattle.call_text.specs.declared.known_names.Value.TheVariants.{Object, Category}
use Rattle.call_text.specs.Known.{name_of}
use Rattle.call_text.specs.RunNames.{AreNames}
use Rattle.script_rules.specs.Names.{bound}
use Rattle.indexmap.specs.IndexMap.{get}
use Rattle.script_runner.specs.declared.names.FirstNames.{FirstNames}

-- an entry as a name with its value
abbrev pub named : List ℕ × Value → Named
named entry = record { name = entry.0; value = entry.1 }

-- the entries, in their order
abbrev pub named_of : List (List ℕ × Value) → List Named
named_of entries = map named entries

-- the names after others are bound, in their order
abbrev pub all_bound : List Named → List Named → List Named
all_bound [] names = names
all_bound (n ∷ others) names = all_bound others (bound n names)

-- the name that is noted for a value
abbrev pub first_name : FirstNames → Value → Option (List ℕ)
first_name first (Object id) = get nat_eq first.objects id
first_name first (Category category) = get nat_eq first.categories category.0

-- the name that is noted for a value is the first in the list that is bound to it
abbrev pub AreFirst : FirstNames → List Named → Type 0
AreFirst first names = (value : Value) → first_name first value ≡ name_of value names

-- the bytes of the file that names go to: these spell them where it is asked for, and else there are none
abbrev pub IsNamesFileOf : Bool → List Named → List ℕ → Type 0
IsNamesFileOf true names bytes = AreNames bytes names
IsNamesFileOf false names bytes = bytes ≡ []
