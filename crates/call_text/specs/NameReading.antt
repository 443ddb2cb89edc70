-- What is read of names.
use Rattle.std.specs.Global.{Vec}
use Rattle.std.specs.Prelude.{◌≡◌, ℕ, List, Result, Ok, Err}
use Rattle.call_text.specs.declared.known_names.Named.{Named}
use Rattle.call_text.specs.RunNames.{AreNames, NamesFaultAt}
use Rattle.call_text.specs.declared.names_text.errors.NamesError.{NamesError}
use Rattle.call_text.specs.declared.names_text.errors.NamesError.TheVariants as errors

-- the names that the bytes spell, or the first faulty line; where memory ran out nothing is told
abbrev pub ReadsNames : List ℕ → Result (Vec Named) NamesError → Type 0
ReadsNames bytes (Ok names) = AreNames bytes names.items
ReadsNames bytes (Err errors.Memory) = Unit {0}
ReadsNames bytes (Err (errors.Line n)) = NamesFaultAt bytes n

-- these names are read, unless memory ran out
abbrev pub AreRead : List Named → Result (Vec Named) NamesError → Type 0
AreRead names (Ok read) = read.items ≡ names
AreRead names (Err errors.Memory) = Unit {0}
AreRead names (Err (errors.Line n)) = ⊥
