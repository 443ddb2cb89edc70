-- The names of a run, as text: a line for each name, with what it is bound to.
use Rattle.std.specs.Prelude.{ℕ, ◌<◌, ◌^◌, Bool, true, List, [], ◌++◌, map, codes, decimal, Option, Some}
use Rattle.std.specs.List.{IsDistinct}
use Rattle.std.specs.Str.{bytes_eq}
use Rattle.text_words.specs.Name.{IsName, name_text}
use Rattle.call_text.specs.ReplyWord.{number_of}
use Rattle.call_text.specs.Script.{bind}
use Rattle.call_text.specs.Text.{Spells, FaultsAt}
use Rattle.call_text.specs.declared.known_names.Named.{Named}
use Rattle.call_text.specs.declared.known_names.Value.{Value}
use Rattle.call_text.specs.declared.known_names.Value.TheVariants.{Object, Category}

-- what a name is bound to, as the reply to the call that made it: an object or a category, by its number
abbrev pub made_text : Value → List ℕ
made_text (Object id) = codes "id #" ++ decimal id
made_text (Category c) = codes "cat #" ++ decimal c.0

-- NAME = id #N, or NAME = cat #N
abbrev pub named_text : Named → List ℕ
named_text n = name_text n.name ++ (codes " = " ++ made_text n.value)

-- the number is of 64 bits
abbrev pub IsMade : Value → Type 0
IsMade value = number_of value < 2 ^ 64

-- the line has a spelling
abbrev pub IsNamed : Named → Type 0
IsNamed n = IsName n.name × IsMade n.value

-- no name stands twice
abbrev pub StandOnce : List Named → Type 0
StandOnce names = IsDistinct bytes_eq (map (λ n. n.name) names)

-- the names after one more, none where it stands there already
abbrev pub next : List (List ℕ) → Named → Option (List (List ℕ))
next bound n = bind bound (Some n.name)

-- the text may end after each line
abbrev pub ends : List (List ℕ) → Bool
ends bound = true

-- the bytes spell these names: they are their lines, in their order, and no name stands twice
abbrev pub AreNames : List ℕ → List Named → Type 0
AreNames bytes names = Spells named_text IsNamed next ends [] bytes names

-- line n is the first at which the bytes stop being the beginning of a text of names
abbrev pub NamesFaultAt : List ℕ → ℕ → Type 0
NamesFaultAt bytes n = FaultsAt named_text IsNamed next ends [] bytes n
