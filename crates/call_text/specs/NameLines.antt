-- A line of a dump that tells calls or a read, by names.
use Rattle.std.specs.Prelude.{ℕ, ◌==◌, ◌||◌, Bool, false, List, [], ◌∷◌, ◌++◌, codes, decimal, if◌then◌else◌}
use Rattle.std.specs.Str.{bytes_eq}
use Rattle.text_words.specs.Name.{name_text}
use Rattle.call_text.specs.declared.known_names.Named.{Named}
use Rattle.call_text.specs.declared.known_names.Value.{Value}
use Rattle.call_text.specs.declared.known_names.Value.TheVariants as values
use Rattle.call_text.specs.declared.names_text.lines.Meant.{Meant}
use Rattle.call_text.specs.declared.names_text.lines.Meant.TheVariants.{Object, Category, Thread}

-- what ends a word: a space, a comma, a colon or a brace
abbrev pub is_end : ℕ → Bool
is_end x = (x == 32) || ((x == 44) || ((x == 58) || ((x == 123) || (x == 125))))

-- the words before the number of a thread
abbrev pub is_opening : List ℕ → Bool
is_opening word = bytes_eq word (codes "event") || (bytes_eq word (codes "batch") || bytes_eq word (codes "read"))

-- what a number means after a word
abbrev pub meant_after : List ℕ → Meant
meant_after word = if bytes_eq word (codes "cat") then Category else if is_opening word then Thread else Object

-- and before the byte that ends it: in a label a category has a colon
abbrev pub meant_before : ℕ → Meant → Meant
meant_before x meant = if x == 58 then Category else meant

-- the word is the number of the value
abbrev pub is_said : Meant → List ℕ → Value → Bool
is_said Object word (values.Object id) = bytes_eq word (35 ∷ decimal id)
is_said Object word (values.Category c) = false
is_said Category word (values.Object id) = false
is_said Category word (values.Category c) = bytes_eq word (35 ∷ decimal c.0)
is_said Thread word (values.Object id) = bytes_eq word (decimal id)
is_said Thread word (values.Category c) = false

-- a word: the first name of what it is the number of, or the word itself
abbrev pub named_word : List Named → Meant → List ℕ → List ℕ
named_word [] meant word = word
named_word (n ∷ names) meant word = if is_said meant word n.value then name_text n.name else named_word names meant word

-- a line of which a word has begun
abbrev pub named_from : List Named → Meant → List ℕ → List ℕ → List ℕ
named_from names meant word [] = named_word names meant word
named_from names meant word (x ∷ xs) =
    if is_end x then named_word names (meant_before x meant) word ++ x ∷ named_from names (meant_after word) [] xs
    else named_from names meant (word ++ x ∷ []) xs

-- the line, with a name in place of each number that has one
abbrev pub named_line : List Named → List ℕ → List ℕ
named_line names line = named_from names Object [] line
