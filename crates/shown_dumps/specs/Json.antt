-- A dump as JSON: an array with an object for each line, which has the line's number and its words.
use Rattle.std.specs.Global.{Vec}
use Rattle.std.specs.Prelude.{◌≡◌, ℕ, ◌+◌, List, [], ◌∷◌, ◌++◌, map, codes, Option, Result, Ok, Err, encode_utf8_all}
use Rattle.std.specs.Io.KnownBytes.{Appends}
use Rattle.dump_text.specs.Dump.{IsDump}
use Rattle.dump_text.specs.Lists.{DumpLists}
use Rattle.serde_json.specs.Data.{Data, number, string, array, object, unsigned, member, no_members}
use Rattle.serde_json.specs.View.{items_of}
use Rattle.serde_json.specs.Written.{compact_text}
use Rattle.shown_dumps.specs.Pieces.{lines_of, words_of}
use Rattle.shown_dumps.specs.States.{IsDumpIn}
use Rattle.shown_dumps.specs.declared.states.faults.ShowFault.{ShowFault}

-- a word, of which each byte is a character
abbrev pub word_data : List ℕ → Data
word_data word = string (encode_utf8_all word)

-- a line: its number, from 1, and its words
abbrev pub line_data : ℕ → List ℕ → Data
line_data n line =
    object (member (codes "line") (number (unsigned n))
    (member (codes "words") (array (items_of (map word_data (words_of line)))) no_members))

-- lines, the first of which has this number
abbrev pub lines_data : ℕ → List (List ℕ) → List Data
lines_data n [] = []
lines_data n (line ∷ lines) = line_data n line ∷ lines_data (n + 1) lines

-- all lines of a text
abbrev pub text_data : List ℕ → Data
text_data text = array (items_of (lines_data 1 (lines_of text)))

-- the same as text, with no space, and the end of a line
abbrev pub json_text : List ℕ → List ℕ
json_text text = compact_text (text_data text) ++ 10 ∷ []

-- the text is a dump, and this is it as JSON; or why it is none
abbrev pub IsJson : List ℕ → Result (Vec ℕ) ShowFault → Type 0
IsJson text (Ok told) = ((d : DumpLists) × IsDump text d) × (told.items ≡ json_text text)
IsJson text (Err fault) = IsDumpIn text (Err fault)

-- the same of a dump that was read, added to what was printed
abbrev pub PrintsJson : Option (List ℕ) → Option (List ℕ) → List ℕ → Type 0
PrintsJson old new text = (told : Vec ℕ) × IsJson text (Ok told) × Appends old new told.items
