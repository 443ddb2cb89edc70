-- A line of a tree as data: its words that have a colour, whether the tree before had it, and whether its object is reached.
use Rattle.std.specs.Prelude.{ℕ, ◌==◌, ◌&&◌, not, Bool, List, [], ◌∷◌, map, codes, if◌then◌else◌}
use Rattle.std.specs.List.{list_any}
use Rattle.std.specs.Str.{bytes_eq}
use Rattle.base.specs.Live.{has}
use Rattle.call_text.specs.ReplyWord.{value_text}
use Rattle.call_text.specs.declared.known_names.Named.{Named}
use Rattle.call_text.specs.declared.known_names.Value.TheVariants.{Object as OfObject}
use Rattle.shown_dumps.specs.Json.{word_data}
use Rattle.shown_dumps.specs.Pieces.{lines_of, words_of}
use Rattle.page_text.specs.Edits.{Edit, has_line}
use Rattle.page_text.specs.Told.{first_of}
use Rattle.serde_json.specs.Data.{Data, boolean, number, array, object, unsigned, member, no_members}
use Rattle.serde_json.specs.View.{items_of}
use Rattle.shown_dumps.specs.Colours.{marks_of}
use Rattle.shown_dumps.specs.declared.tree.colours.Mark.{Mark}
use Rattle.shown_dumps.specs.declared.tree.colours.Style.{Style}
use Rattle.shown_dumps.specs.declared.tree.colours.Style.TheVariants as styles

-- a style by its number: the six colours from 0, and bold
abbrev pub style_number : Style → ℕ
style_number (styles.Category hue) = hue
style_number styles.Strong = 6

abbrev pub number_data : ℕ → Data
number_data n = number (unsigned n)

-- a word that has a style: how many bytes stand before it after the last one, its length, its style
abbrev pub mark_data : Mark → Data
mark_data m = array (items_of (map number_data (m.plain ∷ m.length ∷ style_number m.style ∷ [])))

-- what stands after spaces
abbrev pub after_spaces : List ℕ → List ℕ
after_spaces [] = []
after_spaces (x ∷ xs) = if x == 32 then after_spaces xs else x ∷ xs

-- the first word of a line
abbrev pub first_word : List ℕ → List ℕ
first_word line = first_of (words_of (after_spaces line))

-- the line is that of one of these objects: it begins with its name or number, and has commas, as no line of a slot has
abbrev pub is_of : List Named → List ℕ → List ℕ → Bool
is_of names ids line =
    has line 44 && list_any (λ id. bytes_eq (value_text names (OfObject id)) (first_word line)) ids

-- a line, of which these lines stood in the tree before, where these objects are reached
abbrev pub line_data : List Named → List ℕ → List ℕ → List ℕ → Data
line_data names reached before line =
    object (member (codes "marks") (array (items_of (map mark_data (marks_of line))))
    (member (codes "new") (boolean (not (has_line (lines_of before) line)))
    (member (codes "reached") (boolean (is_of names reached line))
    (member (codes "text") (word_data line) no_members))))

-- an edit: how many lines stay, how many go, and the lines that come
abbrev pub edit_data : List Named → List ℕ → List ℕ → Edit → Data
edit_data names reached before e =
    array (items_of (number_data e.keep ∷ number_data e.gone ∷ map (line_data names reached before) e.put))
