-- Which words of a tree's text have a colour. What is between them is plain.
use Rattle.std.specs.Prelude.{ℕ, ◌+◌, ◌*◌, ◌-◌, ◌%◌, ◌==◌, ◌||◌, ◌&&◌, Bool, true, false, List, [], ◌∷◌, ◌++◌, length, take, drop, Option, Some, None, codes, decimal, if◌then◌else◌}
use Rattle.std.specs.List.{flat_map}
use Rattle.std.specs.Str.{bytes_eq}
use Rattle.base.specs.Live.{has}
use Rattle.text_words.specs.Name.{is_letter}
use Rattle.shown_dumps.specs.declared.tree.colours.Mark.{Mark}
use Rattle.shown_dumps.specs.declared.tree.colours.Style.{Style}
use Rattle.shown_dumps.specs.declared.tree.colours.Style.TheVariants as styles

-- what stands between words: a space, a comma, a brace, the end of a line
abbrev pub is_break : ℕ → Bool
is_break x = (x == 32) || ((x == 44) || ((x == 123) || ((x == 125) || (x == 10))))

-- the colour of a category, one of six, from the digits of its number, or the bytes of its name: what they leave, divided by 6.
-- A # counts as 0
abbrev pub hue_from : ℕ → List ℕ → ℕ
hue_from n [] = n
hue_from n (x ∷ xs) = if x == 58 then n else hue_from ((n * 10 + (x - 48)) % 6) xs

-- a category with its level, as a label has it
abbrev pub is_exception : List ℕ → Bool
is_exception [] = false
is_exception (x ∷ xs) = ((x == 35) || is_letter x) && has xs 58

abbrev pub is_owns : List ℕ → Bool
is_owns word = bytes_eq word (codes "owns")

abbrev pub is_strong : List ℕ → Bool
is_strong word =
    is_owns word
    || (bytes_eq word (codes "fixed") || (bytes_eq word (codes "immutable") || bytes_eq word (codes "deletable")))

-- the style of a word, which stands after `owns` or not
abbrev pub style_of : Bool → List ℕ → Option Style
style_of is_owned word =
    if is_strong word then Some styles.Strong
    else if is_owned || is_exception word then Some (styles.Category (hue_from 0 word))
    else None

-- its mark, after so many bytes that have none
abbrev pub mark_of : Option Style → ℕ → ℕ → List Mark
mark_of None plain count = []
mark_of (Some style) plain count = record { plain = plain; length = count; style = style } ∷ []

-- how many bytes have no mark after it and what ends it
abbrev pub plain_after : Option Style → ℕ → ℕ → ℕ
plain_after None plain count = plain + count + 1
plain_after (Some style) plain count = 1

-- the marks of a text, of which a word has begun
abbrev pub marks_from : Bool → ℕ → List ℕ → List ℕ → List Mark
marks_from is_owned plain word [] = mark_of (style_of is_owned word) plain (length word)
marks_from is_owned plain word (x ∷ xs) =
    if is_break x
    then mark_of (style_of is_owned word) plain (length word)
    ++ marks_from (is_owns word) (plain_after (style_of is_owned word) plain (length word)) [] xs
    else marks_from is_owned plain (word ++ x ∷ []) xs

abbrev pub marks_of : List ℕ → List Mark
marks_of text = marks_from false 0 [] text

-- a text in pieces, each with its style
abbrev pub pieces_by : List Mark → List ℕ → List (Option Style × List ℕ)
pieces_by [] text = (None, text) ∷ []
pieces_by (m ∷ ms) text =
    (None, take m.plain text) ∷ (Some m.style, take m.length (drop m.plain text))
    ∷ pieces_by ms (drop m.length (drop m.plain text))

abbrev pub pieces_of : List ℕ → List (Option Style × List ℕ)
pieces_of text = pieces_by (marks_of text) text

-- a piece without its style, and all pieces
abbrev pub plain_of : List (Option Style × List ℕ) → List ℕ
plain_of pieces = flat_map (λ (p : Option Style × List ℕ). p.1) pieces

-- what a terminal is told of a style: one of its six colours, from red on, or bold
abbrev pub style_code : Style → List ℕ
style_code (styles.Category hue) = codes "[3" ++ decimal (hue + 1) ++ codes "m"
style_code styles.Strong = codes "[1m"

-- a piece on a terminal
abbrev pub piece_text : Option Style × List ℕ → List ℕ
piece_text (None, word) = word
piece_text (Some style, word) = 27 ∷ style_code style ++ word ++ 27 ∷ codes "[0m"

-- the text on a terminal
abbrev pub coloured : List ℕ → List ℕ
coloured text = flat_map piece_text (pieces_of text)

-- the same, where colours are wanted
abbrev pub coloured_if : Bool → List ℕ → List ℕ
coloured_if true text = coloured text
coloured_if false text = text
