-- What is told of a word beside what is expected in its place.
use Rattle.std.specs.Prelude.{ℕ, ◌==◌, ◌-◌, ◌&&◌, ◌||◌, not, nat_le, nat_lt, nat_eq, Bool, false, if◌then◌else◌}
use Rattle.std.specs.Prelude.{List, [], ◌∷◌, ◌++◌, length, slice_get, codes, Option, Some, None}
use Rattle.std.specs.List.{list_any}
use Rattle.strsim.specs.Edits.{levenshtein_row}
use Rattle.text_words.specs.declared.spoken_calls.args.ArgKind.{ArgKind}
use Rattle.text_words.specs.declared.spoken_calls.args.ArgKind.TheVariants as kinds
use Rattle.text_words.specs.declared.spoken_calls.verbs.Verb.{Verb}
use Rattle.text_words.specs.Verb.{name_of}
use Rattle.check_text.specs.Faults.{suits}
use Rattle.check_text.specs.Verbs.{all_verbs}
use Rattle.check_text.specs.declared.line_faults.expected.Expected.{Expected}
use Rattle.check_text.specs.declared.line_faults.expected.Expected.TheVariants as expected
use Rattle.check_text.specs.Lines.{before_byte}

-- a capital letter stands in the word
abbrev pub has_capital : List ℕ → Bool
has_capital word = list_any (λ b. nat_le 65 b && nat_le b 90) word

abbrev pub has : ℕ → List ℕ → Bool
has byte word = list_any (λ b. b == byte) word

-- the word ends with the byte
abbrev pub is_byte : ℕ → Option ℕ → Bool
is_byte byte None = false
is_byte byte (Some b) = b == byte

abbrev pub ends_with : ℕ → List ℕ → Bool
ends_with byte word = is_byte byte (slice_get word (length word - 1))

-- after its last comma the word has a colon, or had one before
abbrev pub colon_last : Bool → List ℕ → Bool
colon_last seen [] = seen
colon_last seen (b ∷ word) = colon_last (if b == 44 then false else seen || b == 58) word

-- a digit from 4 to 9 stands after a colon, a comma or a brace
abbrev pub is_high : ℕ → ℕ → Bool
is_high a b = (a == 58 || (a == 44 || a == 123)) && (nat_le 52 b && nat_le b 57)

abbrev pub high_after : ℕ → List ℕ → Bool
high_after a [] = false
high_after a (b ∷ word) = is_high a b || high_after b word

abbrev pub has_high : List ℕ → Bool
has_high word = high_after 0 word

-- of a name
abbrev pub name_hint : List ℕ → List ℕ
name_hint name =
    if has_capital name then codes "; a name has no capitals"
    else if has 45 name then codes "; a name has no -"
    else if nat_lt 16 (length name) then codes "; a name has at most 16 bytes"
    else []

-- of a label
abbrev pub label_hint : List ℕ → List ℕ
label_hint word =
    if not (ends_with 125 word) then codes "; a label is one word in braces"
    else if has_capital word then codes "; a name has no capitals"
    else if colon_last false word then codes "; a label's last part is its default level"
    else if has_high word then codes "; levels are *, 0, 1, 2 and 3"
    else []

-- of data
abbrev pub data_hint : List ℕ → List ℕ
data_hint word = if has_capital word then codes "; digits are 0 to 9 and a to f" else []

-- of an argument
abbrev pub argument_hint : ArgKind → List ℕ → List ℕ
argument_hint kinds.Object word = name_hint word
argument_hint kinds.Label word = label_hint word
argument_hint kinds.Data word = data_hint word
argument_hint _ word = []

-- how many edits lead from the word to that of a call
abbrev pub edits : List ℕ → Verb → ℕ
edits word verb = levenshtein_row nat_eq word (name_of verb) (length (name_of verb))

-- the first of these calls that may stand there and is so few edits away
abbrev pub first_within : Bool → Bool → List ℕ → ℕ → List Verb → Option Verb
first_within binds more word most [] = None
first_within binds more word most (v ∷ verbs) =
    if suits binds more v && nat_le (edits word v) most then Some v
    else first_within binds more word most verbs

abbrev pub or_else : Option Verb → Option Verb → Option Verb
or_else (Some v) other = Some v
or_else None other = other

-- the nearest call, at most two edits away
abbrev pub nearest : Bool → Bool → List ℕ → Option Verb
nearest binds more word =
    or_else (first_within binds more word 1 all_verbs) (first_within binds more word 2 all_verbs)

abbrev pub meant : Option Verb → List ℕ
meant None = []
meant (Some v) = codes "; did you mean " ++ (name_of v ++ 63 ∷ [])

-- of a line's first word, or of a line that begins with none
abbrev pub first_hint : List ℕ → List ℕ
first_hint [] = []
first_hint (b ∷ text) =
    if b == 32 then codes "; a line begins with no space"
    else if b == 47 then codes "; a comment begins with #"
    else name_hint (before_byte 58 (before_byte 32 (b ∷ text)))

-- of what stands after a line's last word
abbrev pub end_hint : List ℕ → List ℕ
end_hint [] = codes "; a line ends with no space"
end_hint (b ∷ text) = []

-- of a text that stands where something else than a call is expected, by its first word
abbrev pub fixed_hint : Expected → List ℕ → List ℕ
fixed_hint expected.Beginning text = first_hint text
fixed_hint expected.Equals text = []
fixed_hint expected.Worker text = name_hint (before_byte 58 (before_byte 32 text))
fixed_hint (expected.Call binds more) text = []
fixed_hint (expected.Argument kind) text = argument_hint kind (before_byte 32 text)
fixed_hint expected.End text = end_hint text

-- of a text that stands where this is expected
abbrev pub word_hint : Expected → List ℕ → List ℕ
word_hint (expected.Call binds more) text = meant (nearest binds more (before_byte 32 text))
word_hint e text = fixed_hint e text

-- the same, but that first of all the end of a line of Windows is told
abbrev pub end_of_windows : List ℕ
end_of_windows = codes "; a line ends in LF alone, without CR"

abbrev pub hint : Expected → List ℕ → List ℕ
hint e text = if ends_with 13 text then end_of_windows else word_hint e text
