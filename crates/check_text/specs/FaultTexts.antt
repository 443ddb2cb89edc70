-- What is printed of a faulty line.
use Rattle.std.specs.Prelude.{◌≤◌, ℕ, ◌==◌, ◌+◌, ◌-◌, List, [], ◌∷◌, ◌++◌, length, take, drop, map, codes, decimal, true, false, ◌||◌, nat_lt, if◌then◌else◌}
use Rattle.text_words.specs.declared.spoken_calls.args.ArgKind.{ArgKind}
use Rattle.text_words.specs.declared.spoken_calls.args.ArgKind.TheVariants as kinds
use Rattle.check_text.specs.declared.line_faults.expected.Expected.{Expected}
use Rattle.check_text.specs.declared.line_faults.expected.Expected.TheVariants as expected
use Rattle.check_text.specs.declared.line_faults.expected.LineFault.{LineFault}
use Rattle.check_text.specs.Forms.{form_hint}
use Rattle.check_text.specs.Hints.{hint}
use Rattle.check_text.specs.Lines.{before_byte}
use Rattle.check_text.specs.Places.{place_text}
use Rattle.check_text.specs.declared.reasons.Reason.{Reason}
use Rattle.check_text.specs.declared.reasons.Reason.TheVariants.{Malformed, NoEnd, TooLong, TooMany, Reserved, Rebinds, Batch}

-- what an argument of a kind is
abbrev pub kind_text : ArgKind → List ℕ
kind_text kinds.Object = codes "an object: a name, or # and a number"
kind_text kinds.Number = codes "a number below 2^32"
kind_text kinds.Wide = codes "a number below 2^64"
kind_text kinds.Signed = codes "a number from -2^31, below 2^31"
kind_text kinds.Label = codes "a label, as {c:3,1}"
kind_text kinds.Data = codes "up to 64 bytes of two digits each, or -"
kind_text kinds.Types = codes "letters of csatgd in this order, or -"
kind_text kinds.Rights = codes "rw, r, w or -"

-- what may stand at a place
abbrev pub expected_text : Expected → List ℕ
expected_text expected.Beginning = codes "a worker and a colon, a name to bind, or --"
expected_text expected.Equals = codes "=, or a colon right after the worker"
expected_text expected.Worker = codes "a worker and a colon"
expected_text (expected.Call true more) = codes "a call that makes something"
expected_text (expected.Call false true) = codes "a write call"
expected_text (expected.Call false false) = codes "a call"
expected_text (expected.Argument kind) = kind_text kind
expected_text expected.End = codes "the line's end"

-- what stands after the space that follows a word
abbrev pub after_space : List ℕ → List ℕ
after_space [] = []
after_space (x ∷ text) = if x == 32 then text else x ∷ text

-- what stands in a line after the right words, without the space after them
abbrev pub text_at : List ℕ → ℕ → List ℕ
text_at line before = if before == 0 then line else after_space (drop before line)

-- the column of that, from 1
abbrev pub column_of : List ℕ → ℕ → ℕ
column_of line before = length line - length (text_at line before) + 1

-- a byte that a terminal can show
abbrev pub shown_byte : ℕ → ℕ
shown_byte byte = if nat_lt byte 33 || nat_lt 126 byte then 63 else byte

-- the beginning of a word
abbrev pub beginning : List ℕ → List ℕ
beginning word = take 32 word

-- a word as it is shown
abbrev pub word_shown : List ℕ → List ℕ
word_shown [] = codes "no word"
word_shown (b ∷ bytes) = map shown_byte (beginning (b ∷ bytes))

-- the word that a text begins with
abbrev pub found_text : List ℕ → List ℕ
found_text text = word_shown (before_byte 32 text)

-- a place of the line, where there is one
abbrev pub IsWithin : List ℕ → Reason → Type 0
IsWithin line (Malformed fault) = fault.before ≤ length line
IsWithin line _ = Unit {0}

-- what is expected in a line, what was found, and what that suggests
abbrev pub malformed_text : List ℕ → LineFault → List ℕ
malformed_text line fault =
    codes "expected "
    ++ (expected_text fault.expected
    ++ (codes ", found "
    ++ (found_text (text_at line fault.before)
    ++ (hint fault.expected (text_at line fault.before) ++ form_hint fault.expected line (text_at line fault.before)))))

-- why a well-formed line is faulty, but for a line's number
abbrev pub standing_words : Reason → List ℕ
standing_words (Malformed fault) = []
standing_words NoEnd = codes "no LF ends the line"
standing_words TooLong = codes "a line has at most 4,096 bytes"
standing_words TooMany = codes "a script has at most 65,536 lines"
standing_words Reserved = codes "root, boot and dev are bound at the start"
standing_words (Rebinds number) = codes "the name is bound in line "
standing_words Batch =
    codes "a batch has at most 16 lines, after the first one write calls, and ends in its phase"

-- the line that it tells of
abbrev pub standing_line : Reason → List ℕ
standing_line (Rebinds number) = decimal number
standing_line reason = []

-- why a line is faulty
abbrev pub reason_text : List ℕ → Reason → List ℕ
reason_text line (Malformed fault) = malformed_text line fault
reason_text line reason = standing_words reason ++ standing_line reason

-- the column that is told
abbrev pub column : List ℕ → Reason → ℕ
column line (Malformed fault) = column_of line fault.before
column line NoEnd = length line + 1
column line TooLong = 4097
column line _ = 1

-- PATH:LINE:COLUMN: error: and why
abbrev pub fault_text : List ℕ → List ℕ → ℕ → List ℕ → Reason → List ℕ
fault_text path numbers number line reason =
    place_text path numbers number
    ++ (decimal (column line reason) ++ (codes ": error: " ++ (reason_text line reason ++ 10 ∷ [])))
