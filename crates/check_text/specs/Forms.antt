-- The form of a call, which is told where an argument of it is missing.
use Rattle.std.specs.Prelude.{ℕ, ◌==◌, List, [], ◌∷◌, ◌++◌, codes, Option, Some, None, false, if◌then◌else◌}
use Rattle.std.specs.List.{flat_map}
use Rattle.text_words.specs.declared.spoken_calls.args.ArgKind.{ArgKind}
use Rattle.text_words.specs.declared.spoken_calls.args.ArgKind.TheVariants as kinds
use Rattle.text_words.specs.declared.spoken_calls.verbs.Verb.{Verb}
use Rattle.text_words.specs.Verb.{name_of, kinds_of}
use Rattle.check_text.specs.declared.line_faults.expected.Expected.{Expected}
use Rattle.check_text.specs.declared.line_faults.expected.Expected.TheVariants as expected
use Rattle.check_text.specs.Hints.{first_within}
use Rattle.check_text.specs.Lines.{after_byte, before_byte}
use Rattle.check_text.specs.Verbs.{all_verbs}

-- a word for an argument of a kind, after a space
abbrev pub kind_word : ArgKind → List ℕ
kind_word kinds.Object = codes " OBJECT"
kind_word kinds.Number = codes " NUMBER"
kind_word kinds.Wide = codes " NUMBER"
kind_word kinds.Signed = codes " NUMBER"
kind_word kinds.Label = codes " LABEL"
kind_word kinds.Data = codes " BYTES"
kind_word kinds.Types = codes " KINDS"
kind_word kinds.Rights = codes " RIGHTS"

-- what stands after a byte that the text may begin with
abbrev pub past : ℕ → List ℕ → List ℕ
past byte [] = []
past byte (x ∷ text) = if x == byte then text else x ∷ text

-- the word of a line's call: it stands after the worker's colon, and after the plus of a batch
abbrev pub call_word : List ℕ → List ℕ
call_word line = before_byte 32 (past 32 (past 43 (after_byte 58 line)))

-- the call
abbrev pub call_of : List ℕ → Option Verb
call_of line = first_within false false (call_word line) 0 all_verbs

-- its form
abbrev pub form_of : Option Verb → List ℕ
form_of None = []
form_of (Some v) = codes "; its form is " ++ (name_of v ++ flat_map kind_word (kinds_of v))

-- the form of a line's call, where an argument is expected and no word stands
abbrev pub form_hint : Expected → List ℕ → List ℕ → List ℕ
form_hint (expected.Argument kind) line [] = form_of (call_of line)
form_hint e line text = []
