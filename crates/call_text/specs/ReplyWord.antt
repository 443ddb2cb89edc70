-- The words of replies.
use Rattle.std.specs.Prelude.{ℕ, Bool, true, false, List, [], ◌∷◌, ◌++◌, Option, Some, None, codes}
use Rattle.std.specs.Prelude.{decimal}
use Rattle.std.specs.List.{flat_map}
use Rattle.base.specs.declared.refusals.Refusal.{Refusal as Refusals}
use Rattle.base.specs.Refusal.{told_as}
use Rattle.label_lattice.specs.declared.pairings.Pair.{Pair}
use Rattle.label_lattice.specs.declared.raw_labels.RawLabel.{RawLabel}
use Rattle.label_lattice.specs.Raw.{raw_of as raw_form}
use Rattle.text_words.specs.DataWord.{data_text}
use Rattle.text_words.specs.LevelWord.{level_text}
use Rattle.text_words.specs.RightsWord.{rights_text}
use Rattle.call_text.specs.declared.known_names.Named.{Named}
use Rattle.call_text.specs.declared.known_names.Value.{Value}
use Rattle.call_text.specs.declared.known_names.Value.TheVariants as values
use Rattle.call_text.specs.declared.reply_words.Head.{Head}
use Rattle.call_text.specs.declared.reply_words.Head.TheVariants as heads
use Rattle.call_text.specs.declared.reply_words.Word.{Word}
use Rattle.call_text.specs.declared.reply_words.Word.TheVariants as words
use Rattle.call_text.specs.Known.{name_of}

-- the first word
abbrev pub head_text : Head → List ℕ
head_text heads.Ok = codes "ok"
head_text heads.Cat = codes "cat"
head_text heads.Id = codes "id"
head_text heads.Entered = codes "entered"
head_text heads.Own = codes "self"
head_text heads.Label = codes "label"
head_text heads.Quota = codes "quota"
head_text heads.List = codes "list"
head_text heads.Parent = codes "parent"
head_text heads.Pages = codes "pages"
head_text heads.Data = codes "data"
head_text heads.Mapping = codes "mapping"
head_text heads.Refused = codes "refused"

-- a value's number
abbrev pub number_of : Value → ℕ
number_of (values.Object id) = id
number_of (values.Category c) = c.0

-- the name, or the number behind a #
abbrev pub name_or_number : Option (List ℕ) → ℕ → List ℕ
name_or_number (Some name) n = name
name_or_number None n = 35 ∷ decimal n

-- the first name that is bound to the value, or its number
abbrev pub value_text : List Named → Value → List ℕ
value_text names v = name_or_number (name_of v names) (number_of v)

-- a category with its level
abbrev pub pair_text : List Named → Pair → List ℕ
pair_text names p = value_text names (values.Category p.category) ++ 58 ∷ level_text p.level

-- the pairs, each with a comma, and the default, in braces
abbrev pub label_text : List Named → RawLabel → List ℕ
label_text names l =
    123 ∷ (flat_map (λ p. pair_text names p ++ 44 ∷ []) l.pairs ++ level_text l.default ++ 125 ∷ [])

-- 0 or 1
abbrev pub flag_text : Bool → List ℕ
flag_text true = codes "1"
flag_text false = codes "0"

-- a refusal's number and name
abbrev pub refusal_text : Refusals → List ℕ
refusal_text r = decimal (told_as r).number ++ 32 ∷ (told_as r).name

-- a further word
abbrev pub word_text : List Named → Word → List ℕ
word_text names (words.Object id) = value_text names (values.Object id)
word_text names (words.Category c) = value_text names (values.Category c)
word_text names (words.Number n) = decimal n
word_text names (words.Flag b) = flag_text b
word_text names (words.Label l) = label_text names (raw_form l)
word_text names (words.Data d) = data_text d
word_text names (words.Rights r) = rights_text r
word_text names words.Nothing = codes "none"
word_text names (words.Refusal r) = refusal_text r

-- the words, parted by single spaces
abbrev pub words_text : List Named → Head → List Word → List ℕ
words_text names first more = head_text first ++ flat_map (λ w. 32 ∷ word_text names w) more
