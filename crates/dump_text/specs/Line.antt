-- The lines of dumps.
use Rattle.std.specs.Prelude.{◌≡◌, ℕ, ◌≤◌, List, [], ◌∷◌, ◌++◌, codes, true}
use Rattle.base.specs.declared.levels.Level.{Level}
use Rattle.base.specs.declared.levels.Level.TheVariants.{Star, L0, L1, L2, L3}
use Rattle.base.specs.declared.ranges.Limits.{Limits}
use Rattle.base.specs.Limits.{in_range}
use Rattle.text_words.specs.declared.spoken_calls.args.ArgKind.{ArgKind}
use Rattle.text_words.specs.declared.spoken_calls.args.ArgKind.TheVariants as kinds
use Rattle.dump_text.specs.declared.words.Word.{Word}
use Rattle.dump_text.specs.declared.words.Word.TheVariants as words
use Rattle.kernel_rules.specs.declared.tables.Used.{Used}
use Rattle.kernel_rules.specs.declared.tables.Shown.{Shown}
use Rattle.dump_text.specs.declared.tables.Stored.{Stored}
use Rattle.kernel_rules.specs.declared.tables.Compared.{Compared}
use Rattle.dump_text.specs.declared.line_words.Batch.{Batch}
use Rattle.dump_text.specs.declared.lines.Line.{Line}
use Rattle.dump_text.specs.declared.lines.Line.TheVariants as lines
use Rattle.dump_text.specs.declared.lines.Format.{Format}
use Rattle.dump_text.specs.declared.lines.Format.TheVariants as formats
use Rattle.dump_text.specs.Word.{words_text}
use Rattle.dump_text.specs.Allowed.{AreAllowed, Anything}
use Rattle.dump_text.specs.StateLine.{id_words, id_kinds, state_text, IsStateLine}
use Rattle.dump_text.specs.Event.{answered_text, IsAnswered, single_text, IsSingle}
use Rattle.dump_text.specs.Read.{read_text, IsRead}

-- a level of a label that no star is in, as a digit
abbrev pub digit_of : Level → ℕ
digit_of L0 = 0
digit_of L1 = 1
digit_of L2 = 2
digit_of L3 = 3
digit_of Star = 4

-- PAGES DEVICE NEXT_ID NEXT_CATEGORY
abbrev pub limits_words : Limits → List Word
limits_words l =
    words.Number l.pages ∷ words.Number (digit_of l.device) ∷ words.Wide l.next_id
    ∷ words.Wide l.next_category ∷ []

-- THREAD NUMBER COUNT
abbrev pub batch_words : Batch → List Word
batch_words b = words.Wide b.thread ∷ words.Wide b.number ∷ words.Number b.count ∷ []

-- ID PAGES
abbrev pub use_words : Used → List Word
use_words u = words.Wide u.id ∷ words.Number u.pages ∷ []

-- THREAD SLOT SEGMENT RIGHTS
abbrev pub map_words : Shown → List Word
map_words s =
    words.Wide s.thread ∷ words.Number s.slot ∷ words.Wide s.segment ∷ words.Rights s.rights ∷ []

-- I LABEL
abbrev pub label_words : Stored → List Word
label_words s = words.Number s.index ∷ words.Label s.label ∷ []

-- I J BITS
abbrev pub order_words : Compared → List Word
order_words o = words.Number o.first ∷ words.Number o.second ∷ words.Number o.bits ∷ []

abbrev pub limits_kinds : List ArgKind
limits_kinds = kinds.Number ∷ kinds.Number ∷ kinds.Wide ∷ kinds.Wide ∷ []

abbrev pub batch_kinds : List ArgKind
batch_kinds = kinds.Wide ∷ kinds.Wide ∷ kinds.Number ∷ []

abbrev pub use_kinds : List ArgKind
use_kinds = kinds.Wide ∷ kinds.Number ∷ []

abbrev pub map_kinds : List ArgKind
map_kinds = kinds.Wide ∷ kinds.Number ∷ kinds.Wide ∷ kinds.Rights ∷ []

abbrev pub label_kinds : List ArgKind
label_kinds = kinds.Number ∷ kinds.Label ∷ []

abbrev pub order_kinds : List ArgKind
order_kinds = kinds.Number ∷ kinds.Number ∷ kinds.Number ∷ []

-- limits that a machine boots with
abbrev pub IsBootable : Limits → Type 0
IsBootable l = in_range l ≡ true

-- 2 to 16 calls
abbrev pub HasSeveral : Batch → Type 0
HasSeveral b = (2 ≤ b.count) × (b.count ≤ 16)

-- three bits
abbrev pub HasThreeBits : Compared → Type 0
HasThreeBits o = o.bits ≤ 7

-- the digit of the format: 1 or 2
abbrev pub version_digit : Format → ℕ
version_digit formats.One = 49
version_digit formats.Two = 50

-- a line's one spelling
abbrev pub line_text : Line → List ℕ
line_text (lines.Version f) = codes "histar-dump " ++ version_digit f ∷ []
line_text (lines.Limits l) = codes "limits " ++ words_text (limits_words l)
line_text (lines.State s) = state_text s
line_text (lines.Event e) = codes "event " ++ single_text e
line_text (lines.Batch b) = codes "batch " ++ words_text (batch_words b)
line_text (lines.Call a) = codes "call " ++ answered_text a
line_text (lines.Read r) = codes "read " ++ read_text r
line_text (lines.Live id) = codes "live " ++ words_text (id_words id)
line_text (lines.Use u) = codes "use " ++ words_text (use_words u)
line_text (lines.Map s) = codes "map " ++ words_text (map_words s)
line_text (lines.Label s) = codes "label " ++ words_text (label_words s)
line_text (lines.Order o) = codes "order " ++ words_text (order_words o)
line_text lines.End = codes "end"

-- each word is in its range
abbrev pub IsLine : Line → Type 0
IsLine (lines.Version f) = Unit {0}
IsLine (lines.Limits l) = AreAllowed limits_kinds limits_words IsBootable l
IsLine (lines.State s) = IsStateLine s
IsLine (lines.Event e) = IsSingle e
IsLine (lines.Batch b) = AreAllowed batch_kinds batch_words HasSeveral b
IsLine (lines.Call a) = IsAnswered a
IsLine (lines.Read r) = IsRead r
IsLine (lines.Live id) = AreAllowed id_kinds id_words Anything id
IsLine (lines.Use u) = AreAllowed use_kinds use_words Anything u
IsLine (lines.Map s) = AreAllowed map_kinds map_words Anything s
IsLine (lines.Label s) = AreAllowed label_kinds label_words Anything s
IsLine (lines.Order o) = AreAllowed order_kinds order_words HasThreeBits o
IsLine lines.End = Unit {0}
