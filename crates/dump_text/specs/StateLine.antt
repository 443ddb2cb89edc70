-- The lines that tell a checkpoint.
use Rattle.std.specs.Prelude.{ℕ, List, [], ◌∷◌, ◌++◌, codes}
use Rattle.text_words.specs.declared.spoken_calls.args.ArgKind.{ArgKind}
use Rattle.text_words.specs.declared.spoken_calls.args.ArgKind.TheVariants as kinds
use Rattle.checkpoints.specs.declared.checkpoints.NextNumber.{NextNumber}
use Rattle.checkpoints.specs.declared.slot_lists.FilledSlot.{FilledSlot}
use Rattle.dump_text.specs.declared.state_lines.Counters.{Counters}
use Rattle.dump_text.specs.declared.state_lines.Row.{Row}
use Rattle.dump_text.specs.declared.state_lines.Part.{Part}
use Rattle.dump_text.specs.declared.state_lines.Part.TheVariants as parts
use Rattle.dump_text.specs.declared.state_lines.StateLine.{StateLine}
use Rattle.dump_text.specs.declared.state_lines.StateLine.TheVariants as states
use Rattle.dump_text.specs.declared.words.Word.{Word}
use Rattle.dump_text.specs.declared.words.Word.TheVariants as words
use Rattle.dump_text.specs.Word.{words_text}
use Rattle.dump_text.specs.Allowed.{AreWords}
use Rattle.dump_text.specs.Head.{plain_entry, object_text, IsObject, IsFull}

-- NEXT_ID NEXT_CATEGORY
abbrev pub counters_words : Counters → List Word
counters_words c = words.Wide c.next_id ∷ words.Wide c.next_category ∷ []

-- ID
abbrev pub id_words : ℕ → List Word
id_words id = words.Wide id ∷ []

-- HEX
abbrev pub packet_words : List ℕ → List Word
packet_words bytes = words.Data bytes ∷ []

abbrev pub row_words : Row → List Word
row_words r = packet_words r.bytes

-- SLOT VA D O PG COUNT RIGHTS
abbrev pub slot_words : FilledSlot → List Word
slot_words f =
    words.Number f.slot ∷ words.Number f.mapping.page
    ∷ (plain_entry f.mapping.entry
    ++ words.Number f.mapping.first ∷ words.Number f.mapping.count
    ∷ words.Rights f.mapping.rights ∷ [])

-- THREAD NUMBER
abbrev pub next_words : NextNumber → List Word
next_words n = words.Wide n.thread ∷ words.Wide n.number ∷ []

abbrev pub pair_kinds : List ArgKind
pair_kinds = kinds.Wide ∷ kinds.Wide ∷ []

abbrev pub id_kinds : List ArgKind
id_kinds = kinds.Wide ∷ []

abbrev pub packet_kinds : List ArgKind
packet_kinds = kinds.Data ∷ []

abbrev pub slot_kinds : List ArgKind
slot_kinds =
    kinds.Number ∷ kinds.Number ∷ kinds.Wide ∷ kinds.Wide ∷ kinds.Number ∷ kinds.Number
    ∷ kinds.Rights ∷ []

-- 64 bytes
abbrev pub IsRow : Row → Type 0
IsRow r = IsFull r.bytes

-- a part's one spelling
abbrev pub part_text : Part → List ℕ
part_text (parts.Entry id) = codes "entry " ++ words_text (id_words id)
part_text (parts.Row r) = codes "bytes " ++ words_text (row_words r)
part_text (parts.Slot f) = codes "slot " ++ words_text (slot_words f)
part_text (parts.Packet d) = codes "packet " ++ words_text (packet_words d)

-- each word is in its range
abbrev pub HasPartWords : Part → Type 0
HasPartWords (parts.Entry id) = AreWords id_kinds (id_words id)
HasPartWords (parts.Row r) = AreWords packet_kinds (row_words r)
HasPartWords (parts.Slot f) = AreWords slot_kinds (slot_words f)
HasPartWords (parts.Packet d) = AreWords packet_kinds (packet_words d)

-- bytes are 64
abbrev pub IsAllowedPart : Part → Type 0
IsAllowedPart (parts.Row r) = IsRow r
IsAllowedPart p = Unit {0}

-- both
abbrev pub IsPart : Part → Type 0
IsPart p = HasPartWords p × IsAllowedPart p

-- a line's one spelling
abbrev pub state_text : StateLine → List ℕ
state_text (states.Counters c) = codes "state " ++ words_text (counters_words c)
state_text (states.Object o) = codes "object " ++ object_text o
state_text (states.Part p) = part_text p
state_text (states.Next n) = codes "next " ++ words_text (next_words n)

-- each word is in its range
abbrev pub IsStateLine : StateLine → Type 0
IsStateLine (states.Counters c) = AreWords pair_kinds (counters_words c) × Unit {0}
IsStateLine (states.Object o) = IsObject o
IsStateLine (states.Part p) = IsPart p
IsStateLine (states.Next n) = AreWords pair_kinds (next_words n) × Unit {0}
