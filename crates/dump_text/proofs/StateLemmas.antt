-- The lines of checkpoints: no two have one spelling, and none holds a line's end.
use Rattle.std.proofs.Common.{lit<, ◌≡◌, ℕ, ◌+◌, ◌*◌, true, cond, eqb, List, get_or, refl, ap, ◌∙◌, sym}
use Rattle.std.specs.Prelude.{codes}
use Rattle.text_words.specs.Lacks.{lacks}
use Rattle.text_words.proofs.LackLemmas.{lacks-append}
use Rattle.checkpoints.specs.declared.checkpoints.NextNumber.{NextNumber}
use Rattle.checkpoints.specs.declared.slot_lists.FilledSlot.{FilledSlot}
use Rattle.dump_text.specs.declared.state_lines.Counters.{Counters}
use Rattle.dump_text.specs.declared.state_lines.Row.{Row}
use Rattle.dump_text.specs.declared.state_lines.Part.{Part}
use Rattle.dump_text.specs.declared.state_lines.Part.TheVariants as parts
use Rattle.dump_text.specs.declared.state_lines.StateLine.{StateLine}
use Rattle.dump_text.specs.declared.state_lines.StateLine.TheVariants as states
use Rattle.dump_text.specs.Word.{args_of}
use Rattle.dump_text.specs.Head.{object_text}
use Rattle.dump_text.specs.StateLine.{counters_words, id_words, packet_words, row_words, slot_words, next_words, pair_kinds, id_kinds, packet_kinds, slot_kinds, part_text, IsPart, state_text, IsStateLine}
use Rattle.dump_text.proofs.Readings.{cancel}
use Rattle.dump_text.proofs.HeadLemmas.{words_lack_end, words_same, apart, object_lacks_end, object_is_one}

counters_are_one : (a b : Counters) → args_of (counters_words a) ≡ args_of (counters_words b) → a ≡ b
counters_are_one a b e =
    let p : a.next_id ≡ b.next_id = cc in
    let q : a.next_category ≡ b.next_category = cc in
    (λ i. record { next_id = p i; next_category = q i })

pub id_is_one : (a b : ℕ) → args_of (id_words a) ≡ args_of (id_words b) → a ≡ b
id_is_one a b e = cc

pub packet_is_one : (a b : List ℕ) → args_of (packet_words a) ≡ args_of (packet_words b) → a ≡ b
packet_is_one a b e = cc

row_is_one : (a b : Row) → args_of (row_words a) ≡ args_of (row_words b) → a ≡ b
row_is_one a b e =
    let p : a.bytes ≡ b.bytes = packet_is_one a.bytes b.bytes e in
    (λ i. record { bytes = p i })

slot_is_one : (a b : FilledSlot) → args_of (slot_words a) ≡ args_of (slot_words b) → a ≡ b
slot_is_one a b e =
    let s : a.slot ≡ b.slot = cc in
    let p : a.mapping.page ≡ b.mapping.page = cc in
    let d : a.mapping.entry.container ≡ b.mapping.entry.container = cc in
    let o : a.mapping.entry.object ≡ b.mapping.entry.object = cc in
    let f : a.mapping.first ≡ b.mapping.first = cc in
    let c : a.mapping.count ≡ b.mapping.count = cc in
    let r : a.mapping.rights ≡ b.mapping.rights = cc in
    (λ i. record {
      slot = s i;
      mapping = record {
        page = p i;
        entry = record { container = d i; object = o i };
        first = f i;
        count = c i;
        rights = r i;
      };
    })

next_is_one : (a b : NextNumber) → args_of (next_words a) ≡ args_of (next_words b) → a ≡ b
next_is_one a b e =
    let p : a.thread ≡ b.thread = cc in
    let q : a.number ≡ b.number = cc in
    (λ i. record { thread = p i; number = q i })

part_lacks_end : (p : Part) → IsPart p → lacks 10 (part_text p) ≡ true
part_lacks_end (parts.Entry id) is = words_lack_end id_kinds (codes "entry ") (id_words id) (lit< tt) refl is.0
part_lacks_end (parts.Row r) is = words_lack_end packet_kinds (codes "bytes ") (row_words r) (lit< tt) refl is.0
part_lacks_end (parts.Slot f) is = words_lack_end slot_kinds (codes "slot ") (slot_words f) (lit< tt) refl is.0
part_lacks_end (parts.Packet d) is = words_lack_end packet_kinds (codes "packet ") (packet_words d) (lit< tt) refl is.0

letter : List ℕ → ℕ
letter text = get_or text 0 0

part_is_one : (a b : Part) → IsPart a → IsPart b → part_text a ≡ part_text b → a ≡ b
unfolding letter
part_is_one (parts.Entry a) (parts.Entry b) ia ib same = ap parts.Entry (id_is_one a b (words_same id_kinds (codes "entry ") (id_words a) (id_words b) (lit< tt) ia.0 ib.0 same))
part_is_one (parts.Row a) (parts.Row b) ia ib same = ap parts.Row (row_is_one a b (words_same packet_kinds (codes "bytes ") (row_words a) (row_words b) (lit< tt) ia.0 ib.0 same))
part_is_one (parts.Slot a) (parts.Slot b) ia ib same = ap parts.Slot (slot_is_one a b (words_same slot_kinds (codes "slot ") (slot_words a) (slot_words b) (lit< tt) ia.0 ib.0 same))
part_is_one (parts.Packet a) (parts.Packet b) ia ib same = ap parts.Packet (packet_is_one a b (words_same packet_kinds (codes "packet ") (packet_words a) (packet_words b) (lit< tt) ia.0 ib.0 same))
part_is_one a b ia ib same = absurd (apart (letter (part_text a)) (letter (part_text b)) refl (ap letter same))

-- the first three bytes as one number
unfoldable pub mark : List ℕ → ℕ
mark text = get_or text 0 0 + 256 * get_or text 1 0 + 65536 * get_or text 2 0

-- which line a text is, by them
state_kind_in : List ℕ → ℕ
state_kind_in text =
    cond (eqb (mark text) (mark (codes "sta"))) 1
    (cond (eqb (mark text) (mark (codes "obj"))) 2
    (cond (eqb (mark text) (mark (codes "nex"))) 3 0))

state_kind : StateLine → ℕ
state_kind (states.Counters c) = 1
state_kind (states.Object o) = 2
state_kind (states.Next n) = 3
state_kind (states.Part p) = 0

state_kind_is : (s : StateLine) → state_kind_in (state_text s) ≡ state_kind s
unfolding mark state_kind_in state_kind
state_kind_is (states.Counters c) = refl
state_kind_is (states.Object o) = refl
state_kind_is (states.Next n) = refl
state_kind_is (states.Part (parts.Entry id)) = refl
state_kind_is (states.Part (parts.Row r)) = refl
state_kind_is (states.Part (parts.Slot f)) = refl
state_kind_is (states.Part (parts.Packet d)) = refl

pub state_lacks_end : (s : StateLine) → IsStateLine s → lacks 10 (state_text s) ≡ true
state_lacks_end (states.Counters c) is = words_lack_end pair_kinds (codes "state ") (counters_words c) (lit< tt) refl is.0
state_lacks_end (states.Object o) is = lacks-append 10 (codes "object ") (object_text o) refl (object_lacks_end o is)
state_lacks_end (states.Part p) is = part_lacks_end p is
state_lacks_end (states.Next n) is = words_lack_end pair_kinds (codes "next ") (next_words n) (lit< tt) refl is.0

pub state_is_one : (a b : StateLine) → IsStateLine a → IsStateLine b → state_text a ≡ state_text b → a ≡ b
unfolding state_kind
state_is_one (states.Counters a) (states.Counters b) ia ib same = ap states.Counters (counters_are_one a b (words_same pair_kinds (codes "state ") (counters_words a) (counters_words b) (lit< tt) ia.0 ib.0 same))
state_is_one (states.Object a) (states.Object b) ia ib same = ap states.Object (object_is_one a b ia ib (cancel (codes "object ") (object_text a) (object_text b) same))
state_is_one (states.Part a) (states.Part b) ia ib same = ap states.Part (part_is_one a b ia ib same)
state_is_one (states.Next a) (states.Next b) ia ib same = ap states.Next (next_is_one a b (words_same pair_kinds (codes "next ") (next_words a) (next_words b) (lit< tt) ia.0 ib.0 same))
state_is_one a b ia ib same = absurd (apart (state_kind a) (state_kind b) refl (sym (state_kind_is a) ∙ ap state_kind_in same ∙ state_kind_is b))
