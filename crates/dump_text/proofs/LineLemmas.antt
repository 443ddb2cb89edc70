-- Lines: no two have one spelling, and none holds a line's end.
use Rattle.std.proofs.Common.{lit<, ◌≡◌, ℕ, cond, eqb, true, List, get_or, refl, ap, ◌∙◌, sym}
use Rattle.std.specs.Prelude.{codes}
use Rattle.base.specs.declared.levels.Level.{Level}
use Rattle.base.specs.declared.levels.Level.TheVariants.{Star, L0, L1, L2, L3}
use Rattle.base.specs.declared.ranges.Limits.{Limits}
use Rattle.text_words.specs.Lacks.{lacks}
use Rattle.text_words.proofs.LackLemmas.{lacks-append}
use Rattle.call_text.proofs.TextLemmas.{IsGrammar}
use Rattle.kernel_rules.specs.declared.tables.Used.{Used}
use Rattle.kernel_rules.specs.declared.tables.Shown.{Shown}
use Rattle.dump_text.specs.declared.tables.Stored.{Stored}
use Rattle.kernel_rules.specs.declared.tables.Compared.{Compared}
use Rattle.dump_text.specs.declared.line_words.Batch.{Batch}
use Rattle.dump_text.specs.declared.lines.Line.{Line}
use Rattle.dump_text.specs.declared.lines.Line.TheVariants as lines
use Rattle.dump_text.specs.Event.{answered_text, single_text}
use Rattle.dump_text.specs.Read.{read_text}
use Rattle.dump_text.specs.Word.{args_of, spoken_label}
use Rattle.dump_text.specs.Line.{digit_of, limits_words, batch_words, use_words, map_words, label_words, order_words, limits_kinds, batch_kinds, use_kinds, map_kinds, label_kinds, order_kinds, version_digit, line_text, IsLine}
use Rattle.dump_text.specs.StateLine.{id_words, id_kinds}
use Rattle.dump_text.specs.declared.lines.Format.{Format}
use Rattle.dump_text.specs.declared.lines.Format.TheVariants as formats
use Rattle.dump_text.specs.declared.state_lines.Part.TheVariants as parts
use Rattle.dump_text.specs.declared.state_lines.StateLine.TheVariants as states
use Rattle.dump_text.proofs.HeadLemmas.{words_lack_end, words_same, raw_is_one, apart}
use Rattle.dump_text.proofs.StateLemmas.{mark, id_is_one, state_lacks_end, state_is_one}
use Rattle.dump_text.proofs.Readings.{cancel}
use Rattle.dump_text.proofs.ReadLemmas.{read_is_one, read_lacks_end}
use Rattle.dump_text.proofs.EventLemmas.{answered_is_one, answered_lacks_end, single_is_one, single_lacks_end}

line_lacks_end : (l : Line) → IsLine l → lacks 10 (line_text l) ≡ true
line_lacks_end (lines.Version formats.One) is = refl
line_lacks_end (lines.Version formats.Two) is = refl
line_lacks_end (lines.Limits l) is = words_lack_end limits_kinds (codes "limits ") (limits_words l) (lit< tt) refl is.0
line_lacks_end (lines.State s) is = state_lacks_end s is
line_lacks_end (lines.Event e) is = lacks-append 10 (codes "event ") (single_text e) refl (single_lacks_end e is)
line_lacks_end (lines.Batch b) is = words_lack_end batch_kinds (codes "batch ") (batch_words b) (lit< tt) refl is.0
line_lacks_end (lines.Call a) is = lacks-append 10 (codes "call ") (answered_text a) refl (answered_lacks_end a is)
line_lacks_end (lines.Read r) is = lacks-append 10 (codes "read ") (read_text r) refl (read_lacks_end r is)
line_lacks_end (lines.Live o) is = words_lack_end id_kinds (codes "live ") (id_words o) (lit< tt) refl is.0
line_lacks_end (lines.Use u) is = words_lack_end use_kinds (codes "use ") (use_words u) (lit< tt) refl is.0
line_lacks_end (lines.Map s) is = words_lack_end map_kinds (codes "map ") (map_words s) (lit< tt) refl is.0
line_lacks_end (lines.Label s) is = words_lack_end label_kinds (codes "label ") (label_words s) (lit< tt) refl is.0
line_lacks_end (lines.Order o) is = words_lack_end order_kinds (codes "order ") (order_words o) (lit< tt) refl is.0
line_lacks_end lines.End is = refl

level_back : ℕ → Level
level_back n = cond (eqb n 0) L0 (cond (eqb n 1) L1 (cond (eqb n 2) L2 (cond (eqb n 3) L3 Star)))

digit_again : (l : Level) → level_back (digit_of l) ≡ l
unfolding level_back
digit_again L0 = refl
digit_again L1 = refl
digit_again L2 = refl
digit_again L3 = refl
digit_again Star = refl

digit_is_one : (a b : Level) → digit_of a ≡ digit_of b → a ≡ b
digit_is_one a b e = sym (digit_again a) ∙ ap level_back e ∙ digit_again b

limits_are_one : (a b : Limits) → args_of (limits_words a) ≡ args_of (limits_words b) → a ≡ b
limits_are_one a b e =
    let p : a.pages ≡ b.pages = cc in
    let d : digit_of a.device ≡ digit_of b.device = cc in
    let q : a.next_id ≡ b.next_id = cc in
    let r : a.next_category ≡ b.next_category = cc in
    let l = digit_is_one a.device b.device d in
    (λ i. record { pages = p i; device = l i; next_id = q i; next_category = r i })

batch_is_one : (a b : Batch) → args_of (batch_words a) ≡ args_of (batch_words b) → a ≡ b
batch_is_one a b e =
    let p : a.thread ≡ b.thread = cc in
    let q : a.number ≡ b.number = cc in
    let r : a.count ≡ b.count = cc in
    (λ i. record { thread = p i; number = q i; count = r i })

use_is_one : (a b : Used) → args_of (use_words a) ≡ args_of (use_words b) → a ≡ b
use_is_one a b e =
    let p : a.id ≡ b.id = cc in
    let q : a.pages ≡ b.pages = cc in
    (λ i. record { id = p i; pages = q i })

map_is_one : (a b : Shown) → args_of (map_words a) ≡ args_of (map_words b) → a ≡ b
map_is_one a b e =
    let p : a.thread ≡ b.thread = cc in
    let q : a.slot ≡ b.slot = cc in
    let r : a.segment ≡ b.segment = cc in
    let s : a.rights ≡ b.rights = cc in
    (λ i. record { thread = p i; slot = q i; segment = r i; rights = s i })

label_is_one : (a b : Stored) → args_of (label_words a) ≡ args_of (label_words b) → a ≡ b
label_is_one a b e =
    let p : a.index ≡ b.index = cc in
    let q : spoken_label a.label ≡ spoken_label b.label = cc in
    let r = raw_is_one a.label b.label q in
    (λ i. record { index = p i; label = r i })

order_is_one : (a b : Compared) → args_of (order_words a) ≡ args_of (order_words b) → a ≡ b
order_is_one a b e =
    let p : a.first ≡ b.first = cc in
    let q : a.second ≡ b.second = cc in
    let r : a.bits ≡ b.bits = cc in
    (λ i. record { first = p i; second = q i; bits = r i })

-- which line a text is, by its first three bytes
kind_in : List ℕ → ℕ
kind_in text =
    cond (eqb (mark text) (mark (codes "sta"))) 0
    (cond (eqb (mark text) (mark (codes "obj"))) 0
    (cond (eqb (mark text) (mark (codes "nex"))) 0
    (cond (eqb (mark text) (mark (codes "ent"))) 0
    (cond (eqb (mark text) (mark (codes "byt"))) 0
    (cond (eqb (mark text) (mark (codes "slo"))) 0
    (cond (eqb (mark text) (mark (codes "pac"))) 0 (mark text)))))))

kind : Line → ℕ
kind (lines.Version f) = mark (codes "his")
kind (lines.Limits l) = mark (codes "lim")
kind (lines.State s) = 0
kind (lines.Event e) = mark (codes "eve")
kind (lines.Batch b) = mark (codes "bat")
kind (lines.Call a) = mark (codes "cal")
kind (lines.Read r) = mark (codes "rea")
kind (lines.Live o) = mark (codes "liv")
kind (lines.Use u) = mark (codes "use")
kind (lines.Map s) = mark (codes "map")
kind (lines.Label s) = mark (codes "lab")
kind (lines.Order o) = mark (codes "ord")
kind lines.End = mark (codes "end")

kind_is : (l : Line) → kind_in (line_text l) ≡ kind l
unfolding mark kind_in kind
kind_is (lines.Version f) = refl
kind_is (lines.Limits l) = refl
kind_is (lines.State (states.Counters c)) = refl
kind_is (lines.State (states.Object o)) = refl
kind_is (lines.State (states.Next n)) = refl
kind_is (lines.State (states.Part (parts.Entry id))) = refl
kind_is (lines.State (states.Part (parts.Row r))) = refl
kind_is (lines.State (states.Part (parts.Slot f))) = refl
kind_is (lines.State (states.Part (parts.Packet d))) = refl
kind_is (lines.Event e) = refl
kind_is (lines.Batch b) = refl
kind_is (lines.Call a) = refl
kind_is (lines.Read r) = refl
kind_is (lines.Live o) = refl
kind_is (lines.Use u) = refl
kind_is (lines.Map s) = refl
kind_is (lines.Label s) = refl
kind_is (lines.Order o) = refl
kind_is lines.End = refl

version_is_one : (f g : Format) → version_digit f ≡ version_digit g → f ≡ g
version_is_one formats.One formats.One e = refl
version_is_one formats.One formats.Two e = absurd (apart 49 50 refl e)
version_is_one formats.Two formats.One e = absurd (apart 50 49 refl e)
version_is_one formats.Two formats.Two e = refl

line_is_one : (a b : Line) → IsLine a → IsLine b → line_text a ≡ line_text b → a ≡ b
unfolding mark kind
line_is_one (lines.Version a) (lines.Version b) ia ib same = ap lines.Version (version_is_one a b (ap (λ (x : List ℕ). get_or x 12 0) same))
line_is_one (lines.Limits a) (lines.Limits b) ia ib same = ap lines.Limits (limits_are_one a b (words_same limits_kinds (codes "limits ") (limits_words a) (limits_words b) (lit< tt) ia.0 ib.0 same))
line_is_one (lines.State a) (lines.State b) ia ib same = ap lines.State (state_is_one a b ia ib same)
line_is_one (lines.Event a) (lines.Event b) ia ib same = ap lines.Event (single_is_one a b ia ib (cancel (codes "event ") (single_text a) (single_text b) same))
line_is_one (lines.Batch a) (lines.Batch b) ia ib same = ap lines.Batch (batch_is_one a b (words_same batch_kinds (codes "batch ") (batch_words a) (batch_words b) (lit< tt) ia.0 ib.0 same))
line_is_one (lines.Call a) (lines.Call b) ia ib same = ap lines.Call (answered_is_one a b ia ib (cancel (codes "call ") (answered_text a) (answered_text b) same))
line_is_one (lines.Read a) (lines.Read b) ia ib same = ap lines.Read (read_is_one a b ia ib (cancel (codes "read ") (read_text a) (read_text b) same))
line_is_one (lines.Live a) (lines.Live b) ia ib same = ap lines.Live (id_is_one a b (words_same id_kinds (codes "live ") (id_words a) (id_words b) (lit< tt) ia.0 ib.0 same))
line_is_one (lines.Use a) (lines.Use b) ia ib same = ap lines.Use (use_is_one a b (words_same use_kinds (codes "use ") (use_words a) (use_words b) (lit< tt) ia.0 ib.0 same))
line_is_one (lines.Map a) (lines.Map b) ia ib same = ap lines.Map (map_is_one a b (words_same map_kinds (codes "map ") (map_words a) (map_words b) (lit< tt) ia.0 ib.0 same))
line_is_one (lines.Label a) (lines.Label b) ia ib same = ap lines.Label (label_is_one a b (words_same label_kinds (codes "label ") (label_words a) (label_words b) (lit< tt) ia.0 ib.0 same))
line_is_one (lines.Order a) (lines.Order b) ia ib same = ap lines.Order (order_is_one a b (words_same order_kinds (codes "order ") (order_words a) (order_words b) (lit< tt) ia.0 ib.0 same))
line_is_one lines.End lines.End ia ib same = refl
line_is_one a b ia ib same = absurd (apart (kind a) (kind b) refl (sym (kind_is a) ∙ ap kind_in same ∙ kind_is b))

pub dump_grammar : IsGrammar line_text IsLine
dump_grammar = record { lacks_end = line_lacks_end; one = line_is_one }
