-- The pieces of a log's dump, one after another.
use Rattle.std.proofs.Common.{◌≡◌, ℕ, zero, suc, ◌+◌, ◌*◌, ◌/◌, ◌<◌, ◌≤◌, nat_lt, Bool, true, false, List, [], ◌∷◌, ◌++◌, length, take, drop, Some, refl, ap, ◌∙◌, sym, subst, arith}
use Rattle.std.specs.List.{AllByRecursion}
use Rattle.std.proofs.lemmas.Bool.{ltb-true, ltb-false}
use Rattle.std.proofs.Math.Seq.{take-add}
use Rattle.std.proofs.lemmas.List.{drop_all, take_all}
use Rattle.call_text.specs.Text.{lines_text}
use Rattle.kernel_rules.specs.Events.{Event}
use Rattle.kernel_rules.specs.Scratch.{scratch}
use Rattle.kernel_rules.specs.State.{State}
use Rattle.syscall_core.specs.Kernel.{kernel_state}
use Rattle.dump_text.proofs.KernelDumps.{legal_dump}
use Rattle.dump_text.proofs.LabelPlaces.{all_append}
use Rattle.dump_text.proofs.PieceLemmas.{no_event, no_head, no_tail, text_is}
use Rattle.dump_text.proofs.PieceTexts.{Solid, events_piece, last_after, pieces_all, tables_piece}
use Rattle.dump_text.proofs.Placing.{history_told}
use Rattle.dump_text.specs.CheckpointLines.{start_lines}
use Rattle.dump_text.specs.Dump.{dump_text, history_lines, IsDump}
use Rattle.dump_text.specs.Fits.{FitsLine, FitTables, FitsWords}
use Rattle.dump_text.specs.Line.{line_text}
use Rattle.dump_text.specs.Lists.{DumpLists, TableLists}
use Rattle.dump_text.specs.Reads.{read_line}
use Rattle.dump_text.specs.Pieces.{head_lines, joined, piece_at, tail_lines}
use Rattle.dump_text.specs.Whole.{placed, whole_dump, IsLegalDump}
use Rattle.dump_text.specs.declared.lines.Line.{Line}
use Rattle.dump_text.specs.declared.tables.PlacedRead.{PlacedRead}
use Rattle.logged_kernel.proofs.EntryLaws.{all_placed, told_fits, told_text}
use Rattle.logged_kernel.specs.Entries.{FitsEntry, Tell, entry_text, events_of}
use Rattle.logged_kernel.specs.Logged.{Logged, ArePieces, FitsPiece, IsRight}
use Rattle.logged_kernel.specs.ReadLines.{ReadLine}
use Rattle.logged_kernel.specs.declared.entries.Entry.{Entry}
use Rattle.logged_kernel.specs.declared.entries.Entry.TheVariants as entries

-- each entry tells something
solid : (place : ℕ) (es : List Entry) (rs : List PlacedRead) → Tell place es rs → AllByRecursion (Solid entry_text) es
solid place [] rs told = tt
solid place (entries.Event e ∷ es) rs told = (no_event e, solid (place + 1) es rs told)
solid place (entries.Read l ∷ es) [] told = absurd told
solid place (entries.Read l ∷ es) (r ∷ rs) told =
    (λ rest h. some (line_text (read_line r)) rest (ap (λ (t : List ℕ). t ++ rest) (sym (ap (λ (x : ReadLine). x.line) told.1)) ∙ h), solid place es rs told.3)
  where
    some : (text rest : List ℕ) → ((text ++ 10 ∷ []) ++ []) ++ rest ≡ [] → ⊥
    some [] rest h = cc
    some (b ∷ text) rest h = cc

-- the tables of the kernel
abbrev tables : Logged → TableLists
tables k = placed (scratch (kernel_state k.kernel))

abbrev dump : Logged → List Event → List PlacedRead → DumpLists
dump k events reads = whole_dump k.limits (Some k.origin) events reads

abbrev head_of : Logged → List ℕ
head_of k = lines_text line_text (head_lines k.limits (Some k.origin))

abbrev tail_of : Logged → List ℕ
tail_of k = lines_text line_text (tail_lines (tables k))

-- they are those of the state that the events lead to
tables_are : (k : Logged) (kept : List Entry) (reads : List PlacedRead) → IsRight k kept → tables k ≡ (dump k (events_of kept) reads).tables
tables_are k kept reads right = ap (λ (s : State). placed (scratch s)) right.leads.state

begins : (k : Logged) → head_of k ≡ [] → ⊥
begins k = no_head (dump k [] [])

ends : (k : Logged) (kept : List Entry) (reads : List PlacedRead) → IsRight k kept → tail_of k ≡ [] → ⊥
ends k kept reads right h =
    no_tail (dump k (events_of kept) reads) (ap (λ (t : TableLists). lines_text line_text (tail_lines t)) (sym (tables_are k kept reads right)) ∙ h)

-- the pieces up to an empty one are the text
pub pieces_text : (k : Logged) (kept : List Entry) (reads : List PlacedRead) (texts : ℕ → List ℕ) (n : ℕ) → IsRight k kept → Tell 0 kept reads
    → ArePieces k kept texts n → joined texts n ≡ dump_text (dump k (events_of kept) reads)
pieces_text k kept reads texts n right told are =
    pieces_all entry_text (head_of k) (tail_of k) kept texts n (solid 0 kept reads told) (begins k) (ends k kept reads right)
    (λ m less. (are.each m less).text) (sym are.last.text)
    ∙ (λ i. head_of k ++ ((told_text 0 kept reads told ∙ ap (λ (ls : List Line). lines_text line_text ls) (sym (history_told (events_of kept) reads))) i
    ++ lines_text line_text (tail_lines (tables_are k kept reads right i))))
    ∙ text_is k.limits (Some k.origin) (history_lines (events_of kept) reads) (dump k (events_of kept) reads).tables

-- the values of the entries before a place fit, where those of each piece do
entries_fit : (k : Logged) (kept : List Entry) (n : ℕ)
    → ((m : ℕ) → m < suc n → FitsPiece k.origin (kernel_state k.kernel) kept (piece_at (length kept) m)) → (j : ℕ) → j ≤ n
    → AllByRecursion FitsEntry (take (64 * j) kept)
entries_fit k kept n each zero le = tt
entries_fit k kept n each (suc j) le =
    let more : 64 * suc j ≡ 64 * j + 64 = omega arith in
    subst (λ (l : List Entry). AllByRecursion FitsEntry l) (sym (ap (λ (i : ℕ). take i kept) more ∙ take-add (64 * j) 64 kept))
    (all_append FitsEntry (take (64 * j) kept) (take 64 (drop (64 * j) kept)) (entries_fit k kept n each j (omega (arith, le))) (of (nat_lt (64 * j) (length kept)) refl))
  where
    of : (b : Bool) → nat_lt (64 * j) (length kept) ≡ b → AllByRecursion FitsEntry (take 64 (drop (64 * j) kept))
    of true is = subst (FitsPiece k.origin (kernel_state k.kernel) kept) (events_piece (length kept) j (ltb-true (64 * j) (length kept) is)) (each (suc j) (omega (arith, le)))
    of false is = subst (λ (es : List Entry). AllByRecursion FitsEntry (take 64 es)) (sym (drop_all (64 * j) kept (ltb-false (64 * j) (length kept) is))) tt

pieces_fit : (k : Logged) (kept : List Entry) (n : ℕ) → length kept + 64 ≤ 64 * n
    → ((m : ℕ) → m < suc n → FitsPiece k.origin (kernel_state k.kernel) kept (piece_at (length kept) m))
    → AllByRecursion FitsLine (start_lines (Some k.origin)) × AllByRecursion FitsEntry kept × FitTables (tables k)
pieces_fit k kept n past each =
    let count = (length kept + 63) / 64 in
    let after : length kept ≤ 64 * count = omega arith in
    let less : 64 * count < length kept + 64 = omega arith in
    let before : suc count < suc n = omega (arith, less, past) in (
      each 0 (omega arith),
      subst (λ (es : List Entry). AllByRecursion FitsEntry es) (take_all (64 * n) kept (omega (arith, past))) (entries_fit k kept n each n (omega arith)),
      subst (FitsPiece k.origin (kernel_state k.kernel) kept) (tables_piece (length kept) count after less) (each (suc count) before),
    )

-- and they are a legal dump
pub pieces_legal : (k : Logged) (kept : List Entry) (texts : ℕ → List ℕ) (n : ℕ) → IsRight k kept → ArePieces k kept texts n
    → IsLegalDump k.limits (Some k.origin) (joined texts n)
pieces_legal k kept texts n right are =
    let reads = right.leads.told.0 in
    let told = right.leads.told.1 in
    let read = right.leads.told.2 in
    let events = events_of kept in
    let last = last_after entry_text (head_of k) (tail_of k) kept n (solid 0 kept reads told) (begins k) (ends k kept reads right) (sym are.last.text) in
    let each : (m : ℕ) → m < suc last.0 → FitsPiece k.origin (kernel_state k.kernel) kept (piece_at (length kept) m) =
    λ m less. (are.each m (subst (λ (j : ℕ). m < j) (sym last.1) less)).fits in
    let fit = pieces_fit k kept last.0 last.2 each in
    let fits : FitsWords (dump k events reads) = record {
      start = fit.0;
      history = subst (λ (ls : List Line). AllByRecursion FitsLine ls) (sym (history_told events reads)) (told_fits 0 kept reads told fit.1);
      tables = subst (λ (t : TableLists). FitTables t) (tables_are k kept reads right) fit.2;
    } in
    let dumped = legal_dump k.limits (Some k.origin) events reads right.range right.begin right.leads.legal read.answers
    (all_placed kept reads told) fits in (
      right.range,
      right.begin,
      (events, reads, right.leads.legal, read, subst (λ (bytes : List ℕ). IsDump bytes (dump k events reads)) (sym (pieces_text k kept reads texts n right told are)) dumped),
    )
