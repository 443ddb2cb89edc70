-- The pieces of a dump, one after another.
use Rattle.std.proofs.Common.{◌≡◌, ℕ, zero, suc, ◌+◌, ◌*◌, ◌/◌, ◌<◌, ◌≤◌, nat_lt, Bool, true, false, List, [], ◌∷◌, ◌++◌, length, take, drop, Option, Some, None, refl, ap, ◌∙◌, sym, subst, arith, append_assoc}
use Rattle.std.specs.List.{flat_map, AllByRecursion}
use Rattle.std.proofs.lemmas.Bool.{ltb-true, ltb-false}
use Rattle.std.proofs.lemmas.List.{take_all, drop_all}
use Rattle.base.specs.declared.ranges.Limits.{Limits}
use Rattle.call_text.specs.Text.{lines_text}
use Rattle.checkpoints.specs.Checkpoint.{Checkpoint}
use Rattle.kernel_rules.specs.Events.{Event}
use Rattle.kernel_rules.specs.declared.histories.events.Answered.{Answered}
use Rattle.dump_text.specs.CheckpointLines.{start_lines}
use Rattle.dump_text.specs.Dump.{dump_text, event_lines, format_of, lines_with, table_lines, IsDump}
use Rattle.dump_text.specs.Fits.{FitsLine, FitTables, FitsWords}
use Rattle.dump_text.specs.Line.{line_text}
use Rattle.dump_text.specs.Lists.{TableLists, DumpLists, dump_with}
use Rattle.dump_text.specs.Pieces.{head_lines, tail_lines, lines_in, part_text, piece_at, piece_text, joined, AreLegal, ArePieces, FitsPiece}
use Rattle.dump_text.specs.Reads.{have_places}
use Rattle.dump_text.specs.Whole.{whole_dump, IsLegalDump}
use Rattle.dump_text.specs.declared.lines.Line.{Line}
use Rattle.dump_text.specs.declared.lines.Line.TheVariants as lines
use Rattle.dump_text.specs.declared.pieces.Piece.{Piece}
use Rattle.dump_text.specs.declared.pieces.Piece.TheVariants as pieces
use Rattle.dump_text.proofs.EventLines.{lines_append}
use Rattle.dump_text.proofs.KernelDumps.{legal_dump}
use Rattle.dump_text.proofs.LabelPlaces.{all_append}
use Rattle.dump_text.proofs.PieceTexts.{Solid, events_piece, last_after, piece_of, pieces_all, tables_piece, two_parts}

-- what an event tells
abbrev event_text : Event → List ℕ
event_text e = lines_text line_text (event_lines e)

-- the text of the lines of events
told_text : (es : List Event) → lines_text line_text (flat_map event_lines es) ≡ flat_map event_text es
told_text [] = refl
told_text (e ∷ es) = lines_append (event_lines e) (flat_map event_lines es) ∙ ap (λ (t : List ℕ). event_text e ++ t) (told_text es)

abbrev head_of : DumpLists → List ℕ
head_of d = lines_text line_text (head_lines d.limits d.checkpoint)

abbrev tail_of : DumpLists → List ℕ
tail_of d = lines_text line_text (tail_lines d.tables)

-- a piece is one of a head, of what events tell and of a tail
piece_is : (d : DumpLists) (n : ℕ) → piece_text d n ≡ piece_of event_text (head_of d) (tail_of d) d.events n
piece_is d n = of (piece_at (length d.events) n)
  where
    of : (p : Piece) → lines_text line_text (lines_in d p) ≡ part_text event_text (head_of d) (tail_of d) d.events p
    of pieces.Head = refl
    of (pieces.Events from) = told_text (take 64 (drop from d.events))
    of pieces.Tables = refl
    of pieces.Nothing = refl

-- and so is a dump
pub text_is : (l : Limits) (c : Option Checkpoint) (told : List Line) (t : TableLists)
    → lines_text line_text (head_lines l c) ++ (lines_text line_text told ++ lines_text line_text (tail_lines t))
    ≡ lines_text line_text (lines.Version (format_of c) ∷ lines.Limits l ∷ (start_lines c ++ (told ++ table_lines t)) ++ lines.End ∷ [])
text_is l c told t =
    ap (λ (x : List ℕ). lines_text line_text (head_lines l c) ++ x) (sym (lines_append told (tail_lines t)))
    ∙ sym (lines_append (head_lines l c) (told ++ tail_lines t))
    ∙ ap (λ (ls : List Line). lines_text line_text (lines.Version (format_of c) ∷ lines.Limits l ∷ ls)) (parts (start_lines c) told (table_lines t) (lines.End ∷ []))
  where
    parts : (a b c d : List Line) → a ++ (b ++ (c ++ d)) ≡ (a ++ (b ++ c)) ++ d
    parts a b c d = simp append_assoc

-- no line, no text
no_line : (x : List ℕ) (rest : List ℕ) → (x ++ 10 ∷ []) ++ rest ≡ [] → ⊥
no_line [] rest h = cc
no_line (b ∷ x) rest h = cc

no_lines : (ls : List Line) → lines_text line_text ls ≡ [] → ls ≡ []
no_lines [] h = refl
no_lines (l ∷ ls) h = absurd (no_line (line_text l) (lines_text line_text ls) h)

some_end : (ls : List Line) (l : Line) → ls ++ l ∷ [] ≡ [] → ⊥
some_end [] l h = cc
some_end (x ∷ ls) l h = cc

some_event : (t n : ℕ) (cs : List Answered) (rest : List Line) → lines_with t n cs ++ rest ≡ [] → ⊥
some_event t n [] rest h = cc
some_event t n (a ∷ []) rest h = cc
some_event t n (a ∷ b ∷ cs) rest h = cc

pub no_head : (d : DumpLists) → head_of d ≡ [] → ⊥
no_head d h = let e : head_lines d.limits d.checkpoint ≡ [] = no_lines (head_lines d.limits d.checkpoint) h in cc

pub no_tail : (d : DumpLists) → tail_of d ≡ [] → ⊥
no_tail d h = some_end (table_lines d.tables) lines.End (no_lines (tail_lines d.tables) h)

pub no_event : (e : Event) (rest : List ℕ) → event_text e ++ rest ≡ [] → ⊥
no_event e rest h = some_event e.thread e.number e.calls [] (ap (λ (ls : List Line). ls ++ []) (no_lines (event_lines e) (no_first (event_text e) rest h)))
  where
    no_first : (a b : List ℕ) → a ++ b ≡ [] → a ≡ []
    no_first [] b h = refl
    no_first (x ∷ a) b h = absurd (cc)

no_events : (es : List Event) → AllByRecursion (Solid event_text) es
no_events [] = tt
no_events (e ∷ es) = (no_event e, no_events es)

-- which piece is empty
last_of : (d : DumpLists) (n : ℕ) → piece_text d n ≡ [] → (m : ℕ) × (n ≡ suc m) × (length d.events + 64 ≤ 64 * m)
last_of d n h = last_after event_text (head_of d) (tail_of d) d.events n (no_events d.events) (no_head d) (no_tail d) (sym (piece_is d n) ∙ h)

-- the pieces up to an empty one are the text
pub pieces_text : (l : Limits) (c : Option Checkpoint) (es : List Event) (texts : ℕ → List ℕ) (n : ℕ) → ArePieces l c es texts n
    → joined texts n ≡ dump_text (whole_dump l c es [])
pieces_text l c es texts n are =
    let d = whole_dump l c es [] in
    pieces_all event_text (head_of d) (tail_of d) es texts n (no_events es) (no_head d) (no_tail d)
    (λ m less. (are.each m less).text ∙ piece_is d m) (sym (piece_is d n) ∙ sym are.last.text)
    ∙ ap (λ (x : List ℕ). head_of d ++ (x ++ tail_of d)) (sym (told_text es)) ∙ text_is l c (flat_map event_lines es) d.tables

-- the values of the events before a place fit, where those of each piece do
events_fit : (d : DumpLists) (k : ℕ) → ((m : ℕ) → m < suc k → FitsPiece d (piece_at (length d.events) m)) → (n : ℕ) → n ≤ k
    → AllByRecursion FitsLine (flat_map event_lines (take (64 * n) d.events))
events_fit d k each zero le = tt
events_fit d k each (suc n) le =
    let before = flat_map event_lines (take (64 * n) d.events) in
    let here = flat_map event_lines (take 64 (drop (64 * n) d.events)) in
    subst (λ (ls : List Line). AllByRecursion FitsLine ls) (sym (two_parts event_lines n d.events))
    (all_append FitsLine before here (events_fit d k each n (omega (arith, le))) (of (nat_lt (64 * n) (length d.events)) refl))
  where
    of : (b : Bool) → nat_lt (64 * n) (length d.events) ≡ b → AllByRecursion FitsLine (flat_map event_lines (take 64 (drop (64 * n) d.events)))
    of true is = subst (FitsPiece d) (events_piece (length d.events) n (ltb-true (64 * n) (length d.events) is)) (each (suc n) (omega (arith, le)))
    of false is = subst (λ (es : List Event). AllByRecursion FitsLine (flat_map event_lines (take 64 es))) (sym (drop_all (64 * n) d.events (ltb-false (64 * n) (length d.events) is))) tt

pieces_fit : (d : DumpLists) (n : ℕ) → length d.events + 64 ≤ 64 * n → ((m : ℕ) → m < suc n → FitsPiece d (piece_at (length d.events) m))
    → AllByRecursion FitsLine (start_lines d.checkpoint) × AllByRecursion FitsLine (flat_map event_lines d.events) × FitTables d.tables
pieces_fit d n past each =
    let count = (length d.events + 63) / 64 in
    let after : length d.events ≤ 64 * count = omega arith in
    let less : 64 * count < length d.events + 64 = omega arith in
    let before : suc count < suc n = omega (arith, less, past) in (
      each 0 (omega arith),
      subst (λ (es : List Event). AllByRecursion FitsLine (flat_map event_lines es)) (take_all (64 * n) d.events (omega (arith, past))) (events_fit d n each n (omega arith)),
      subst (FitsPiece d) (tables_piece (length d.events) count after less) (each (suc count) before),
    )

unread_placed : (c : Option Checkpoint) (es : List Event) → have_places c es [] ≡ true
unread_placed None es = refl
unread_placed (Some c) es = refl

-- and they are a legal dump
pub pieces_legal : (l : Limits) (c : Option Checkpoint) (es : List Event) (texts : ℕ → List ℕ) (n : ℕ) → AreLegal l c es → ArePieces l c es texts n
    → IsLegalDump l c (joined texts n)
pieces_legal l c es texts n legal are =
    let d = whole_dump l c es [] in
    let last = last_of d n (sym are.last.text) in
    let each : (m : ℕ) → m < suc last.0 → FitsPiece d (piece_at (length d.events) m) =
    λ m less. (are.each m (subst (λ (k : ℕ). m < k) (sym last.1) less)).fits in
    let fit = pieces_fit d last.0 last.2 each in
    let fits : FitsWords d = record { start = fit.0; history = fit.1; tables = fit.2 } in
    let dump = legal_dump l c es [] legal.range legal.begin legal.legal tt (unread_placed c es) fits in (
      legal.range,
      legal.begin,
      (es, [], legal.legal, record { answers = tt; rising = refl }, subst (λ (bytes : List ℕ). IsDump bytes d) (sym (pieces_text l c es texts n are)) dump),
    )
