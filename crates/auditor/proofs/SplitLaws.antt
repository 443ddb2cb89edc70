-- The lines of a history up to an event, and how many they are.
use Rattle.std.proofs.Common.{◌≡◌, ℕ, zero, suc, ◌+◌, ◌≤◌, ◌==◌, Bool, true, false, if◌then◌else◌, List, [], ◌∷◌, ◌++◌, length, map}
use Rattle.std.proofs.Common.{refl, sym, ap, ◌∙◌, subst, arith, append_assoc}
use Rattle.std.specs.List.{flat_map}
use Rattle.std.proofs.lemmas.Bool.{ne_eqb}
use Rattle.std.proofs.lemmas.List.{append-nil, length-append, length-map, take-append-le}
use Rattle.kernel_rules.proofs.BatchLaws.{answered_length}
use Rattle.kernel_rules.specs.Events.{Event, calls_in}
use Rattle.kernel_rules.specs.History.{Start, state_from}
use Rattle.kernel_rules.specs.declared.histories.events.Answered.{Answered}
use Rattle.kernel_rules.specs.Step.{query_answer}
use Rattle.dump_text.specs.Dump.{lines_with, event_lines, told_lines}
use Rattle.dump_text.specs.Reads.{read_line, reads_at, reads_past, are_placed}
use Rattle.dump_text.specs.Whole.{raw_reply}
use Rattle.dump_text.specs.declared.lines.Line.{Line}
use Rattle.dump_text.specs.declared.tables.PlacedRead.{PlacedRead}
use Rattle.dump_text.proofs.Placing.{reads_parts, placed_parts, placed_from, past_placed, none_past}
use Rattle.auditor.specs.Replay.{true_event, replayed_after, thread_after, true_read, true_reads_after}

-- no read of later places stands at the place
none_at : (place last : ℕ) (rs : List PlacedRead) → are_placed (place + 1) last rs ≡ true
    → (reads_at place rs ≡ []) × (reads_past place rs ≡ rs)
none_at place last [] h = (refl, refl)
none_at place last (r ∷ rs) h =
    let low = (placed_parts (place + 1) last r rs h).low in
    rw (ne_eqb r.place place (λ e. omega (arith, low, e))) (refl, refl)

-- nor one among them, so the reads at the place are those of the others
parts_with : (place last : ℕ) (rs later : List PlacedRead) → are_placed (place + 1) last later ≡ true
    → (reads_at place (rs ++ later) ≡ reads_at place rs) × (reads_past place (rs ++ later) ≡ reads_past place rs ++ later)
parts_with place last [] later h = none_at place last later h
parts_with place last (r ∷ rs) later h =
    let rest = parts_with place last rs later h in
    elim (r.place == place) as (λ (b : Bool).
    ((if b then r ∷ reads_at place (rs ++ later) else []) ≡ (if b then r ∷ reads_at place rs else []))
    × ((if b then reads_past place (rs ++ later) else r ∷ (rs ++ later)) ≡ (if b then reads_past place rs else r ∷ rs) ++ later)) [
      | true ↦ (ap (λ (l : List PlacedRead). r ∷ l) rest.0, rest.1)
      | false ↦ (refl, refl)
    ]

pub lower : (first second last : ℕ) (rs : List PlacedRead) → first ≤ second → are_placed second last rs ≡ true
    → are_placed first last rs ≡ true
lower first second last [] le h = refl
lower first second last (r ∷ rs) le h =
    let p = placed_parts second last r rs h in
    let low = p.low in
    placed_from first last r rs (omega (arith, le, low)) p.high p.rest

-- the lines from a place up to an event, its own, and those after it
turn_split : (place last : ℕ) (es rest : List Event) (e : Event) (rs later : List PlacedRead)
    → are_placed place (place + length es) rs ≡ true → are_placed (place + length es + 1) last later ≡ true
    → told_lines place (es ++ e ∷ rest) (rs ++ later)
    ≡ told_lines place es rs ++ (event_lines e ++ told_lines (place + length es + 1) rest later)
turn_split place last [] rest e rs later front back =
    let none : place + 0 ≡ place = omega arith in
    let here : are_placed place place rs ≡ true = subst (λ (n : ℕ). are_placed place n rs ≡ true) none front in
    let parts = parts_with place last rs later (subst (λ (n : ℕ). are_placed (n + 1) last later ≡ true) none back) in
    let past = parts.1 ∙ ap (λ (l : List PlacedRead). l ++ later) (none_past place rs here) in
    (λ i. map read_line (parts.0 i) ++ (event_lines e ++ told_lines (place + 1) rest (past i)))
    ∙ ap (λ (n : ℕ). map read_line (reads_at place rs) ++ (event_lines e ++ told_lines (n + 1) rest later)) (sym none)
turn_split place last (x ∷ es) rest e rs later front back =
    let shift : place + length (x ∷ es) ≡ place + 1 + length es = omega arith in
    let inner : are_placed (place + 1) (place + 1 + length es) (reads_past place rs) ≡ true =
    subst (λ (n : ℕ). are_placed (place + 1) n (reads_past place rs) ≡ true) shift (past_placed place (place + length (x ∷ es)) rs front) in
    let beyond : are_placed (place + 1 + length es + 1) last later ≡ true =
    subst (λ (n : ℕ). are_placed (n + 1) last later ≡ true) shift back in
    let low : place + 1 ≤ place + length (x ∷ es) + 1 = omega arith in
    let parts = parts_with place last rs later (lower (place + 1) (place + length (x ∷ es) + 1) last later low back) in
    let here = map read_line (reads_at place rs) in
    let before = told_lines (place + 1) es (reads_past place rs) in
    let behind = event_lines e ++ told_lines (place + 1 + length es + 1) rest later in
    (λ i. map read_line (parts.0 i) ++ (event_lines x ++ told_lines (place + 1) (es ++ e ∷ rest) (parts.1 i)))
    ∙ ap (λ (l : List Line). here ++ (event_lines x ++ l)) (turn_split (place + 1) last es rest e (reads_past place rs) later inner beyond)
    ∙ ap (λ (l : List Line). here ++ l) (sym (append_assoc (event_lines x) before behind))
    ∙ sym (append_assoc here (event_lines x ++ before) behind)
    ∙ ap (λ (n : ℕ). (here ++ (event_lines x ++ before)) ++ (event_lines e ++ told_lines (n + 1) rest later)) (sym shift)

-- how many lines events and the reads among them are
lines_count : (place : ℕ) (es : List Event) (rs : List PlacedRead) → are_placed place (place + length es) rs ≡ true
    → length (told_lines place es rs) ≡ length (flat_map event_lines es) + length rs
lines_count place [] rs h =
    let none : place + 0 ≡ place = omega arith in
    let past = none_past place rs (subst (λ (n : ℕ). are_placed place n rs ≡ true) none h) in
    let all : reads_at place rs ≡ rs =
    sym (append-nil (reads_at place rs)) ∙ ap (λ (l : List PlacedRead). reads_at place rs ++ l) (sym past) ∙ reads_parts place rs in
    let lines = length-map (reads_at place rs) read_line in
    let same : length (reads_at place rs) ≡ length rs = ap length all in
    omega (arith, lines, same)
lines_count place (e ∷ es) rs h =
    let later = reads_past place rs in
    let lines = told_lines (place + 1) es later in
    let shift : place + length (e ∷ es) ≡ place + 1 + length es = omega arith in
    let rec = lines_count (place + 1) es later
    (subst (λ (n : ℕ). are_placed (place + 1) n later ≡ true) shift (past_placed place (place + length (e ∷ es)) rs h)) in
    let reads : length (reads_at place rs ++ later) ≡ length rs = ap length (reads_parts place rs) in
    omega (
      arith,
      rec,
      reads,
      length-append (map read_line (reads_at place rs)) (event_lines e ++ lines),
      length-append (event_lines e) lines,
      length-map (reads_at place rs) read_line,
      length-append (reads_at place rs) later,
      length-append (event_lines e) (flat_map event_lines es),
    )

none_before : (n : ℕ) → 0 + n ≡ n
none_before n = omega arith

-- the same from the first place
pub history_split : (last : ℕ) (es rest : List Event) (e : Event) (rs later : List PlacedRead)
    → are_placed 0 (length es) rs ≡ true → are_placed (length es + 1) last later ≡ true
    → told_lines 0 (es ++ e ∷ rest) (rs ++ later)
    ≡ told_lines 0 es rs ++ (event_lines e ++ told_lines (length es + 1) rest later)
history_split last es rest e rs later front back =
    let long = none_before (length es) in
    turn_split 0 last es rest e rs later
    (subst (λ (n : ℕ). are_placed 0 n rs ≡ true) (sym long) front)
    (subst (λ (n : ℕ). are_placed (n + 1) last later ≡ true) (sym long) back)
    ∙ ap (λ (n : ℕ). told_lines 0 es rs ++ (event_lines e ++ told_lines (n + 1) rest later)) long

pub history_count : (es : List Event) (rs : List PlacedRead) → are_placed 0 (length es) rs ≡ true
    → length (told_lines 0 es rs) ≡ length (flat_map event_lines es) + length rs
history_count es rs h =
    lines_count 0 es rs (subst (λ (n : ℕ). are_placed 0 n rs ≡ true) (sym (none_before (length es))) h)

-- how many lines an event of so many calls is
lines_for : ℕ → ℕ
lines_for zero = 1
lines_for (suc zero) = 1
lines_for (suc (suc n)) = suc (suc (suc n))

event_count : (thread number : ℕ) (calls : List Answered) → length (lines_with thread number calls) ≡ lines_for (length calls)
unfolding lines_for
event_count thread number [] = refl
event_count thread number (a ∷ []) = refl
event_count thread number (a ∷ b ∷ calls) = ap suc (length-map (a ∷ b ∷ calls) _)

true_count : (start : Start) (before : List Event) (e : Event) → length (event_lines (true_event start before e)) ≡ length (event_lines e)
true_count start before e =
    let x = true_event start before e in
    event_count x.thread x.number x.calls
    ∙ ap lines_for (answered_length (state_from start.state before) e.thread (calls_in e) ∙ length-map e.calls (λ (a : Answered). a.call))
    ∙ sym (event_count e.thread e.number e.calls)

exchanged : (x e : Event) (before es : List Event) → length (event_lines x) ≡ length (event_lines e)
    → length (flat_map event_lines (before ++ x ∷ es)) ≡ length (flat_map event_lines (before ++ e ∷ es))
exchanged x e [] es h =
    omega (arith, h, length-append (event_lines x) (flat_map event_lines es), length-append (event_lines e) (flat_map event_lines es))
exchanged x e (b ∷ before) es h =
    omega (
      arith,
      exchanged x e before es h,
      length-append (event_lines b) (flat_map event_lines (before ++ x ∷ es)),
      length-append (event_lines b) (flat_map event_lines (before ++ e ∷ es)),
    )

-- events that are replayed have as many lines
pub replayed_count : (start : Start) (before es : List Event)
    → length (flat_map event_lines (replayed_after start before es)) ≡ length (flat_map event_lines (before ++ es))
replayed_count start before [] = ap (λ (l : List Event). length (flat_map event_lines l)) (sym (append-nil before))
replayed_count start before (e ∷ es) =
    let x = true_event start before e in
    replayed_count start (before ++ x ∷ []) es
    ∙ ap (λ (l : List Event). length (flat_map event_lines l)) (append_assoc before (x ∷ []) es)
    ∙ exchanged x e before es (true_count start before e)

-- reads that are told by the rules are as many
pub reads_count : (start : Start) (events : List Event) (place thread : ℕ) (rs : List PlacedRead)
    → length (true_reads_after start events place thread rs) ≡ length rs
reads_count start events place thread [] = refl
reads_count start events place thread (r ∷ rs) =
    ap suc (reads_count start events r.place (thread_after place thread r) rs)

-- the first of them are told as themselves, and those after them after some read
pub reads_split : (start : Start) (events : List Event) (place thread : ℕ) (rs later : List PlacedRead)
    → (p : ℕ) × (t : ℕ) × (true_reads_after start events place thread (rs ++ later)
    ≡ true_reads_after start events place thread rs ++ true_reads_after start events p t later)
reads_split start events place thread [] later = (place, thread, refl)
reads_split start events place thread (r ∷ rs) later =
    let own = thread_after place thread r in
    let rest = reads_split start events r.place own rs later in
    (rest.0, rest.1, ap (λ (l : List PlacedRead). true_read start events own r ∷ l) rest.2)

-- no event after a read's place tells of its reply
pub reads_front : (start : Start) (es more : List Event) (first place thread : ℕ) (rs : List PlacedRead)
    → are_placed first (length es) rs ≡ true
    → true_reads_after start (es ++ more) place thread rs ≡ true_reads_after start es place thread rs
reads_front start es more first place thread [] h = refl
reads_front start es more first place thread (r ∷ rs) h =
    let p = placed_parts first (length es) r rs h in
    let own = thread_after place thread r in
    let here : true_read start (es ++ more) own r ≡ true_read start es own r =
    ap (λ (l : List Event). record {
      place = r.place;
      read = record { thread = own; query = r.read.query; reply = raw_reply (query_answer (state_from start.state l) own r.read.query) };
    }) (take-append-le r.place es more p.high) in
    (λ i. here i ∷ reads_front start es more r.place r.place own rs p.rest i)

pub replayed_append : (start : Start) (before es more : List Event)
    → replayed_after start before (es ++ more) ≡ replayed_after start (replayed_after start before es) more
replayed_append start before [] more = refl
replayed_append start before (e ∷ es) more = replayed_append start (before ++ true_event start before e ∷ []) es more

pub replayed_keeps : (start : Start) (before es : List Event) → (more : List Event) × (replayed_after start before es ≡ before ++ more)
replayed_keeps start before [] = ([], sym (append-nil before))
replayed_keeps start before (e ∷ es) =
    let x = true_event start before e in
    let rest = replayed_keeps start (before ++ x ∷ []) es in
    (x ∷ rest.0, rest.1 ∙ append_assoc before (x ∷ []) rest.0)
