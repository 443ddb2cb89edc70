-- How many lines tell an event, and what the lines of events tell.
use Rattle.std.proofs.Common.{◌≡◌, ℕ, ◌+◌, ◌-◌, ◌/◌, ◌<◌, ◌≤◌, List, [], ◌∷◌, length, map, drop, slice_get, slice_index_or, nat_lt, Option, Some, None, if◌then◌else◌, arith, refl, ap, subst, sym, ◌∙◌, suc, zero}
use Rattle.std.proofs.lemmas.Bool.{lt-ltb, le-ltb}
use Rattle.std.proofs.lemmas.List.{length-map}
use Rattle.std.specs.Option.{option_map}
use Rattle.dump_text.specs.CheckpointLines.{rows, rows_of, row_line}
use Rattle.kernel_rules.specs.Events.{Event}
use Rattle.kernel_rules.specs.declared.histories.events.Answered.{Answered}
use Rattle.dump_text.specs.Dump.{event_lines, lines_with}
use Rattle.dump_text.specs.declared.lines.Line.TheVariants as lines
use Rattle.shown_dumps.proofs.CallLaws.{drop_item}
use Rattle.dump_text.specs.Reads.{reads_at, reads_past}
use Rattle.dump_text.specs.declared.tables.PlacedRead.{PlacedRead}
use Rattle.shown_dumps.specs.Places.{place_in, after_reads, place_from}
use Rattle.shown_dumps.specs.declared.why.places.Content.{Content}
use Rattle.shown_dumps.specs.declared.why.places.Content.TheVariants.{Calls, Asked}

-- one call has a line
pub one_line : (thread number : ℕ) (calls : List Answered) → length calls ≡ 1 → length (lines_with thread number calls) ≡ 1
one_line thread number [] h = absurd (omega arith)
one_line thread number (a ∷ []) h = refl
one_line thread number (a ∷ b ∷ cs) h = absurd (omega arith)

-- several calls, or none, have a line each after that of the batch
pub several_lines : (thread number : ℕ) (calls : List Answered) → (length calls ≡ 1 → ⊥)
    → length (lines_with thread number calls) ≡ 1 + length calls
several_lines thread number [] h = refl
several_lines thread number (a ∷ []) h = absurd (h refl)
several_lines thread number (a ∷ b ∷ cs) h = let e = length-map (a ∷ b ∷ cs) lines.Call in omega (arith, e)

-- what the line after the first `left` tells, where an event is the next
next_event : (i left : ℕ) (x : Event) (xs : List Event) (rs : List PlacedRead) → i < length xs → x ≡ slice_index_or xs i x
    → place_from i (drop i xs) rs left ≡ place_from i (x ∷ drop (i + 1) xs) rs left
next_event i left x xs rs within is = ap (λ (l : List Event). place_from i l rs left) (drop_item xs i x within is)

-- what the line tells that stands after so many of the event's lines
from_event : ℕ → Event → List Event → List PlacedRead → ℕ → Option Content
from_event i x xs rs j =
    if nat_lt j (length (event_lines x)) then Some (Calls (place_in i x j))
    else place_from (i + 1) xs (reads_past i rs) (j - length (event_lines x))

-- it is one of the reads before the event
pub asked : (i left : ℕ) (reads : List PlacedRead) (x : Event) (xs : List Event) (rs : List PlacedRead) → i < length xs
    → x ≡ slice_index_or xs i x → reads ≡ reads_at i rs → left < length reads
    → option_map Asked (slice_get reads left) ≡ place_from i (drop i xs) rs left
unfolding from_event
asked i left reads x xs rs within is told below =
    let less : left < length (reads_at i rs) = subst (λ (l : List PlacedRead). left < length l) told below in
    ap (λ (l : List PlacedRead). option_map Asked (slice_get l left)) told
    ∙ sym (next_event i left x xs rs within is
    ∙ ap (λ b. if b then option_map Asked (slice_get (reads_at i rs) left) else from_event i x (drop (i + 1) xs) rs (left - length (reads_at i rs)))
    (lt-ltb left (length (reads_at i rs)) less))

-- after the reads
past_reads : (reads : List PlacedRead) (left : ℕ) (later : ℕ → Option Content) (told : ℕ) → told ≡ length reads → told ≤ left
    → after_reads reads later left ≡ later (left - told)
past_reads reads left later told is le =
    let more : length reads ≤ left = omega arith in
    rw (le-ltb left (length reads) more) (ap (λ n. later (left - n)) (sym is))

-- it is one of the event's lines
pub here : (i left reads count : ℕ) (x : Event) (xs : List Event) (rs : List PlacedRead) → i < length xs → x ≡ slice_index_or xs i x
    → reads ≡ length (reads_at i rs) → reads ≤ left → count ≡ length (event_lines x) → left - reads < count
    → Some (Calls (place_in i x (left - reads))) ≡ place_from i (drop i xs) rs left
unfolding from_event
here i left reads count x xs rs within is told above counted below =
    let less : left - reads < length (event_lines x) = omega arith in
    sym (next_event i left x xs rs within is
    ∙ past_reads (reads_at i rs) left (from_event i x (drop (i + 1) xs) rs) reads told above
    ∙ ap (λ b. if b then Some (Calls (place_in i x (left - reads))) else place_from (i + 1) (drop (i + 1) xs) (reads_past i rs) (left - reads - length (event_lines x)))
    (lt-ltb (left - reads) (length (event_lines x)) less))

-- it is none of them
pub further : (i left reads count : ℕ) (x : Event) (xs : List Event) (rs : List PlacedRead) → i < length xs → x ≡ slice_index_or xs i x
    → reads ≡ length (reads_at i rs) → reads ≤ left → count ≡ length (event_lines x) → count ≤ left - reads
    → place_from i (drop i xs) rs left ≡ place_from (i + 1) (drop (i + 1) xs) (reads_past i rs) (left - reads - count)
unfolding from_event
further i left reads count x xs rs within is told above counted over =
    let more : length (event_lines x) ≤ left - reads = omega arith in
    next_event i left x xs rs within is
    ∙ past_reads (reads_at i rs) left (from_event i x (drop (i + 1) xs) rs) reads told above
    ∙ ap (λ b. if b then Some (Calls (place_in i x (left - reads))) else place_from (i + 1) (drop (i + 1) xs) (reads_past i rs) (left - reads - length (event_lines x)))
    (le-ltb (left - reads) (length (event_lines x)) more)
    ∙ (ap (λ n. place_from (i + 1) (drop (i + 1) xs) (reads_past i rs) (left - reads - n)) (sym counted))

-- so many rows
pub row_count : (n : ℕ) (bytes : List ℕ) → length (rows n bytes) ≡ n
row_count zero bytes = refl
row_count (suc n) bytes = ap suc (row_count n (drop 64 bytes))

-- a row of each 64 bytes
pub row_lines : (bytes : List ℕ) → length (map row_line (rows_of bytes)) ≡ (length bytes + 63) / 64
row_lines bytes = length-map (rows_of bytes) row_line ∙ row_count ((length bytes + 63) / 64) bytes
