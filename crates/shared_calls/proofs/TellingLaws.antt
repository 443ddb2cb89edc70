-- A dump that is told piece by piece.
use Rattle.std.proofs.Common.{◌≡◌, ℕ, ◌+◌, ◌-◌, ◌*◌, ◌<◌, ◌≤◌, ◌==◌, min, cond, true, length, take, drop, Some, None, List, [], ◌∷◌, ◌++◌, refl, sym, ap, ◌∙◌, subst, arith, length-append, length-drop, nat_cmp}
use mathlib.Core.List.{IsPrefix}
use Rattle.std.specs.BTreeMap.{get}
use Rattle.std.specs.Option.{unwrap_or}
use Rattle.std.proofs.lemmas.List.{drop-append-le}
use Rattle.call_text.specs.Text.{lines_text}
use Rattle.checkpoints.specs.Starts.{number_of, start_of}
use Rattle.dump_text.specs.Boot.{boot_checkpoint}
use Rattle.dump_text.specs.Line.{line_text}
use Rattle.dump_text.specs.Pieces.{FitsPiece, lines_in, piece_at}
use Rattle.dump_text.specs.declared.pieces.Piece.{Piece}
use Rattle.dump_text.specs.declared.pieces.Piece.TheVariants as pieces
use Rattle.kernel_rules.specs.Events.{Event, by}
use Rattle.kernel_rules.specs.History.{Start, answered, is_batch, IsLegalFrom}
use Rattle.kernel_rules.specs.Runs.{booted, state_after}
use Rattle.syscall_core.specs.Kernel.{kernel_state}
use Rattle.shared_calls.specs.Cursors.{IsPlaced}
use Rattle.shared_calls.specs.Dumps.{AreLegalIn, IsAt, IsDumpAfter, IsDumpTo, IsPieceOf, IsSameDump, IsTelling, IsTold, dump_at, dump_in, events_in, events_told, limits_in, lists_in, state_in}
use Rattle.shared_calls.specs.Events.{events_from, start_at}
use Rattle.shared_calls.specs.Seats.{SeatView, state_of as seat_state}
use Rattle.shared_calls.specs.declared.cursors.Cursor.{Cursor}
use Rattle.shared_calls.specs.declared.journals.Journal.{Journal}
use Rattle.shared_calls.specs.declared.rules.Made.{Made}
use Rattle.shared_calls.specs.declared.tellings.Telling.{Telling}
use Rattle.shared_calls.proofs.EventLaws.{events_length, journal_more, prefix_drop, some_events}
use Rattle.shared_calls.proofs.PieceLaws.{told_at, Tells}
use Rattle.shared_calls.proofs.Prefixes.{prefix_whole}

-- one batch more is told
pub telling_more : (t : Telling) (cursor : Cursor) (journal : Journal) (m : Made) (e : Event) → IsTelling t
    → cursor.seen.log ≡ t.cursor.seen.log ++ m ∷ [] → cursor.seen.book ≡ t.cursor.seen.book → IsPlaced cursor
    → is_batch m.calls ≡ true → e.thread ≡ m.thread
    → e.number ≡ unwrap_or (get nat_cmp t.journal.counts m.thread) 0 + 1
    → e.calls ≡ answered (kernel_state t.journal.kernel) m.thread m.calls
    → kernel_state journal.kernel ≡ state_after (kernel_state t.journal.kernel) (by m.thread m.calls)
    → ((thread : ℕ) → get nat_cmp journal.counts thread ≡ cond (m.thread == thread) (Some e.number) (get nat_cmp t.journal.counts thread))
    → IsTelling (record t { cursor = cursor; journal = journal })
    × (events_told (record t { cursor = cursor; journal = journal }) ≡ events_told t ++ e ∷ [])
    × (cursor.count ≡ t.cursor.count + 1)
telling_more t cursor journal m e was log book placed size thread number calls step counted =
    let less : t.before ≤ length t.cursor.seen.log = omega (arith, was.begun, was.placed.count) in
    let longer : drop t.before cursor.seen.log ≡ drop t.before t.cursor.seen.log ++ m ∷ [] =
    ap (λ (l : List Made). drop t.before l) log ∙ drop-append-le t.before t.cursor.seen.log (m ∷ []) less in
    let all = journal_more (state_in t) (drop t.before t.cursor.seen.log) (drop t.before cursor.seen.log) m e t.journal journal
    was.journal longer size thread number calls step counted in
    let grown : length cursor.seen.log ≡ length t.cursor.seen.log + 1 = ap length log ∙ length-append t.cursor.seen.log (m ∷ []) in
    let count : cursor.count ≡ t.cursor.count + 1 = omega (arith, placed.count, was.placed.count, grown) in (
      record {
        list = book ∙ was.list;
        whole = was.whole;
        placed = placed;
        ended = was.ended;
        begun = omega (arith, count, was.begun);
        within = was.within;
        range = was.range;
        fit = was.fit;
        anew = was.anew;
        journal = all.0;
      },
      all.1,
      count,
    )

-- so many events as batches
pub events_count : (t : Telling) → IsTelling t → length (events_in t) ≡ t.end.count - t.before
events_count t was =
    events_length (state_in t) (drop t.before t.end.seen.log) ∙ length-drop t.before t.end.seen.log
    ∙ ap (λ (n : ℕ). n - t.before) (sym was.ended.count)

-- what is told at the end is all
pub all_told : (t : Telling) → IsTelling t → IsPrefix t.cursor.seen.log t.end.seen.log → t.cursor.count ≡ t.end.count → events_told t ≡ events_in t
all_told t was p same =
    ap (λ (l : List Made). events_from (state_in t) (drop t.before l))
    (prefix_whole t.cursor.seen.log t.end.seen.log p (omega (arith, same, was.placed.count, was.ended.count)))

-- and is legal
pub legal_told : (t : Telling) → IsTelling t → events_told t ≡ events_in t → AreLegalIn t
legal_told t was all =
    let start : start_at (state_in t) ≡ start_of (limits_in t) t.origin =
    λ i. record { state = state_in t; first = λ thread. number_of (sym was.anew i) thread } in
    record {
      range = was.range;
      begin = was.fit;
      legal = subst (λ (l : List Event). IsLegalFrom (start_of (limits_in t) t.origin) l) all
          (subst (λ (s : Start). IsLegalFrom s (events_told t)) start was.journal.legal);
    }

-- the same dump, told so far
abbrev moved : Telling → Telling → Telling
moved t u = record t { cursor = u.cursor; journal = u.journal }

same_dump : (t u : Telling) → IsSameDump t u → u ≡ moved t u
same_dump t u same = λ i. record {
  chair = same.0 i;
  origin = same.1 i;
  before = same.2 i;
  journal = u.journal;
  cursor = u.cursor;
  end = same.3 i;
}

-- the events of up to 64 batches that were told
pub some_told : (t u : Telling) (es : List Event) (from : ℕ) → IsTelling t → IsTelling u → IsSameDump t u
    → events_told u ≡ events_told t ++ es → IsPrefix u.cursor.seen.log u.end.seen.log → t.cursor.count ≡ t.before + from
    → t.cursor.count ≤ t.end.count → u.cursor.count ≡ t.cursor.count + min (t.end.count - t.cursor.count) 64
    → es ≡ take 64 (drop from (events_in t))
some_told t u es from was are same more p at within to =
    let is = same_dump t u same in
    let first : List Made = drop t.before t.cursor.seen.log in
    let last : List Made = drop t.before u.cursor.seen.log in
    let end : List Made = drop t.before t.end.seen.log in
    let told : events_from (state_in t) last ≡ events_from (state_in t) first ++ es = sym (ap events_told is) ∙ more in
    let begins : IsPrefix last end =
    prefix_drop t.before u.cursor.seen.log t.end.seen.log (omega (arith, to, at, are.placed.count))
    (subst (λ (c : Cursor). IsPrefix u.cursor.seen.log c.seen.log) same.3 p) in
    let here : length first ≡ from = length-drop t.before t.cursor.seen.log ∙ omega (arith, at, was.placed.count) in
    let whole : length end ≡ t.end.count - t.before = length-drop t.before t.end.seen.log ∙ ap (λ (n : ℕ). n - t.before) (sym was.ended.count) in
    let there : length last ≡ from + min (length end - from) 64 =
    length-drop t.before u.cursor.seen.log ∙ omega (arith, to, at, within, whole, are.placed.count) in
    some_events (state_in t) first last end es from told begins here there

-- a piece was told
pub piece_told : (t u : Telling) (number : ℕ) (p : Piece) (bytes : List ℕ) → IsTelling t → IsTelling u
    → p ≡ piece_at (t.end.count - t.before) number → (p ≡ pieces.Nothing → ⊥)
    → bytes ≡ lines_text line_text (lines_in (lists_in t) p) → FitsPiece (lists_in t) p
    → IsAt u (number + 1) → 64 * number < t.end.count + 128 → IsTold t u number (Some bytes)
piece_told t u number p bytes was are is some text fits at few =
    let here : p ≡ piece_at (length (events_in t)) number = is ∙ ap (λ (n : ℕ). piece_at n number) (sym (events_count t was)) in (
      are,
      at,
      text ∙ ap (λ (q : Piece). lines_text line_text (lines_in (lists_in t) q)) here,
      subst (λ (q : Piece). FitsPiece (lists_in t) q) here fits,
      (λ none. some (here ∙ none)),
      few,
    )

-- what a piece tells of its number
tells : (count number : ℕ) (p : Piece) → p ≡ piece_at count number → Tells count number p
tells count number p is = subst (λ (q : Piece). Tells count number q) (sym is) (told_at count number)

-- where the next piece begins that comes after each kind of them
at_head : (t : Telling) (number : ℕ) → number ≡ 0 → IsAt t number → IsAt t (number + 1)
at_head t number first at = omega (arith, first, at)

at_same : (t u : Telling) (n : ℕ) → IsSameDump t u → t.before + min n (t.end.count - t.before) ≡ u.before + min n (u.end.count - u.before)
at_same t u n same =
    let before : t.before ≡ u.before = sym same.2 in
    let end : t.end.count ≡ u.end.count = ap (λ (c : Cursor). c.count) (sym same.3) in
    λ i. before i + min n (end i - before i)

at_events : (t u : Telling) (number from : ℕ) → IsTelling t → IsSameDump t u → IsAt t number → 0 < number → from ≡ 64 * (number - 1)
    → from < t.end.count - t.before → u.cursor.count ≡ t.cursor.count + min (t.end.count - t.cursor.count) 64 → IsAt u (number + 1)
at_events t u number from was same at some is less to =
    let next : t.cursor.count + min (t.end.count - t.cursor.count) 64 ≡ t.before + min (64 * (number + 1 - 1)) (t.end.count - t.before) =
    omega (arith, was.within, at, some, is, less) in
    to ∙ (next ∙ at_same t u (64 * (number + 1 - 1)) same)

at_tables : (t u : Telling) (number : ℕ) → IsTelling t → IsSameDump t u → IsAt t number → 0 < number → t.end.count - t.before ≤ 64 * (number - 1)
    → u.cursor.count ≡ t.cursor.count → IsAt u (number + 1)
at_tables t u number was same at some past to =
    let next : t.cursor.count ≡ t.before + min (64 * (number + 1 - 1)) (t.end.count - t.before) = omega (arith, was.within, at, some, past) in
    to ∙ (next ∙ at_same t u (64 * (number + 1 - 1)) same)

-- how far a dump was told before a piece
pub within : (t : Telling) (number : ℕ) → IsTelling t → IsAt t number → t.cursor.count ≤ t.end.count
within t number was at = omega (arith, was.within, at)

pub from_events : (t : Telling) (number from : ℕ) → IsTelling t → IsAt t number → pieces.Events from ≡ piece_at (t.end.count - t.before) number
    → t.cursor.count ≡ t.before + from
from_events t number from was at is =
    let told = tells (t.end.count - t.before) number (pieces.Events from) is in
    omega (arith, was.within, at, told.1, told.2)

at_end : (t : Telling) (number : ℕ) → IsTelling t → IsAt t number → t.end.count - t.before ≤ 64 * (number - 1) → t.cursor.count ≡ t.end.count
at_end t number was at past = omega (arith, was.within, at, past)

pub from_tables : (t : Telling) (number : ℕ) → IsTelling t → IsAt t number → pieces.Tables ≡ piece_at (t.end.count - t.before) number
    → t.cursor.count ≡ t.end.count
from_tables t number was at is = at_end t number was at (tells (t.end.count - t.before) number pieces.Tables is).1

pub from_nothing : (t : Telling) (number : ℕ) → IsTelling t → IsAt t number → pieces.Nothing ≡ piece_at (t.end.count - t.before) number
    → t.cursor.count ≡ t.end.count
from_nothing t number was at is = at_end t number was at (tells (t.end.count - t.before) number pieces.Nothing is).1

-- each kind of piece is told
pub head_told : (t : Telling) (number : ℕ) (bytes : List ℕ) → IsTelling t → IsAt t number → pieces.Head ≡ piece_at (t.end.count - t.before) number
    → bytes ≡ lines_text line_text (lines_in (lists_in t) pieces.Head) → FitsPiece (lists_in t) pieces.Head → IsTold t t number (Some bytes)
head_told t number bytes was at is text fits =
    let first : number ≡ 0 = tells (t.end.count - t.before) number pieces.Head is in
    piece_told t t number pieces.Head bytes was was is (λ e. cc e) text fits (at_head t number first at) (omega (arith, first))

pub events_told_of : (t u : Telling) (number from : ℕ) (bytes : List ℕ) → IsTelling t → IsAt t number
    → pieces.Events from ≡ piece_at (t.end.count - t.before) number → IsTelling u → IsSameDump t u
    → u.cursor.count ≡ t.cursor.count + min (t.end.count - t.cursor.count) 64
    → bytes ≡ lines_text line_text (lines_in (lists_in t) (pieces.Events from)) → FitsPiece (lists_in t) (pieces.Events from)
    → IsTold t u number (Some bytes)
events_told_of t u number from bytes was at is are same to text fits =
    let told = tells (t.end.count - t.before) number (pieces.Events from) is in
    piece_told t u number (pieces.Events from) bytes was are is (λ e. cc e) text fits
    (at_events t u number from was same at told.0 told.1 told.2 to) (omega (arith, told.0, told.1, told.2))

pub tables_told : (t u : Telling) (number : ℕ) (bytes : List ℕ) → IsTelling t → IsAt t number → pieces.Tables ≡ piece_at (t.end.count - t.before) number
    → IsTelling u → IsSameDump t u → u.cursor.count ≡ t.cursor.count
    → bytes ≡ lines_text line_text (lines_in (lists_in t) pieces.Tables) → FitsPiece (lists_in t) pieces.Tables → IsTold t u number (Some bytes)
tables_told t u number bytes was at is are same to text fits =
    let told = tells (t.end.count - t.before) number pieces.Tables is in
    piece_told t u number pieces.Tables bytes was are is (λ e. cc e) text fits
    (at_tables t u number was same at told.0 told.1 to) (omega (arith, told.0, told.2))

pub nothing_told : (t : Telling) (number : ℕ) → IsTelling t → pieces.Nothing ≡ piece_at (t.end.count - t.before) number → AreLegalIn t
    → IsTold t t number None
nothing_told t number was is legal =
    let here : piece_at (length (events_in t)) number ≡ pieces.Nothing = ap (λ (n : ℕ). piece_at n number) (events_count t was) ∙ sym is in (
      ap (λ (q : Piece). lines_text line_text (lines_in (lists_in t) q)) here,
      subst (λ (q : Piece). FitsPiece (lists_in t) q) (sym here) tt,
      legal,
    )

-- a dump of all that a seat has seen
pub whole_is : (t : Telling) (seat : SeatView) → limits_in t ≡ seat.limits → t.origin ≡ boot_checkpoint seat.limits → state_in t ≡ booted seat.limits
    → t.before ≡ 0 → t.end.seen.book ≡ seat.list → t.end.seen.log ≡ seat.seen → dump_in t 0 ≡ dump_at seat
whole_is t seat limits origin state before list seen = λ i. record {
  limits = limits i;
  origin = origin i;
  list = list i;
  seen = seen i;
  events = events_from (state i) (drop (before i) (seen i));
  number = 0;
}

-- a dump of what the list has more than a seat has seen
pub since_is : (t : Telling) (count : ℕ) (seat : SeatView) → IsTelling t → limits_in t ≡ seat.limits
    → state_in t ≡ seat_state seat.limits seat.seen → t.before ≡ length seat.seen → t.end.seen.book ≡ seat.list
    → IsPrefix seat.seen t.end.seen.log → t.end.count ≡ count → IsDumpTo count seat (dump_in t 0)
since_is t count seat was limits state before list begins is = record {
  limits = limits;
  state = state;
  anew = was.anew;
  list = list;
  begins = begins;
  ends = sym was.ended.count ∙ is;
  events = λ i. events_from (state i) (drop (before i) t.end.seen.log);
  number = refl;
}

-- the same dump has the same view
same_view : (t u : Telling) (number : ℕ) → IsSameDump t u → dump_in u number ≡ dump_in t number
same_view t u number same = ap (λ (x : Telling). dump_in x number) (same_dump t u same)

-- what a piece that was told is, and what comes after it
pub piece_is : (t u : Telling) (number : ℕ) (bytes : List ℕ) → IsTold t u number (Some bytes) → IsPieceOf (dump_in t number) bytes
piece_is t u number bytes told = record { text = told.2; fits = told.3 }

pub after_is : (t u : Telling) (number : ℕ) (bytes : List ℕ) → IsSameDump t u → IsTold t u number (Some bytes)
    → IsDumpAfter (dump_in t number) bytes (Some (dump_in u (number + 1)))
after_is t u number bytes same told = (same_view t u (number + 1) same, told.4)

pub few_after : (t u : Telling) (number : ℕ) (bytes : List ℕ) → IsSameDump t u → IsTold t u number (Some bytes)
    → 64 * (number + 1) < u.end.count + 192
few_after t u number bytes same told = omega (arith, told.5, ap (λ (c : Cursor). c.count) same.3)

pub last_is : (t u : Telling) (number : ℕ) (bytes : List ℕ) → bytes ≡ [] → IsTold t u number None → IsPieceOf (dump_in t number) bytes
last_is t u number bytes none told = record { text = none ∙ sym told.0; fits = told.1 }

pub over_is : (t u : Telling) (number : ℕ) (bytes : List ℕ) → bytes ≡ [] → IsTold t u number None → IsDumpAfter (dump_in t number) bytes None
over_is t u number bytes none told = (none, told.2)
