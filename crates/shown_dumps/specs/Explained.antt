-- Why calls and reads of a dump are answered as they are.
use Rattle.std.specs.Global.{Vec}
use Rattle.std.specs.Prelude.{◌≡◌, ℕ, ◌-◌, Bool, true, false, if◌then◌else◌, Result, Ok, Err, List, [], ◌∷◌, ◌++◌, codes, map, take, drop, slice_get, Option, Some, None}
use Rattle.std.specs.List.{flat_map}
use Rattle.std.specs.Option.{option_map}
use Rattle.kernel_rules.specs.State.{State}
use Rattle.kernel_rules.specs.Step.{answer, next, query_answer}
use Rattle.kernel_rules.specs.Runs.{state_after}
use Rattle.kernel_rules.specs.declared.calls.Call.{Call}
use Rattle.kernel_rules.specs.declared.replies.Reply.{Reply}
use Rattle.kernel_rules.specs.declared.replies.Reply.TheVariants as replies
use Rattle.kernel_rules.specs.Events.{Event, by}
use Rattle.kernel_rules.specs.History.{state_from}
use Rattle.kernel_rules.specs.declared.histories.events.Answered.{Answered}
use Rattle.auditor.specs.Verdict.{begins}
use Rattle.call_text.specs.Reply.{reply_text}
use Rattle.call_text.specs.declared.known_names.Named.{Named}
use Rattle.dump_text.specs.Dump.{IsDump}
use Rattle.dump_text.specs.Lists.{DumpLists}
use Rattle.dump_text.specs.Whole.{start_with}
use Rattle.dump_text.specs.declared.reads.Read.{Read}
use Rattle.explained.specs.Explained.{explained, query_explained}
use Rattle.call_text.specs.NameLines.{named_line}
use Rattle.shown_dumps.specs.Lines.{before_end, after_end, after_lines}
use Rattle.shown_dumps.specs.Parts.{condition_text}
use Rattle.shown_dumps.specs.Places.{place_at}
use Rattle.shown_dumps.specs.States.{IsWhyNone}
use Rattle.shown_dumps.specs.declared.why.places.Content.{Content}
use Rattle.shown_dumps.specs.declared.why.places.Content.TheVariants.{Calls, Asked}
use Rattle.shown_dumps.specs.declared.why.places.Place.{Place}
use Rattle.shown_dumps.specs.declared.states.faults.ShowFault.{ShowFault}
use Rattle.shown_dumps.specs.declared.states.faults.ShowFault.TheVariants as faults

-- the line that tells a call or a read, and the rules' answer, by the names that are known
abbrev pub call_head : List Named → List ℕ → Reply → List ℕ
call_head names line reply = line ++ codes "\nthe rules answer: " ++ reply_text names reply ++ 10 ∷ []

-- why a thread's call is answered as it is in a state: the line that tells it, the rules' answer, and what refuses it, or all
-- conditions, each by the names that are known
abbrev pub call_explained : List Named → Bool → List ℕ → State → ℕ → Call → List ℕ
call_explained names whole line s t call =
    call_head names (named_line names line) (answer s t call) ++ flat_map (condition_text names whole) (explained s t call)

-- the same of calls one after another, which the lines of the text tell from its first on
abbrev pub calls_explained : List Named → Bool → List ℕ → State → ℕ → List Answered → List ℕ
calls_explained names whole text s t [] = []
calls_explained names whole text s t (a ∷ more) =
    call_explained names whole (before_end text) s t a.call
    ++ calls_explained names whole (after_end text) (next s t a.call) t more

-- the same of a read
abbrev pub read_explained : List Named → Bool → List ℕ → State → Read → List ℕ
read_explained names whole line s r =
    call_head names (named_line names line) (query_answer s r.thread r.query)
    ++ flat_map (condition_text names whole) (query_explained s r.thread r.query)

-- whether a reply tells a refusal
abbrev pub is_refused : Reply → Bool
is_refused (replies.Refused refusal) = true
is_refused _ = false

-- why the rules refuse a call, and nothing where they don't
abbrev pub refusal_explained : List Named → List ℕ → State → ℕ → Call → List ℕ
refusal_explained names line s t call =
    if is_refused (answer s t call) then call_explained names false line s t call else []

-- and the same of a read
abbrev pub read_refusal_explained : List Named → List ℕ → State → Read → List ℕ
read_refusal_explained names line s r =
    if is_refused (query_answer s r.thread r.query) then read_explained names false line s r else []

-- so many lines stand before that of the first call, where line n tells it or is that of a batch
abbrev pub lines_above : ℕ → Bool → ℕ
lines_above n is_batch = if is_batch then n else n - 1

-- those calls of an event that a place names, in the state that the calls before them lead to
abbrev pub event_explained : List Named → Bool → List ℕ → State → Place → Event → List ℕ
event_explained names whole text s place e =
    calls_explained names whole text (state_after s (by e.thread (map (λ a. a.call) (take place.first e.calls)))) e.thread
    (take place.count (drop place.first e.calls))

-- what line n tells, from the state that the events before it lead to
abbrev pub place_explained : List Named → Bool → List ℕ → ℕ → State → List Event → Option Content → Option (List ℕ)
place_explained names whole text n s events None = None
place_explained names whole text n s events (Some (Calls place)) =
    option_map (event_explained names whole (after_lines (lines_above n place.is_batch) text) (state_from s (take place.event events)) place)
    (slice_get events place.event)
place_explained names whole text n s events (Some (Asked read)) =
    Some (read_explained names whole (before_end (after_lines (n - 1) text)) (state_from s (take read.place events)) read.read)

-- what line n of a dump tells, where it tells calls or a read
abbrev pub line_explained : List Named → Bool → List ℕ → DumpLists → ℕ → Option (List ℕ)
line_explained names whole text d n =
    place_explained names whole text n (start_with d.limits d.checkpoint).state d.events (place_at d.checkpoint d.events d.reads n)

-- the text is a dump whose events can begin, and this is told of its line n
abbrev pub Explains : List Named → Bool → List ℕ → ℕ → List ℕ → Type 0
Explains names whole text n told =
    (d : DumpLists) × IsDump text d × (begins d ≡ true) × (line_explained names whole text d n ≡ Some told)

-- Why what a line tells is answered as it is. NoCall: the line tells no call and no read.
abbrev pub IsWhy : List Named → Bool → List ℕ → ℕ → Result (Vec ℕ) ShowFault → Type 0
IsWhy names whole text n (Ok told) = Explains names whole text n told.items
IsWhy names whole text n (Err faults.NoCall) =
    (d : DumpLists) × IsDump text d × (begins d ≡ true) × (line_explained names whole text d n ≡ None)
IsWhy names whole text n (Err fault) = IsWhyNone text fault
