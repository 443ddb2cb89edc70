-- The steps that a page shows: what began, and then one for each event and each read.
use Rattle.std.specs.Prelude.{ℕ, ◌+◌, ◌==◌, Bool, true, false, List, [], ◌∷◌, ◌++◌, map, length, drop, codes, if◌then◌else◌}
use Rattle.call_text.specs.declared.known_names.Named.{Named}
use Rattle.dump_text.specs.Reads.{in_turn}
use Rattle.dump_text.specs.declared.reads.Read.{Read}
use Rattle.dump_text.specs.declared.tables.PlacedRead.{PlacedRead}
use Rattle.kernel_rules.specs.Events.{Event, by, calls_in}
use Rattle.kernel_rules.specs.declared.histories.events.Answered.{Answered}
use Rattle.shown_dumps.specs.Json.{word_data}
use Rattle.shown_dumps.specs.Pieces.{lines_of}
use Rattle.kernel_rules.specs.Runs.{state_after}
use Rattle.kernel_rules.specs.State.{State}
use Rattle.kernel_rules.specs.Step.{next}
use Rattle.kernel_rules.specs.declared.calls.Call.{Call}
use Rattle.call_text.specs.NameLines.{named_line}
use Rattle.page_text.specs.Edits.{Edit, edits}
use Rattle.page_text.specs.Marked.{edit_data}
use Rattle.page_text.specs.Told.{first_of}
use Rattle.serde_json.specs.Data.{Data, array, boolean, object, member, no_members}
use Rattle.serde_json.specs.View.{items_of}
use Rattle.shown_dumps.specs.Explained.{refusal_explained, read_refusal_explained}
use Rattle.shown_dumps.specs.Trees.{named_tree}

-- a line that tells a call, a batch or a read, by names, and why what it tells is refused, which is empty where it isn't
pub record Told : Type 0 where
  pub line : List ℕ
  pub why : List ℕ

-- a line that tells a call of a thread in a state
abbrev pub call_told : List Named → List ℕ → State → ℕ → Call → Told
call_told names line s t call = record { line = named_line names line; why = refusal_explained names line s t call }

-- a line that tells a read in a state
abbrev pub read_told : List Named → List ℕ → State → Read → Told
read_told names line s r = record { line = named_line names line; why = read_refusal_explained names line s r }

-- calls one after another, which these lines tell
abbrev pub calls_told : List Named → List (List ℕ) → State → ℕ → List Answered → List Told
calls_told names lines s t [] = []
calls_told names lines s t (a ∷ more) =
    call_told names (first_of lines) s t a.call ∷ calls_told names (drop 1 lines) (next s t a.call) t more

-- a batch has a line above those of its calls
abbrev pub heads : ℕ → ℕ
heads count = if count == 1 then 0 else 1

abbrev pub head_told : List Named → ℕ → List (List ℕ) → List Told
head_told names count lines =
    if count == 1 then [] else record { line = named_line names (first_of lines); why = [] } ∷ []

-- an event, which these lines tell
abbrev pub event_told : List Named → List (List ℕ) → State → Event → List Told
event_told names lines s e =
    head_told names (length e.calls) lines ++ calls_told names (drop (heads (length e.calls)) lines) s e.thread e.calls

-- the state after an event
abbrev pub event_after : State → Event → State
event_after s e = state_after s (by e.thread (calls_in e))

-- an event or a read, of which each is a step
pub data Turn : Type 0 where
  Made : Event → Turn
  Asked : PlacedRead → Turn

abbrev pub made : Event → List Turn
made e = Made e ∷ []

-- events, and the reads at their places among them
abbrev pub turns : List Event → List PlacedRead → List Turn
turns events reads = in_turn made Asked 0 events reads

-- whether it is a read
abbrev pub asks : Turn → Bool
asks (Made e) = false
asks (Asked r) = true

-- what the first of these lines tell, in a state
abbrev pub turn_told : List Named → List (List ℕ) → State → Turn → List Told
turn_told names lines s (Made e) = event_told names lines s e
turn_told names lines s (Asked r) = read_told names (first_of lines) s r.read ∷ []

-- how many lines tell it
abbrev pub line_count : Turn → ℕ
line_count (Made e) = heads (length e.calls) + length e.calls
line_count (Asked r) = 1

-- the state after it: a read changes nothing
abbrev pub turn_after : State → Turn → State
turn_after s (Made e) = event_after s e
turn_after s (Asked r) = s

-- whether it is a read, the lines of what happened, and the text of the tree before and after it
pub record Step : Type 0 where
  pub is_read : Bool
  pub told : List Told
  pub before : List ℕ
  pub after : List ℕ

abbrev pub step_of : List Named → List (List ℕ) → State → Turn → Step
step_of names lines s t = record {
  is_read = asks t;
  told = turn_told names lines s t;
  before = named_tree names s;
  after = named_tree names (turn_after s t);
}

-- events and reads from a state on, which these lines tell
abbrev pub steps_from : List Named → List (List ℕ) → State → List Turn → List Step
steps_from names lines s [] = []
steps_from names lines s (t ∷ ts) = step_of names lines s t ∷ steps_from names (drop (line_count t) lines) (turn_after s t) ts

-- first nothing is told, and the whole tree comes
abbrev pub first_step : List Named → State → Step
first_step names s = record { is_read = false; told = []; before = []; after = named_tree names s }

abbrev pub steps_of : List Named → List (List ℕ) → State → List Turn → List Step
steps_of names lines s ts = first_step names s ∷ steps_from names lines s ts

-- the edits of a step
abbrev pub step_edits : Step → List Edit
step_edits p = edits 0 (lines_of p.before) (lines_of p.after)

-- the states before, between and after events and reads
abbrev pub states_from : State → List Turn → List State
states_from s [] = s ∷ []
states_from s (t ∷ ts) = s ∷ states_from (turn_after s t) ts

-- the lines of a state's tree
abbrev pub tree_lines : List Named → State → List (List ℕ)
tree_lines names s = lines_of (named_tree names s)

abbrev pub told_data : Told → Data
told_data t =
    object (member (codes "line") (word_data t.line) (member (codes "why") (word_data t.why) no_members))

-- a step, where these objects are reached
abbrev pub step_data : List Named → List ℕ → Step → Data
step_data names reached p =
    object (member (codes "edits") (array (items_of (map (edit_data names reached p.before) (step_edits p))))
    (member (codes "read") (boolean p.is_read)
    (member (codes "told") (array (items_of (map told_data p.told))) no_members)))
