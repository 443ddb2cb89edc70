-- A worker at its lines: what it is answered to each, and what they leave.
use Rattle.std.specs.Prelude.{ℕ, Bool, true, false, ◌==◌, ◌||◌, ◌&&◌, nat_le, List, [], ◌∷◌, ◌++◌, length}
use Rattle.std.specs.Prelude.{Option, Some, None, Result, Ok, Err, if◌then◌else◌}
use Rattle.std.specs.List.{list_all}
use Rattle.base.specs.declared.ranges.Limits.{Limits}
use Rattle.base.specs.declared.refusals.Refusal.{Refusal}
use Rattle.base.specs.declared.refusals.Refusal.TheVariants.{BadBatch}
use Rattle.kernel_rules.specs.Events.{Event}
use Rattle.kernel_rules.specs.History.{state_of}
use Rattle.kernel_rules.specs.State.{State}
use Rattle.kernel_rules.specs.declared.calls.Call.{Call}
use Rattle.kernel_rules.specs.declared.calls.Query.{Query}
use Rattle.kernel_rules.specs.declared.replies.Reply.{Reply}
use Rattle.kernel_rules.specs.declared.replies.Reply.TheVariants as replies
use Rattle.call_text.specs.Resolve.{resolved}
use Rattle.call_text.specs.declared.asking.Asked.{Asked}
use Rattle.call_text.specs.declared.asking.Asked.TheVariants.{Read, Write}
use Rattle.call_text.specs.declared.known_names.Named.{Named}
use Rattle.call_text.specs.declared.phases.Line.{Line}
use Rattle.script_rules.specs.Asking.{reply_to, state_after, with_calls}
use Rattle.script_rules.specs.Names.{names_after}

-- a line's number, with a reply or the name that is not known
pub record AnsweredLine : Type 0 where
  pub number : ℕ
  pub answer : Result Reply (List ℕ)

-- a query that was answered, after so many events
pub record Seen : Type 0 where
  pub length : ℕ
  pub query : Query
  pub reply : Reply

-- a line that waits for its batch: what it asks, or the first name in it that is not known
pub record Waiting : Type 0 where
  pub number : ℕ
  pub binds : Option (List ℕ)
  pub asks : Result Asked (List ℕ)

-- where a worker stands: what it knows, the lines that wait, and what its lines were told
pub record Stand : Type 0 where
  pub events : List Event
  pub names : List Named
  pub waiting : List Waiting
  pub told : List AnsweredLine
  pub reads : List Seen

abbrev pub told : ℕ → Result Reply (List ℕ) → AnsweredLine
told number answer = record { number = number; answer = answer }

abbrev pub seen : ℕ → Query → Reply → Seen
seen length query reply = record { length = length; query = query; reply = reply }

-- what the rules answer in a state to a line that waits
abbrev pub answer_in : State → ℕ → Result Asked (List ℕ) → Result Reply (List ℕ)
answer_in s thread (Ok asked) = Ok (reply_to s thread asked)
answer_in s thread (Err name) = Err name

-- and the state after it
abbrev pub state_in : State → ℕ → Result Asked (List ℕ) → State
state_in s thread (Ok asked) = state_after s thread asked
state_in s thread (Err name) = s

-- the reads with one more, where a query was answered after so many events
abbrev pub with_read : List Seen → ℕ → Result Asked (List ℕ) → Result Reply (List ℕ) → List Seen
with_read reads length (Ok (Read query)) (Ok reply) = reads ++ seen length query reply ∷ []
with_read reads length (Ok (Read query)) (Err name) = reads
with_read reads length (Ok (Write call)) answer = reads
with_read reads length (Err name) answer = reads

-- a line is told this
abbrev pub tell : Stand → ℕ → Option (List ℕ) → Result Reply (List ℕ) → Stand
tell p number binds answer = record p {
  names = names_after p.names binds answer;
  told = p.told ++ told number answer ∷ [];
}

-- the name that a line binds, where it asks a call
abbrev pub bound_by : Result Asked (List ℕ) → Option (List ℕ) → Option (List ℕ)
bound_by (Ok (Write call)) binds = binds
bound_by (Ok (Read query)) binds = None
bound_by (Err name) binds = None

-- a line that waited is told this
abbrev pub tell_waiting : Stand → Waiting → Result Reply (List ℕ) → Stand
tell_waiting p w answer = record (tell p w.number (bound_by w.asks w.binds) answer) {
  reads = with_read p.reads (length p.events) w.asks answer;
}

-- lines that waited are told what the rules answer, in a state and in those that the lines before leave
abbrev pub tell_all : State → ℕ → Stand → List Waiting → Stand
tell_all s thread p [] = p
tell_all s thread p (w ∷ more) =
    tell_all (state_in s thread w.asks) thread (tell_waiting p w (answer_in s thread w.asks)) more

-- the call that a line asks
abbrev pub call_in : Result Asked (List ℕ) → List Call
call_in (Ok (Write call)) = call ∷ []
call_in (Ok (Read query)) = []
call_in (Err name) = []

-- the calls of lines that wait
abbrev pub calls_of : List Waiting → List Call
calls_of [] = []
calls_of (w ∷ more) = call_in w.asks ++ calls_of more

-- the thread asks what waits: the calls are one event
abbrev pub asked : Limits → ℕ → Stand → Stand
asked limits thread p = record (tell_all (state_of limits p.events) thread p p.waiting) {
  events = with_calls limits thread p.events (calls_of p.waiting);
}

-- it asks no query
abbrev pub is_no_read : Result Asked (List ℕ) → Bool
is_no_read (Ok (Write call)) = true
is_no_read (Ok (Read query)) = false
is_no_read (Err name) = true

-- one line can be asked, and so can up to 16 at once that ask no query. (A script has no others.)
abbrev pub are_batch : List Waiting → Bool
are_batch waiting =
    length waiting == 1 || (nat_le (length waiting) 16 && list_all (λ w. is_no_read w.asks) waiting)

-- each line that waits is refused so
abbrev pub refuse_all : Refusal → Stand → List Waiting → Stand
refuse_all refusal p [] = p
refuse_all refusal p (w ∷ more) = refuse_all refusal (tell p w.number None (Ok (replies.Refused refusal))) more

-- the thread asks what waits, if that is a batch, and no line waits then
abbrev pub make : Limits → ℕ → Stand → Stand
make limits thread p =
    record (if are_batch p.waiting then asked limits thread p else refuse_all BadBatch p p.waiting) { waiting = [] }

-- a line waits, and asks what it means with the names that are known
abbrev pub wait : Stand → Line → Stand
wait p l = record p {
  waiting = p.waiting ++ record {
    number = l.number;
    binds = l.binds;
    asks = resolved l.call p.names;
  } ∷ [];
}

-- what a line is answered of a worker without a seat: what refuses its thread one, or that its name is no thread's
abbrev pub unseated : Option Refusal → List ℕ → Result Reply (List ℕ)
unseated (Some refusal) worker = Ok (replies.Refused refusal)
unseated None worker = Err worker

-- After one more line. A line waits until its batch ends with it.
abbrev pub line_by : Limits → Result ℕ (Option Refusal) → Stand → Line → Stand
line_by limits (Ok thread) p l = if l.more then wait p l else make limits thread (wait p l)
line_by limits (Err refusal) p l = tell p l.number l.binds (unseated refusal l.worker)

-- after several, one after another
abbrev pub lines_by : Limits → Result ℕ (Option Refusal) → Stand → List Line → Stand
lines_by limits seat p [] = p
lines_by limits seat p (l ∷ more) = lines_by limits seat (line_by limits seat p l) more
