-- A run whose workers take turns, as it stands in memory, and what it leaves.
use Rattle.std.specs.Prelude.{◌≡◌, ℕ, List, [], ◌∷◌, ◌++◌, flat_map, length, map, slice_get, Option, Some, None, IfSome, Result, Ok, Err}
use Rattle.base.specs.declared.ranges.Limits.{Limits}
use Rattle.base.specs.declared.refusals.Refusal.{Refusal}
use Rattle.kernel_rules.specs.Events.{Event}
use Rattle.kernel_rules.specs.declared.replies.Reply.{Reply}
use Rattle.call_text.specs.declared.asking.Asked.{Asked}
use Rattle.call_text.specs.declared.asking.Asked.TheVariants.{Read, Write}
use Rattle.call_text.specs.declared.known_names.Named.{Named}
use Rattle.call_text.specs.declared.phases.Line.{Line}
use Rattle.call_text.specs.Resolve.{resolved}
use Rattle.published_copy.specs.Books.{BookView}
use Rattle.script_rules.specs.Lines.{Stand, Waiting, tell_waiting}
use Rattle.script_rules.specs.Output.{output_text, own}
use Rattle.script_rules.specs.Run.{Run, run, thread_of}
use Rattle.script_rules.specs.Workers.{lines_in, workers_of}
use Rattle.script_runner.specs.Answers.{LineAnswers}
use Rattle.script_runner.specs.Reads.{reads_by, ThreadRead}
use Rattle.script_runner.specs.declared.answers.Left.{Left}
use Rattle.script_runner.specs.declared.batches.Gathered.{Gathered}

-- a line that waits, as it is kept
abbrev pub waiting_in : Gathered → Waiting
waiting_in g = record { number = g.number; binds = g.binds; asks = g.asks }

-- and one that begins to wait, where these names are known
abbrev pub waiting_for : Line → List Named → Waiting
waiting_for l names = record { number = l.number; binds = l.binds; asks = resolved l.call names }

-- where a worker stands, by the journal, the names, the lines that wait and what its lines were told
abbrev pub stand : List Event → List Named → List Gathered → LineAnswers → Stand
stand journal names gathered kept = record {
  events = journal;
  names = names;
  waiting = map waiting_in gathered;
  told = kept.told;
  reads = kept.reads;
}

-- and no line waits
abbrev pub idle : Stand → Stand
idle p = record p { waiting = [] }

-- A line that waited is told the next reply, if it asks a call, and then more are told. Where no reply is left, none is told.
abbrev pub tell_next : (List Reply → Stand → Stand) → List Reply → Stand → Waiting → Result Asked (List ℕ) → Stand
tell_next more [] p w (Ok (Write call)) = p
tell_next more (reply ∷ replies) p w (Ok (Write call)) = more replies (tell_waiting p w (Ok reply))
tell_next more replies p w (Ok (Read query)) = more replies p
tell_next more replies p w (Err name) = more replies (tell_waiting p w (Err name))

-- lines that waited are told these replies, one to each call
abbrev pub tell_with : List Waiting → List Reply → Stand → Stand
tell_with [] replies p = p
tell_with (w ∷ more) replies p = tell_next (tell_with more) replies p w w.asks

-- the thread of a worker that had this one and asks for this seat, and the threads with seats then
abbrev pub thread_after : Option ℕ → Result ℕ (Option Refusal) → Option ℕ
thread_after (Some thread) seat = Some thread
thread_after None (Ok thread) = Some thread
thread_after None (Err refusal) = None

abbrev pub seated_after : List ℕ → Option ℕ → Result ℕ (Option Refusal) → List ℕ
seated_after seated (Some thread) seat = seated
seated_after seated None (Ok thread) = seated ++ thread ∷ []
seated_after seated None (Err refusal) = seated

-- a worker by what it leaves: its thread, what it was told and what it read
pub record IsOwn (worker : List ℕ) (left : Left) (r : Run) : Type 0 where
  pub thread : left.thread ≡ thread_of worker r.seats
  pub told : left.answers.told ≡ own worker r.told
  pub reads : left.answers.reads ≡ own worker r.reads

-- a worker that played nothing
pub record IsUnplayed (left : Left) : Type 0 where
  pub thread : left.thread ≡ None
  pub told : left.answers.told ≡ []
  pub reads : left.answers.reads ≡ []

-- each worker, by its place
abbrev pub AreOwn : List (List ℕ) → List Left → Run → Type 0
AreOwn workers left r = (i : ℕ) → IfSome (slice_get workers i) (λ w. IfSome (slice_get left i) (λ l. IsOwn w l r))

-- the book, the names and the workers of a run so far
pub record IsRun (workers : List (List ℕ)) (book : BookView) (known : List Named) (left : List Left) (r : Run) : Type 0 where
  pub journal : book.journal ≡ r.events
  pub seated : book.seated ≡ map (λ s. s.1) r.seats
  pub names : known ≡ r.names
  pub count : length left ≡ length workers
  pub own : AreOwn workers left r

-- the queries that workers were answered in a run, one worker's after another's
abbrev pub reads_in : Run → List (List ℕ) → List ThreadRead
reads_in r workers = flat_map (λ w. reads_by (thread_of w r.seats) (own w r.reads)) workers

-- what a script leaves is that of its run, and so is what it prints, which names are known at the end, and what was read
pub record IsTurns (limits : Limits) (script : List (List Line)) (text : List ℕ) (made : List Event) (known : List Named)
    (asked : List ThreadRead) : Type 0 where
  pub output : text ≡ output_text script (run limits script)
  pub events : made ≡ (run limits script).events
  pub names : known ≡ (run limits script).names
  pub reads : asked ≡ reads_in (run limits script) (workers_of (lines_in script))
