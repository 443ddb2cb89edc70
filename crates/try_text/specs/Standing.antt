-- What lines lead to, one after another.
use Rattle.std.specs.Prelude.{ℕ, List, [], ◌∷◌, ◌++◌, Option, Some, None, Result, Ok, Err, slice_get}
use Rattle.base.specs.declared.ranges.Limits.{Limits}
use Rattle.kernel_rules.specs.Runs.{booted}
use Rattle.kernel_rules.specs.State.{State}
use Rattle.kernel_rules.specs.Step.{answer, next, query_answer}
use Rattle.kernel_rules.specs.declared.replies.Reply.{Reply}
use Rattle.kernel_rules.specs.declared.replies.Reply.TheVariants as replies
use Rattle.call_text.specs.Known.{start_values, value_of}
use Rattle.call_text.specs.Resolve.{resolved}
use Rattle.call_text.specs.declared.asking.Asked.{Asked}
use Rattle.call_text.specs.declared.asking.Asked.TheVariants.{Read, Write}
use Rattle.call_text.specs.declared.known_names.Named.{Named}
use Rattle.call_text.specs.declared.known_names.Value.{Value}
use Rattle.call_text.specs.declared.known_names.Value.TheVariants.{Object, Category}
use Rattle.call_text.specs.declared.phases.Line.{Line}
use Rattle.try_text.specs.Stands.{Stands}
use Rattle.try_text.specs.declared.tried_lines.kept.TriedLine.{TriedLine}
use Rattle.try_text.specs.declared.tried_lines.questions.Question.{Question}

-- before the first line
abbrev pub start : Limits → Stands
start limits = record { state = booted limits; names = start_values }

-- what a thread asks
abbrev pub asked_by : ℕ → Asked → Question
asked_by thread asked = record { thread = thread; asked = asked }

-- the thread that a worker is bound to
abbrev pub thread_of : Option Value → Option ℕ
thread_of (Some (Object id)) = Some id
thread_of (Some (Category c)) = None
thread_of None = None

-- what the worker's thread asks, or the first name of the line that is not known, or known as the other kind
abbrev pub question_of : List ℕ → Option ℕ → Result Asked (List ℕ) → Result Question (List ℕ)
question_of worker (Some thread) (Ok asked) = Ok (asked_by thread asked)
question_of worker (Some thread) (Err name) = Err name
question_of worker None asked = Err worker

abbrev pub question : List Named → Line → Result Question (List ℕ)
question names l = question_of l.worker (thread_of (value_of l.worker names)) (resolved l.call names)

-- the rules' reply
abbrev pub reply_by : State → ℕ → Asked → Reply
reply_by s thread (Write call) = answer s thread call
reply_by s thread (Read query) = query_answer s thread query

abbrev pub reply_to : State → Question → Reply
reply_to s q = reply_by s q.thread q.asked

-- the state after it
abbrev pub state_by : State → ℕ → Asked → State
state_by s thread (Write call) = next s thread call
state_by s thread (Read query) = s

abbrev pub state_after : State → Question → State
state_after s q = state_by s q.thread q.asked

-- what a call made that was answered so
abbrev pub made_by : Reply → Option Value
made_by (replies.Category c) = Some (Category c)
made_by (replies.Object id) = Some (Object id)
made_by _ = None

-- the names with one more, where there is one and something was made
abbrev pub with_name : List Named → Option (List ℕ) → Option Value → List Named
with_name names (Some name) (Some value) = names ++ record { name = name; value = value } ∷ []
with_name names None value = names
with_name names (Some name) None = names

-- after a question whose line binds this name
abbrev pub after_question : Stands → Option (List ℕ) → Question → Stands
after_question s binds q = record {
  state = state_after s.state q;
  names = with_name s.names binds (made_by (reply_to s.state q));
}

-- a line that uses an unknown name changes nothing
abbrev pub after_asking : Stands → Option (List ℕ) → Result Question (List ℕ) → Stands
after_asking s binds (Ok q) = after_question s binds q
after_asking s binds (Err name) = s

abbrev pub after_line : Stands → Option (List ℕ) → Option Line → Stands
after_line s binds None = s
after_line s binds (Some l) = after_asking s binds (question s.names l)

-- the first line of a script
abbrev pub first_line : List (List Line) → Option Line
first_line [] = None
first_line (phase ∷ more) = slice_get phase 0

-- after a line that was kept
abbrev pub after_kept : Stands → TriedLine → Stands
after_kept s k = after_line s k.binds (first_line k.script)

-- after several, one after another
abbrev pub after_all : Stands → List TriedLine → Stands
after_all s [] = s
after_all s (k ∷ kept) = after_all (after_kept s k) kept
