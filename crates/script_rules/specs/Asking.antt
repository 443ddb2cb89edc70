-- What the rules answer to what a thread asks.
use Rattle.std.specs.Prelude.{ℕ, ◌+◌, List, [], ◌∷◌, ◌++◌}
use Rattle.base.specs.declared.ranges.Limits.{Limits}
use Rattle.kernel_rules.specs.Events.{Event}
use Rattle.kernel_rules.specs.History.{answered, count, state_of}
use Rattle.kernel_rules.specs.State.{State}
use Rattle.kernel_rules.specs.Step.{answer, next, query_answer}
use Rattle.kernel_rules.specs.declared.calls.Call.{Call}
use Rattle.kernel_rules.specs.declared.replies.Reply.{Reply}
use Rattle.call_text.specs.declared.asking.Asked.{Asked}
use Rattle.call_text.specs.declared.asking.Asked.TheVariants.{Read, Write}

-- the reply in a state
abbrev pub reply_to : State → ℕ → Asked → Reply
reply_to s thread (Write call) = answer s thread call
reply_to s thread (Read query) = query_answer s thread query

-- the state after it
abbrev pub state_after : State → ℕ → Asked → State
state_after s thread (Write call) = next s thread call
state_after s thread (Read query) = s

-- the events, and that of the thread's calls, if there are calls
abbrev pub with_calls : Limits → ℕ → List Event → List Call → List Event
with_calls limits thread events [] = events
with_calls limits thread events (call ∷ calls) = events ++ record {
  thread = thread;
  number = count thread events + 1;
  calls = answered (state_of limits events) thread (call ∷ calls);
} ∷ []
