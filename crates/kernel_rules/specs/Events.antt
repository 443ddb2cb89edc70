-- Events.
use Rattle.std.specs.Prelude.{ℕ, List, ◌∷◌, [], map}
use Rattle.kernel_rules.specs.declared.calls.Call.{Call}
use Rattle.kernel_rules.specs.declared.replies.Reply.{Reply}
use Rattle.kernel_rules.specs.declared.histories.events.Answered.{Answered}

-- a batch of calls of a thread, which of the thread's it is, from 1, and what each call was answered
pub record Event : Type 0 where
  pub thread : ℕ
  pub number : ℕ
  pub calls : List Answered

abbrev pub told : Call → Reply → Answered
told call reply = record { call = call; reply = reply }

-- each call with the reply in its place
abbrev pub answers : List Call → List Reply → List Answered
answers [] replies = []
answers (c ∷ cs) [] = []
answers (c ∷ cs) (r ∷ rs) = told c r ∷ answers cs rs

-- the calls of a batch
abbrev pub calls_in : Event → List Call
calls_in e = map (λ a. a.call) e.calls

-- and their replies
abbrev pub replies_in : Event → List Reply
replies_in e = map (λ a. a.reply) e.calls

-- calls of one thread
abbrev pub by : ℕ → List Call → List (ℕ × Call)
by thread calls = map (λ c. (thread, c)) calls
