-- What is asked in a dump, a call or a read: what it is answered, and what it leads to.
use Rattle.std.specs.Prelude.{ℕ, Bool, true, false, List, []}
use Rattle.std.specs.Str.{bytes_eq}
use Rattle.call_text.specs.Reply.{reply_text}
use Rattle.call_text.specs.declared.asking.Asked.{Asked}
use Rattle.call_text.specs.declared.asking.Asked.TheVariants.{Read, Write}
use Rattle.kernel_rules.specs.State.{State}
use Rattle.kernel_rules.specs.Step.{answer, next, query_answer}
use Rattle.kernel_rules.specs.declared.replies.Reply.{Reply}
use Rattle.hidden_replies.specs.Replies.{same_reply}

abbrev pub is_call : Asked → Bool
is_call (Write call) = true
is_call (Read query) = false

-- the rules' reply
abbrev pub reply_to : State → ℕ → Asked → Reply
reply_to s t (Write call) = answer s t call
reply_to s t (Read query) = query_answer s t query

-- the state after it
abbrev pub state_by : State → ℕ → Asked → State
state_by s t (Write call) = next s t call
state_by s t (Read query) = s

-- two replies to it are the same: those to a read where they are spelled the same
abbrev pub same_by : Asked → Reply → Reply → Bool
same_by (Write call) x y = same_reply x y
same_by (Read query) x y = bytes_eq (reply_text [] x) (reply_text [] y)
