-- What the lines of a worker were told, as it is kept.
use Rattle.std.specs.Prelude.{◌≡◌, ℕ, ◌<◌, List, [], map, get_or, length, Result, Ok, Err}
use Rattle.std.specs.List.{AllByRecursion}
use Rattle.kernel_rules.specs.declared.replies.Reply.{Reply}
use Rattle.kernel_rules.specs.declared.replies.Reply.TheVariants as replies
use Rattle.call_text.specs.Reply.{making}
use Rattle.script_rules.specs.Lines.{AnsweredLine, Seen, told, seen}
use Rattle.script_runner.specs.declared.answers.KeptAnswer.{KeptAnswer}
use Rattle.script_runner.specs.declared.answers.KeptAnswer.TheVariants as kept
use Rattle.script_runner.specs.declared.answers.ToldLine.{ToldLine}
use Rattle.script_runner.specs.declared.answers.AskedQuery.{AskedQuery}

-- what lines were told, and which queries were answered
pub record LineAnswers : Type 0 where
  pub told : List AnsweredLine
  pub reads : List Seen

-- the reply that is kept so, with the bytes and the whole replies that are kept apart
abbrev pub reply_of : List (List ℕ) → List Reply → KeptAnswer → Reply
reply_of bytes whole kept.Done = replies.Done
reply_of bytes whole (kept.Made value) = making value
reply_of bytes whole (kept.Entered point closure) = replies.Entered point closure
reply_of bytes whole (kept.Quota quota used fixed immutable) = replies.Quota quota used fixed immutable
reply_of bytes whole (kept.Pages pages) = replies.Pages pages
reply_of bytes whole (kept.Bytes place) = replies.Bytes (get_or bytes place [])
reply_of bytes whole (kept.Replied place) = get_or whole place replies.Done
reply_of bytes whole (kept.Refused refusal) = replies.Refused refusal
reply_of bytes whole (kept.Unbound name) = replies.Done

-- the answer that is kept so: that reply, or the name that is not known
abbrev pub answer_of : List (List ℕ) → List Reply → KeptAnswer → Result Reply (List ℕ)
answer_of bytes whole (kept.Unbound name) = Err name
answer_of bytes whole answer = Ok (reply_of bytes whole answer)

-- what is kept apart of it is there, among so many bytes and replies
abbrev pub IsThere : ℕ → ℕ → KeptAnswer → Type 0
IsThere bytes whole (kept.Bytes place) = place < bytes
IsThere bytes whole (kept.Replied place) = place < whole
IsThere bytes whole answer = Unit {0}

-- it is a reply
abbrev pub IsReply : KeptAnswer → Type 0
IsReply (kept.Unbound name) = ⊥
IsReply answer = Unit {0}

abbrev pub told_in : List (List ℕ) → List Reply → ToldLine → AnsweredLine
told_in bytes whole line = told line.number (answer_of bytes whole line.answer)

abbrev pub seen_in : List (List ℕ) → List Reply → AskedQuery → Seen
seen_in bytes whole asked = seen asked.length asked.query (reply_of bytes whole asked.answer)

abbrev pub kept_in : List (List ℕ) → List Reply → List ToldLine → List AskedQuery → LineAnswers
kept_in bytes whole lines asked =
    record { told = map (told_in bytes whole) lines; reads = map (seen_in bytes whole) asked }

-- what is kept apart is there, for each line and each query, and each query was answered by a reply
pub record AreThere (bytes whole : ℕ) (lines : List ToldLine) (asked : List AskedQuery) : Type 0 where
  pub told : AllByRecursion (λ l. IsThere bytes whole l.answer) lines
  pub read : AllByRecursion (λ q. IsThere bytes whole q.answer) asked
  pub replies : AllByRecursion (λ q. IsReply q.answer) asked

-- an answer that is kept stays what it is, with these in place of those
abbrev pub Stays : List (List ℕ) → List Reply → List (List ℕ) → List Reply → KeptAnswer → Type 0
Stays bytes whole more_bytes more_whole answer =
    IsThere (length bytes) (length whole) answer
    → IsThere (length more_bytes) (length more_whole) answer
    × (reply_of more_bytes more_whole answer ≡ reply_of bytes whole answer)

abbrev pub AllStay : List (List ℕ) → List Reply → List (List ℕ) → List Reply → Type 0
AllStay bytes whole more_bytes more_whole = (answer : KeptAnswer) → Stays bytes whole more_bytes more_whole answer

-- the answer keeps the reply
abbrev pub Keeps : List (List ℕ) → List Reply → Reply → KeptAnswer → Type 0
Keeps bytes whole reply answer =
    IsThere (length bytes) (length whole) answer × (answer_of bytes whole answer ≡ Ok reply)
    × (reply_of bytes whole answer ≡ reply)
