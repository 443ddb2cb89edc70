-- What holds of all records.
use Rattle.std.specs.Prelude.{◌≡◌, Some, None}
use Rattle.kernel_rules.specs.declared.calls.Call.{Call}
use Rattle.kernel_rules.specs.declared.replies.Reply.{Reply}
use Rattle.call_records.specs.declared.records.Answer.{Answer}
use Rattle.call_records.specs.declared.records.Request.{Request}
use Rattle.call_records.specs.Calls.{call_of}
use Rattle.call_records.specs.Queries.{query_of}
use Rattle.call_records.specs.Told.{Tells}

-- an answer tells one reply, so equal answers come from equal replies
abbrev pub AnswersTellOneReply : Type 0
AnswersTellOneReply = (r s : Reply) (a : Answer) → Tells r a → Tells s a → r ≡ s

-- what asks for a write call asks for no read call
abbrev pub WritesAreNoReads : Type 0
WritesAreNoReads = (r : Request) (c : Call) → call_of r ≡ Some c → query_of r ≡ None
