-- The replies that calls have.
use Rattle.std.specs.Prelude.{Bool, true, false}
use Rattle.kernel_rules.specs.declared.replies.Reply.{Reply}
use Rattle.kernel_rules.specs.declared.replies.Reply.TheVariants as reply
use Rattle.kept_events.specs.declared.replies.Answered.{Answered}
use Rattle.kept_events.specs.declared.replies.Answered.TheVariants as kept

-- of the same name
abbrev pub reply_of : Answered → Reply
reply_of kept.Done = reply.Done
reply_of (kept.Category category) = reply.Category category
reply_of (kept.Object id) = reply.Object id
reply_of (kept.Entered entry_point closure) = reply.Entered entry_point closure
reply_of (kept.Bytes bytes) = reply.Bytes bytes
reply_of (kept.Refused refusal) = reply.Refused refusal

-- a call answers by these, and a query by the others too
abbrev pub is_of_call : Reply → Bool
is_of_call reply.Done = true
is_of_call (reply.Category category) = true
is_of_call (reply.Object id) = true
is_of_call (reply.Entered entry_point closure) = true
is_of_call (reply.Bytes bytes) = true
is_of_call (reply.Own label clearance verify space entry_point closure) = false
is_of_call (reply.Label label) = false
is_of_call (reply.Quota quota used fixed immutable) = false
is_of_call (reply.Listed count ids) = false
is_of_call (reply.Parent id) = false
is_of_call (reply.Pages count) = false
is_of_call (reply.Mapping mapping) = false
is_of_call (reply.Refused refusal) = true
