-- The calls of a batch after its first.
use Rattle.std.specs.Prelude.{◌≡◌, ◌≤◌, List, [], length, Option, Some, None, Box, vec_capacity}
use Rattle.std.specs.Global.{Global}
use Rattle.kernel_rules.specs.declared.calls.Call.{Call}
use Rattle.kernel_rules.specs.declared.replies.Reply.{Reply}
use Rattle.kernel_rules.specs.Events.{answers}
use Rattle.kernel_rules.specs.declared.histories.events.Answered.{Answered}
use Rattle.kept_events.specs.declared.batches.Rest.{Rest}

abbrev pub rest_calls : Option (Box Rest Global) → List Call
rest_calls None = []
rest_calls (Some apart) = apart.value.calls.items

-- each with its reply
abbrev pub rest_answers : Option (Box Rest Global) → List Answered
rest_answers None = []
rest_answers (Some apart) = answers apart.value.calls.items apart.value.replies.items

abbrev pub rest_replies : Option (Box Rest Global) → List Reply
rest_replies None = []
rest_replies (Some apart) = apart.value.replies.items

-- none has a reply, and there is room for them
abbrev pub IsOpen : Option (Box Rest Global) → Type 0
IsOpen None = Unit {0}
IsOpen (Some apart) =
    (apart.value.replies.items ≡ []) × (length apart.value.calls.items ≤ vec_capacity apart.value.replies)

-- each has a reply
abbrev pub AreAnswered : Option (Box Rest Global) → Type 0
AreAnswered None = Unit {0}
AreAnswered (Some apart) = length apart.value.calls.items ≡ length apart.value.replies.items
