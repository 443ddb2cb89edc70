-- What is looked at in a state before a step.
use Rattle.std.specs.Prelude.{ℕ, Bool, true, false, List, [], if◌then◌else◌}
use Rattle.kernel_rules.specs.State.{State}
use Rattle.kernel_rules.specs.declared.calls.Call.{Call}
use Rattle.kernel_rules.specs.declared.calls.Call.TheVariants as call
use Rattle.kernel_rules.specs.declared.replies.Reply.{Reply}
use Rattle.kernel_rules.specs.declared.replies.Reply.TheVariants as reply
use Rattle.flow_rules.specs.Touched.{owns}

-- the call would enter a gate that owns category c
abbrev pub asks_owner : State → ℕ → Call → Bool
asks_owner s c (call.GateEnter e r q v) = owns s c e.object
asks_owner s c k = false

-- the reply is a refusal
abbrev pub is_refusal : Reply → Bool
is_refusal (reply.Refused r) = true
is_refusal r = false

-- these ids, and none of a refusal
abbrev pub unless : Bool → List ℕ → List ℕ
unless refused ids = if refused then [] else ids
