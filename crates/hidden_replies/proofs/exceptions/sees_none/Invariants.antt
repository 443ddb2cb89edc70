use Rattle.std.proofs.Common.{◌≡◌, not, drop}
use Rattle.std.specs.List.{list_all}
use Rattle.hidden_replies.specs.Exceptions.{is_seen}
use Rattle.plain_state.specs.StateOf.{state_of}
use Rattle.hidden_replies.proofs.exceptions.sees_none.Given as goal

abbrev pub invariant-loop-id : goal.invariant-loop-id
invariant-loop-id l =
    list_all (λ o. not (is_seen l.label (state_of l.state) o)) l.ids
    ≡ list_all (λ o. not (is_seen l.label (state_of l.state) o)) (drop l.id-index l.ids)
