use Rattle.std.proofs.Common.{◌≡◌}
use Rattle.std.specs.List.{slice_get}
use Rattle.kernel_rules.specs.Scratch.{ids_of}
use Rattle.plain_state.specs.StateOf.{state_of}
use Rattle.plain_state.proofs.states.PlainState.id_at.Given as goal

abbrev pub invariant-loop-id : goal.invariant-loop-id
invariant-loop-id l =
    slice_get (ids_of l.id-iterator) l.left ≡ slice_get (ids_of (state_of l.self).objects) l.place
