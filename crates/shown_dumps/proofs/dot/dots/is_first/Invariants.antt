use Rattle.std.proofs.Common.{◌≡◌, not}
use Rattle.std.specs.List.{list_any}
use Rattle.kernel_rules.specs.Scratch.{ids_of}
use Rattle.plain_state.specs.StateOf.{state_of}
use Rattle.shown_dumps.specs.Dots.{is_before, is_first}
use Rattle.shown_dumps.proofs.dot.dots.is_first.Given as goal

abbrev pub invariant-loop-id : goal.invariant-loop-id
invariant-loop-id l = is_first (state_of l.state) l.place ≡ not (list_any (is_before (state_of l.state) l.place) (ids_of l.id-iterator))
