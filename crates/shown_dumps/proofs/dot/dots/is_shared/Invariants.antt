use Rattle.std.proofs.Common.{◌≡◌}
use Rattle.std.specs.List.{list_any}
use Rattle.kernel_rules.specs.Scratch.{ids_of}
use Rattle.plain_state.specs.StateOf.{state_of}
use Rattle.shown_dumps.specs.Dots.{is_other, is_shared}
use Rattle.shown_dumps.proofs.dot.dots.is_shared.Given as goal

abbrev pub invariant-loop-id : goal.invariant-loop-id
invariant-loop-id l = is_shared (state_of l.state) l.place ≡ list_any (is_other (state_of l.state) l.place) (ids_of l.id-iterator)
