use Rattle.std.proofs.Common.{◌≡◌, ◌++◌}
use Rattle.std.specs.List.{flat_map}
use Rattle.kernel_rules.specs.Scratch.{ids_of}
use Rattle.plain_state.specs.StateOf.{state_of}
use Rattle.shown_dumps.specs.Objects.{other_one, others_text}
use Rattle.shown_dumps.proofs.tree.objects.put_others.Given as goal

abbrev pub invariant-loop-id : goal.invariant-loop-id
invariant-loop-id l =
    l.out.items ++ flat_map (other_one l.names (state_of l.state) l.place) (ids_of l.id-iterator)
    ≡ l.fn.out.items ++ others_text l.names (state_of l.state) l.place
