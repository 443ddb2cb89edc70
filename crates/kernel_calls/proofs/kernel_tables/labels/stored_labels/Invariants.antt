use Rattle.std.proofs.Common.{◌≡◌, [], take}
use Rattle.std.specs.List.{flat_map}
use Rattle.kernel_rules.specs.Scratch.{with_labels}
use Rattle.kernel_calls.specs.ById.{labels_at}
use Rattle.kernel_calls.proofs.kernel_tables.labels.stored_labels.Given as goal

abbrev pub invariant-loop-id : goal.invariant-loop-id
invariant-loop-id g l =
    l.labels.items ≡ with_labels [] (flat_map (labels_at (g.S.Store.state l.state)) (take l.id-index l.ids))
