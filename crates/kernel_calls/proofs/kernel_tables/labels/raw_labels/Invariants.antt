use Rattle.std.proofs.Common.{◌≡◌, map, take}
use Rattle.label_lattice.specs.Raw.{raw_of}
use Rattle.kernel_calls.proofs.kernel_tables.labels.raw_labels.Given as goal

abbrev pub invariant-loop-label : goal.invariant-loop-label
invariant-loop-label l = l.raws.items ≡ map raw_of (take l.label-index l.labels)
