use Rattle.std.proofs.Common.{◌≡◌, drop}
use Rattle.call_text.specs.Known.{value_of}
use Rattle.call_text.proofs.known_names.value_in.Given as goal

abbrev pub invariant-loop-entry : goal.invariant-loop-entry
invariant-loop-entry l = value_of l.name l.named ≡ value_of l.name (drop l.entry-index l.named)
