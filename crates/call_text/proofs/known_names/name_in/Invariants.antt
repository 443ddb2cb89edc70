use Rattle.std.proofs.Common.{◌≡◌, drop}
use Rattle.call_text.specs.Known.{name_of}
use Rattle.call_text.proofs.known_names.name_in.Given as goal

abbrev pub invariant-loop-entry : goal.invariant-loop-entry
invariant-loop-entry l = name_of l.value l.named ≡ name_of l.value (drop l.entry-index l.named)
