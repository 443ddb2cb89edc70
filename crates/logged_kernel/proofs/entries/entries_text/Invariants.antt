use Rattle.std.proofs.Common.{◌≡◌, take}
use Rattle.std.specs.List.{AllByRecursion, flat_map}
use Rattle.logged_kernel.specs.Entries.{FitsEntry, entry_text}
use Rattle.logged_kernel.proofs.entries.entries_text.Given as goal

abbrev pub invariant-loop-entry : goal.invariant-loop-entry
invariant-loop-entry l = record {
  text : l.out.items ≡ flat_map entry_text (take l.entry-index l.entries);
  fits : AllByRecursion FitsEntry (take l.entry-index l.entries);
}
