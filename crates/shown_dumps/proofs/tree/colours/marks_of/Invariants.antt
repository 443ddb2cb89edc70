use Rattle.std.proofs.Common.{◌≡◌, ◌+◌, ◌≤◌, ◌++◌, length, drop}
use Rattle.shown_dumps.specs.Colours.{marks_from, marks_of}
use Rattle.shown_dumps.proofs.tree.colours.marks_of.Given as goal

abbrev pub invariant-loop-byte : goal.invariant-loop-byte
invariant-loop-byte l = record {
  told : l.marks.items ++ marks_from l.is_owned l.plain l.word.items (drop l.byte-index l.text) ≡ marks_of l.text;
  bound : l.plain + length l.word.items ≤ l.byte-index;
}
