use Rattle.std.proofs.Common.{◌≡◌, ◌<◌, drop}
use Rattle.shown_dumps.specs.Colours.{hue_from}
use Rattle.shown_dumps.proofs.tree.colours.hue_of.Given as goal

abbrev pub invariant-loop-byte : goal.invariant-loop-byte
invariant-loop-byte l = record {
  told : hue_from l.hue (drop l.byte-index l.word) ≡ hue_from 0 l.fn.word;
  bound : l.hue < 6;
}
