use Rattle.std.proofs.Common.{◌≡◌, map, take}
use Rattle.dump_text.specs.Word.{spoken_pair}
use Rattle.dump_text.proofs.labels.numbered.Given as goal

abbrev pub invariant-loop-pair : goal.invariant-loop-pair
invariant-loop-pair l = map spoken_pair l.pairs ≡ take l.pair-index l.pair-items
