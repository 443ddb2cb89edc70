use Rattle.std.proofs.Common.{length}
use Rattle.text_words.proofs.PairLemmas.{PairsRead}
use Rattle.text_words.proofs.spoken_labels.read_inside.Given as goal

abbrev pub invariant-loop-part : goal.invariant-loop-part
invariant-loop-part l = PairsRead l.text l.pairs.items l.rest

abbrev pub decreases-loop-part : goal.decreases-loop-part
decreases-loop-part l = length l.rest
