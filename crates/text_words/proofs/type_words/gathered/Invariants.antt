use Rattle.std.proofs.Common.{◌≡◌, take}
use Rattle.text_words.specs.TypeWord.{gathered}
use Rattle.text_words.proofs.type_words.gathered.Given as goal

abbrev pub invariant-loop-letter : goal.invariant-loop-letter
invariant-loop-letter l = l.set ≡ gathered (take l.letter-index l.word)
