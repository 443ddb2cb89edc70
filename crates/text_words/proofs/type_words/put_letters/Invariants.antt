use Rattle.std.proofs.Common.{◌≡◌, ◌++◌, take}
use Rattle.text_words.specs.TypeWord.{letters_of, letters}
use Rattle.text_words.proofs.type_words.put_letters.Given as goal

abbrev pub invariant-loop-letter : goal.invariant-loop-letter
invariant-loop-letter l = record {
  written : l.out.items ≡ l.fn.out.items ++ letters_of l.set (take l.letter-index l.letter-items);
  table : l.letter-items ≡ letters;
}
