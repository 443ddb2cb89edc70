use Rattle.std.proofs.Common.{◌≡◌, drop}
use Rattle.text_words.specs.TypeWord.{letters_of, letters}
use Rattle.text_words.proofs.type_words.spells.Given as goal

abbrev pub invariant-loop-letter : goal.invariant-loop-letter
invariant-loop-letter l = record {
  onward : l.word ≡ letters_of l.set letters → l.rest ≡ letters_of l.set (drop l.letter-index l.letter-items);
  back : l.rest ≡ letters_of l.set (drop l.letter-index l.letter-items) → l.word ≡ letters_of l.set letters;
}
