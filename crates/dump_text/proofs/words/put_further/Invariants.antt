use Rattle.std.proofs.Common.{◌≡◌, ◌++◌, ◌∷◌, take}
use Rattle.std.specs.List.{flat_map, AllByRecursion}
use Rattle.text_words.specs.Arg.{arg_text, FitsArg}
use Rattle.dump_text.specs.Word.{arg_of}
use Rattle.dump_text.proofs.words.put_further.Given as goal

abbrev pub invariant-loop-word : goal.invariant-loop-word
invariant-loop-word l = record {
  text : l.out.items ≡ l.fn.out.items ++ flat_map (λ w. 32 ∷ arg_text (arg_of w)) (take l.word-index l.words);
  fits : AllByRecursion (λ w. FitsArg (arg_of w)) (take l.word-index l.words);
}
