use Rattle.std.proofs.Common.{◌≡◌, ◌++◌, ◌∷◌, map, take}
use Rattle.std.specs.List.{flat_map, AllByRecursion}
use Rattle.text_words.specs.Arg.{arg_text, FitsArg}
use Rattle.dump_text.specs.Word.{arg_of}
use Rattle.dump_text.specs.declared.words.Word.TheVariants as words
use Rattle.dump_text.proofs.reply_writing.put_ids.Given as goal

abbrev pub invariant-loop-id : goal.invariant-loop-id
invariant-loop-id l = record {
  text : l.out.items ≡ l.fn.out.items ++ flat_map (λ w. 32 ∷ arg_text (arg_of w)) (map words.Object (take l.id-index l.ids));
  fits : AllByRecursion (λ w. FitsArg (arg_of w)) (map words.Object (take l.id-index l.ids));
}
