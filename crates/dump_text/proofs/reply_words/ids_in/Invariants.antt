use Rattle.std.proofs.Common.{◌≡◌, length, map, take}
use Rattle.dump_text.specs.Word.{args_of}
use Rattle.dump_text.specs.declared.words.Word.TheVariants as words
use Rattle.dump_text.proofs.reply_words.ids_in.Given as goal

abbrev pub invariant-loop-place : goal.invariant-loop-place
invariant-loop-place l = record {
  many : length l.ids ≡ 16;
  told : args_of (map words.Object (take l.place l.ids)) ≡ take l.place l.args;
}
