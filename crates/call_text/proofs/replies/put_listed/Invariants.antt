use Rattle.std.proofs.Common.{◌≡◌, ◌++◌, ◌∷◌, take, map}
use Rattle.call_text.specs.ReplyWord.{words_text}
use Rattle.call_text.specs.declared.reply_words.Head.TheVariants as heads
use Rattle.call_text.specs.declared.reply_words.Word.TheVariants as words
use Rattle.call_text.proofs.replies.put_listed.Given as goal

abbrev pub invariant-loop-id : goal.invariant-loop-id
invariant-loop-id g l = l.out.items ≡ l.fn.out.items ++ words_text (g.K.Known.names l.names) heads.List (words.Number l.fn.count ∷ map words.Object (take l.id-index l.ids))
