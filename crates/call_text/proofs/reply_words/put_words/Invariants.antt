use Rattle.std.proofs.Common.{◌≡◌, ◌++◌, ◌∷◌, take}
use Rattle.std.specs.List.{flat_map}
use Rattle.call_text.specs.ReplyWord.{head_text, word_text}
use Rattle.call_text.proofs.reply_words.put_words.Given as goal

abbrev pub invariant-loop-word : goal.invariant-loop-word
invariant-loop-word g l = l.out.items ≡ l.fn.out.items ++ (head_text l.fn.first ++ flat_map (λ w. 32 ∷ word_text (g.K.Known.names l.names) w) (take l.word-index l.more))
