use Rattle.std.proofs.Common.{◌≡◌, ◌++◌, ◌∷◌, [], take}
use Rattle.std.specs.List.{flat_map}
use Rattle.call_text.specs.ReplyWord.{pair_text}
use Rattle.call_text.proofs.reply_words.put_raw_label.Given as goal

abbrev pub invariant-loop-place : goal.invariant-loop-place
invariant-loop-place g l = l.out.items ≡ l.fn.out.items ++ 123 ∷ flat_map (λ p. pair_text (g.K.Known.names l.names) p ++ 44 ∷ []) (take l.place l.label.pairs)
