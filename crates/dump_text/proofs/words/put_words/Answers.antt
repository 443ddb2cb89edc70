use Rattle.std.proofs.Common.{◌++◌, List, ℕ, ◌∙◌, ap}
use Rattle.text_words.specs.Arg.{arg_text}
use Rattle.dump_text.specs.Word.{arg_of}
use Rattle.dump_text.proofs.WordLemmas.{words_after, put_three}
use Rattle.dump_text.proofs.words.put_words.Goals as goal

pub returns-clause-text : goal.returns-clause-text
returns-clause-text c =
    put_three c.args.out.now.items _ _ _ c.args.beginning.now (arg_text (arg_of c.args.first.now)) _ c.in_ok-extend_from_slice.ensures.items c.in_ok-put_word.ensures.text c.in_ok-put_further.ensures.text
    ∙ ap (λ (x : List ℕ). c.args.out.now.items ++ (c.args.beginning.now ++ x)) (words_after (arg_text (arg_of c.args.first.now)) c.args.more.now)
