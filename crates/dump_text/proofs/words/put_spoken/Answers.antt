use Rattle.std.proofs.Common.{◌++◌, List, ℕ, ◌∙◌, ap}
use Rattle.text_words.specs.Verb.{name_of}
use Rattle.dump_text.proofs.WordLemmas.{words_after, put_two}
use Rattle.dump_text.proofs.words.put_spoken.Goals as goal

pub returns-clause-text : goal.returns-clause-text
returns-clause-text c =
    let named = c.in_ok-extend_from_slice.ensures.items ∙ ap (λ (x : List ℕ). c.args.out.now.items ++ x) (c.as_bytes.ensures.value ∙ c.name.ensures) in
    put_two c.args.out.now.items _ _ (name_of c.args.verb) _ named c.in_ok-put_further.ensures.text
    ∙ ap (λ (x : List ℕ). c.args.out.now.items ++ x) (words_after (name_of c.args.verb) c.args.words.now)
