use Rattle.std.proofs.Common.{◌≡◌, ◌++◌, ◌∷◌, List, ℕ, take, ◌∙◌, ap}
use Rattle.std.specs.List.{flat_map}
use Rattle.std.proofs.lemmas.List.{take_all}
use Rattle.text_words.specs.declared.spoken_calls.args.Arg.{Arg}
use Rattle.text_words.specs.Arg.{arg_text}
use Rattle.text_words.specs.Verb.{name_of}
use Rattle.text_words.proofs.SpokenLemmas.{spoken_text_is}
use Rattle.text_words.proofs.spoken_calls.writing.put_spoken.Goals as goal

pub returns : goal.returns
returns c =
    let all : take c.loop-arg.arg-index c.args-arg-items.result.now ≡ c.args.call.now.args =
    take_all c.loop-arg.arg-index c.args-arg-items.result.now c.loop-arg-test.false ∙ c.args-arg-items.ensures.value in
    c.loop-arg.invariant ∙ ap (λ (xs : List Arg). c.args.out.now.items ++ (name_of c.args.call.now.verb ++ flat_map (λ a. 32 ∷ arg_text a) xs)) all
    ∙ ap (λ (x : List ℕ). c.args.out.now.items ++ x) (spoken_text_is (name_of c.args.call.now.verb) c.args.call.now.args)
