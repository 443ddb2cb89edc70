use Rattle.std.proofs.Common.{◌≡◌, ◌++◌, ◌∷◌, take}
use Rattle.std.specs.List.{flat_map}
use Rattle.text_words.specs.Arg.{arg_text}
use Rattle.text_words.specs.Verb.{name_of}
use Rattle.text_words.proofs.spoken_calls.writing.put_spoken.Given as goal

abbrev pub invariant-loop-arg : goal.invariant-loop-arg
invariant-loop-arg l = l.out.items ≡ l.fn.out.items ++ (name_of l.fn.call.verb ++ flat_map (λ a. 32 ∷ arg_text a) (take l.arg-index l.arg-items))
