use Rattle.std.proofs.Common.{◌≡◌, ◌++◌, ◌∷◌, [], take, map}
use Rattle.std.specs.List.{flat_map, AllByRecursion}
use Rattle.text_words.specs.Label.{pair_text, IsPair}
use Rattle.dump_text.specs.Word.{spoken_pair}
use Rattle.dump_text.proofs.words.put_label.Given as goal

abbrev pub invariant-loop-place : goal.invariant-loop-place
invariant-loop-place l = record {
  text : l.out.items ≡ l.fn.out.items ++ 123 ∷ flat_map (λ p. pair_text p ++ 44 ∷ []) (map spoken_pair (take l.place l.label.pairs));
  fits : AllByRecursion (λ p. IsPair (spoken_pair p)) (take l.place l.label.pairs);
}
