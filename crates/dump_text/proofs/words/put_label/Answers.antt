use Rattle.std.proofs.Common.{◌≡◌, ◌++◌, ◌∷◌, [], List, take, map, ◌∙◌, ap, subst, arith}
use Rattle.std.specs.List.{flat_map, AllByRecursion}
use Rattle.std.proofs.lemmas.List.{take_all, length-map}
use Rattle.label_lattice.specs.declared.pairings.Pair.{Pair}
use Rattle.text_words.specs.Label.{pair_text, IsPair}
use Rattle.text_words.proofs.LabelLemmas.{label_written}
use Rattle.dump_text.specs.Word.{spoken_pair}
use Rattle.dump_text.proofs.WordLemmas.{pairs_fit}
use Rattle.dump_text.proofs.words.put_label.Goals as goal

pub returns-clause-text : goal.returns-clause-text
returns-clause-text c =
    let all : take c.loop-place.place c.args.label.now.pairs ≡ c.args.label.now.pairs =
    take_all c.loop-place.place c.args.label.now.pairs (rw c.len-place-end.ensures.value at c.loop-place-test.false) in
    let opened : c.loop-place.out.items ≡ c.args.out.now.items ++ 123 ∷ flat_map (λ p. pair_text p ++ 44 ∷ []) (map spoken_pair c.args.label.now.pairs) =
    c.loop-place.invariant.text ∙ ap (λ (ps : List Pair). c.args.out.now.items ++ 123 ∷ flat_map (λ p. pair_text p ++ 44 ∷ []) (map spoken_pair ps)) all in
    label_written c.args.out.now.items _ _ _ (map spoken_pair c.args.label.now.pairs) c.args.label.now.default opened c.in_ok-put_level.ensures c.in_ok-push-2.ensures.items

pub returns-clause-fits : goal.returns-clause-fits
returns-clause-fits c =
    let all : take c.loop-place.place c.args.label.now.pairs ≡ c.args.label.now.pairs =
    take_all c.loop-place.place c.args.label.now.pairs (rw c.len-place-end.ensures.value at c.loop-place-test.false) in
    let count = length-map c.args.label.now.pairs spoken_pair in
    let few = c.len-place-end.ensures.few in
    let same = c.len-place-end.ensures.value in
    record {
      pairs = pairs_fit c.args.label.now.pairs (subst (λ (ps : List Pair). AllByRecursion (λ p. IsPair (spoken_pair p)) ps) all c.loop-place.invariant.fits);
      few = omega (arith, count, few, same);
    }
