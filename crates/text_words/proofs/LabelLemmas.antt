-- A label's parts between commas, and its pairs one by one.
use Rattle.std.proofs.Common.{◌≡◌, ℕ, true, eqb, List, [], ◌∷◌, ◌++◌, length, take, map, refl, ap, ◌∙◌, sym, arith, append_assoc}
use Rattle.std.specs.List.{slice_split, join_with_byte, flat_map, AllByRecursion}
use Rattle.std.proofs.lemmas.List.{length-append, take_at}
use Rattle.text_words.specs.declared.spoken_labels.SpokenPair.{SpokenPair}
use Rattle.text_words.specs.Reference.{reference_text}
use Rattle.text_words.specs.Lacks.{lacks, AllLack}
use Rattle.text_words.specs.LevelWord.{level_text}
use Rattle.base.specs.declared.levels.Level.{Level}
use Rattle.base.specs.declared.levels.Level.TheVariants.{Star, L0, L1, L2, L3}
use Rattle.text_words.proofs.Split.{split_join}
use Rattle.text_words.proofs.LackLemmas.{reference_lacks, lacks-append}
use Rattle.text_words.specs.Label.{pair_text, IsPair, label_text}

pub level_lacks_comma : (l : Level) → lacks 44 (level_text l) ≡ true
level_lacks_comma Star = refl
level_lacks_comma L0 = refl
level_lacks_comma L1 = refl
level_lacks_comma L2 = refl
level_lacks_comma L3 = refl

pub pair_lacks : (p : SpokenPair) → IsPair p → lacks 44 (pair_text p) ≡ true
pair_lacks p fits = lacks-append 44 (reference_text p.category) (58 ∷ level_text p.level) (reference_lacks 44 p.category (λ d lt e. omega arith) (λ e. omega arith) refl fits) (level_lacks_comma p.level)

parts_lack : (ps : List SpokenPair) (l : Level) → AllByRecursion IsPair ps → AllLack 44 (map pair_text ps ++ level_text l ∷ [])
parts_lack [] l h = (level_lacks_comma l, tt)
parts_lack (p ∷ ps) l h = (pair_lacks p h.0, parts_lack ps l h.1)

pub parts_split : (ps : List SpokenPair) (l : Level) → AllByRecursion IsPair ps → slice_split (λ b. eqb b 44) (join_with_byte 44 (map pair_text ps ++ level_text l ∷ [])) ≡ map pair_text ps ++ level_text l ∷ []
parts_split [] l h = split_join 44 (level_text l) [] (parts_lack [] l h)
parts_split (p ∷ ps) l h = split_join 44 (pair_text p) (map pair_text ps ++ level_text l ∷ []) (parts_lack (p ∷ ps) l h)

-- what was before the same last element
pub before_last : (xs ys : List ℕ) (c : ℕ) → xs ++ c ∷ [] ≡ ys ++ c ∷ [] → xs ≡ ys
before_last xs ys c e =
    let n : length xs ≡ length ys = let k = ap length e in omega (arith, length-append xs (c ∷ []), length-append ys (c ∷ [])) in
    sym (take_at xs (c ∷ []) (length xs) refl) ∙ ap (take (length xs)) e ∙ take_at ys (c ∷ []) (length xs) (sym n)

pub fit_more : (ps : List SpokenPair) (p : SpokenPair) → AllByRecursion IsPair ps → IsPair p → AllByRecursion IsPair (ps ++ p ∷ [])
fit_more [] p h f = (f, tt)
fit_more (q ∷ ps) p h f = (h.0, fit_more ps p h.1 f)

joined_more : (w rest t j : List ℕ) → rest ++ t ≡ j → ((w ++ 44 ∷ []) ++ rest) ++ t ≡ w ++ 44 ∷ j
joined_more w rest t j e = append_assoc (w ++ 44 ∷ []) rest t ∙ append_assoc w (44 ∷ []) (rest ++ t) ∙ ap (λ (x : List ℕ). w ++ 44 ∷ x) e

-- pairs with a comma each, and a last part, are the parts joined by commas
pub label_joined : (ps : List SpokenPair) (t : List ℕ) → flat_map (λ p. pair_text p ++ 44 ∷ []) ps ++ t ≡ join_with_byte 44 (map pair_text ps ++ t ∷ [])
label_joined [] t = refl
label_joined (p ∷ []) t = joined_more (pair_text p) [] t t refl
label_joined (p ∷ q ∷ ps) t = joined_more (pair_text p) (flat_map (λ r. pair_text r ++ 44 ∷ []) (q ∷ ps)) t _ (label_joined (q ∷ ps) t)

-- as the code writes it
pub label_written : (out opened levelled closed : List ℕ) (ps : List SpokenPair) (l : Level) → opened ≡ out ++ 123 ∷ flat_map (λ p. pair_text p ++ 44 ∷ []) ps → levelled ≡ opened ++ level_text l → closed ≡ levelled ++ 125 ∷ []
    → closed ≡ out ++ label_text (record { pairs = ps; default = l })
label_written out opened levelled closed ps l a b c =
    let f : List ℕ = flat_map (λ p. pair_text p ++ 44 ∷ []) ps in
    let k : levelled ≡ out ++ 123 ∷ (f ++ level_text l) = b ∙ ap (λ (x : List ℕ). x ++ level_text l) a ∙ append_assoc out (123 ∷ f) (level_text l) in
    let j : levelled ≡ out ++ 123 ∷ join_with_byte 44 (map pair_text ps ++ level_text l ∷ []) = k ∙ ap (λ (x : List ℕ). out ++ 123 ∷ x) (label_joined ps (level_text l)) in
    c ∙ ap (λ (x : List ℕ). x ++ 125 ∷ []) j ∙ append_assoc out (123 ∷ join_with_byte 44 (map pair_text ps ++ level_text l ∷ [])) (125 ∷ [])
