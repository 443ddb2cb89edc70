-- Labels whose categories are numbers.
use Rattle.std.proofs.Common.{◌≡◌, ℕ, zero, suc, ◌<◌, List, [], ◌∷◌, ◌++◌, length, get_or, map, refl, ap, ◌∙◌, sym, arith, append_assoc}
use Rattle.std.specs.List.{flat_map, join_with_byte, AllByRecursion}
use Rattle.std.proofs.lemmas.List.{append-nil}
use Rattle.label_lattice.specs.declared.pairings.Pair.{Pair}
use Rattle.text_words.specs.declared.references.Reference.TheVariants as references
use Rattle.text_words.specs.declared.spoken_labels.SpokenPair.{SpokenPair}
use Rattle.text_words.specs.Arg.{arg_text, kind_of, FitsArg}
use Rattle.text_words.specs.declared.spoken_calls.args.ArgKind.{ArgKind}
use Rattle.text_words.specs.declared.spoken_calls.verbs.Verb.{Verb}
use Rattle.text_words.specs.Spoken.{AreArgs, IsSpoken, spoken_text}
use Rattle.text_words.specs.Verb.{name_of, kinds_of}
use Rattle.dump_text.specs.declared.words.Word.{Word}
use Rattle.dump_text.specs.Word.{spoken_pair, arg_of, args_of, words_text}
use Rattle.text_words.specs.Label.{IsPair}
use Rattle.dump_text.specs.Call.{spoken_as}

-- no category among them is a name
pub no_name : (ps : List SpokenPair) (i : ℕ) (p : SpokenPair) (name : List ℕ) (qs : List Pair) → i < length ps → p ≡ get_or ps i p → p.category ≡ references.Name name → ps ≡ map spoken_pair qs → ⊥
no_name [] i p name qs lt at is e = omega arith
no_name (x ∷ ps) i p name [] lt at is e = cc
no_name (x ∷ ps) zero p name (q ∷ qs) lt at is e =
    let a : x ≡ spoken_pair q = cc in
    let b : p.category ≡ references.Number q.category.0 = ap (λ (y : SpokenPair). y.category) (at ∙ a) in cc
no_name (x ∷ ps) (suc i) p name (q ∷ qs) lt at is e = no_name ps i p name qs (omega arith) at is cc

-- as the code writes words after a first text
pub words_after : (name : List ℕ) (ws : List Word) → name ++ flat_map (λ w. 32 ∷ arg_text (arg_of w)) ws ≡ join_with_byte 32 (name ∷ map arg_text (args_of ws))
words_after name [] = append-nil name
words_after name (w ∷ ws) = ap (λ (rest : List ℕ). name ++ 32 ∷ rest) (words_after (arg_text (arg_of w)) ws)

-- a text, and then more
pub put_two : (out one two a b : List ℕ) → one ≡ out ++ a → two ≡ one ++ b → two ≡ out ++ (a ++ b)
put_two out one two a b p q = q ∙ ap (λ (xs : List ℕ). xs ++ b) p ∙ append_assoc out a b

pub put_three : (out one two three a b c : List ℕ) → one ≡ out ++ a → two ≡ one ++ b → three ≡ two ++ c → three ≡ out ++ (a ++ (b ++ c))
put_three out one two three a b c p q r = put_two out one three a (b ++ c) p (put_two one two three b c q r)

further-append : (ws vs : List Word) → flat_map (λ w. 32 ∷ arg_text (arg_of w)) ws ++ flat_map (λ w. 32 ∷ arg_text (arg_of w)) vs ≡ flat_map (λ w. 32 ∷ arg_text (arg_of w)) (ws ++ vs)
further-append [] vs = refl
further-append (w ∷ ws) vs =
    append_assoc (32 ∷ arg_text (arg_of w)) (flat_map (λ w. 32 ∷ arg_text (arg_of w)) ws) (flat_map (λ w. 32 ∷ arg_text (arg_of w)) vs)
    ∙ ap (λ (rest : List ℕ). (32 ∷ arg_text (arg_of w)) ++ rest) (further-append ws vs)

spoken_further : (verb : Verb) (ws vs : List Word) → spoken_text (spoken_as verb ws) ++ flat_map (λ w. 32 ∷ arg_text (arg_of w)) vs ≡ spoken_text (spoken_as verb (ws ++ vs))
spoken_further verb ws vs =
    ap (λ (xs : List ℕ). xs ++ flat_map (λ w. 32 ∷ arg_text (arg_of w)) vs) (sym (words_after (name_of verb) ws))
    ∙ append_assoc (name_of verb) (flat_map (λ w. 32 ∷ arg_text (arg_of w)) ws) (flat_map (λ w. 32 ∷ arg_text (arg_of w)) vs)
    ∙ ap (λ (xs : List ℕ). name_of verb ++ xs) (further-append ws vs)
    ∙ words_after (name_of verb) (ws ++ vs)

-- a spoken call, and then further words
pub put_more : (verb : Verb) (ws vs : List Word) (out one two : List ℕ) → one ≡ out ++ spoken_text (spoken_as verb ws) → two ≡ one ++ flat_map (λ w. 32 ∷ arg_text (arg_of w)) vs → two ≡ out ++ spoken_text (spoken_as verb (ws ++ vs))
put_more verb ws vs out one two p q = put_two out one two (spoken_text (spoken_as verb ws)) (flat_map (λ w. 32 ∷ arg_text (arg_of w)) vs) p q ∙ ap (λ (xs : List ℕ). out ++ xs) (spoken_further verb ws vs)

-- words of these kinds, each in its range, are arguments of these kinds
pub words_fit : (ks : List ArgKind) (ws : List Word) → map (λ w. kind_of (arg_of w)) ws ≡ ks → AllByRecursion (λ w. FitsArg (arg_of w)) ws → AreArgs ks (args_of ws)
words_fit [] [] e all = tt
words_fit [] (w ∷ ws) e all = absurd cc
words_fit (k ∷ ks) [] e all = absurd cc
words_fit (k ∷ ks) (w ∷ ws) e all =
    let first : kind_of (arg_of w) ≡ k = cc in
    let more : map (λ x. kind_of (arg_of x)) ws ≡ ks = cc in
    (record { kind_is = first; fits = all.0 }, words_fit ks ws more all.1)

-- a verb with words of its kinds, each in its range
pub spoken_fits : (verb : Verb) (ws : List Word) → map (λ w. kind_of (arg_of w)) ws ≡ kinds_of verb → AllByRecursion (λ w. FitsArg (arg_of w)) ws → IsSpoken (spoken_as verb ws)
spoken_fits verb ws e all = words_fit (kinds_of verb) ws e all

-- pairs whose categories are numbers have a spelling
pub pairs_fit : (ps : List Pair) → AllByRecursion (λ p. IsPair (spoken_pair p)) ps → AllByRecursion IsPair (map spoken_pair ps)
pairs_fit [] all = tt
pairs_fit (p ∷ ps) all = (all.0, pairs_fit ps all.1)

-- a first word, and then further ones
pub put_list : (beginning : List ℕ) (w : Word) (ws : List Word) (out one two : List ℕ) → one ≡ out ++ (beginning ++ words_text (w ∷ []))
    → two ≡ one ++ flat_map (λ v. 32 ∷ arg_text (arg_of v)) ws → two ≡ out ++ (beginning ++ words_text (w ∷ ws))
put_list beginning w ws out one two p q =
    put_two out one two (beginning ++ words_text (w ∷ [])) (flat_map (λ v. 32 ∷ arg_text (arg_of v)) ws) p q
    ∙ ap (λ (xs : List ℕ). out ++ xs) (append_assoc beginning (words_text (w ∷ [])) (flat_map (λ v. 32 ∷ arg_text (arg_of v)) ws)
    ∙ ap (λ (xs : List ℕ). beginning ++ xs) (words_after (arg_text (arg_of w)) ws))
