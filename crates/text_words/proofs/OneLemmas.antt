-- No two values have one spelling.
use Rattle.std.proofs.Common.{◌≡◌, ℕ, zero, suc, Bool, true, false, cond, not, eqb, leb, ◌&&◌, List, [], ◌∷◌, ◌++◌, length, map, refl, ap, ◌∙◌, sym, arith, length-append, decimal}
use Rattle.std.specs.List.{list_all, slice_split, join_with_byte, AllByRecursion}
use Rattle.std.proofs.lemmas.Bool.{leb-true, eqb-false}
use Rattle.std.proofs.lemmas.Fmt.{decimal_injective}
use Rattle.base.specs.declared.levels.Level.{Level}
use Rattle.base.specs.declared.sets.TypeSet.{TypeSet}
use Rattle.text_words.specs.declared.references.Reference.{Reference}
use Rattle.text_words.specs.declared.references.Reference.TheVariants as references
use Rattle.text_words.specs.declared.spoken_labels.SpokenPair.{SpokenPair}
use Rattle.text_words.specs.LevelWord.{level_text}
use Rattle.text_words.specs.Lacks.{lacks}
use Rattle.text_words.specs.Name.{IsName, is_letter, is_name_byte}
use Rattle.text_words.specs.Reference.{reference_text, IsReference}
use Rattle.text_words.specs.Label.{pair_text, IsPair, label_text, IsLabel, LabelValue}
use Rattle.text_words.specs.TypeWord.{letters, letters_of, types_text, or_dash, gathered}
use Rattle.text_words.proofs.Split.{cond_false, both_true}
use Rattle.text_words.proofs.LackLemmas.{reference_lacks}
use Rattle.text_words.proofs.WordLemmas.{level_is_one}
use Rattle.text_words.proofs.LabelLemmas.{parts_split, before_last}

-- a byte that parts two texts, and stands in neither
pub first_part : (c : ℕ) (a b x y : List ℕ) → lacks c a ≡ true → lacks c b ≡ true → a ++ c ∷ x ≡ b ++ c ∷ y → (a ≡ b) × (x ≡ y)
first_part c [] [] x y la lb e = (refl, cc)
first_part c [] (d ∷ b) x y la lb e = absurd (let h : c ≡ d = cc in let p = (cond_false (eqb d c) (lacks c b) lb).0 in eqb-false d c p (sym h))
first_part c (d ∷ a) [] x y la lb e = absurd (let h : d ≡ c = cc in let p = (cond_false (eqb d c) (lacks c a) la).0 in eqb-false d c p h)
first_part c (d ∷ a) (f ∷ b) x y la lb e =
    let p = first_part c a b x y (cond_false (eqb d c) (lacks c a) la).1 (cond_false (eqb f c) (lacks c b) lb).1 cc in
    let h : d ≡ f = cc in
    (cc, p.1)

-- no name begins with #
name_no_hash : (bytes rest : List ℕ) → IsName bytes → bytes ≡ 35 ∷ rest → ⊥
name_no_hash [] rest is e = cc
name_no_hash (b ∷ bytes) rest is e =
    let p = both_true _ (list_all is_name_byte bytes) is in
    let q = both_true (is_letter b) _ p.0 in
    let low = leb-true 97 b (both_true (leb 97 b) _ q.0).0 in
    let h : b ≡ 35 = cc in omega arith

pub reference_is_one : (r s : Reference) → IsReference r → IsReference s → reference_text r ≡ reference_text s → r ≡ s
reference_is_one (references.Number m) (references.Number n) ir is e = ap references.Number (decimal_injective m n ir is cc)
reference_is_one (references.Number m) (references.Name b) ir is e = absurd (name_no_hash b (decimal m) is (sym e))
reference_is_one (references.Name a) (references.Number n) ir is e = absurd (name_no_hash a (decimal n) ir e)
reference_is_one (references.Name a) (references.Name b) ir is e = ap references.Name e

pair_is_one : (p q : SpokenPair) → IsPair p → IsPair q → pair_text p ≡ pair_text q → p ≡ q
pair_is_one p q ip iq e =
    let parts = first_part 58 (reference_text p.category) (reference_text q.category) (level_text p.level) (level_text q.level)
    (reference_lacks 58 p.category (λ d lt k. omega arith) (λ k. omega arith) refl ip) (reference_lacks 58 q.category (λ d lt k. omega arith) (λ k. omega arith) refl iq) e in
    let c = reference_is_one p.category q.category ip iq parts.0 in
    let l = level_is_one p.level q.level parts.1 in
    (λ i. record { category = c i; level = l i })

pairs_are_one : (ps qs : List SpokenPair) (l m : Level) → AllByRecursion IsPair ps → AllByRecursion IsPair qs → map pair_text ps ++ level_text l ∷ [] ≡ map pair_text qs ++ level_text m ∷ [] → (ps ≡ qs) × (l ≡ m)
pairs_are_one [] [] l m hp hq e = (refl, level_is_one l m cc)
pairs_are_one [] (q ∷ qs) l m hp hq e = absurd (let n : suc zero ≡ suc (length (map pair_text qs ++ level_text m ∷ [])) = ap length e in omega (arith, length-append (map pair_text qs) (level_text m ∷ [])))
pairs_are_one (p ∷ ps) [] l m hp hq e = absurd (let n : suc (length (map pair_text ps ++ level_text l ∷ [])) ≡ suc zero = ap length e in omega (arith, length-append (map pair_text ps) (level_text l ∷ [])))
pairs_are_one (p ∷ ps) (q ∷ qs) l m hp hq e =
    let first = pair_is_one p q hp.0 hq.0 cc in
    let rest = pairs_are_one ps qs l m hp.1 hq.1 cc in
    ((λ i. first i ∷ rest.0 i), rest.1)

pub label_is_one : (a b : LabelValue) → IsLabel a → IsLabel b → label_text a ≡ label_text b → a ≡ b
label_is_one a b ia ib e =
    let ja : List ℕ = join_with_byte 44 (map pair_text a.pairs ++ level_text a.default ∷ []) in
    let jb : List ℕ = join_with_byte 44 (map pair_text b.pairs ++ level_text b.default ∷ []) in
    let k : ja ++ 125 ∷ [] ≡ jb ++ 125 ∷ [] = cc in
    let parts : map pair_text a.pairs ++ level_text a.default ∷ [] ≡ map pair_text b.pairs ++ level_text b.default ∷ [] =
    sym (parts_split a.pairs a.default ia.pairs) ∙ ap (slice_split (λ x. eqb x 44)) (before_last ja jb 125 k) ∙ parts_split b.pairs b.default ib.pairs in
    let p = pairs_are_one a.pairs b.pairs a.default b.default ia.pairs ib.pairs parts in
    (λ i. record { pairs = p.0 i; default = p.1 i })

-- the test holds both ways
abbrev pub each_way : (Bool → Bool) → Bool
each_way p = p true && p false

at_way : (p : Bool → Bool) (b : Bool) → each_way p ≡ true → p b ≡ true
at_way p true all = (both_true (p true) (p false) all).0
at_way p false all = (both_true (p true) (p false) all).1

-- the test holds of every set with these kinds, or without them
abbrev pub set_with : Bool → Bool → Bool → Bool → Bool → Bool → TypeSet
set_with c s a t g d = record { container = c; segment = s; address_space = a; thread = t; gate = g; device = d }

abbrev pub on_device : (TypeSet → Bool) → Bool → Bool → Bool → Bool → Bool → Bool
on_device p c s a t g = each_way (λ d. p (set_with c s a t g d))

abbrev pub on_gate : (TypeSet → Bool) → Bool → Bool → Bool → Bool → Bool
on_gate p c s a t = each_way (on_device p c s a t)

abbrev pub on_thread : (TypeSet → Bool) → Bool → Bool → Bool → Bool
on_thread p c s a = each_way (on_gate p c s a)

abbrev pub on_space : (TypeSet → Bool) → Bool → Bool → Bool
on_space p c s = each_way (on_thread p c s)

abbrev pub on_segment : (TypeSet → Bool) → Bool → Bool
on_segment p c = each_way (on_space p c)

-- the test holds of every set of kinds
unfoldable pub of_each_set : (TypeSet → Bool) → Bool
of_each_set p = each_way (on_segment p)

pub at_set : (p : TypeSet → Bool) (set : TypeSet) → of_each_set p ≡ true → p set ≡ true
unfolding of_each_set
at_set p set all =
    let c = set.container in let s = set.segment in let a = set.address_space in let t = set.thread in
    at_way (λ d. p (set_with c s a t set.gate d)) set.device
    (at_way (on_device p c s a t) set.gate (at_way (on_gate p c s a) t (at_way (on_thread p c s) a
    (at_way (on_space p c) s (at_way (on_segment p) c all)))))

abbrev alike : Bool → Bool → Bool
alike a b = cond a b (not b)

alike_same : (a b : Bool) → alike a b ≡ true → a ≡ b
alike_same true true e = refl
alike_same true false e = cc
alike_same false true e = cc
alike_same false false e = refl

abbrev same_sets : TypeSet → TypeSet → Bool
same_sets a b =
    alike a.container b.container && (alike a.segment b.segment && (alike a.address_space b.address_space
    && (alike a.thread b.thread && (alike a.gate b.gate && alike a.device b.device))))

same_set : (a b : TypeSet) → same_sets a b ≡ true → a ≡ b
same_set a b e =
    let p = both_true (alike a.container b.container) _ e in
    let q = both_true (alike a.segment b.segment) _ p.1 in
    let r = both_true (alike a.address_space b.address_space) _ q.1 in
    let u = both_true (alike a.thread b.thread) _ r.1 in
    let v = both_true (alike a.gate b.gate) (alike a.device b.device) u.1 in
    let container = alike_same a.container b.container p.0 in
    let segment = alike_same a.segment b.segment q.0 in
    let space = alike_same a.address_space b.address_space r.0 in
    let thread = alike_same a.thread b.thread u.0 in
    let gate = alike_same a.gate b.gate v.0 in
    let device = alike_same a.device b.device v.1 in
    (λ i. record { container = container i; segment = segment i; address_space = space i; thread = thread i; gate = gate i; device = device i })

-- the letters of a set stand for its kinds
pub set_again : (s : TypeSet) → gathered (letters_of s letters) ≡ s
unfolding of_each_set
set_again s = same_set _ s (at_set (λ x. same_sets (gathered (letters_of x letters)) x) s refl)

or_dash_is_one : (xs ys : List ℕ) → lacks 45 xs ≡ true → lacks 45 ys ≡ true → or_dash xs ≡ or_dash ys → xs ≡ ys
or_dash_is_one [] [] hx hy e = refl
or_dash_is_one [] (y ∷ ys) hx hy e = absurd (let h : y ≡ 45 = cc in eqb-false y 45 (cond_false (eqb y 45) (lacks 45 ys) hy).0 h)
or_dash_is_one (x ∷ xs) [] hx hy e = absurd (let h : x ≡ 45 = cc in eqb-false x 45 (cond_false (eqb x 45) (lacks 45 xs) hx).0 h)
or_dash_is_one (x ∷ xs) (y ∷ ys) hx hy e = e

letters_lack_dash : (s : TypeSet) → lacks 45 (letters_of s letters) ≡ true
unfolding of_each_set
letters_lack_dash s = at_set (λ x. lacks 45 (letters_of x letters)) s refl

pub types_are_one : (a b : TypeSet) → types_text a ≡ types_text b → a ≡ b
types_are_one a b e =
    let k = or_dash_is_one (letters_of a letters) (letters_of b letters) (letters_lack_dash a) (letters_lack_dash b) e in
    sym (set_again a) ∙ ap gathered k ∙ set_again b

pub types_lack_space : (s : TypeSet) → lacks 32 (types_text s) ≡ true
unfolding of_each_set
types_lack_space s = at_set (λ x. lacks 32 (types_text x)) s refl

pub types_lack_end : (s : TypeSet) → lacks 10 (types_text s) ≡ true
unfolding of_each_set
types_lack_end s = at_set (λ x. lacks 10 (types_text x)) s refl
