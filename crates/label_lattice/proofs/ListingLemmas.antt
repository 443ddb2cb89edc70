-- Labels that the order of a list of labels ties are one.
use Rattle.std.proofs.Common.{◌≡◌, List, [], ◌∷◌, refl, sym, ap, ◌∙◌, true≢false}
use Rattle.std.specs.declared.cmp.Ordering.{Ordering}
use Rattle.std.specs.declared.cmp.Ordering.TheVariants.{Less, Equal, Greater}
use Rattle.std.specs.Ordering.{nat_cmp, ordering_then, is_lt, is_gt}
use Rattle.std.specs.Cmp.{nat_cmp_total, tied_itself}
use Rattle.std.specs.Cmp.Lexicographic.{slice_cmp}
use Rattle.std.proofs.lemmas.Map.Lookups.{CmpEqualImpliesEq, exact_unsigned}
use Rattle.base.specs.Level.{rank_of}
use Rattle.label_lattice.specs.declared.pairings.Pair.{Pair}
use Rattle.label_lattice.specs.Label.{LabelValue}
use Rattle.label_lattice.specs.Listing.{pair_cmp, label_cmp}
use Rattle.label_lattice.proofs.LabelLemmas.{rank_of-injective, pairs_equal}

both_Equal : (a b : Ordering) → ordering_then a b ≡ Equal → (a ≡ Equal) × (b ≡ Equal)
both_Equal Less b e = absurd (true≢false (ap is_lt e))
both_Equal Equal b e = (refl, e)
both_Equal Greater b e = absurd (true≢false (ap is_gt e))

-- lists are one where their elements are that tie
lists_exact : {K : Type 0} {R : K → K → Ordering} → CmpEqualImpliesEq R
    → CmpEqualImpliesEq (slice_cmp R)
lists_exact g [] [] e = refl
lists_exact g [] (y ∷ ys) e = absurd (true≢false (ap is_lt e))
lists_exact g (x ∷ xs) [] e = absurd (true≢false (ap is_gt e))
lists_exact {R} g (x ∷ xs) (y ∷ ys) e =
    let h = both_Equal (R x y) (slice_cmp R xs ys) e in
    λ i. g x y h.0 i ∷ lists_exact g xs ys h.1 i

-- a list ties with itself where its elements do
lists_tied : {K : Type 0} (R : K → K → Ordering) → ((x : K) → R x x ≡ Equal)
    → (xs : List K) → slice_cmp R xs xs ≡ Equal
lists_tied R g [] = refl
lists_tied R g (x ∷ xs) =
    ap (λ r. ordering_then r (slice_cmp R xs xs)) (g x) ∙ lists_tied R g xs

pairs_exact : CmpEqualImpliesEq pair_cmp
pairs_exact p q e =
    let h = both_Equal (nat_cmp p.category.0 q.category.0) _ e in
    pairs_equal p q (exact_unsigned p.category.0 q.category.0 h.0)
    (rank_of-injective p.level q.level (exact_unsigned (rank_of p.level) (rank_of q.level) h.1))

pairs_tied : (p : Pair) → pair_cmp p p ≡ Equal
pairs_tied p =
    ap (λ r. ordering_then r (nat_cmp (rank_of p.level) (rank_of p.level)))
    (tied_itself nat_cmp_total p.category.0) ∙ tied_itself nat_cmp_total (rank_of p.level)

-- labels that tie are one
pub labels_exact : CmpEqualImpliesEq label_cmp
labels_exact a b e =
    let h = both_Equal (nat_cmp (rank_of a.default_level) (rank_of b.default_level)) _ e in
    let d = rank_of-injective a.default_level b.default_level
    (exact_unsigned (rank_of a.default_level) (rank_of b.default_level) h.0) in
    let p = lists_exact pairs_exact a.exceptions b.exceptions h.1 in
    λ i. record { default_level = d i; exceptions = p i }

-- and a label ties with itself
pub labels_tied : (a b : LabelValue) → a ≡ b → label_cmp a b ≡ Equal
labels_tied a b e =
    ap (label_cmp a) (sym e)
    ∙ ap (λ r. ordering_then r (slice_cmp pair_cmp a.exceptions a.exceptions))
    (tied_itself nat_cmp_total (rank_of a.default_level))
    ∙ lists_tied pair_cmp pairs_tied a.exceptions
