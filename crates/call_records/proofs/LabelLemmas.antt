-- The pairs of a record, place by place.
use Rattle.std.proofs.Common.{◌≡◌, ℕ, zero, suc, ◌+◌, ◌<◌, List, [], ◌∷◌, ◌++◌, Option, Some, None, option_map, length, take, set, get_or, refl, ap, sym, ◌∙◌, add-one, arith}
use Rattle.std.proofs.Math.Seq.{take-suc}
use Rattle.std.specs.Option.{option_and_then}
use Rattle.base.specs.declared.levels.Level.{Level}
use Rattle.label_lattice.specs.declared.pairings.Pair.{Pair}
use Rattle.call_records.specs.Labels.{level_of, pair_of, pairs_of}

-- the pairs before a place, and then those from there on
abbrev pub after : List Pair → Option (List Pair) → Option (List Pair)
after ps rest = option_map (λ qs. ps ++ qs) rest

-- the pairs, and then one more
abbrev pub with_last : Option (List Pair) → Pair → Option (List Pair)
with_last ps p = option_map (λ qs. qs ++ p ∷ []) ps

-- the pair, and then the others
abbrev pub with_first : Option Pair → Option (List Pair) → Option (List Pair)
with_first p rest = option_and_then (λ q. option_map (λ qs. q ∷ qs) rest) p

-- the last pair may be put there before the first
first_last : (p : Option Pair) (rest : Option (List Pair)) (q : Pair)
    → with_first p (with_last rest q) ≡ with_last (with_first p rest) q
first_last None rest q = refl
first_last (Some p) None q = refl
first_last (Some p) (Some qs) q = refl

-- one more pair is written
pub one_more : (levels categories : List ℕ) (k n c : ℕ) (l : Level)
    → k < length levels → k < length categories → level_of n ≡ Some l
    → pairs_of (take (suc k) (set levels k n)) (set categories k c)
    ≡ with_last (pairs_of (take k levels) categories) (record { category = record { 0 = c }; level = l })
one_more [] cs k n c l few fits is = absurd (omega arith)
one_more (x ∷ xs) [] k n c l few fits is = absurd (omega arith)
one_more (x ∷ xs) (y ∷ ys) zero n c l few fits is = rw is refl
one_more (x ∷ xs) (y ∷ ys) (suc k) n c l few fits is =
    ap (with_first (pair_of x y)) (one_more xs ys k n c l (omega arith) (omega arith) is)
    ∙ first_last (pair_of x y) (pairs_of (take k xs) ys) (record { category = record { 0 = c }; level = l })

-- the pair at a place is written
pub written : (levels categories : List ℕ) (k n : ℕ) (ps : List Pair) (d : Pair)
    → k < length levels → k < length categories → k < length ps
    → level_of n ≡ Some (get_or ps k d).level
    → pairs_of (take k levels) categories ≡ Some (take k ps)
    → pairs_of (take (k + 1) (set levels k n)) (set categories k (get_or ps k d).category.0)
    ≡ Some (take (k + 1) ps)
written levels categories k n ps d few fits within is before =
    let p : Pair = get_or ps k d in
    rw add-one
    (one_more levels categories k n p.category.0 p.level few fits is
    ∙ (ap (λ qs. with_last qs p) before ∙ ap Some (sym (take-suc ps k d within))))
