-- Tables of labels: each label once, in its place.
use Rattle.std.proofs.Common.{◌≡◌, ℕ, suc, ◌+◌, Bool, true, false, cond, ◌||◌, List, [], ◌∷◌, take, drop}
use Rattle.std.proofs.Common.{refl, sym, ap, ◌∙◌, true≢false, arith}
use Rattle.std.specs.declared.cmp.Ordering.{Ordering}
use Rattle.std.specs.declared.cmp.Ordering.TheVariants.{Less, Equal, Greater}
use Rattle.std.specs.Ordering.{is_eq, is_gt, ordering_reverse}
use Rattle.std.specs.Cmp.{IsTotalOrder}
use Rattle.std.specs.List.{AllByRecursion, flat_map, insert, list_any}
use Rattle.std.specs.List.Sorted.{IsStrictlySortedBy}
use Rattle.std.proofs.lemmas.Cmp.{on_total, then_total, lists_total, nat_cmp_total}
use Rattle.std.proofs.lemmas.List.{take-append-drop}
use Rattle.std.proofs.lemmas.List.Folds.{list_any-append}
use Rattle.base.specs.Level.{rank_of}
use Rattle.label_lattice.specs.Label.{LabelValue}
use Rattle.label_lattice.specs.Listing.{pair_cmp, label_cmp}
use Rattle.label_lattice.specs.declared.pairings.Pair.{Pair}
use Rattle.label_lattice.proofs.ListingLemmas.{labels_exact}
use Rattle.kernel_rules.specs.Scratch.{place_of_label, is_stored_in, with_label, with_labels}
use Rattle.kernel_rules.specs.Scratch.{labels_of}
use Rattle.kernel_laws.specs.Laws.{LabelsAreListed}

pairs_total : IsTotalOrder pair_cmp
pairs_total =
    then_total (on_total (λ (p : Pair). p.category.0) nat_cmp_total)
    (on_total (λ (p : Pair). rank_of p.level) nat_cmp_total)

labels_total : IsTotalOrder label_cmp
labels_total =
    then_total (on_total (λ (l : LabelValue). rank_of l.default_level) nat_cmp_total)
    (on_total (λ (l : LabelValue). l.exceptions) (lists_total pairs_total))

-- a label comes before another that comes after it
turned : (l m : LabelValue) → label_cmp l m ≡ Greater → label_cmp m l ≡ Less
turned l m e = labels_total.antisymm m l ∙ ap ordering_reverse e

-- l in its place
put : LabelValue → List LabelValue → List LabelValue
put l [] = l ∷ []
put l (m ∷ ms) = cond (is_gt (label_cmp l m)) (m ∷ put l ms) (l ∷ m ∷ ms)

insert_later : (l m : LabelValue) (ms : List LabelValue) (n : ℕ)
    → insert (m ∷ ms) (n + 1) l ≡ m ∷ insert ms n l
insert_later l m ms n =
    let e : n + 1 ≡ suc n = omega arith in
    ap (λ k. insert (m ∷ ms) k l) e

put_is : (l : LabelValue) (ms : List LabelValue) → insert ms (place_of_label l ms) l ≡ put l ms
unfolding put
put_is l [] = refl
put_is l (m ∷ ms) =
    elim (is_gt (label_cmp l m))
    as (λ b. insert (m ∷ ms) (cond b (place_of_label l ms + 1) 0) l
    ≡ cond b (m ∷ put l ms) (l ∷ m ∷ ms)) [
      | true ↦ insert_later l m ms (place_of_label l ms) ∙ ap (λ t. m ∷ t) (put_is l ms)
      | false ↦ refl
    ]

-- x comes before each of these labels
IsBelow : LabelValue → List LabelValue → Type 0
IsBelow x ms = AllByRecursion (λ y. label_cmp x y ≡ Less) ms

below_put : (x l : LabelValue) (ms : List LabelValue) → IsBelow x ms → label_cmp x l ≡ Less
    → IsBelow x (put l ms)
unfolding put IsBelow
below_put x l [] h e = (e, tt)
below_put x l (m ∷ ms) h e =
    elim (is_gt (label_cmp l m))
    as (λ b. AllByRecursion (λ y. label_cmp x y ≡ Less) (cond b (m ∷ put l ms) (l ∷ m ∷ ms))) [
      | true ↦ (h.0, below_put x l ms h.1 e)
      | false ↦ (e, h)
    ]

below_lower : (x l : LabelValue) (ms : List LabelValue) → label_cmp x l ≡ Less → IsBelow l ms
    → IsBelow x ms
unfolding IsBelow
below_lower x l [] e h = tt
below_lower x l (m ∷ ms) e h = (labels_total.trans x l m e h.0, below_lower x l ms e h.1)

sorted_put : (l : LabelValue) (ms : List LabelValue) → IsStrictlySortedBy label_cmp ms
    → is_stored_in l ms ≡ false → IsStrictlySortedBy label_cmp (put l ms)
unfolding put IsBelow IsStrictlySortedBy
sorted_put l [] h e = (tt, tt)
sorted_put l (m ∷ ms) h e = by (sorted_put l ms h.1) (label_cmp l m) refl
  where
    by : (is_stored_in l ms ≡ false → IsStrictlySortedBy label_cmp (put l ms))
        → (r : Ordering) → label_cmp l m ≡ r
        → IsStrictlySortedBy label_cmp (cond (is_gt (label_cmp l m)) (m ∷ put l ms) (l ∷ m ∷ ms))
    by further Less p = rw p ((p, below_lower l m ms p h.0), h)
    by further Equal p = absurd (true≢false (sym (ap (λ r. is_eq r || is_stored_in l ms) p) ∙ e))
    by further Greater p =
        let rest : is_stored_in l ms ≡ false = sym (ap (λ r. is_eq r || is_stored_in l ms) p) ∙ e in
        rw p (below_put m l ms h.0 (turned l m p), further rest)

sorted_with : (l : LabelValue) (ms : List LabelValue) → IsStrictlySortedBy label_cmp ms
    → IsStrictlySortedBy label_cmp (with_label l ms)
sorted_with l ms h = by (is_stored_in l ms) refl
  where
    by : (b : Bool) → is_stored_in l ms ≡ b → IsStrictlySortedBy label_cmp (with_label l ms)
    by true p = rw p h
    by false p = rw (p, put_is l ms) (sorted_put l ms h p)

sorted_all : (ms ls : List LabelValue) → IsStrictlySortedBy label_cmp ms
    → IsStrictlySortedBy label_cmp (with_labels ms ls)
sorted_all ms [] h = h
sorted_all ms (l ∷ ls) h = sorted_all (with_label l ms) ls (sorted_with l ms h)

or_swapped : (a b c : Bool) → (a || (b || c)) ≡ (b || (a || c))
or_swapped true true c = refl
or_swapped true false c = refl
or_swapped false b c = refl

or_none : (b : Bool) → b ≡ (b || false)
or_none true = refl
or_none false = refl

or_moved : (a b c : Bool) → ((a || b) || c) ≡ (b || (a || c))
or_moved true true c = refl
or_moved true false c = refl
or_moved false b c = refl

-- x is inserted, or stood there
inserted : (x l : LabelValue) (n : ℕ) (ms : List LabelValue)
    → is_stored_in x (insert ms n l) ≡ (is_eq (label_cmp x l) || is_stored_in x ms)
inserted x l n ms =
    let p : LabelValue → Bool = λ m. is_eq (label_cmp x m) in
    list_any-append p (take n ms) (l ∷ drop n ms)
    ∙ or_swapped (list_any p (take n ms)) (p l) (list_any p (drop n ms))
    ∙ ap (λ b. p l || b)
    (sym (list_any-append p (take n ms) (drop n ms)) ∙ ap (list_any p) (take-append-drop n ms))

with_one : (x l : LabelValue) (ms : List LabelValue)
    → is_stored_in x (with_label l ms) ≡ (is_eq (label_cmp x l) || is_stored_in x ms)
with_one x l ms = by (is_stored_in l ms) refl
  where
    eq_is : (r : Ordering) → is_eq r ≡ true → r ≡ Equal
    eq_is Less e = absurd (true≢false (sym e))
    eq_is Equal e = refl
    eq_is Greater e = absurd (true≢false (sym e))

    stood : is_stored_in l ms ≡ true → (b : Bool) → is_eq (label_cmp x l) ≡ b
        → is_stored_in x ms ≡ (b || is_stored_in x ms)
    stood p true e =
        ap (λ y. is_stored_in y ms) (labels_exact x l (eq_is (label_cmp x l) e)) ∙ p
    stood p false e = refl

    by : (b : Bool) → is_stored_in l ms ≡ b
        → is_stored_in x (with_label l ms) ≡ (is_eq (label_cmp x l) || is_stored_in x ms)
    by true p = rw p (stood p (is_eq (label_cmp x l)) refl)
    by false p = rw p (inserted x l (place_of_label l ms) ms)

with_all : (x : LabelValue) (ms ls : List LabelValue)
    → is_stored_in x (with_labels ms ls) ≡ (is_stored_in x ms || is_stored_in x ls)
with_all x ms [] = or_none (is_stored_in x ms)
with_all x ms (l ∷ ls) =
    with_all x (with_label l ms) ls ∙ ap (λ b. b || is_stored_in x ls) (with_one x l ms)
    ∙ or_moved (is_eq (label_cmp x l)) (is_stored_in x ms) (is_stored_in x ls)

pub labels_listed : LabelsAreListed
unfolding IsStrictlySortedBy
labels_listed objects = (
  sorted_all [] (flat_map (λ e. labels_of e.1) objects) tt,
  λ l. with_all l [] (flat_map (λ e. labels_of e.1) objects),
)
