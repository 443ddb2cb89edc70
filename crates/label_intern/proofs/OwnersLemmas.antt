-- How the owners of labels change, step by step, and how many they are in all.
use Rattle.std.proofs.Common.{◌≡◌, ◌≢◌, ℕ, zero, suc, ◌+◌, ◌-◌, ◌*◌, ◌<◌, ◌≤◌, Bool, true, false, cond, ◌==◌, nat_lt, List, [], ◌∷◌, length, get_or, set, Option, Some, None, IfSome, IsSome, is_some, refl, sym, ◌∙◌, ap, subst, arith, sum_by, inl, inr, length-set}
use Rattle.std.proofs.lemmas.Bool.{cases_Bool, cases_eq, both_ways, eqb-true, eq-eqb}
use Rattle.std.proofs.lemmas.List.{get_or-set_same, get_or-set_other}
use Rattle.std.proofs.lemmas.List.Sums.{sum_by-cons, sum_by-set}
use Rattle.label_lattice.specs.Label.{LabelValue}
use Rattle.label_intern.specs.declared.held.Held.{Held}
use Rattle.label_intern.specs.Held.{held_at, owners_in, owned, label_in, label_of, fewer, raised, IsInterned}
use Rattle.label_intern.specs.Owners.{one_at, Takes, Lets, release_at}
use Rattle.label_intern.proofs.HeldLemmas.{held_within, held_read, some_within}

-- what the test of two indexes means
pub one_same : (i j : ℕ) → i ≡ j → one_at i j ≡ 1
one_same i j e = ap {B = ℕ} (λ (b : Bool). cond b 1 0) (eq-eqb i j e)

pub one_other : (i j : ℕ) → i ≢ j → one_at i j ≡ 0
one_other i j off =
    let apart : (i == j) ≡ false = elim (cases_Bool (i == j)) [
      | inl is ↦ absurd (off (eqb-true i j is))
      | inr other ↦ other
    ] in
    ap {B = ℕ} (λ (b : Bool). cond b 1 0) apart

pub takes_then : (a b c : List (Option Held)) (m n : ℕ → ℕ) → Takes a b m → Takes b c n → Takes a c (λ i. m i + n i)
takes_then a b c m n f g = record {
  owners = λ i. omega (arith, f.owners i, g.owners i);
  labels = λ i h. g.labels i (omega (arith, f.owners i)) ∙ f.labels i h;
  pool = g.pool ∙ f.pool;
}

pub takes_as : (a b : List (Option Held)) (m n : ℕ → ℕ) → ((i : ℕ) → m i ≡ n i) → Takes a b m → Takes a b n
takes_as a b m n same f = record {
  owners = λ i. f.owners i ∙ ap (λ (k : ℕ). owners_in (held_at a i) + k) (same i);
  labels = f.labels;
  pool = f.pool;
}

pub lets_none : (ls : List (Option Held)) → Lets ls ls (λ i. 0)
lets_none ls = record { owners = λ i. omega arith; labels = λ i h. refl; pool = refl }

pub lets_then : (a b c : List (Option Held)) (m n : ℕ → ℕ) → Lets a b m → Lets b c n → Lets a c (λ i. m i + n i)
lets_then a b c m n f g = record {
  owners = λ i. omega (arith, f.owners i, g.owners i);
  labels = λ i h. g.labels i h ∙ f.labels i (omega (arith, g.owners i));
  pool = g.pool ∙ f.pool;
}

pub lets_as : (a b : List (Option Held)) (m n : ℕ → ℕ) → ((i : ℕ) → m i ≡ n i) → Lets a b m → Lets a b n
lets_as a b m n same f = record {
  owners = λ i. f.owners i ∙ ap (λ (k : ℕ). owners_in (held_at a i) - k) (same i);
  labels = f.labels;
  pool = f.pool;
}

-- an index has one owner more
module _ (ls : List (Option Held)) (j : ℕ) (l : LabelValue) (j_in : j < length ls) (label : IfSome (held_at ls j) (λ h. h.label ≡ l)) where
  abbrev more : List (Option Held)
  more = set ls j (raised (held_at ls j) l)

  raised_here : held_at more j ≡ raised (held_at ls j) l
  raised_here = get_or-set_same ls j (raised (held_at ls j) l) None j_in

  owned_label : (v : Option Held) → IfSome v (λ h. h.label ≡ l) → 0 < owners_in v → l ≡ label_in v
  owned_label None is some = absurd (omega arith)
  owned_label (Some h) is some = sym is

  pub taken_label : label_of more j ≡ l
  taken_label = ap label_in raised_here

  pub taken : Takes ls more (λ i. one_at i j)
  taken = record {
    owners = λ i. elim (cases_eq i j) as (λ _. owners_in (held_at more i) ≡ owners_in (held_at ls i) + one_at i j) [
      | inl same ↦
          let here : owners_in (held_at more i) ≡ owners_in (held_at ls j) + 1
          = ap (λ (k : ℕ). owners_in (held_at more k)) same ∙ ap owners_in raised_here in
          let was : owners_in (held_at ls i) ≡ owners_in (held_at ls j) = ap (λ (k : ℕ). owners_in (held_at ls k)) same in
          omega (arith, here, was, one_same i j same)
      | inr other ↦
          let here : owners_in (held_at more i) ≡ owners_in (held_at ls i)
          = ap owners_in (get_or-set_other ls j i (raised (held_at ls j) l) None other) in
          omega (arith, here, one_other i j other)
    ];
    labels = λ i some. elim (cases_eq i j) as (λ _. label_of more i ≡ label_of ls i) [
      | inl same ↦
          ap (label_of more) same ∙ taken_label
          ∙ owned_label (held_at ls j) label (subst (λ (k : ℕ). 0 < owners_in (held_at ls k)) same some)
          ∙ ap (label_of ls) (sym same)
      | inr other ↦ ap label_in (get_or-set_other ls j i (raised (held_at ls j) l) None other)
    ];
    pool = length-set ls j (raised (held_at ls j) l);
  }

fewer_owners : (h : Held) → owners_in (fewer (Some h)) ≡ h.owners - 1
fewer_owners h =
    elim (nat_lt 1 h.owners)
    as (λ b. nat_lt 1 h.owners ≡ b
    → owners_in (cond b (Some (record { label = h.label; owners = h.owners - 1 })) None) ≡ h.owners - 1) [
      | true ↦ λ is. refl
      | false ↦ λ is. grind arith
    ] refl

fewer_label : (h : Held) → 0 < owners_in (fewer (Some h)) → label_in (fewer (Some h)) ≡ h.label
fewer_label h =
    elim (nat_lt 1 h.owners)
    as (λ b. 0 < owners_in (cond b (Some (record { label = h.label; owners = h.owners - 1 })) None)
    → label_in (cond b (Some (record { label = h.label; owners = h.owners - 1 })) None) ≡ h.label) [
      | true ↦ λ more. refl
      | false ↦ λ more. absurd (omega arith)
    ]

-- an index has one owner less
module _ (ls : List (Option Held)) (j : ℕ) (h : Held) (at : held_at ls j ≡ Some h) where
  abbrev less : List (Option Held)
  less = set ls j (fewer (Some h))

  fewer_here : held_at less j ≡ fewer (Some h)
  fewer_here = get_or-set_same ls j (fewer (Some h)) None (held_within ls j h at)

  let_one : Lets ls less (λ i. one_at i j)
  let_one = record {
    owners = λ i. elim (cases_eq i j) as (λ _. owners_in (held_at less i) ≡ owners_in (held_at ls i) - one_at i j) [
      | inl same ↦
          let here : owners_in (held_at less i) ≡ h.owners - 1
          = ap (λ (k : ℕ). owners_in (held_at less k)) same ∙ ap owners_in fewer_here ∙ fewer_owners h in
          let was : owners_in (held_at ls i) ≡ h.owners = ap (λ (k : ℕ). owners_in (held_at ls k)) same ∙ ap owners_in at in
          omega (arith, here, was, one_same i j same)
      | inr other ↦
          let here : owners_in (held_at less i) ≡ owners_in (held_at ls i)
          = ap owners_in (get_or-set_other ls j i (fewer (Some h)) None other) in
          omega (arith, here, one_other i j other)
    ];
    labels = λ i some. elim (cases_eq i j) as (λ _. label_of less i ≡ label_of ls i) [
      | inl same ↦
          let new : held_at less i ≡ fewer (Some h) = ap (held_at less) same ∙ fewer_here in
          ap label_in new ∙ fewer_label h (subst (λ (x : Option Held). 0 < owners_in x) new some)
          ∙ sym (ap (label_of ls) same ∙ ap label_in at)
      | inr other ↦ ap label_in (get_or-set_other ls j i (fewer (Some h)) None other)
    ];
    pool = length-set ls j (fewer (Some h));
  }

-- and where there was none, none went
pub release_lets : (ls : List (Option Held)) (j : ℕ) → Lets ls (release_at ls j) (λ i. one_at i j)
release_lets ls j = of (held_at ls j) refl
  where
    of : (v : Option Held) → held_at ls j ≡ v → Lets ls (cond (is_some v) (set ls j (fewer v)) ls) (λ i. one_at i j)
    of None is = record {
      owners = λ i. elim (cases_eq i j) as (λ _. owners_in (held_at ls i) ≡ owners_in (held_at ls i) - one_at i j) [
        | inl same ↦
            let here : owners_in (held_at ls i) ≡ 0 = ap (λ (k : ℕ). owners_in (held_at ls k)) same ∙ ap owners_in is in
            omega arith
        | inr other ↦ omega (arith, one_other i j other)
      ];
      labels = λ i some. refl;
      pool = refl;
    }
    of (Some h) is = let_one ls j h is

-- how many owners there are once an index has one more, or one less
pub owned_more : (ls : List (Option Held)) (j : ℕ) (l : LabelValue) → j < length ls → owned (set ls j (raised (held_at ls j) l)) ≡ owned ls + 1
owned_more ls j l j_in = omega (arith, sum_by-set owners_in ls j (raised (held_at ls j) l) None j_in)

pub owned_less : (ls : List (Option Held)) (j : ℕ) → ((i : ℕ) (h : Held) → held_at ls i ≡ Some h → 0 < h.owners) → IsSome (held_at ls j)
    → owned ls ≡ owned (set ls j (fewer (held_at ls j))) + 1
owned_less ls j some_owner some = of (held_at ls j) refl some
  where
    of : (v : Option Held) → held_at ls j ≡ v → IsSome v → owned ls ≡ owned (set ls j (fewer v)) + 1
    of None is there = absurd (both_ways false refl there)
    of (Some h) is there =
        omega (arith, sum_by-set owners_in ls j (fewer (Some h)) None (held_within ls j h is), ap owners_in is, fewer_owners h, some_owner j h is)

-- what an owner more makes of all owners, as the code has it
pub owned_raised : (slots slots' seen : List (Option Held)) (i : ℕ) (l : LabelValue) (read placed : Option Held) → slots' ≡ slots → slots ≡ seen
    → i < length slots → read ≡ get_or slots' i read → placed ≡ raised read l → owned (set slots' i placed) ≡ owned seen + 1
owned_raised slots slots' seen i l read placed same_slots same_seen i_in is made =
    let read_is : read ≡ get_or slots i read = rw same_slots at is in
    let e : placed ≡ raised (held_at slots i) l = rw (held_read slots i read read i_in read_is refl) made in
    rw (same_slots, e, ← same_seen) (owned_more slots i l i_in)

-- and an owner less
pub owned_fewer : (slots seen : List (Option Held)) (i j : ℕ) (read placed : Option Held) → slots ≡ seen → i ≡ j → IsSome (held_at seen j)
    → read ≡ get_or slots i read → placed ≡ fewer read → IsInterned slots → owned seen ≡ owned (set slots i placed) + 1
owned_fewer slots seen i j read placed same_slots same_i some is made kept =
    let i_in : i < length slots = some_within slots seen i j same_slots same_i some in
    let e : placed ≡ fewer (held_at slots i) = rw (held_read slots i read read i_in is refl) made in
    let there : IsSome (held_at slots i) = rw (same_slots, same_i) some in
    rw (e, ← same_slots) (owned_less slots i kept.has_owner there)

-- n numbers from a on
abbrev pub from : ℕ → ℕ → List ℕ
from a zero = []
from a (suc n) = a ∷ from (suc a) n

owned_is : (labels : List (Option Held)) (a : ℕ) (f : ℕ → ℕ)
    → ((i : ℕ) → i < length labels → owners_in (get_or labels i None) ≡ f (a + i))
    → sum_by owners_in labels ≡ sum_by f (from a (length labels))
owned_is [] a f same = refl
owned_is (x ∷ xs) a f same =
    let here : owners_in x ≡ f a = same 0 (omega arith) ∙ ap f (plain a) in
    let rest : sum_by owners_in xs ≡ sum_by f (from (suc a) (length xs))
    = owned_is xs (suc a) f (λ i lt. same (suc i) (omega arith) ∙ ap f (shifted a i)) in
    let l = sum_by-cons owners_in x xs in
    let r = sum_by-cons f a (from (suc a) (length xs)) in
    omega (arith, here, rest, l, r)
  where
    plain : (n : ℕ) → n + 0 ≡ n
    plain n = omega arith

    shifted : (n i : ℕ) → n + suc i ≡ suc n + i
    shifted n i = omega arith

none_past : (j a n : ℕ) → j < a → sum_by (λ i. one_at i j) (from a n) ≡ 0
none_past j a zero less = refl
none_past j a (suc n) less =
    let l = sum_by-cons (λ i. one_at i j) a (from (suc a) n) in
    omega (arith, one_other a j (λ e. omega arith), l, none_past j (suc a) n (omega arith))

-- of so many indexes at most one is this one
pub one_index : (j a n : ℕ) → sum_by (λ i. one_at i j) (from a n) ≤ 1
one_index j a zero = omega arith
one_index j a (suc n) =
    let l = sum_by-cons (λ i. one_at i j) a (from (suc a) n) in
    elim (cases_eq a j) as (λ _. sum_by (λ i. one_at i j) (from a (suc n)) ≤ 1) [
      | inl same ↦ omega (arith, one_same a j same, l, none_past j (suc a) n (omega arith))
      | inr off ↦ omega (arith, one_other a j off, l, one_index j (suc a) n)
    ]

-- the sum over two lists of a function of both, either way round
sum_plus : {X : Type 0} (f g : X → ℕ) (xs : List X) → sum_by (λ x. f x + g x) xs ≡ sum_by f xs + sum_by g xs
sum_plus f g [] = refl
sum_plus f g (x ∷ xs) =
    omega (arith, sum_by-cons (λ x. f x + g x) x xs, sum_by-cons f x xs, sum_by-cons g x xs, sum_plus f g xs)

-- owners that are counted owner by owner, each owning at most so many labels, are at most so many times the owners
module _ {X : Type 0} (claim : ℕ → X → ℕ) (most : ℕ) where
  claimed : (a n : ℕ) (xs : List X) → ((x : X) → sum_by (λ i. claim i x) (from a n) ≤ most)
      → sum_by (λ i. sum_by (claim i) xs) (from a n) ≤ most * length xs
  claimed a n [] few = omega (arith, all_none a n)
    where
      all_none : (a n : ℕ) → sum_by (λ i. sum_by (claim i) []) (from a n) ≡ 0
      all_none a zero = refl
      all_none a (suc n) = omega (arith, sum_by-cons (λ i. sum_by (claim i) []) a (from (suc a) n), all_none (suc a) n)
  claimed a n (x ∷ xs) few =
      let parts = sum_plus (λ i. claim i x) (λ i. sum_by (claim i) xs) (from a n) in
      let split = spread a n in
      omega (arith, parts, split, few x, claimed a n xs few)
    where
      spread : (a n : ℕ) → sum_by (λ i. sum_by (claim i) (x ∷ xs)) (from a n) ≡ sum_by (λ i. claim i x + sum_by (claim i) xs) (from a n)
      spread a zero = refl
      spread a (suc n) =
          omega (
            arith,
            sum_by-cons (λ i. sum_by (claim i) (x ∷ xs)) a (from (suc a) n),
            sum_by-cons (λ i. claim i x + sum_by (claim i) xs) a (from (suc a) n),
            sum_by-cons (claim a) x xs,
            spread (suc a) n,
          )

  pub owned_most : (labels : List (Option Held)) (xs : List X) → ((n : ℕ) (x : X) → sum_by (λ i. claim i x) (from 0 n) ≤ most)
      → ((i : ℕ) → owners_in (held_at labels i) ≡ sum_by (claim i) xs) → owned labels ≤ most * length xs
  owned_most labels xs few count =
      let a = owned_is labels 0 (λ i. sum_by (claim i) xs) (λ i lt. count i ∙ ap (λ (k : ℕ). sum_by (claim k) xs) (plain i)) in
      omega (arith, a, claimed 0 (length labels) xs (few (length labels)))
    where
      plain : (i : ℕ) → i ≡ 0 + i
      plain i = omega arith
