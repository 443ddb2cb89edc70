-- Rings in which each cell is spare.
use Rattle.std.proofs.Common.{◌≡◌, ◌≢◌, ℕ, zero, suc, ◌+◌, ◌*◌, ◌<◌, inl, inr, List, [], ◌∷◌, ◌++◌, map, length, get_or, set, replicate, refl, sym, ap, ◌∙◌, subst, arith, length-set, get_or-set_other, get_or-set_same}
use Rattle.std.specs.List.{range_with_len}
use Rattle.std.proofs.lemmas.Bool.{cases_eq, cases_lt}
use Rattle.std.proofs.lemmas.List.{get_or-replicate, get_or_past, length-replicate, set-set}
use Rattle.std.proofs.lemmas.List.FromFn.{get_or-range_with_len, length-range_with_len}
use Rattle.containers.proofs.Fresh.{range_push}
use Rattle.containers.specs.Lists.{Lists, empty_lists, family_at, cells_at, list_at, with_list, with_cells, StandsAt, IsLinked, IsWellFormed}
use Rattle.containers.specs.Cells.{Stands, IsPaired, IsSound, IsRecorded}
use Rattle.containers.specs.View.{head_in, lists_of, spare_below, IsKept}
use Rattle.containers.proofs.Counts.{sum_one}
use Rattle.containers.proofs.Moves.{two_cases}

abbrev none : List ℕ
none = []

set_replicate : (n i : ℕ) → set (replicate n none) i [] ≡ replicate n []
set_replicate zero i = refl
set_replicate (suc n) zero = refl
set_replicate (suc n) (suc i) = ap (λ (xs : List (List ℕ)). none ∷ xs) (set_replicate n i)

-- one family of them
abbrev row : ℕ → ℕ → Lists
row size n = with_list (empty_lists size (size + 2)) size (range_with_len 0 n)

pub spare_none : (size : ℕ) → map (empty_lists size) ((size + 2) ∷ (size + 2) ∷ []) ≡ spare_below size 0
spare_none size =
    let put : List (List ℕ) → List Lists = λ ls. (record (empty_lists size (size + 2)) { lists = ls }) ∷ (record (empty_lists size (size + 2)) { lists = ls }) ∷ [] in
    sym (ap put (set_replicate (size + 2) size))

long : (size n : ℕ) → length (row size n).lists ≡ size + 2
long size n = length-set (replicate (size + 2) none) size (range_with_len 0 n) ∙ length-replicate (size + 2) none

own : (size n : ℕ) → list_at (row size n) size ≡ range_with_len 0 n
own size n =
    let in_range : size < length (replicate (size + 2) none) = omega (arith, length-replicate (size + 2) none) in
    get_or-set_same (replicate (size + 2) none) size (range_with_len 0 n) [] in_range

others : (size n h : ℕ) → h ≢ size → list_at (row size n) h ≡ []
others size n h ne = get_or-set_other (replicate (size + 2) none) size h (range_with_len 0 n) [] ne ∙ elim (cases_lt h (size + 2)) [
  | inl lt ↦ get_or-replicate (size + 2) h none [] lt
  | inr le ↦ get_or_past (replicate (size + 2) none) h [] (omega (arith, length-replicate (size + 2) none))
]

-- where a cell stands
at_own : (size n h k c : ℕ) → StandsAt (list_at (row size n) h) k c → (h ≡ size) × (k ≡ c) × (c < n)
at_own size n h k c s = elim (cases_eq h size) [
  | inl e ↦
      let is : list_at (row size n) h ≡ range_with_len 0 n = ap (λ (i : ℕ). list_at (row size n) i) e ∙ own size n in
      let within : k < n = omega (arith, s.within, ap length is, length-range_with_len 0 n) in
      let at : k ≡ c = sym (get_or-range_with_len 0 n k 0 within ∙ omega arith) ∙ sym (ap (λ (xs : List ℕ). get_or xs k 0) is) ∙ s.is in
      (e, at, omega arith)
  | inr ne ↦ absurd (omega (arith, s.within, ap length (others size n h ne)))
]

pub row_free : (size n : ℕ) → IsLinked (row size n) n → ⊥
row_free size n l = let at = at_own size n l.0 l.1 n l.2 in omega (arith, at.2)

row_more : (size n : ℕ) → with_list (row size n) size (list_at (row size n) size ++ n ∷ []) ≡ row size (n + 1)
row_more size n =
    let put : List (List ℕ) → Lists = λ ls. record (empty_lists size (size + 2)) { lists = ls } in
    ap put (set-set (replicate (size + 2) none) size (range_with_len 0 n) (list_at (row size n) size ++ n ∷ [])
    ∙ ap (λ (xs : List ℕ). set (replicate (size + 2) none) size (xs ++ n ∷ [])) (own size n)
    ∙ ap (λ (xs : List ℕ). set (replicate (size + 2) none) size xs) (sym (range_push n)))

-- where the next cell may be put
pub record IsOpen (r : List Lists) (family size n : ℕ) : Type 0 where
  pub head : size < length (family_at r family).lists
  pub cell : n < (family_at r family).cells
  pub free : IsLinked (family_at r family) n → ⊥

row_open : (r : List Lists) (family size n : ℕ) → n < size → family_at r family ≡ row size n → IsOpen r family size n
row_open r family size n lt e = record {
  head = omega (arith, ap (λ (l : Lists). length l.lists) e, long size n);
  cell = omega (arith, ap (λ (l : Lists). l.cells) e);
  free = λ linked. row_free size n (subst (λ (l : Lists). IsLinked l n) e linked);
}

-- the cells are put in both families
pub spare_first : (r r1 : List Lists) (size n : ℕ) → r ≡ spare_below size n → r1 ≡ with_cells r 0 size (cells_at r 0 size ++ n ∷ []) → r1 ≡ row size (n + 1) ∷ row size n ∷ []
spare_first r r1 size n e f =
    f ∙ ap (λ (x : List Lists). with_cells x 0 size (cells_at x 0 size ++ n ∷ [])) e ∙ ap (λ (l : Lists). l ∷ row size n ∷ []) (row_more size n)

pub spare_second : (r r1 r2 : List Lists) (size n : ℕ) → r ≡ spare_below size n → r1 ≡ with_cells r 0 size (cells_at r 0 size ++ n ∷ []) → r2 ≡ with_cells r1 1 size (cells_at r1 1 size ++ n ∷ []) → r2 ≡ spare_below size (n + 1)
spare_second r r1 r2 size n e f g =
    g ∙ ap (λ (x : List Lists). with_cells x 1 size (cells_at x 1 size ++ n ∷ [])) (spare_first r r1 size n e f) ∙ ap (λ (l : Lists). row size (n + 1) ∷ l ∷ []) (row_more size n)

pub open_first : (r : List Lists) (size n : ℕ) → n < size → r ≡ spare_below size n → IsOpen r 0 size n
open_first r size n lt e = row_open r 0 size n lt (ap (λ (x : List Lists). family_at x 0) e)

pub open_second : (r r1 : List Lists) (size n : ℕ) → n < size → r ≡ spare_below size n → r1 ≡ with_cells r 0 size (cells_at r 0 size ++ n ∷ []) → IsOpen r1 1 size n
open_second r r1 size n lt e f = row_open r1 1 size n lt (ap (λ (x : List Lists). family_at x 1) (spare_first r r1 size n e f))

row_well : (size : ℕ) → IsWellFormed (row size size)
row_well size = record {
  in_range = λ h k c s. (at_own size size h k c s).2;
  one_head = λ h g j k c s t. (at_own size size h j c s).0 ∙ sym (at_own size size g k c t).0;
  one_place = λ h j k c s t. (at_own size size h j c s).1 ∙ sym (at_own size size h k c t).1;
  short = λ h. elim (cases_eq h size) [
    | inl e ↦ omega (arith, ap (λ (i : ℕ). length (list_at (row size size) i)) e, ap length (own size size), length-range_with_len 0 size)
    | inr ne ↦ omega (arith, ap length (others size size h ne))
  ];
}

module _ (size root : ℕ) (names : List ℕ) (root_in : root < size) where
  r : List Lists
  r = spare_below size size

  at0 : (h c : ℕ) → Stands (spare_below size size) 0 h c → h ≡ size
  at0 h c s = (at_own size size h s.place c s.stands).0

  at1 : (h c : ℕ) → Stands (spare_below size size) 1 h c → h ≡ size
  at1 h c s = (at_own size size h s.place c s.stands).0

  spare_paired : IsPaired size (spare_below size size)
  spare_paired = record {
    families = refl;
    well = two_cases (λ (g : ℕ). IsWellFormed (family_at (spare_below size size) g)) (row_well size) (row_well size);
    heads = two_cases (λ (g : ℕ). length (family_at (spare_below size size) g).lists ≡ size + 2) (long size size) (long size size);
    cells = two_cases (λ (g : ℕ). (family_at (spare_below size size) g).cells ≡ size) refl refl;
    object_of = λ h c ne s. absurd (ne (at0 h c s));
    holder_of = λ o c ne s. absurd (ne (at1 o c s));
    spare = λ c s. record { place = s.place; stands = s.stands };
  }

  spare_sound : IsSound size root (spare_below size size)
  spare_sound = record {
    paired = spare_paired;
    root_in = root_in;
    root_free = λ c s. (let e : root ≡ size = at1 root c s in omega arith);
    holders = λ d c lt s. absurd (let e : d ≡ size = at0 d c s in omega arith);
    lone = λ o c b dying one two. absurd (let e : size + 1 ≡ size = at0 (size + 1) c dying in omega arith);
  }

  -- the root alone is kept in them
  pub spare_kept : 2 * size + 2 < 18446744073709551616 → length names ≡ size → get_or names root 0 ≡ 1 → IsKept size root (spare_below size size) names (1 ∷ []) (root ∷ [])
  spare_kept fits names_len root_id = record {
    sound = spare_sound;
    calm = λ o y. (let e : size + 1 ≡ size = at0 (size + 1) y.cell y.dying in omega arith);
    simple = λ d o b c l m. absurd (let e : d ≡ size = at0 d b l.held in omega (arith, l.holder));
    directory = record {
      beside = refl;
      rises = λ i j lt within. absurd (omega arith);
      recorded = λ k lt. (let first : 0 ≡ k = omega arith in subst (λ (i : ℕ). IsRecorded size root (spare_below size size) (get_or (root ∷ []) i 0)) first (record { within = root_in; reached = inl refl }));
      name = λ k lt. (let first : 0 ≡ k = omega arith in subst (λ (i : ℕ). get_or names (get_or (root ∷ []) i 0) 0 ≡ get_or (1 ∷ []) i 0) first root_id);
      place = λ o rec. elim rec.reached [
        | inl e ↦ (0, omega arith, sym e)
        | inr b ↦ absurd (let e : o ≡ size = at1 o b.0 b.1 in omega (arith, rec.within))
      ];
    };
    full =
        sum_one (row size size).lists size (omega (arith, long size size)) (others size size)
        ∙ ap length (own size size) ∙ length-range_with_len 0 size;
    fits = omega arith;
    names_len = names_len;
    root_id = root_id;
  }

  pub spare_lists : lists_of (spare_below size size) names (1 ∷ []) (root ∷ []) ≡ (1, []) ∷ []
  spare_lists =
      let ne : root ≢ size = λ (e : root ≡ size). omega arith in
      ap (λ (xs : List ℕ). let e : ℕ × List ℕ = (1, map (λ c. get_or names (head_in (family_at (spare_below size size) 1).lists c) 0) xs) in e ∷ []) (others size size root ne)
