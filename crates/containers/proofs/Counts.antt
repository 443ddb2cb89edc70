-- How many cells are spare.
use Rattle.std.proofs.Common.{◌≡◌, ◌≢◌, ℕ, zero, suc, ◌+◌, ◌<◌, ◌⊎◌, inl, inr, List, [], ◌∷◌, length, get_or, set, refl, sym, ap, ap₂, ◌∙◌, arith, lit<, length-set, get_or-set_other, get_or-set_same}
use Rattle.std.specs.Prelude.{sum_by, All}
use Rattle.std.proofs.lemmas.Bool.{cases_eq, cases_lt}
use Rattle.std.proofs.lemmas.List.{get_or_past, get_or_default, length-map}
use Rattle.std.proofs.lemmas.List.Sums.{sum_by-set, sum_by-cons}
use Rattle.containers.specs.Lists.{Lists, family_at, cells_at, StandsAt}
use Rattle.containers.specs.Cells.{Stands}
use Rattle.containers.specs.Tree.{link_count}
use Rattle.containers.specs.View.{head_in, ids_of, lists_of, IsDrafted}
use Rattle.containers.proofs.Directories.{one_place}

abbrev none : List ℕ
none = []

-- the lists, and none at these places
abbrev emptied : List (List ℕ) → List ℕ → List (List ℕ)
emptied ls [] = ls
emptied ls (s ∷ ss) = emptied (set ls s []) ss

-- how long the lists at these places are
abbrev counted_at : List (List ℕ) → List ℕ → ℕ
counted_at ls ss = sum_by (λ s. length (get_or ls s [])) ss

-- no number comes twice
abbrev Differ : List ℕ → Type 0
Differ [] = Unit {0}
Differ (s ∷ ss) = All (λ t. t ≢ s) ss × Differ ss

length-emptied : (ls : List (List ℕ)) (ss : List ℕ) → length (emptied ls ss) ≡ length ls
length-emptied ls [] = refl
length-emptied ls (s ∷ ss) = length-emptied (set ls s []) ss ∙ length-set ls s none

counted_beside : (ls : List (List ℕ)) (s : ℕ) (ss : List ℕ) → All (λ t. t ≢ s) ss → counted_at (set ls s []) ss ≡ counted_at ls ss
counted_beside ls s [] apart = refl
counted_beside ls s (t ∷ ss) apart =
    sum_by-cons (λ u. length (get_or (set ls s []) u [])) t ss
    ∙ ap₂ (λ (a b : ℕ). a + b) (ap length (get_or-set_other ls s t none [] (apart 0 t (omega arith)))) (counted_beside ls s ss (λ k d lt. apart (suc k) d (omega arith)))
    ∙ sym (sum_by-cons (λ u. length (get_or ls u [])) t ss)

sum_emptied : (ls : List (List ℕ)) (ss : List ℕ) → Differ ss → All (λ s. s < length ls) ss → counted_at ls ss + sum_by length (emptied ls ss) ≡ sum_by length ls
sum_emptied ls [] differ within = omega arith
sum_emptied ls (s ∷ ss) differ within =
    let here : s < length ls = within 0 0 (omega arith) in
    let rest = sum_emptied (set ls s []) ss differ.1 (λ k d lt. let l : get_or ss k d < length ls = within (suc k) d (omega arith) in omega (arith, l, length-set ls s none)) in
    omega (arith, rest, sum_by-cons (λ u. length (get_or ls u [])) s ss, counted_beside ls s ss differ.0, sum_by-set length ls s none none here)

emptied_none : (ls : List (List ℕ)) (ss : List ℕ) (h : ℕ) → get_or ls h [] ≡ [] → get_or (emptied ls ss) h [] ≡ []
emptied_none ls [] h e = e
emptied_none ls (s ∷ ss) h e = emptied_none (set ls s []) ss h (elim (cases_eq h s) [
  | inl same ↦ elim (cases_lt s (length ls)) [
    | inl lt ↦ ap (λ (i : ℕ). get_or (set ls s []) i none) same ∙ get_or-set_same ls s none [] lt
    | inr le ↦ get_or_past (set ls s []) h none (omega (arith, length-set ls s none))
  ]
  | inr ne ↦ get_or-set_other ls s h none [] ne ∙ e
])

emptied_at : (ls : List (List ℕ)) (ss : List ℕ) (k : ℕ) → k < length ss → get_or (emptied ls ss) (get_or ss k 0) [] ≡ []
emptied_at ls [] k lt = absurd (omega arith)
emptied_at ls (s ∷ ss) zero lt = emptied_none (set ls s []) ss s (elim (cases_lt s (length ls)) [
  | inl within ↦ get_or-set_same ls s none [] within
  | inr le ↦ get_or_past (set ls s []) s none (omega (arith, length-set ls s none))
])
emptied_at ls (s ∷ ss) (suc k) lt = emptied_at (set ls s []) ss k (omega arith)

emptied_other : (ls : List (List ℕ)) (ss : List ℕ) (h : ℕ) → All (λ s. s ≢ h) ss → get_or (emptied ls ss) h [] ≡ get_or ls h []
emptied_other ls [] h apart = refl
emptied_other ls (s ∷ ss) h apart =
    emptied_other (set ls s []) ss h (λ k d lt. apart (suc k) d (omega arith))
    ∙ get_or-set_other ls s h none [] (λ (e : h ≡ s). apart 0 0 (omega arith) (sym e))

-- of lists of which one alone may have something
sum_none : (ls : List (List ℕ)) → ((h : ℕ) → get_or ls h [] ≡ []) → sum_by length ls ≡ 0
sum_none [] e = refl
sum_none (xs ∷ xss) e = omega (arith, sum_by-cons length xs xss, ap length (e 0), sum_none xss (λ h. e (suc h)))

pub sum_one : (ls : List (List ℕ)) (i : ℕ) → i < length ls → ((h : ℕ) → h ≢ i → get_or ls h [] ≡ []) → sum_by length ls ≡ length (get_or ls i [])
sum_one ls i lt e =
    let all : (h : ℕ) → get_or (set ls i []) h [] ≡ [] = λ h. elim (cases_eq h i) [
      | inl same ↦ ap (λ (k : ℕ). get_or (set ls i []) k none) same ∙ get_or-set_same ls i none [] lt
      | inr ne ↦ get_or-set_other ls i h none [] ne ∙ e h ne
    ] in
    omega (arith, sum_by-set length ls i none none lt, sum_none (set ls i []) all)

-- a list in which nothing stands
pub list_none : (xs : List ℕ) → ((k c : ℕ) → StandsAt xs k c → ⊥) → xs ≡ []
list_none [] h = refl
list_none (x ∷ xs) h = absurd (h 0 x (record { within = omega arith; is = refl }))

differ_from : (ss : List ℕ) → ((i j : ℕ) → i < j → j < length ss → get_or ss i 0 ≢ get_or ss j 0) → Differ ss
differ_from [] h = tt
differ_from (s ∷ ss) h = (
  (λ k d lt e. h 0 (suc k) (omega arith) (omega arith) (sym (default ss k d lt ∙ e))),
  differ_from ss (λ i j lt within e. h (suc i) (suc j) (omega arith) (omega arith) e),
)
  where
    default : (xs : List ℕ) (k d : ℕ) → k < length xs → get_or xs k 0 ≡ get_or xs k d
    default [] k d lt = absurd (omega arith)
    default (x ∷ xs) zero d lt = refl
    default (x ∷ xs) (suc k) d lt = default xs k d (omega arith)

-- the entries of the slots of a directory
count_lists : (r : List Lists) (names ids slots : List ℕ) → length ids ≡ length slots → link_count (lists_of r names ids slots) ≡ counted_at (family_at r 0).lists slots
count_lists r names [] [] e = refl
count_lists r names [] (s ∷ slots) e = absurd (omega arith)
count_lists r names (i ∷ ids) [] e = absurd (omega arith)
count_lists r names (i ∷ ids) (s ∷ slots) e =
    omega (arith, sum_by-cons (λ (p : ℕ × List ℕ). length p.1) (i, ids_of r names s) (lists_of r names ids slots), sum_by-cons (λ u. length (get_or (family_at r 0).lists u none)) s slots, count_lists r names ids slots (omega arith), length-map (cells_at r 0 s) (λ (c : ℕ). get_or names (head_in (family_at r 1).lists c) 0))

module _ (size root : ℕ) (r : List Lists) (names ids slots : List ℕ) (kept : IsDrafted size root r names ids slots) where
  abbrev ls : List (List ℕ)
  ls = (family_at r 0).lists

  slots_differ : Differ slots
  slots_differ = differ_from slots (λ i j lt within e.
      let i_in : i < length ids = omega (arith, kept.listing.beside) in
      let j_in : j < length ids = omega (arith, kept.listing.beside) in
      let same : get_or ids i 0 ≡ get_or ids j 0 = sym (kept.listing.name i i_in) ∙ ap (λ (s : ℕ). get_or names s 0) e ∙ kept.listing.name j j_in in
      let one : i ≡ j = one_place ids kept.listing.rises i j i_in j_in same in
      absurd (omega arith))

  -- each cell is spare, or an entry of some slot
  below : (s : ℕ) → s < length slots → get_or slots s 0 < size
  below s lt = kept.listing.within s (omega (arith, kept.listing.beside))

  heads : length ls ≡ size + 2
  heads = kept.sound.paired.heads 0 (lit< tt)

  -- where nothing stands but in the slots of the directory and among the spare
  empty_beside : (h : ℕ) → h ≢ size → get_or (emptied ls slots) h [] ≡ []
  empty_beside h ne = elim (cases_lt h size) [
    | inl lt ↦ elim (cases_empty (get_or ls h [])) [
      | inl e ↦ emptied_none ls slots h e
      | inr some ↦
          let rec = kept.sound.holders h (get_or (get_or ls h []) 0 0) lt (record { place = 0; stands = record { within = some; is = refl } }) in
          let p = kept.listing.place h rec in
          ap (λ (i : ℕ). get_or (emptied ls slots) i none) (sym p.2) ∙ emptied_at ls slots p.0 (omega (arith, p.1, kept.listing.beside))
    ]
    | inr le ↦ elim (cases_eq h (size + 1)) [
      | inl e ↦ emptied_none ls slots h (ap (λ (i : ℕ). get_or ls i none) e ∙ list_none (get_or ls (size + 1) []) (λ k c s.
          let st : Stands r 0 (size + 1) c = record { place = k; stands = s } in
          let of = kept.sound.paired.object_of (size + 1) c (λ (x : size + 1 ≡ size). omega arith) st in
          kept.calm of.0 (record { cell = c; dying = st; names = of.2 })))
      | inr far ↦ emptied_none ls slots h (get_or_past ls h none (omega (arith, heads)))
    ]
  ]
    where
      cases_empty : (xs : List ℕ) → (xs ≡ []) ⊎ (0 < length xs)
      cases_empty [] = inl refl
      cases_empty (x ∷ xs) = inr (omega arith)

  -- each cell is spare, or an entry of some slot
  pub count_cells : link_count (lists_of r names ids slots) + length (cells_at r 0 size) ≡ size
  count_cells =
      let within : All (λ s. s < length ls) slots = λ k d lt.
      let le : k < length slots = lt in
      let at : get_or slots k 0 ≡ get_or slots k d = get_or_default slots k 0 d lt in
      omega (arith, at, below k lt, heads) in
      let apart : All (λ s. s ≢ size) slots = λ k d lt e.
      let at : get_or slots k 0 ≡ get_or slots k d = get_or_default slots k 0 d lt in
      absurd (omega (arith, at, below k lt)) in
      let one = sum_one (emptied ls slots) size (omega (arith, length-emptied ls slots, heads)) empty_beside in
      omega (arith, count_lists r names ids slots kept.listing.beside, sum_emptied ls slots slots_differ within, one, ap length (emptied_other ls slots size apart), kept.full)

  -- so one is spare where there are fewer links than cells
  pub some_spare : link_count (lists_of r names ids slots) < size → (cell : ℕ) × Stands r 0 size cell
  some_spare few =
      let some : 0 < length (cells_at r 0 size) = omega (arith, count_cells) in
      (get_or (cells_at r 0 size) 0 0, record { place = 0; stands = record { within = some; is = refl } })
