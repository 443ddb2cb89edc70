-- The entries of the ids up to a place.
use Rattle.std.proofs.Common.{◌≡◌, ℕ, zero, suc, ◌+◌, ◌<◌, inl, inr, Bool, true, cond, ◌==◌, List, [], ◌∷◌, length, get_or, take, All, refl, sym, ap, ◌∙◌, subst, arith}
use Rattle.std.specs.Prelude.{sum_by}
use Rattle.std.proofs.lemmas.Bool.{eqb-true, eq-eqb, cases_Bool}
use Rattle.std.proofs.lemmas.List.Sums.{sum_by_more}
use Rattle.std.proofs.lemmas.List.{length-map}
use Rattle.std.proofs.lemmas.List.Elements.{All-get_or}
use Rattle.base.specs.Live.{has}
use Rattle.containers.specs.Tree.{ids_in, list_of}
use Rattle.containers.proofs.Views.{at_has}

abbrev Table : Type 0
Table = List (ℕ × List ℕ)

-- the numbers rise
abbrev pub Rises : List ℕ → Type 0
Rises xs = (i j : ℕ) → i < j → j < length xs → get_or xs i 0 < get_or xs j 0

-- the list of the id at a place is the one that stands there
pub list_at : (lists : Table) (k : ℕ) (d : ℕ × List ℕ) → Rises (ids_in lists) → k < length lists → list_of lists (get_or (ids_in lists) k 0) ≡ (get_or lists k d).1
list_at [] k d rises lt = absurd (omega arith)
list_at (e ∷ es) zero d rises lt = ap (λ (v : Bool). cond v e.1 (list_of es e.0)) (eq-eqb e.0 e.0 refl)
list_at (e ∷ es) (suc k) d rises lt = elim (cases_Bool (get_or (ids_in es) k 0 == e.0)) [
  | inl same ↦
      let long = length-map es (λ (x : ℕ × List ℕ). x.0) in
      let above : e.0 < get_or (ids_in es) k 0 = rises 0 (suc k) (omega arith) (omega (arith, long)) in
      absurd (omega (arith, eqb-true (get_or (ids_in es) k 0) e.0 same))
  | inr other ↦
      ap (λ (v : Bool). cond v e.1 (list_of es (get_or (ids_in es) k 0))) other
      ∙ list_at es k d (λ i j lt within. rises (suc i) (suc j) (omega arith) (omega arith)) (omega arith)
]

-- how many links the first so many ids have
abbrev pub links_before : Table → ℕ → ℕ
links_before lists k = sum_by (λ (e : ℕ × List ℕ). length e.1) (take k lists)

pub links_at : (lists : Table) (k id : ℕ) → Rises (ids_in lists) → k < length (ids_in lists) → id ≡ get_or (ids_in lists) k 0 → links_before lists (k + 1) ≡ links_before lists k + length (list_of lists id)
links_at lists k id rises lt is =
    let d : ℕ × List ℕ = (0, []) in
    let long = length-map lists (λ (x : ℕ × List ℕ). x.0) in
    let within : k < length lists = omega (arith, long) in
    sum_by_more (λ (e : ℕ × List ℕ). length e.1) lists k d within
    ∙ ap (λ (n : ℕ). links_before lists k + n) (ap (λ (xs : List ℕ). length xs) (sym (ap (λ (i : ℕ). list_of lists i) is ∙ list_at lists k d rises within)))

-- what is below each id is below one that is there
pub above_there : (ids : List ℕ) (d id : ℕ) → has ids d ≡ true → All (λ i. i < id) ids → d < id
above_there ids d id there above =
    let at = at_has ids d there in
    subst (λ (x : ℕ). x < id) at.2 (All-get_or (λ (i : ℕ). i < id) ids at.0 0 at.1 above)
