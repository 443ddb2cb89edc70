-- The steps on the log keep its rule.
use Rattle.std.proofs.Common.{◌≡◌, ℕ, ◌+◌, ◌<◌, ◌==◌, Bool, true, false, MatchBool, List, [], ◌∷◌, ◌++◌, length, refl, ap, sym, ◌∙◌, subst, arith, inl, Option}
use Rattle.std.proofs.lemmas.List.{append-nil}
use Rattle.std.proofs.lemmas.Bool.Decides.{nat_tests}
use mathlib.Core.List.{IsPrefix}
use prog.Atomic.{either}
use Rattle.logbook.specs.Pages.{Cell, cell, keeps, no_nib, step, Moves, Goes}
use Rattle.published_copy.specs.declared.entries.Entry.{Entry}
use Rattle.published_copy.specs.Entries.{weight, weight_of}
use Rattle.published_copy.specs.Rules.{IsKept, Adds, Looks}
use Rattle.published_copy.proofs.EntryLaws.{weight-append, whole}

abbrev pub shown : List Entry → List Entry
shown log = []

abbrev pub moved : List Entry → List Entry → ℕ → Type 0
moved xs ys n = Unit {0}

pub adds_goes : (log v : List Entry) (e : Entry) (old new : ℕ) (s : Option ℕ) → weight v ≡ old → new ≡ old + weight_of e
    → IsPrefix v log
    → (b : Bool) → (weight log == old) ≡ b
    → Goes IsKept shown moved 0 (v, (no_nib, s)) (λ n. either (n == old) new n) (Adds (step 0 old new e) (v, (no_nib, s))) ((weight log, true) ∷ (0, true) ∷ []) log
adds_goes log v e old new s len more pre true is =
    let here : weight log ≡ old = grind (arith, nat_tests) in
    let same : v ≡ log = whole v log pre (here ∙ sym len) in
    let n : either (weight log == old) new (weight log) ≡ weight (log ++ e ∷ []) = rw is (omega (arith, weight-append log (e ∷ []))) in (
      keeps,
      e ∷ [],
      s,
      tt,
      record { words = ap (λ (k : ℕ). (k, true) ∷ (0, true) ∷ []) n },
      inl (refl, refl),
      rw is (ap (λ w. w ++ e ∷ []) (sym same)),
    )
adds_goes log v e old new s len more pre false is =
    let all : log ++ [] ≡ log = append-nil log in
    let n : either (weight log == old) new (weight log) ≡ weight (log ++ []) = rw is (ap weight (sym all)) in (
      keeps,
      [],
      s,
      tt,
      record { words = ap (λ (k : ℕ). (k, true) ∷ (0, true) ∷ []) n },
      inl (refl, refl),
      rw is tt,
    )

-- whatever the log is, the exchange adds the entry to all that was seen, or finds that the log is longer
pub adds_moves : (v : List Entry) (e : Entry) (old new : ℕ) (s : Option ℕ) → weight v ≡ old → new ≡ old + weight_of e
    → Moves IsKept shown moved 0 (v, (no_nib, s)) (λ n. either (n == old) new n) (Adds (step 0 old new e) (v, (no_nib, s)))
adds_moves v e old new s len more cs log kept pre away =
    let P : List Cell → Type 0 = λ c. (0 < length c) × ((cell c 0).1 ≡ true) × Goes IsKept shown moved 0 (v, (no_nib, s)) (λ n. either (n == old) new n) (Adds (step 0 old new e) (v, (no_nib, s))) c log in
    subst P (sym kept.words) (omega arith, refl, adds_goes log v e old new s len more pre (weight log == old) refl)

-- a look finds the weight of the whole log
pub looks_moves : (v : List Entry) (e : Entry) (s : Option ℕ)
    → Moves IsKept shown moved 0 (v, (no_nib, s)) (λ n. n) (Looks (step 0 0 0 e) (v, (no_nib, s)))
looks_moves v e s cs log kept pre away =
    let P : List Cell → Type 0 = λ c. (0 < length c) × ((cell c 0).1 ≡ true) × Goes IsKept shown moved 0 (v, (no_nib, s)) (λ n. n) (Looks (step 0 0 0 e) (v, (no_nib, s))) c log in
    let all : log ++ [] ≡ log = append-nil log in
    subst P (sym kept.words) (
      omega arith,
      refl,
      (
        keeps,
        [],
        s,
        tt,
        record { words = ap (λ (l : List Entry). (weight l, true) ∷ (0, true) ∷ []) (sym all) },
        inl (refl, refl),
        ap weight (sym all),
      ),
    )

-- where the number found is the old one, the entry was added
pub added : (found old : ℕ) (v w : List Entry) (e : Entry) → found ≡ old → MatchBool (found == old) (w ≡ v ++ e ∷ []) (Unit {0}) → w ≡ v ++ e ∷ []
added found old v w e same told =
    let b : (found == old) ≡ true = grind (arith, nat_tests) in
    let P : Bool → Type 0 = λ x. MatchBool x (w ≡ v ++ e ∷ []) (Unit {0}) in
    subst P b told
