-- Exceptions after a category was given a level: their levels, their order, their parts.
use Rattle.std.proofs.Common.{◌≡◌, ◌≢◌, ℕ, suc, ◌<◌, ◌≤◌, inl, inr, true, false, List, [], ◌∷◌}
use Rattle.std.proofs.Common.{◌++◌, length, drop, take, get_or, refl, sym, ap, ◌∙◌, subst, nat_lt}
use Rattle.std.proofs.Common.{arith, ◌==◌, eq-eqb}
use Rattle.std.proofs.lemmas.Bool.Decides.{nat_tests}
use Rattle.std.proofs.lemmas.Bool.{cases_eq, cases_order, eqb-true}
use Rattle.base.specs.declared.levels.Level.{Level}
use Rattle.base.specs.Level.{rank_of}
use Rattle.label_lattice.specs.declared.pairings.Pair.{Pair}
use Rattle.label_lattice.specs.Levels.{level_at, IsRising, IsAbove, DiffersFrom}
use Rattle.label_lattice.specs.Placed.{place_in, kept, placed}
use Rattle.label_lattice.proofs.WalkLemmas.{level_at-above, level_at-same, level_at-other}
use Rattle.label_lattice.proofs.WalkLemmas.{IsAbove-lower}
use Rattle.label_lattice.proofs.LabelLemmas.{bool_cases, rank_of-injective}

-- the tests of numbers
pub lt_true : (m n : ℕ) → m < n → nat_lt m n ≡ true
lt_true m n h = grind (arith, nat_tests)

pub lt_false : (m n : ℕ) → n ≤ m → nat_lt m n ≡ false
lt_false m n h = grind (arith, nat_tests)

pub eq_false : (m n : ℕ) → m ≢ n → (m == n) ≡ false
eq_false m n h = grind (arith, nat_tests)

module _ (d : Level) (p : Pair) where
  -- the pair's category has its level, be the pair kept or not
  pub kept-here : (rest : List Pair) → IsAbove p.category.0 rest
      → level_at d (kept d p rest) p.category.0 ≡ p.level
  kept-here rest above =
      elim (bool_cases (rank_of p.level == rank_of d)) [
        | inl same ↦
            rw same
            (level_at-above d rest p.category.0 above
            ∙ sym (rank_of-injective p.level d (eqb-true _ _ same)))
        | inr other ↦ rw other (level_at-same d p rest p.category.0 refl)
      ]

  -- another category keeps its level
  pub kept-other : (rest : List Pair) (c : ℕ) → c ≢ p.category.0
      → level_at d (kept d p rest) c ≡ level_at d rest c
  kept-other rest c ne =
      elim (bool_cases (rank_of p.level == rank_of d)) [
        | inl same ↦ rw same refl
        | inr other ↦ rw other (level_at-other d p rest c ne)
      ]

  -- exceptions stay exceptions
  pub kept-IsAbove : (rest : List Pair) (m : ℕ) → m < p.category.0 → IsAbove m rest
      → IsAbove m (kept d p rest)
  kept-IsAbove rest m lt above =
      elim (bool_cases (rank_of p.level == rank_of d))
      [ inl same ↦ rw same above | inr other ↦ rw other (lt, above) ]

  pub kept-IsRising : (rest : List Pair) → IsAbove p.category.0 rest → IsRising rest
      → IsRising (kept d p rest)
  kept-IsRising rest above rising =
      elim (bool_cases (rank_of p.level == rank_of d))
      [ inl same ↦ rw same rising | inr other ↦ rw other (above, rising) ]

  pub kept-DiffersFrom : (rest : List Pair) → DiffersFrom d rest → DiffersFrom d (kept d p rest)
  kept-DiffersFrom rest differs =
      elim (bool_cases (rank_of p.level == rank_of d)) [
        | inl same ↦ rw same differs
        | inr other ↦
            let differs_here : p.level ≢ d =
            λ e. let t : (rank_of p.level == rank_of d) ≡ true = eq-eqb _ _ (ap rank_of e) in
            let f : true ≡ false = sym t ∙ other in absurd (cc) in
            rw other (differs_here, differs)
      ]

  -- the three ways in which a pair stands to the first of the list
  pub placed-same : (q : Pair) (qs : List Pair) → q.category.0 ≡ p.category.0
      → placed d p (q ∷ qs) ≡ kept d p qs
  placed-same q qs same =
      rw (lt_false q.category.0 p.category.0 (omega arith), eq-eqb q.category.0 p.category.0 same)
      refl

  pub placed-after : (q : Pair) (qs : List Pair) → q.category.0 < p.category.0
      → placed d p (q ∷ qs) ≡ q ∷ placed d p qs
  placed-after q qs below = rw (lt_true q.category.0 p.category.0 below) refl

  pub placed-before : (q : Pair) (qs : List Pair) → p.category.0 < q.category.0
      → placed d p (q ∷ qs) ≡ kept d p (q ∷ qs)
  placed-before q qs gt =
      let ne : q.category.0 ≢ p.category.0 = omega arith in
      rw (lt_false q.category.0 p.category.0 (omega arith), eq_false q.category.0 p.category.0 ne)
      refl

  -- the category has its level
  pub placed-here : (ps : List Pair) → IsRising ps
      → level_at d (placed d p ps) p.category.0 ≡ p.level
  placed-here [] r = kept-here [] tt
  placed-here (q ∷ qs) r =
      elim (cases_order q.category.0 p.category.0) [
        | inl same ↦
            rw (placed-same q qs same)
            (kept-here qs (subst (λ m. IsAbove m qs) same r.0))
        | inr apart ↦ elim apart [
          | inl lt ↦ rw (placed-after q qs lt)
              (level_at-other d q (placed d p qs) p.category.0 (omega arith) ∙ placed-here qs r.1)
          | inr gt ↦
              rw (placed-before q qs gt)
              (kept-here (q ∷ qs)
              (gt, IsAbove-lower qs p.category.0 q.category.0 (omega arith) r.0))
        ]
      ]

  -- all others keep theirs
  pub placed-other : (ps : List Pair) (c : ℕ) → c ≢ p.category.0
      → level_at d (placed d p ps) c ≡ level_at d ps c
  placed-other [] c ne = kept-other [] c ne
  placed-other (q ∷ qs) c ne =
      elim (cases_order q.category.0 p.category.0) [
        | inl same ↦
            rw (placed-same q qs same)
            (kept-other qs c ne ∙ sym (level_at-other d q qs c (omega arith)))
        | inr apart ↦ elim apart [
          | inl lt ↦ rw (placed-after q qs lt) (elim (cases_eq c q.category.0) [
            | inl here ↦
                level_at-same d q (placed d p qs) c (sym here)
                ∙ sym (level_at-same d q qs c (sym here))
            | inr other ↦
                level_at-other d q (placed d p qs) c other ∙ placed-other qs c ne
                ∙ sym (level_at-other d q qs c other)
          ])
          | inr gt ↦
              rw (placed-before q qs gt)
              (kept-other (q ∷ qs) c ne)
        ]
      ]

  -- exceptions stay exceptions
  pub placed-IsAbove : (ps : List Pair) (m : ℕ) → m < p.category.0 → IsAbove m ps
      → IsAbove m (placed d p ps)
  placed-IsAbove [] m lt above = kept-IsAbove [] m lt tt
  placed-IsAbove (q ∷ qs) m lt above =
      elim (cases_order q.category.0 p.category.0) [
        | inl same ↦ rw (placed-same q qs same) (kept-IsAbove qs m lt above.1)
        | inr apart ↦ elim apart [
          | inl below ↦ rw (placed-after q qs below) (above.0, placed-IsAbove qs m lt above.1)
          | inr gt ↦ rw (placed-before q qs gt) (kept-IsAbove (q ∷ qs) m lt above)
        ]
      ]

  pub placed-IsRising : (ps : List Pair) → IsRising ps → IsRising (placed d p ps)
  placed-IsRising [] r = kept-IsRising [] tt tt
  placed-IsRising (q ∷ qs) r =
      elim (cases_order q.category.0 p.category.0) [
        | inl same ↦
            rw (placed-same q qs same)
            (kept-IsRising qs (subst (λ m. IsAbove m qs) same r.0) r.1)
        | inr apart ↦ elim apart [
          | inl below ↦
              rw (placed-after q qs below)
              (placed-IsAbove qs q.category.0 below r.0, placed-IsRising qs r.1)
          | inr gt ↦
              rw (placed-before q qs gt)
              (kept-IsRising (q ∷ qs)
              (gt, IsAbove-lower qs p.category.0 q.category.0 (omega arith) r.0) r)
        ]
      ]

  pub placed-DiffersFrom : (ps : List Pair) → DiffersFrom d ps → DiffersFrom d (placed d p ps)
  placed-DiffersFrom [] r = kept-DiffersFrom [] tt
  placed-DiffersFrom (q ∷ qs) r =
      elim (cases_order q.category.0 p.category.0) [
        | inl same ↦ rw (placed-same q qs same) (kept-DiffersFrom qs r.1)
        | inr apart ↦ elim apart [
          | inl below ↦ rw (placed-after q qs below) (r.0, placed-DiffersFrom qs r.1)
          | inr gt ↦ rw (placed-before q qs gt) (kept-DiffersFrom (q ∷ qs) r)
        ]
      ]

  -- the list in three parts, where the category stands in the list
  pub placed-found : (ps : List Pair) (x : Pair) → place_in p.category.0 ps < length ps
      → (get_or ps (place_in p.category.0 ps) x).category.0 ≡ p.category.0
      → placed d p ps
      ≡ take (place_in p.category.0 ps) ps
      ++ kept d p (drop (suc (place_in p.category.0 ps)) ps)
  placed-found [] x within here = absurd (omega (arith, within))
  placed-found (q ∷ qs) x within here =
      elim (cases_order q.category.0 p.category.0) [
        | inl same ↦
            rw (
              lt_false q.category.0 p.category.0 (omega arith),
              eq-eqb q.category.0 p.category.0 same,
            ) refl
        | inr apart ↦ elim apart [
          | inl below ↦
              let t : nat_lt q.category.0 p.category.0 ≡ true =
              lt_true q.category.0 p.category.0 below in
              let w : suc (place_in p.category.0 qs) < suc (length qs) = rw t at within in
              let h : (get_or qs (place_in p.category.0 qs) x).category.0 ≡ p.category.0 =
              rw t at here in
              rw t (ap (λ (r : List Pair). q ∷ r) (placed-found qs x (omega arith) h))
          | inr gt ↦
              let f : nat_lt q.category.0 p.category.0 ≡ false =
              lt_false q.category.0 p.category.0 (omega arith) in
              let h : q.category.0 ≡ p.category.0 = rw f at here in absurd (omega arith)
        ]
      ]

  -- and where it does not
  pub placed-not_found : (ps : List Pair) (x : Pair)
      → (place_in p.category.0 ps < length ps
      → (get_or ps (place_in p.category.0 ps) x).category.0 ≢ p.category.0)
      → placed d p ps
      ≡ take (place_in p.category.0 ps) ps
      ++ kept d p (drop (place_in p.category.0 ps) ps)
  placed-not_found [] x other = refl
  placed-not_found (q ∷ qs) x other =
      elim (cases_order q.category.0 p.category.0) [
        | inl same ↦
            let f : nat_lt q.category.0 p.category.0 ≡ false =
            lt_false q.category.0 p.category.0 (omega arith) in
            let h : 0 < suc (length qs) → q.category.0 ≢ p.category.0 =
            rw f at other in absurd (h (omega arith) same)
        | inr apart ↦ elim apart [
          | inl below ↦
              let t : nat_lt q.category.0 p.category.0 ≡ true =
              lt_true q.category.0 p.category.0 below in
              let h : suc (place_in p.category.0 qs) < suc (length qs)
              → (get_or qs (place_in p.category.0 qs) x).category.0 ≢ p.category.0 =
              rw t at other in
              rw t (ap (λ (r : List Pair). q ∷ r) (placed-not_found qs x (λ w. h (omega arith))))
          | inr gt ↦
              rw (
                lt_false q.category.0 p.category.0 (omega arith),
                eq_false q.category.0 p.category.0 (omega arith),
              ) refl
        ]
      ]
