-- Labels that agree at each category are one, and which of them have star.
use Rattle.std.proofs.Common.{◌≡◌, ◌≢◌, ℕ, ◌+◌, ◌⊎◌, inl, inr, Bool, true, false, List, [], ◌∷◌}
use Rattle.std.proofs.Common.{refl, sym, ap, ◌∙◌, subst, arith, ◌==◌, if◌then◌else◌}
use Rattle.std.specs.List.{list_any}
use Rattle.std.proofs.lemmas.Bool.{cases_eq, cases_order, eqb-true}
use Rattle.base.specs.declared.levels.Level.{Level}
use Rattle.base.specs.declared.levels.Level.TheVariants.{Star, L0, L1, L2, L3}
use Rattle.base.specs.Level.{rank_of}
use Rattle.label_lattice.specs.declared.pairings.Pair.{Pair}
use Rattle.label_lattice.specs.Levels.{level_at, IsRising, IsAbove, DiffersFrom}
use Rattle.label_lattice.specs.Label.{LabelValue, level, IsStored}
use Rattle.label_lattice.proofs.WalkLemmas.{past, level_at-past, level_at-above, level_at-same}
use Rattle.label_lattice.proofs.WalkLemmas.{level_at-other, IsAbove-lower}

-- the level of a rank
of_rank : ℕ → Level
of_rank n =
    if n == 0 then Star else
    (if n == 1 then L0 else (if n == 2 then L1 else (if n == 3 then L2 else L3)))

of_rank-rank_of : (x : Level) → of_rank (rank_of x) ≡ x
unfolding of_rank
of_rank-rank_of Star = refl
of_rank-rank_of L0 = refl
of_rank-rank_of L1 = refl
of_rank-rank_of L2 = refl
of_rank-rank_of L3 = refl

-- levels of one rank are one
pub rank_of-injective : (x y : Level) → rank_of x ≡ rank_of y → x ≡ y
rank_of-injective x y e = sym (of_rank-rank_of x) ∙ ap of_rank e ∙ of_rank-rank_of y

-- pairs of equal parts are one
pub pairs_equal : (p q : Pair) → p.category.0 ≡ q.category.0 → p.level ≡ q.level → p ≡ q
pairs_equal p q ec el =
    let P : ℕ → Level → Pair = λ n x. record { category = record { 0 = n }; level = x } in
    ap (λ (n : ℕ). P n p.level) ec ∙ ap (λ (x : Level). P q.category.0 x) el

-- lists of exceptions that agree at each category are one
pub same_exceptions : (d : Level) (ps qs : List Pair) → IsRising ps → IsRising qs
    → DiffersFrom d ps → DiffersFrom d qs
    → ((c : ℕ) → level_at d ps c ≡ level_at d qs c) → ps ≡ qs
same_exceptions d [] [] rp rq dp dq e = refl
same_exceptions d [] (q ∷ qs) rp rq dp dq e =
    absurd (dq.0 (sym (e q.category.0 ∙ level_at-same d q qs q.category.0 refl)))
same_exceptions d (p ∷ ps) [] rp rq dp dq e =
    absurd (dp.0 (sym (level_at-same d p ps p.category.0 refl) ∙ e p.category.0))
same_exceptions d (p ∷ ps) (q ∷ qs) rp rq dp dq e =
    elim (cases_order p.category.0 q.category.0) [
      | inl same ↦
          let level_e : p.level ≡ q.level =
          sym (level_at-same d p ps p.category.0 refl) ∙ e p.category.0
          ∙ level_at-same d q qs p.category.0 (sym same) in
          let rest : ps ≡ qs = same_exceptions d ps qs rp.1 rq.1 dp.1 dq.1
          (λ k. elim (cases_eq k p.category.0) [
            | inl here ↦ level_at-above d ps k (subst (λ m. IsAbove m ps) (sym here) rp.0)
                ∙ sym (level_at-above d qs k (subst (λ m. IsAbove m qs) (sym (here ∙ same)) rq.0))
            | inr other ↦ sym (level_at-other d p ps k other) ∙ e k
                ∙ level_at-other d q qs k (λ h. other (h ∙ sym same))
          ]) in
          rw (pairs_equal p q same level_e, rest) refl
      | inr apart ↦ elim apart [
        | inl lt ↦ absurd (dp.0 (sym (level_at-same d p ps p.category.0 refl) ∙ e p.category.0
            ∙ level_at-above d (q ∷ qs) p.category.0
            (lt, IsAbove-lower qs p.category.0 q.category.0 (omega arith) rq.0)))
        | inr gt ↦ absurd (dq.0 (sym (level_at-same d q qs q.category.0 refl) ∙ sym (e q.category.0)
            ∙ level_at-above d (p ∷ ps) q.category.0
            (gt, IsAbove-lower ps q.category.0 p.category.0 (omega arith) rp.0)))
      ]
    ]

-- stored labels that agree at each category are one
pub same_labels : (a b : LabelValue) → IsStored a → IsStored b → ((c : ℕ) → level a c ≡ level b c)
    → a ≡ b
same_labels a b sa sb e =
    let far : ℕ = past a.exceptions + past b.exceptions in
    let default_e : a.default_level ≡ b.default_level =
    sym (level_at-past a.default_level a.exceptions far (omega arith)) ∙ e far
    ∙ level_at-past b.default_level b.exceptions far (omega arith) in
    let rest : a.exceptions ≡ b.exceptions =
    same_exceptions a.default_level a.exceptions b.exceptions sa.rising sb.rising sa.differing
    (subst (λ d. DiffersFrom d b.exceptions) (sym default_e) sb.differing)
    (λ c. e c ∙ ap (λ (d : Level). level_at d b.exceptions c) (sym default_e)) in
    let L : Level → List Pair → LabelValue =
    λ d es. record { default_level = d; exceptions = es } in
    ap (λ (d : Level). L d a.exceptions) default_e
    ∙ ap (λ (es : List Pair). L b.default_level es) rest

pub star_test : (x : Level) → (rank_of x == 0) ≡ true → x ≡ Star
star_test x h = rank_of-injective x Star (eqb-true (rank_of x) 0 h)

pub bool_cases : (b : Bool) → (b ≡ true) ⊎ (b ≡ false)
bool_cases true = inl refl
bool_cases false = inr refl

-- where a pair has star, so has a category
pub star_forth : (d : Level) (ps : List Pair) → d ≢ Star → IsRising ps
    → list_any (λ p. rank_of p.level == 0) ps ≡ true → (c : ℕ) × (level_at d ps c ≡ Star)
star_forth d [] nd r h = absurd (let e : false ≡ true = h in cc)
star_forth d (p ∷ ps) nd r h =
    elim (bool_cases (rank_of p.level == 0)) [
      | inl starred ↦
          (p.category.0, level_at-same d p ps p.category.0 refl ∙ star_test p.level starred)
      | inr plain ↦
          let more : list_any (λ p. rank_of p.level == 0) ps ≡ true = rw plain at h in
          let found : (c : ℕ) × (level_at d ps c ≡ Star) = star_forth d ps nd r.1 more in (
            found.0,
            level_at-other d p ps found.0 (λ here. nd (sym (level_at-above d ps found.0
                (subst (λ m. IsAbove m ps) (sym here) r.0)) ∙ found.1)) ∙ found.1,
          )
    ]

pub star_back : (d : Level) (ps : List Pair) (c : ℕ) → d ≢ Star → level_at d ps c ≡ Star
    → list_any (λ p. rank_of p.level == 0) ps ≡ true
star_back d [] c nd h = absurd (nd h)
star_back d (p ∷ ps) c nd h =
    elim (cases_eq c p.category.0) [
      | inl here ↦
          let star : p.level ≡ Star = sym (level_at-same d p ps c (sym here)) ∙ h in
          rw star refl
      | inr other ↦
          let more : list_any (λ p. rank_of p.level == 0) ps ≡ true =
          star_back d ps c nd (sym (level_at-other d p ps c other) ∙ h) in
          elim (bool_cases (rank_of p.level == 0))
          [ inl starred ↦ rw starred refl | inr plain ↦ rw (plain, more) refl ]
    ]
