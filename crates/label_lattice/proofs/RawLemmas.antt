-- Raw labels: their tests, and the raw forms of stored labels.
use Rattle.std.proofs.Common.{◌≡◌, ◌≢◌, ℕ, ◌<◌, ◌≤◌, ◌↔◌, inl, inr, IsTrue, true, false}
use Rattle.std.proofs.Common.{◌||◌}
use Rattle.std.proofs.Common.{List, [], ◌∷◌, length, refl, sym, ap, ◌∙◌, nat_lt, arith, ◌==◌}
use Rattle.std.proofs.Common.{eq-eqb}
use Rattle.std.specs.Prelude.{All, Any}
use Rattle.std.proofs.lemmas.Bool.Decides.{nat_tests, same_from_decides}
use Rattle.std.proofs.lemmas.List.Elements.{All-weaker}
use Rattle.std.proofs.lemmas.List.Folds.{Any-from_list_any, list_any-from_Any}
use Rattle.std.proofs.lemmas.List.Sums.{AllPass-from_list_all, list_all-from_AllPass}
use Rattle.base.specs.declared.levels.Level.{Level}
use Rattle.base.specs.declared.levels.Level.TheVariants.{Star}
use Rattle.base.specs.Level.{rank_of}
use Rattle.label_lattice.specs.declared.pairings.Pair.{Pair}
use Rattle.label_lattice.specs.declared.raw_labels.RawLabel.{RawLabel}
use Rattle.label_lattice.specs.Levels.{level_at, any_star, IsRising, IsAbove, DiffersFrom}
use Rattle.label_lattice.specs.Label.{LabelValue, IsStored, has_star}
use Rattle.label_lattice.specs.Raw.{has_twice, differing, collected, is_bad, is_made, all_made}
use Rattle.label_lattice.specs.Raw.{raw_has_star, raw_of, stored_of}
use Rattle.label_lattice.proofs.WalkLemmas.{level_at-same, level_at-other}
use Rattle.label_lattice.proofs.LabelLemmas.{bool_cases, rank_of-injective, same_exceptions}
use Rattle.label_lattice.proofs.LabelLemmas.{star_test, star_back, star_forth}
use Rattle.label_lattice.proofs.PlacedLemmas.{eq_false, lt_false}
use Rattle.label_lattice.proofs.CollectLemmas.{any_at, or_false_left, or_false_right, none_at}
use Rattle.label_lattice.proofs.CollectLemmas.{collected-IsRising, collected-DiffersFrom}
use Rattle.label_lattice.proofs.CollectLemmas.{collected-levels}

-- the test of star says what it means
pub any_star-Any : (ps : List Pair) → IsTrue (any_star ps) → Any (λ p. p.level ≡ Star) ps
any_star-Any ps h =
    let found = Any-from_list_any (λ (p : Pair). rank_of p.level == 0) ps h in
    (found.0, found.1, found.2, found.3, star_test found.1.level found.4)

pub any_star-from_Any : (ps : List Pair) → Any (λ p. p.level ≡ Star) ps → IsTrue (any_star ps)
any_star-from_Any ps h =
    list_any-from_Any (λ (p : Pair). rank_of p.level == 0) ps
    (h.0, h.1, h.2, h.3, eq-eqb (rank_of h.1.level) 0 (ap rank_of h.4))

-- the test of a made category says what it means
is_made-means : (next : ℕ) (p : Pair) → is_made next p ≡ true
    → (1 ≤ p.category.0) × (p.category.0 < next)
is_made-means next p h = (grind (arith, nat_tests), grind (arith, nat_tests))

is_made-tests : (next : ℕ) (p : Pair) → (1 ≤ p.category.0) × (p.category.0 < next)
    → is_made next p ≡ true
is_made-tests next p h = grind (arith, nat_tests)

pub all_made-All : (next : ℕ) (ps : List Pair) → IsTrue (all_made next ps)
    ↔ All (λ p. (1 ≤ p.category.0) × (p.category.0 < next)) ps
all_made-All next ps = (
  λ h. All-weaker (λ p. is_made next p ≡ true) (λ p. (1 ≤ p.category.0) × (p.category.0 < next))
      (is_made-means next) ps (AllPass-from_list_all (is_made next) ps h),
  λ h. list_all-from_AllPass (is_made next) ps
      (All-weaker (λ p. (1 ≤ p.category.0) × (p.category.0 < next)) (λ p. is_made next p ≡ true)
      (is_made-tests next) ps h),
)

-- where no category stands twice and a pair has star, a category does
star_forth-once : (d : Level) (ps : List Pair) → d ≢ Star → has_twice ps ≡ false
    → any_star ps ≡ true
    → (c : ℕ) × (level_at d ps c ≡ Star)
star_forth-once d [] nd once h = absurd (let e : false ≡ true = h in cc)
star_forth-once d (p ∷ ps) nd once h =
    elim (bool_cases (rank_of p.level == 0)) [
      | inl starred ↦
          (p.category.0, level_at-same d p ps p.category.0 refl ∙ star_test p.level starred)
      | inr plain ↦
          let more : any_star ps ≡ true = rw plain at h in
          let found : (c : ℕ) × (level_at d ps c ≡ Star) =
          star_forth-once d ps nd (or_false_right (any_at p.category.0 ps) (has_twice ps) once) more
          in
          let fresh : any_at p.category.0 ps ≡ false =
          or_false_left (any_at p.category.0 ps) (has_twice ps) once in (
            found.0,
            level_at-other d p ps found.0
                (λ here. nd (sym (rw here (none_at d ps p.category.0 fresh)) ∙ found.1)) ∙ found.1,
          )
    ]

-- what is above a number lacks it
none_above : (m : ℕ) (ps : List Pair) → IsAbove m ps → any_at m ps ≡ false
none_above m [] above = refl
none_above m (p ∷ ps) above =
    rw (eq_false p.category.0 m (omega (arith, above.0)), none_above m ps above.1) refl

-- in a rising list no category stands twice
pub has_twice-IsRising : (ps : List Pair) → IsRising ps → has_twice ps ≡ false
has_twice-IsRising [] rising = refl
has_twice-IsRising (p ∷ ps) rising =
    rw (none_above p.category.0 ps rising.0, has_twice-IsRising ps rising.1) refl

other_rank : (x y : Level) → x ≢ y → (rank_of x == rank_of y) ≡ false
other_rank x y ne = eq_false (rank_of x) (rank_of y) (λ e. ne (rank_of-injective x y e))

-- where each pair differs from the default, all are counted
pub differing-DiffersFrom : (d : Level) (ps : List Pair) → DiffersFrom d ps
    → differing d ps ≡ length ps
differing-DiffersFrom d [] differs = refl
differing-DiffersFrom d (p ∷ ps) differs =
    rw (other_rank p.level d differs.0, differing-DiffersFrom d ps differs.1) refl

-- exceptions are collected as they are
pub collected-exceptions : (d : Level) (ps : List Pair) → IsRising ps → DiffersFrom d ps
    → collected d ps [] ≡ ps
collected-exceptions d ps rising differs =
    same_exceptions d (collected d ps []) ps (collected-IsRising d ps [] tt) rising
    (collected-DiffersFrom d ps [] tt) differs
    (λ c. collected-levels d ps c (has_twice-IsRising ps rising))

-- the raw form of a stored label
pub raw_of-good : (l : LabelValue) → IsStored l → is_bad (raw_of l) ≡ false
raw_of-good l stored =
    rw (
      other_rank l.default_level Star stored.owned_by_none,
      has_twice-IsRising l.exceptions stored.rising,
      differing-DiffersFrom l.default_level l.exceptions stored.differing,
      lt_false 16 (length l.exceptions) stored.few,
    )
    refl

pub raw_of-stored : (l : LabelValue) → IsStored l → stored_of (raw_of l) ≡ l
raw_of-stored l stored =
    let L : List Pair → LabelValue =
    λ es. record { default_level = l.default_level; exceptions = es } in
    ap L (collected-exceptions l.default_level l.exceptions stored.rising stored.differing)

-- a raw label that is not bad
pub good_parts : (raw : RawLabel) → is_bad raw ≡ false
    → (raw.default ≢ Star) × (has_twice raw.pairs ≡ false)
good_parts raw good =
    let low : (rank_of raw.default == 0) ≡ false =
    or_false_left (rank_of raw.default == 0) _ good in
    let rest : (has_twice raw.pairs || nat_lt 16 (differing raw.default raw.pairs)) ≡ false =
    or_false_right (rank_of raw.default == 0) _ good in (
      λ star. let high : (rank_of raw.default == 0) ≡ true = eq-eqb _ _ (ap rank_of star) in
          let e : true ≡ false = sym high ∙ low in absurd (cc),
      or_false_left (has_twice raw.pairs) _ rest,
    )

-- has star where it is stored as one that does
pub star_kept : (raw : RawLabel) → is_bad raw ≡ false → has_star (stored_of raw) ≡ raw_has_star raw
star_kept raw good =
    let parts : (raw.default ≢ Star) × (has_twice raw.pairs ≡ false) = good_parts raw good in
    let es : List Pair = collected raw.default raw.pairs [] in
    let same : any_star (collected raw.default raw.pairs []) ≡ any_star raw.pairs =
    same_from_decides {P = (c : ℕ) × (level_at raw.default raw.pairs c ≡ Star)} _ _ (
      λ h. let found = star_forth raw.default (collected raw.default raw.pairs []) parts.0
          (collected-IsRising raw.default raw.pairs [] tt) h in
          (found.0, sym (collected-levels raw.default raw.pairs found.0 parts.1) ∙ found.1),
      λ s. star_back raw.default (collected raw.default raw.pairs []) s.0 parts.0
          (collected-levels raw.default raw.pairs s.0 parts.1 ∙ s.1),
    ) (
      λ h. star_forth-once raw.default raw.pairs parts.0 parts.1 h,
      λ s. star_back raw.default raw.pairs s.0 parts.0 s.1,
    ) in
    rw same refl
