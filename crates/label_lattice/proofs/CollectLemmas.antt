-- Exceptions that are made of pairs in any order, one pair after the other.
use Rattle.std.proofs.Common.{◌≡◌, ◌≢◌, ℕ, ◌+◌, ◌<◌, ◌≤◌, inl, inr, Bool, true, false, ◌||◌, List}
use Rattle.std.proofs.Common.{[]}
use Rattle.std.proofs.Common.{◌∷◌, length, drop, get_or, refl, sym, ◌∙◌, subst, nat_lt, arith, ◌==◌}
use Rattle.std.proofs.Common.{if◌then◌else◌, eq-eqb, nat_le, Some, None}
use Rattle.std.proofs.Common.{add-one}
use Rattle.std.proofs.Math.Seq.{drop-cons}
use Rattle.std.specs.List.{list_any}
use Rattle.label_lattice.specs.Columns.{filler}
use Rattle.label_lattice.proofs.OrderLemmas.{le_means, le_fails}
use Rattle.std.proofs.lemmas.Bool.{cases_eq, cases_order}
use Rattle.base.specs.declared.levels.Level.{Level}
use Rattle.base.specs.declared.levels.Level.TheVariants.{Star}
use Rattle.base.specs.Level.{rank_of}
use Rattle.label_lattice.specs.declared.pairings.Pair.{Pair}
use Rattle.label_lattice.specs.Levels.{level_at, IsRising, DiffersFrom}
use Rattle.label_lattice.specs.Label.{IsStored}
use Rattle.label_lattice.specs.Placed.{kept, placed}
use Rattle.label_lattice.specs.Raw.{has_twice, differing, collected, collected_all}
use Rattle.label_lattice.proofs.LabelLemmas.{bool_cases}
use Rattle.label_lattice.proofs.PlacedLemmas.{placed-same, placed-after, placed-before}
use Rattle.label_lattice.proofs.PlacedLemmas.{placed-here, placed-other, placed-IsRising}
use Rattle.label_lattice.proofs.PlacedLemmas.{placed-DiffersFrom, eq_false, lt_true}

-- a pair of the list has the category
abbrev pub any_at : ℕ → List Pair → Bool
any_at c ps = list_any (λ q. q.category.0 == c) ps

-- no category of the first list stands in the second
abbrev pub IsApart : List Pair → List Pair → Type 0
IsApart [] rest = Unit {0}
IsApart (e ∷ es) rest = (any_at e.category.0 rest ≡ false) × IsApart es rest

pub or_false_left : (x y : Bool) → (x || y) ≡ false → x ≡ false
or_false_left true y h = h
or_false_left false y h = refl

pub or_false_right : (x y : Bool) → (x || y) ≡ false → y ≡ false
or_false_right true y h = absurd (let e : true ≡ false = h in cc)
or_false_right false y h = h

IsApart-rest : (es : List Pair) (p : Pair) (rest : List Pair) → IsApart es (p ∷ rest)
    → IsApart es rest
IsApart-rest [] p rest h = tt
IsApart-rest (e ∷ es) p rest h = (
  or_false_right (p.category.0 == e.category.0) (any_at e.category.0 rest) h.0,
  IsApart-rest es p rest h.1,
)

module _ (d : Level) (p : Pair) (rest : List Pair) where
  IsApart-kept : (es : List Pair) → any_at p.category.0 rest ≡ false → IsApart es rest
      → IsApart (kept d p es) rest
  IsApart-kept es fresh h =
      elim (bool_cases (rank_of p.level == rank_of d))
      [ inl same ↦ rw same h | inr other ↦ rw other (fresh, h) ]

  IsApart-placed : (es : List Pair) → any_at p.category.0 rest ≡ false → IsApart es rest
      → IsApart (placed d p es) rest
  IsApart-placed [] fresh h = IsApart-kept [] fresh tt
  IsApart-placed (q ∷ qs) fresh h =
      elim (cases_order q.category.0 p.category.0) [
        | inl same ↦ rw (placed-same d p q qs same) (IsApart-kept qs fresh h.1)
        | inr apart ↦ elim apart [
          | inl below ↦ rw (placed-after d p q qs below) (h.0, IsApart-placed qs fresh h.1)
          | inr gt ↦ rw (placed-before d p q qs gt) (IsApart-kept (q ∷ qs) fresh h)
        ]
      ]

  length-kept : (es : List Pair)
      → length (kept d p es) + differing d rest ≡ length es + differing d (p ∷ rest)
  length-kept es =
      elim (bool_cases (rank_of p.level == rank_of d))
      [ inl same ↦ rw same (omega arith) | inr other ↦ rw other (omega arith) ]

  length-placed : (es : List Pair) → IsApart es (p ∷ rest)
      → length (placed d p es) + differing d rest ≡ length es + differing d (p ∷ rest)
  length-placed [] h = length-kept []
  length-placed (q ∷ qs) h =
      elim (cases_order q.category.0 p.category.0) [
        | inl same ↦
            let f : (p.category.0 == q.category.0) ≡ false =
            or_false_left (p.category.0 == q.category.0) (any_at q.category.0 rest) h.0 in
            let t : (p.category.0 == q.category.0) ≡ true =
            eq-eqb p.category.0 q.category.0 (sym same) in
            absurd (let e : true ≡ false = sym t ∙ f in cc)
        | inr apart ↦ elim apart [
          | inl below ↦ rw (placed-after d p q qs below)
              (let more : length (placed d p qs) + differing d rest
              ≡ length qs + differing d (p ∷ rest) = length-placed qs h.1 in omega arith)
          | inr gt ↦ rw (placed-before d p q qs gt) (length-kept (q ∷ qs))
        ]
      ]

-- what collecting keeps
pub record CollectGoesOn (d : Level) (pairs : List Pair) (i : ℕ) (es : List Pair) : Type 0 where
  pub few : length es ≤ 16
  pub rising : IsRising es
  pub apart : IsApart es (drop i pairs)
  pub collects : collected d (drop i pairs) es ≡ collected d pairs []
  pub once : has_twice pairs ≡ false
  pub once_on : has_twice (drop i pairs) ≡ false
  pub count : length es + differing d (drop i pairs) ≡ differing d pairs

-- a step
collect_step : (d : Level) (pairs : List Pair) (i : ℕ) (es : List Pair) (p : Pair)
    → CollectGoesOn d pairs i es → drop i pairs ≡ p ∷ drop (i + 1) pairs
    → length (placed d p es) ≤ 16
    → CollectGoesOn d pairs (i + 1) (placed d p es)
collect_step d pairs i es p on head room =
    let apart : IsApart es (p ∷ drop (i + 1) pairs) =
    subst (λ (r : List Pair). IsApart es r) head on.apart in
    let once : has_twice (p ∷ drop (i + 1) pairs) ≡ false =
    subst (λ (r : List Pair). has_twice r ≡ false) head on.once_on in
    let fresh : any_at p.category.0 (drop (i + 1) pairs) ≡ false =
    or_false_left (any_at p.category.0 (drop (i + 1) pairs)) _ once in
    record {
      few = room;
      rising = placed-IsRising d p es on.rising;
      apart =
          IsApart-placed d p (drop (i + 1) pairs) es fresh
          (IsApart-rest es p (drop (i + 1) pairs) apart);
      collects =
          subst (λ (r : List Pair). collected d r es ≡ collected d pairs []) head on.collects;
      once = on.once;
      once_on = or_false_right (any_at p.category.0 (drop (i + 1) pairs)) _ once;
      count =
          length-placed d p (drop (i + 1) pairs) es apart
          ∙ subst (λ (r : List Pair). length es + differing d r ≡ differing d pairs) head on.count;
    }

or_true : (x : Bool) → (x || true) ≡ true
or_true true = refl
or_true false = refl

-- where a step finds no room, too many differ
collect_full : (d : Level) (pairs : List Pair) (i : ℕ) (es : List Pair) (p : Pair)
    → CollectGoesOn d pairs i es → drop i pairs ≡ p ∷ drop (i + 1) pairs
    → 16 < length (placed d p es) → (has_twice pairs || nat_lt 16 (differing d pairs)) ≡ true
collect_full d pairs i es p on head full =
    let apart : IsApart es (p ∷ drop (i + 1) pairs) =
    subst (λ (r : List Pair). IsApart es r) head on.apart in
    let count : length (placed d p es) + differing d (drop (i + 1) pairs) ≡ differing d pairs =
    length-placed d p (drop (i + 1) pairs) es apart
    ∙ subst (λ (r : List Pair). length es + differing d r ≡ differing d pairs) head on.count in
    rw (lt_true 16 (differing d pairs) (omega arith)) (or_true (has_twice pairs))

pub collected-IsRising : (d : Level) (ps es : List Pair) → IsRising es
    → IsRising (collected d ps es)
collected-IsRising d [] es h = h
collected-IsRising d (p ∷ ps) es h =
    collected-IsRising d ps (placed d p es) (placed-IsRising d p es h)

pub collected-DiffersFrom : (d : Level) (ps es : List Pair) → DiffersFrom d es
    → DiffersFrom d (collected d ps es)
collected-DiffersFrom d [] es h = h
collected-DiffersFrom d (p ∷ ps) es h =
    collected-DiffersFrom d ps (placed d p es) (placed-DiffersFrom d p es h)

-- the levels of what was collected
collected-level : (d : Level) (ps es : List Pair) (c : ℕ) → IsRising es → has_twice ps ≡ false
    → level_at d (collected d ps es) c ≡ (if any_at c ps then level_at d ps c else level_at d es c)
collected-level d [] es c r once = refl
collected-level d (p ∷ ps) es c r once =
    let fresh : any_at p.category.0 ps ≡ false =
    or_false_left (any_at p.category.0 ps) (has_twice ps) once in
    let rest : level_at d (collected d ps (placed d p es)) c
    ≡ (if any_at c ps then level_at d ps c else level_at d (placed d p es) c) =
    collected-level d ps (placed d p es) c (placed-IsRising d p es r)
    (or_false_right (any_at p.category.0 ps) (has_twice ps) once) in
    elim (cases_eq c p.category.0) [
      | inl here ↦
          let fresh_c : any_at c ps ≡ false = rw here fresh in
          let found : level_at d (collected d ps (placed d p es)) c ≡ level_at d (placed d p es) c =
          rw fresh_c at rest in
          found ∙ rw (eq-eqb p.category.0 c (sym here)) (rw here (placed-here d p es r))
      | inr other ↦
          let differs : (p.category.0 == c) ≡ false = eq_false p.category.0 c (omega arith) in
          rest ∙ rw (differs, placed-other d p es c other) refl
    ]

pub none_at : (d : Level) (ps : List Pair) (c : ℕ) → any_at c ps ≡ false → level_at d ps c ≡ d
none_at d [] c h = refl
none_at d (p ∷ ps) c h =
    rw (or_false_left (p.category.0 == c) (any_at c ps) h)
    (none_at d ps c (or_false_right (p.category.0 == c) (any_at c ps) h))

pub collected-levels : (d : Level) (ps : List Pair) (c : ℕ) → has_twice ps ≡ false
    → level_at d (collected d ps []) c ≡ level_at d ps c
collected-levels d ps c once =
    collected-level d ps [] c tt once
    ∙ elim (bool_cases (any_at c ps))
    [ inl found ↦ rw found refl | inr absent ↦ rw (absent, none_at d ps c absent) refl ]

head_at : (pairs : List Pair) (i : ℕ) → i < length pairs
    → drop i pairs ≡ get_or pairs i filler ∷ drop (i + 1) pairs
head_at pairs i h = rw add-one (drop-cons pairs i filler h)

-- the answer where a pair finds no room
pub collect_none : (d : Level) (pairs : List Pair) (i : ℕ) (es : List Pair)
    → CollectGoesOn d pairs i es → i < length pairs
    → false ≡ nat_le (length (placed d (get_or pairs i filler) es)) 16
    → None ≡ collected_all d pairs
collect_none d pairs i es on within full =
    rw (collect_full d pairs i es (get_or pairs i filler) on (head_at pairs i within)
    (le_fails (length (placed d (get_or pairs i filler) es)) 16 (sym full))) refl

-- a step that found room
pub collect_some : (d : Level) (pairs : List Pair) (i : ℕ) (es : List Pair)
    → CollectGoesOn d pairs i es → i < length pairs
    → true ≡ nat_le (length (placed d (get_or pairs i filler) es)) 16
    → CollectGoesOn d pairs (i + 1) (placed d (get_or pairs i filler) es)
collect_some d pairs i es on within room =
    collect_step d pairs i es (get_or pairs i filler) on (head_at pairs i within)
    (le_means (length (placed d (get_or pairs i filler) es)) 16 (sym room))

-- what was collected, from the answer
pub collected_from : (d : Level) (pairs es : List Pair)
    → Some es ≡ collected_all d pairs
    → (has_twice pairs ≡ false) × (es ≡ collected d pairs [])
collected_from d pairs es some =
    elim (bool_cases (has_twice pairs || nat_lt 16 (differing d pairs))) [
      | inl bad ↦ absurd (let e : Some es ≡ None = rw bad at some in cc)
      | inr good ↦
          let found : Some es ≡ Some (collected d pairs []) = rw good at some in
          (or_false_left (has_twice pairs) _ good, (cc))
    ]

-- so it can be stored
pub stored_from_collected : (d : Level) (pairs es : List Pair) → d ≢ Star → length es ≤ 16
    → Some es ≡ collected_all d pairs → IsStored (record { default_level = d; exceptions = es })
stored_from_collected d pairs es plain few some =
    let found = collected_from d pairs es some in
    record {
      owned_by_none = plain;
      few = few;
      rising = rw found.1 (collected-IsRising d pairs [] tt);
      differing = rw found.1 (collected-DiffersFrom d pairs [] tt);
    }
