-- Categories that were made before the next one stay so.
use Rattle.std.proofs.Common.{ℕ, ◌≤◌, inl, inr, IsTrue, List, [], ◌∷◌, refl, arith}
use Rattle.std.proofs.Common.{◌==◌}
use Rattle.std.proofs.lemmas.Bool.{cases_order}
use Rattle.std.proofs.lemmas.Bool.Decides.{nat_tests}
use Rattle.base.specs.declared.levels.Level.{Level}
use Rattle.base.specs.Level.{rank_of}
use Rattle.label_lattice.specs.declared.pairings.Pair.{Pair}
use Rattle.label_lattice.specs.declared.raw_labels.RawLabel.{RawLabel}
use Rattle.label_lattice.specs.Label.{LabelValue}
use Rattle.label_lattice.specs.Placed.{kept, placed, with_level}
use Rattle.label_lattice.specs.Raw.{is_made, all_made, collected, stored_of}
use Rattle.label_lattice.proofs.LabelLemmas.{bool_cases}
use Rattle.label_lattice.proofs.WalkLemmas.{and_parts, and_both}
use Rattle.label_lattice.proofs.PlacedLemmas.{placed-same, placed-after, placed-before}

module _ (next : ℕ) (d : Level) (p : Pair) where
  made-kept : (rest : List Pair) → IsTrue (is_made next p) → IsTrue (all_made next rest)
      → IsTrue (all_made next (kept d p rest))
  made-kept rest here made =
      elim (bool_cases (rank_of p.level == rank_of d)) [
        | inl same ↦ rw same made
        | inr other ↦ rw other (and_both (is_made next p) (all_made next rest) here made)
      ]

  made-placed : (ps : List Pair) → IsTrue (is_made next p) → IsTrue (all_made next ps)
      → IsTrue (all_made next (placed d p ps))
  made-placed [] here made = made-kept [] here made
  made-placed (q ∷ qs) here made =
      let parts : IsTrue (is_made next q) × IsTrue (all_made next qs) =
      and_parts (is_made next q) (all_made next qs) made in
      elim (cases_order q.category.0 p.category.0) [
        | inl same ↦
            rw (placed-same d p q qs same)
            (made-kept qs here parts.1)
        | inr apart ↦ elim apart [
          | inl below ↦
              rw (placed-after d p q qs below)
              (and_both (is_made next q) (all_made next (placed d p qs)) parts.0
              (made-placed qs here parts.1))
          | inr gt ↦
              rw (placed-before d p q qs gt)
              (made-kept (q ∷ qs) here made)
        ]
      ]

made-collected : (next : ℕ) (d : Level) (ps es : List Pair) → IsTrue (all_made next ps)
    → IsTrue (all_made next es) → IsTrue (all_made next (collected d ps es))
made-collected next d [] es made found = found
made-collected next d (p ∷ ps) es made found =
    let parts : IsTrue (is_made next p) × IsTrue (all_made next ps) =
    and_parts (is_made next p) (all_made next ps) made in
    made-collected next d ps (placed d p es) parts.1 (made-placed next d p es parts.0 found)

-- where the categories of a raw label were made, so were those of the label that is stored
pub made_stored : (next : ℕ) (raw : RawLabel) → IsTrue (all_made next raw.pairs)
    → IsTrue (all_made next (stored_of raw).exceptions)
made_stored next raw made = made-collected next raw.default raw.pairs [] made refl

-- a level for a category that was made adds no other
pub made_placed : (next : ℕ) (l : LabelValue) (p : Pair) → IsTrue (all_made next l.exceptions)
    → IsTrue (is_made next p) → IsTrue (all_made next (with_level l p).exceptions)
made_placed next l p made here = made-placed next l.default_level p l.exceptions here made

is_made-later : (next later : ℕ) (p : Pair) → next ≤ later → IsTrue (is_made next p)
    → IsTrue (is_made later p)
is_made-later next later p le h = grind (arith, nat_tests)

-- what was made stays so as the next category rises
pub made_later : (next later : ℕ) (ps : List Pair) → next ≤ later → IsTrue (all_made next ps)
    → IsTrue (all_made later ps)
made_later next later [] le made = refl
made_later next later (p ∷ ps) le made =
    let parts : IsTrue (is_made next p) × IsTrue (all_made next ps) =
    and_parts (is_made next p) (all_made next ps) made in
    and_both (is_made later p) (all_made later ps) (is_made-later next later p le parts.0)
    (made_later next later ps le parts.1)
