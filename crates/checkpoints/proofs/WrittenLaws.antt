-- A label that is written as a stored one is stored as it is written.
use Rattle.std.proofs.Common.{◌≡◌, ◌≢◌, ℕ, true, false, not, ◌&&◌, ◌==◌, nat_lt, nat_le, List, [], ◌∷◌, length, ap}
use Rattle.std.proofs.Common.{subst}
use Rattle.std.specs.List.{list_all}
use Rattle.std.proofs.lemmas.Bool.{and_parts, leb-true, ltb-true, eq-eqb, both_ways, not-true}
use Rattle.base.specs.Level.{rank_of}
use Rattle.base.specs.declared.levels.Level.{Level}
use Rattle.base.specs.declared.levels.Level.TheVariants.{Star}
use Rattle.label_lattice.specs.Label.{LabelValue, IsStored}
use Rattle.label_lattice.specs.Levels.{IsAbove, IsRising, DiffersFrom}
use Rattle.label_lattice.specs.Raw.{is_bad, stored_of, raw_of}
use Rattle.label_lattice.specs.declared.pairings.Pair.{Pair}
use Rattle.label_lattice.specs.declared.raw_labels.RawLabel.{RawLabel}
use Rattle.label_lattice.proofs.RawLemmas.{raw_of-stored, raw_of-good}
use Rattle.kernel_rules.specs.Sizes.{most_exceptions}
use Rattle.kernel_rules.specs.WellFormed.{is_stored, categories_rise}
use Rattle.kernel_rules.proofs.StoredLaws.{stored_test}
use Rattle.checkpoints.specs.Restored.{as_written}

other_level : (a b : Level) → not (rank_of a == rank_of b) ≡ true → a ≢ b
other_level a b h e =
    both_ways (rank_of a == rank_of b) (not-true (rank_of a == rank_of b) h)
    (eq-eqb (rank_of a) (rank_of b) (ap rank_of e))

above_from : (m : ℕ) (ps : List Pair) → list_all (λ q. nat_lt m q.category.0) ps ≡ true → IsAbove m ps
above_from m [] h = tt
above_from m (p ∷ ps) h =
    let a = and_parts (nat_lt m p.category.0) (list_all (λ q. nat_lt m q.category.0) ps) h in
    (ltb-true m p.category.0 a.0, above_from m ps a.1)

rising_from : (ps : List Pair) → categories_rise ps ≡ true → IsRising ps
rising_from [] h = tt
rising_from (p ∷ ps) h =
    let a = and_parts (list_all (λ q. nat_lt p.category.0 q.category.0) ps) (categories_rise ps) h in
    (above_from p.category.0 ps a.0, rising_from ps a.1)

differing_from : (d : Level) (ps : List Pair) → list_all (λ p. not (rank_of p.level == rank_of d)) ps ≡ true
    → DiffersFrom d ps
differing_from d [] h = tt
differing_from d (p ∷ ps) h =
    let a = and_parts (not (rank_of p.level == rank_of d)) (list_all (λ p. not (rank_of p.level == rank_of d)) ps) h in
    (other_level p.level d a.0, differing_from d ps a.1)

pub stored_from : (l : LabelValue) → is_stored l ≡ true → IsStored l
stored_from l h =
    let c = and_parts (not (rank_of l.default_level == 0) && nat_le (length l.exceptions) most_exceptions
    && categories_rise l.exceptions) (list_all (λ p. not (rank_of p.level == rank_of l.default_level)) l.exceptions) h in
    let b = and_parts (not (rank_of l.default_level == 0) && nat_le (length l.exceptions) most_exceptions)
    (categories_rise l.exceptions) c.0 in
    let a = and_parts (not (rank_of l.default_level == 0)) (nat_le (length l.exceptions) most_exceptions) b.0 in
    record {
      owned_by_none = other_level l.default_level Star a.0;
      few = leb-true (length l.exceptions) most_exceptions a.1;
      rising = rising_from l.exceptions b.1;
      differing = differing_from l.default_level l.exceptions c.1;
    }

-- what from_raw makes of it
pub written_stored : (raw : RawLabel) → is_stored (as_written raw) ≡ true
    → (is_bad raw ≡ false) × (stored_of raw ≡ as_written raw)
written_stored raw h =
    let s = stored_from (as_written raw) h in
    (raw_of-good (as_written raw) s, raw_of-stored (as_written raw) s)

-- and where it gives back what was written, that was written as a stored label is
pub stored_written : (raw : RawLabel) (l : LabelValue) → IsStored l → raw_of l ≡ raw
    → is_stored (as_written raw) ≡ true
stored_written raw l s is =
    subst (λ (r : RawLabel). is_stored (as_written r) ≡ true) is (stored_test l s)
