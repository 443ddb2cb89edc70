-- What is built as it is written.
use Rattle.std.proofs.Common.{◌≡◌, ℕ, zero, suc, ◌+◌, ◌<◌, Bool, true, false, cond, nat_lt}
use Rattle.std.proofs.Common.{List, [], ◌∷◌, ◌++◌, length, take, map, slice_index_or, Option, Some, None, refl, sym, ◌∙◌, ap}
use Rattle.std.proofs.Common.{arith}
use Rattle.std.specs.List.{list_all}
use Rattle.std.specs.Ordering.{nat_cmp}
use Rattle.std.specs.BTreeMap.{insert_entry}
use Rattle.std.proofs.lemmas.Bool.{and_parts, and_from}
use Rattle.std.proofs.lemmas.List.{take_more}
use Rattle.label_lattice.specs.Label.{LabelValue, IsStored}
use Rattle.label_lattice.specs.Raw.{is_bad, stored_of, raw_of}
use Rattle.label_lattice.specs.declared.raw_labels.RawLabel.{RawLabel}
use Rattle.kernel_rules.specs.WellFormed.{is_stored, ids_rise}
use Rattle.kernel_rules.specs.declared.objects.Object.{Object}
use Rattle.kernel_rules.proofs.LookupLaws.{insert_last}
use Rattle.checkpoints.specs.Restored.{as_written, object_of}
use Rattle.checkpoints.specs.declared.checkpoints.Recorded.{Recorded}
use Rattle.checkpoints.proofs.WrittenLaws.{written_stored, stored_written}
use Rattle.plain_core.specs.Written.{is_written}

-- what a label is stored as
abbrev as_stored : RawLabel → Option LabelValue
as_stored raw = cond (is_bad raw) None (Some (stored_of raw))

-- and what it is where it is written as that
abbrev written : RawLabel → Option LabelValue
written raw = cond (is_stored (as_written raw)) (Some (as_written raw)) None

good : (raw : RawLabel) → is_stored (as_written raw) ≡ true → as_stored raw ≡ Some (as_written raw)
good raw h =
    let s = written_stored raw h in
    ap (λ b. cond b None (Some (stored_of raw))) s.0 ∙ ap Some s.1

pub written_none : (raw : RawLabel) (r : Option LabelValue) → r ≡ None → r ≡ as_stored raw → None ≡ written raw
written_none raw r none is =
    elim (is_stored (as_written raw))
    as (λ b. is_stored (as_written raw) ≡ b → None ≡ cond b (Some (as_written raw)) None) [
      | false ↦ λ h. refl
      | true ↦ λ h.
          let both : None ≡ Some (as_written raw) = sym none ∙ is ∙ good raw h in
          absurd (cc)
    ] refl

pub written_same : (raw : RawLabel) (l : LabelValue) → IsStored l → raw_of l ≡ raw → Some l ≡ written raw
written_same raw l s is =
    let fit : is_stored (as_written raw) ≡ true = stored_written raw l s is in
    ap (λ (x : RawLabel). Some (as_written x)) is
    ∙ sym (ap (λ b. cond b (Some (as_written raw)) None) fit)

pub written_other : (raw : RawLabel) (r : Option LabelValue) (l : LabelValue) → r ≡ Some l → r ≡ as_stored raw
    → (raw_of l ≡ raw → ⊥) → None ≡ written raw
written_other raw r l some is other =
    elim (is_stored (as_written raw))
    as (λ b. is_stored (as_written raw) ≡ b → None ≡ cond b (Some (as_written raw)) None) [
      | false ↦ λ h. refl
      | true ↦ λ h.
          let both : Some l ≡ Some (as_written raw) = sym some ∙ is ∙ good raw h in
          let same : l ≡ as_written raw = cc in
          absurd (other (ap raw_of same))
    ] refl

-- what follows the first one is above it
above_at : (a : ℕ) (es : List Recorded) (i : ℕ) (e : Recorded) → i < length es → e ≡ slice_index_or es i e
    → list_all (λ (f : ℕ × Object). nat_lt a f.0) (map (λ e. (e.id, object_of e.object)) es) ≡ true
    → nat_lt a e.id ≡ true
above_at a [] i e within is h = absurd (omega arith)
above_at a (y ∷ ys) zero e within is h =
    ap (λ (z : Recorded). nat_lt a z.id) is ∙ (and_parts (nat_lt a y.id) _ h).0
above_at a (y ∷ ys) (suc i) e within is h = above_at a ys i e (omega arith) is (and_parts (nat_lt a y.id) _ h).1

-- those before a place are below what stands there
below_at : (es : List Recorded) (i : ℕ) (e : Recorded) → i < length es → e ≡ slice_index_or es i e
    → ids_rise (map (λ e. (e.id, object_of e.object)) es) ≡ true
    → list_all (λ (f : ℕ × Object). nat_lt f.0 e.id) (map (λ e. (e.id, object_of e.object)) (take i es)) ≡ true
below_at [] i e within is rise = absurd (omega arith)
below_at (y ∷ ys) zero e within is rise = refl
below_at (y ∷ ys) (suc i) e within is rise =
    let parts = and_parts (list_all (λ (f : ℕ × Object). nat_lt y.id f.0) (map (λ e. (e.id, object_of e.object)) ys))
    (ids_rise (map (λ e. (e.id, object_of e.object)) ys)) rise in
    and_from (nat_lt y.id e.id) _ (above_at y.id ys i e (omega arith) is parts.0)
    (below_at ys i e (omega arith) is parts.1)

map_push : (es : List Recorded) (e : Recorded)
    → map {B = ℕ × Object} (λ e. (e.id, object_of e.object)) (es ++ e ∷ [])
    ≡ map {B = ℕ × Object} (λ e. (e.id, object_of e.object)) es ++ (e.id, object_of e.object) ∷ []
map_push [] e = refl
map_push (y ∷ ys) e =
    let f : ℕ × Object = (y.id, object_of y.object) in
    ap (λ t. f ∷ t) (map_push ys e)

-- the list up to the next place
next_place : (es : List Recorded) (i : ℕ) (e : Recorded) → i < length es → e ≡ slice_index_or es i e
    → take (i + 1) es ≡ take i es ++ e ∷ []
next_place es i e within is = take_more es i e within ∙ ap (λ z. take i es ++ z ∷ []) (sym is)

-- one object more
pub built_more : (es : List Recorded) (i : ℕ) (e : Recorded) → i < length es → e ≡ slice_index_or es i e
    → ids_rise (map (λ e. (e.id, object_of e.object)) es) ≡ true
    → (built : List (ℕ × Object)) → built ≡ map (λ e. (e.id, object_of e.object)) (take i es)
    → (x : Object) → x ≡ object_of e.object
    → insert_entry nat_cmp built e.id x ≡ map (λ e. (e.id, object_of e.object)) (take (i + 1) es)
built_more es i e within is rise built before x as' =
    (λ j. insert_entry nat_cmp (before j) e.id (as' j))
    ∙ insert_last e.id (map (λ e. (e.id, object_of e.object)) (take i es)) (object_of e.object)
    (below_at es i e within is rise)
    ∙ sym (map_push (take i es) e)
    ∙ ap (map (λ e. (e.id, object_of e.object))) (sym (next_place es i e within is))

all_push : (es : List Recorded) (e : Recorded) → list_all (λ (e : Recorded). is_written e.object) es ≡ true
    → is_written e.object ≡ true → list_all (λ (e : Recorded). is_written e.object) (es ++ e ∷ []) ≡ true
all_push [] e h last = and_from (is_written e.object) true last refl
all_push (y ∷ ys) e h last =
    let parts = and_parts (is_written y.object) (list_all (λ (e : Recorded). is_written e.object) ys) h in
    and_from (is_written y.object) _ parts.0 (all_push ys e parts.1 last)

pub written_more : (es : List Recorded) (i : ℕ) (e : Recorded) → i < length es → e ≡ slice_index_or es i e
    → list_all (λ (e : Recorded). is_written e.object) (take i es) ≡ true → is_written e.object ≡ true
    → list_all (λ (e : Recorded). is_written e.object) (take (i + 1) es) ≡ true
written_more es i e within is h last =
    ap (list_all (λ (e : Recorded). is_written e.object)) (next_place es i e within is) ∙ all_push (take i es) e h last

-- what is there where the test holds
pub there : {X : Type 0} (b : Bool) (x y : X) → cond b (Some x) None ≡ Some y → (b ≡ true) × (y ≡ x)
there true x y h = (refl, cc)
there false x y h = absurd (cc)
