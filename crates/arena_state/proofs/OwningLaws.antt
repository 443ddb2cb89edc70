-- A thread that owns one category more.
use Rattle.std.proofs.Common.{◌≡◌, ℕ, Bool, true, false, cond, List, [], ◌∷◌, Some, None, refl, ◌∙◌, ap}
use Rattle.std.specs.Ordering.{nat_cmp}
use Rattle.std.specs.Map.{set_value}
use Rattle.std.specs.BTreeMap.{is_at}
use Rattle.label_lattice.specs.Label.{LabelValue}
use Rattle.kernel_rules.specs.Changes.{changed, put, labelled, cleared, owning}
use Rattle.kernel_rules.specs.State.{State, object_at, of_object}
use Rattle.kernel_rules.specs.WellFormed.{is_well_formed}
use Rattle.kernel_rules.specs.declared.objects.Object.{Object}
use Rattle.kernel_rules.proofs.LookupLaws.{at_self, lookup_put}
use Rattle.kernel_rules.proofs.WellFormedLaws.{soundness_of, well_formed_from}
use Rattle.arena_state.specs.declared.pieces.Pieces.{Pieces}
use Rattle.arena_state.specs.Assembled.{pieces_state}
use Rattle.arena_state.specs.Sound.{IsSound}

-- of two writes at one key the later one stays
set_twice : {X : Type 0} (p : ℕ → Bool) (es : List (ℕ × X)) (y z : X) → set_value p (set_value p es y) z ≡ set_value p es z
set_twice p [] y z = refl
set_twice {X} p (e ∷ es) y z =
    elim (p e.0)
    as (λ v. p e.0 ≡ v → set_value p (cond v ((e.0, y) ∷ es) (e ∷ set_value p es y)) z
    ≡ cond v ((e.0, z) ∷ es) (e ∷ set_value p es z)) [
      | true ↦ λ is. ap {B = List (ℕ × X)} (λ (b : Bool). cond b ((e.0, z) ∷ es) ((e.0, y) ∷ set_value p es z)) is
      | false ↦ λ is.
          ap {B = List (ℕ × X)} (λ (b : Bool). cond b ((e.0, z) ∷ set_value p es y) (e ∷ set_value p (set_value p es y) z)) is
          ∙ ap (λ (t : List (ℕ × X)). e ∷ t) (set_twice p es y z)
    ] refl

-- two changes of one object are one
pub changed_twice : (s : State) (o : ℕ) (f g : Object → Object) → changed (changed s o f) o g ≡ changed s o (λ x. g (f x))
changed_twice s o f g =
    elim (object_at s o)
    as (λ v. object_at s o ≡ v → changed (of_object s (λ x. put s o (f x)) v) o g ≡ of_object s (λ x. put s o (g (f x))) v) [
      | None ↦ λ is. ap (of_object s (λ x. put s o (g x))) is
      | Some x ↦ λ found.
          let here : object_at (put s o (f x)) o ≡ Some (f x)
          = lookup_put o o s.objects x (f x) found
          ∙ ap (λ (b : Bool). cond b (Some (f x)) (object_at s o)) (at_self o) in
          ap (of_object (put s o (f x)) (λ y. put (put s o (f x)) o (g y))) here
          ∙ (λ i. record s { objects = set_twice (is_at (nat_cmp o)) s.objects (f x) (g (f x)) i })
    ] refl

-- a thread of another label, then of another clearance
pub owning_both : (s mid new : State) (t : ℕ) (l c : LabelValue) → mid ≡ changed s t (labelled l) → new ≡ changed mid t (cleared c)
    → new ≡ changed s t (owning l c)
owning_both s mid new t l c first second =
    second ∙ ap (λ (x : State). changed x t (cleared c)) first ∙ changed_twice s t (labelled l) (cleared c)

counted_formed : (s : State) (n : ℕ) → is_well_formed s ≡ true → is_well_formed (record s { next_category = n }) ≡ true
counted_formed s n h =
    let mid = soundness_of s h in
    well_formed_from (record s { next_category = n })
    (record { begun = mid.begun; live = mid.live; given = mid.given; rise = mid.rise; kept = mid.kept })

-- the counter of categories is bound to nothing else
pub counted_sound : (p : Pieces) (n : ℕ) → IsSound p → IsSound (record p { next_category = n })
counted_sound p n s = record {
  formed = counted_formed (pieces_state p) n s.formed;
  tree = s.tree;
  lists = s.lists;
  owned = s.owned;
  uses = s.uses;
  climbs = s.climbs;
  cells = s.cells;
  records = s.records;
  pool = s.pool;
  rooted = s.rooted;
  root = s.root;
}
