-- Boot begins in such a state, and whole runs stay in such states.
use Rattle.std.proofs.Common.{◌≡◌, ℕ, ◌≤◌, Bool, true, false, not, ◌&&◌, ◌||◌, ◌==◌, nat_le, List, [], ◌∷◌}
use Rattle.std.proofs.Common.{Some, None, refl, sym, subst, arith, inl, inr}
use Rattle.std.specs.List.{list_all}
use Rattle.std.proofs.lemmas.Bool.{and_parts, leb-true, eq-eqb, eqb-true, both_ways, or_cases, not-true, not_from_false, or_from}
use Rattle.base.specs.Limits.{in_range, spent}
use Rattle.base.specs.Level.{rank_of}
use Rattle.base.specs.Live.{has}
use Rattle.base.specs.Sets.{no_kind}
use Rattle.base.specs.declared.ranges.Limits.{Limits}
use Rattle.kernel_rules.specs.Runs.{booted}
use Rattle.kernel_rules.specs.State.{State, object_at, of_object, listed}
use Rattle.kernel_rules.proofs.BootLaws.{booted_well_formed}
use Rattle.kernel_rules.proofs.LookupLaws.{all_at}
use Rattle.kernel_laws.proofs.Apart.{boot_sound}
use Rattle.kernel_laws.proofs.Boot.{booted_lem}
use Rattle.checkpoints.specs.Reached.{IsSound}
use Rattle.checkpoints.specs.Restorable.{may_hold, avoid_of, lists_rightly, each}
use Rattle.checkpoints.proofs.HoldLaws.{HoldRightly}
use Rattle.checkpoints.proofs.LocalSteps.{AreLocal}
use Rattle.checkpoints.proofs.ReachLaws.{Kept}
use Rattle.checkpoints.proofs.ReachedTests.{sound_from}

-- the limits in range, as numbers
record Ranges (l : Limits) : Type 0 where
  device : not (rank_of l.device == 0) ≡ true
  id_within : l.next_id ≤ spent
  category : 1 ≤ l.next_category
  category_within : l.next_category ≤ spent

ranges_of : (l : Limits) → in_range l ≡ true → Ranges l
ranges_of l h =
    let g = and_parts (nat_le 8 l.pages && nat_le l.pages 1024 && not (rank_of l.device == 0) && nat_le 4 l.next_id
    && nat_le l.next_id spent && nat_le 1 l.next_category) (nat_le l.next_category spent) h in
    let f = and_parts (nat_le 8 l.pages && nat_le l.pages 1024 && not (rank_of l.device == 0) && nat_le 4 l.next_id
    && nat_le l.next_id spent) (nat_le 1 l.next_category) g.0 in
    let e = and_parts (nat_le 8 l.pages && nat_le l.pages 1024 && not (rank_of l.device == 0) && nat_le 4 l.next_id)
    (nat_le l.next_id spent) f.0 in
    let d = and_parts (nat_le 8 l.pages && nat_le l.pages 1024 && not (rank_of l.device == 0)) (nat_le 4 l.next_id) e.0 in
    let c = and_parts (nat_le 8 l.pages && nat_le l.pages 1024) (not (rank_of l.device == 0)) d.0 in
    record {
      device = c.1;
      id_within = leb-true l.next_id spent e.1;
      category = leb-true 1 l.next_category f.1;
      category_within = leb-true l.next_category spent g.1;
    }

-- what a test of each says of one
listed_at : (test : ℕ → Bool) (ids : List ℕ) (i : ℕ) → list_all test ids ≡ true → has ids i ≡ true → test i ≡ true
listed_at test [] i all h = absurd (cc)
listed_at test (j ∷ ids) i all h =
    let p = and_parts (test j) (list_all test ids) all in
    elim (or_cases (i == j) (has ids i) h) as (λ _. test i ≡ true) [
      | inl on ↦ subst (λ k. test k ≡ true) (sym (eqb-true i j on)) p.0
      | inr rest ↦ listed_at test ids i p.1 rest
    ]

pub held_from : (s : State) → each (lists_rightly s) s ≡ true → HoldRightly s
held_from s all d i h =
    elim (object_at s d)
    as (λ v. object_at s d ≡ v → has (of_object [] (λ x. listed x.body) v) i ≡ true
    → of_object true (may_hold (of_object no_kind (λ x. avoid_of x.body) v)) (object_at s i) ≡ true) [
      | None ↦ λ is on. absurd (both_ways false refl on)
      | Some x ↦ λ is on.
          listed_at (λ k. of_object true (may_hold (avoid_of x.body)) (object_at s k)) (listed x.body) i
          (all_at (λ q y. lists_rightly s y) s.objects d x all is) on
    ] refl h

boot_local : (l : Limits) → not (rank_of l.device == 0) ≡ true → AreLocal l.next_category (booted l)
boot_local l device = (
  record { id = refl; made = refl; starless = refl; bounds = refl; entries = refl; plain = refl },
  (
    record { id = refl; made = refl; starless = refl; bounds = refl; entries = refl; plain = refl },
    (
      record {
        id = refl;
        made = refl;
        starless = not_from_false ((rank_of l.device == 0) || false)
            (or_from (rank_of l.device == 0) false (not-true (rank_of l.device == 0) device) refl);
        bounds = refl;
        entries = refl;
        plain = refl;
      },
      tt,
    ),
  ),
)

pub boot_kept : (l : Limits) → in_range l ≡ true → Kept l (booted l)
boot_kept l h =
    let r = ranges_of l h in
    record {
      root = eq-eqb l.pages l.pages refl;
      named = booted_lem l;
      counters = record {
        id = omega arith;
        id_within = r.id_within;
        category = omega arith;
        category_within = r.category_within;
      };
      local = boot_local l r.device;
      apart = boot_sound l;
      held = held_from (booted l) refl;
    }

pub boot_reached : (l : Limits) → in_range l ≡ true → IsSound l (booted l)
boot_reached l h = sound_from l (booted l) (booted_well_formed l h) (boot_kept l h)
