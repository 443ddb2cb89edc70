-- The newly booted state.
use Rattle.std.proofs.Common.{◌≡◌, ℕ, ◌∙◌, not, ◌==◌, ◌≤◌, true, ◌&&◌, nat_lt, nat_le}
use Rattle.std.proofs.Common.{refl, arith}
use Rattle.std.proofs.lemmas.Bool.{and_parts, and_from, leb-true}
use Rattle.std.specs.List.{list_all}
use Rattle.base.specs.Level.{rank_of}
use Rattle.base.specs.Limits.{in_range}
use Rattle.base.specs.Live.{is_live, are_live}
use Rattle.base.specs.declared.ranges.Limits.{Limits}
use Rattle.kernel_rules.specs.Runs.{booted}
use Rattle.kernel_rules.specs.State.{lists_of}
use Rattle.kernel_rules.specs.WellFormed.{is_kept}
use Rattle.kernel_rules.specs.WellFormed.{is_well_formed}
use Rattle.kernel_rules.proofs.WellFormedLaws.{well_formed_from}

booted_live : (l : Limits) → are_live (lists_of (booted l).objects) ≡ true
unfolding is_live
booted_live l = refl

first_id : (l : Limits) → in_range l ≡ true → 4 ≤ l.next_id
first_id l h = leb-true 4 l.next_id (and_parts _ _ (and_parts _ _ (and_parts _ _ (and_parts _ _ h).0).0).0).1

given_below : (n : ℕ) → 4 ≤ n → nat_lt 1 n && (nat_lt 2 n && (nat_lt 3 n && true)) ≡ true
given_below n h =
    and_from (nat_lt 1 n) _ (grind arith)
    (and_from (nat_lt 2 n) _ (grind arith) (and_from (nat_lt 3 n) true (grind arith) refl))

three_below : (n : ℕ) → 4 ≤ n → nat_lt 3 n ≡ true
three_below n h = grind arith

enough_pages : (l : Limits) → in_range l ≡ true → 8 ≤ l.pages
enough_pages l h =
    leb-true 8 l.pages
    (and_parts _ _
    (and_parts _ _ (and_parts _ _ (and_parts _ _ (and_parts _ _ (and_parts _ _ h).0).0).0).0).0).0

device_level : (l : Limits) → in_range l ≡ true → not (rank_of l.device == 0) ≡ true
device_level l h = (and_parts _ _ (and_parts _ _ (and_parts _ _ (and_parts _ _ (and_parts _ _ h).0).0).0).0).1

-- the root uses itself, the boot thread and the device: four pages
booted_kept : (l : Limits) → in_range l ≡ true
    → list_all (λ e. is_kept (booted l) e.0 e.1) (booted l).objects ≡ true
booted_kept l h =
    let room : nat_le 4 l.pages ≡ true = at_least l.pages (enough_pages l h) in
    (λ i. (room i && true && true)
    && (true && ((device_level l h i && true && true && true) && true && true && true))) ∙ refl
  where
    at_least : (n : ℕ) → 8 ≤ n → nat_le 4 n ≡ true
    at_least n h = grind arith

pub booted_well_formed : (l : Limits) → in_range l ≡ true → is_well_formed (booted l) ≡ true
booted_well_formed l h = well_formed_from (booted l) (record {
  begun = three_below l.next_id (first_id l h);
  live = booted_live l;
  given = given_below l.next_id (first_id l h);
  rise = refl;
  kept = booted_kept l h;
})
