-- What each condition of a restorable checkpoint gives.
use Rattle.std.proofs.Common.{◌≡◌, Bool, true, nat_lt, List, [], ◌∷◌}
use Rattle.std.specs.List.{list_all}
use Rattle.std.proofs.lemmas.Bool.{and_parts}
use Rattle.base.specs.declared.ranges.Limits.{Limits}
use Rattle.kernel_rules.specs.State.{State}
use Rattle.kernel_rules.specs.WellFormed.{is_well_formed}
use Rattle.checkpoints.specs.Restorable.{is_restorable, conditions, each, has_root, is_ordered, names_given}
use Rattle.checkpoints.specs.Restorable.{is_made_below, has_counters, is_starless, lists_rightly, maps_rightly}
use Rattle.checkpoints.specs.Restorable.{names_kinds, is_whole_entry, spaces_in}
use Rattle.checkpoints.specs.Restored.{restored}
use Rattle.checkpoints.specs.Checkpoint.{Checkpoint}

-- the parts of a restorable checkpoint whose state is s
pub record Parts (limits : Limits) (s : State) (c : Checkpoint) : Type 0 where
  pub well_formed : is_well_formed s ≡ true
  pub root : has_root limits s ≡ true
  pub ordered : is_ordered c ≡ true
  pub given : each (names_given s.next_id) s ≡ true
  pub threads : list_all (λ n. nat_lt n.thread s.next_id) c.next ≡ true
  pub made : each (is_made_below s.next_category) s ≡ true
  pub counters : has_counters limits s ≡ true
  pub starless : each is_starless s ≡ true
  pub lists : each (lists_rightly s) s ≡ true
  pub maps : each maps_rightly s ≡ true
  pub kinds : each (names_kinds s) s ≡ true
  pub entries : each (λ x. list_all is_whole_entry (spaces_in x.body)) s ≡ true

-- all of these conditions hold
abbrev AllHold : List Bool → Type 0
AllHold [] = Unit {0}
AllHold (b ∷ bs) = (b ≡ true) × AllHold bs

all_hold : (bs : List Bool) → list_all (λ b. b) bs ≡ true → AllHold bs
all_hold [] h = tt
all_hold (b ∷ bs) h =
    let p = and_parts b (list_all (λ v. v) bs) h in
    (p.0, all_hold bs p.1)

pub parts_from : (limits : Limits) (s : State) (c : Checkpoint)
    → list_all (λ b. b) (conditions limits s c) ≡ true → Parts limits s c
parts_from limits s c e =
    let h = all_hold (conditions limits s c) e in
    record {
      well_formed = h.0;
      root = h.1.0;
      ordered = h.1.1.0;
      given = h.1.1.1.0;
      threads = h.1.1.1.1.0;
      made = h.1.1.1.1.1.0;
      counters = h.1.1.1.1.1.1.0;
      starless = h.1.1.1.1.1.1.1.0;
      lists = h.1.1.1.1.1.1.1.1.0;
      maps = h.1.1.1.1.1.1.1.1.1.0;
      kinds = h.1.1.1.1.1.1.1.1.1.1.0;
      entries = h.1.1.1.1.1.1.1.1.1.1.1.0;
    }

pub parts_of : (limits : Limits) (c : Checkpoint) → is_restorable limits c ≡ true
    → Parts limits (restored limits c) c
unfolding is_restorable
parts_of limits c h = parts_from limits (restored limits c) c h

pub well_formed : (limits : Limits) (c : Checkpoint) → is_restorable limits c ≡ true
    → is_well_formed (restored limits c) ≡ true
well_formed limits c h = (parts_of limits c h).well_formed
