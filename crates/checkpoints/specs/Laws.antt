-- What holds of the state of a checkpoint that can be restored.
use Rattle.std.specs.Prelude.{◌≡◌, ◌↔◌, ◌≤◌, ℕ, true, false, List, ◌++◌, nat_lt}
use Rattle.label_lattice.specs.Label.{LabelValue, IsStored}
use Rattle.label_lattice.specs.Raw.{is_bad, stored_of, raw_of}
use Rattle.label_lattice.specs.declared.raw_labels.RawLabel.{RawLabel}
use Rattle.std.specs.List.{list_all}
use Rattle.base.specs.Limits.{in_range}
use Rattle.kernel_rules.specs.Step.{next}
use Rattle.base.specs.declared.ranges.Limits.{Limits}
use Rattle.kernel_rules.specs.Runs.{booted, state_after}
use Rattle.kernel_rules.specs.State.{State}
use Rattle.kernel_rules.specs.Translate.{covers, slot_at}
use Rattle.kernel_rules.specs.WellFormed.{is_well_formed, is_stored}
use Rattle.kernel_rules.specs.declared.calls.Call.{Call}
use Rattle.kernel_laws.specs.Names.{IsNamedRightly}
use Rattle.kernel_rules.specs.Events.{Event}
use Rattle.kernel_rules.specs.History.{IsLegal, IsLegalFrom}
use Rattle.checkpoints.specs.Restorable.{is_restorable, is_ordered}
use Rattle.checkpoints.specs.Reached.{IsSound}
use Rattle.checkpoints.specs.Restored.{restored, as_written}
use Rattle.checkpoints.specs.Starts.{start_of, IsCheckpointOf}
use Rattle.checkpoints.specs.Checkpoint.{Checkpoint}

-- it is well formed
abbrev pub RestoredIsWellFormed : Type 0
RestoredIsWellFormed =
    (limits : Limits) (c : Checkpoint) → is_restorable limits c ≡ true
    → is_well_formed (restored limits c) ≡ true

-- its entries name what they may name
abbrev pub RestoredNamesRightly : Type 0
RestoredNamesRightly =
    (limits : Limits) (c : Checkpoint) → is_restorable limits c ≡ true
    → IsNamedRightly (restored limits c)

-- in each state that calls lead to from it, at most one slot of an address space covers a page
abbrev pub RestoredMappingsApart : Type 0
RestoredMappingsApart =
    (limits : Limits) (c : Checkpoint) (calls : List (ℕ × Call)) (a page i j : ℕ)
    → is_restorable limits c ≡ true
    → covers page (slot_at (state_after (restored limits c) calls) a i) ≡ true
    → covers page (slot_at (state_after (restored limits c) calls) a j) ≡ true → i ≡ j

-- the newly booted state is sound
abbrev pub BootIsSound : Type 0
BootIsSound = (l : Limits) → in_range l ≡ true → IsSound l (booted l)

-- from a well-formed and sound state each call leads to a sound one; that it is well formed is what
-- each machine keeps
abbrev pub SoundStays : Type 0
SoundStays =
    (limits : Limits) (s : State) (t : ℕ) (c : Call) → 1 ≤ limits.next_category
    → is_well_formed s ≡ true → is_well_formed (next s t c) ≡ true → IsSound limits s
    → IsSound limits (next s t c)

-- a checkpoint can be restored exactly where its state is well formed and sound, it is ordered, and
-- its threads were given
pub record IsWhole (limits : Limits) (c : Checkpoint) : Type 0 where
  pub well_formed : is_well_formed (restored limits c) ≡ true
  pub sound : IsSound limits (restored limits c)
  pub ordered : is_ordered c ≡ true
  pub threads : list_all (λ n. nat_lt n.thread c.next_id) c.next ≡ true

abbrev pub RestorableAreWhole : Type 0
RestorableAreWhole =
    (limits : Limits) (c : Checkpoint) → (is_restorable limits c ≡ true) ↔ IsWhole limits c

-- what comes after some events of a legal history of a boot is legal from their checkpoint
abbrev pub LaterAreLegal : Type 0
LaterAreLegal =
    (limits : Limits) (c : Checkpoint) (before after : List Event) → IsCheckpointOf limits before c
    → IsLegal limits (before ++ after) → IsLegalFrom (start_of limits c) after

-- a label that is written as a stored one is good, and is stored as it is written; and where a
-- stored label gives back what was written, that was written so
abbrev pub LabelsAsWritten : Type 0
LabelsAsWritten =
    (raw : RawLabel) → (is_stored (as_written raw) ≡ true → (is_bad raw ≡ false)
    × (stored_of raw ≡ as_written raw))
    × ((l : LabelValue) → IsStored l → raw_of l ≡ raw → is_stored (as_written raw) ≡ true)
