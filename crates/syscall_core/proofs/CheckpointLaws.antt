-- What holds of a kernel's state, as calls lead to it, and of what writes it down.
use Rattle.std.proofs.Common.{◌≡◌, ℕ, true, false, Bool, not, cond, nat_lt, List, Some, None, Result, Ok, Err, IfOk, refl, sym, ◌∙◌, ap, subst}
use Rattle.std.specs.List.{list_all}
use Rattle.base.specs.Limits.{in_range}
use Rattle.base.specs.declared.memory.NoMemory.{NoMemory}
use Rattle.base.specs.declared.ranges.Limits.{Limits}
use Rattle.kernel_rules.specs.Runs.{booted}
use Rattle.kernel_rules.specs.State.{State, object_at}
use Rattle.kernel_rules.specs.Step.{next}
use Rattle.kernel_rules.specs.WellFormed.{is_well_formed}
use Rattle.kernel_rules.specs.declared.calls.Call.{Call}
use Rattle.checkpoints.specs.Checkpoint.{Checkpoint}
use Rattle.checkpoints.specs.Restorable.{is_restorable, has_slots, filled_in}
use Rattle.checkpoints.specs.Restored.{restored}
use Rattle.checkpoints.specs.declared.checkpoints.NextNumber.{NextNumber}
use Rattle.checkpoints.specs.declared.checkpoints.Recorded.{Recorded}
use Rattle.checkpoints.proofs.BootReached.{boot_reached}
use Rattle.checkpoints.proofs.LimitsLaws.{next_limits}
use Rattle.checkpoints.proofs.SoundLaws.{restorable_whole}
use Rattle.plain_core.proofs.CheckpointLaws.{sound_more, written_restorable}
use Rattle.arena_state.specs.Restored.{are_younger, IsHoldable}
use Rattle.arena_state.specs.States.{state_of}
use Rattle.arena_state.specs.declared.states.ArenaState.{ArenaState}
use Rattle.arena_state.proofs.StockLaws.{whole_formed}
use Rattle.syscall_core.specs.Restored.{restore_refusal, AreNext, IsReached}
use Rattle.syscall_core.specs.declared.restores.RestoreError.TheVariants as errors
use Rattle.syscall_core.proofs.AgeLaws.{younger}
use Rattle.syscall_core.proofs.RestoreLaws.{root_quota}

-- calls lead from a boot to what holds
pub booted_reached : (l : Limits) (s : State) → in_range l ≡ true → s ≡ booted l → IsReached l s
booted_reached l s range is =
    subst (IsReached l) (sym is) (record { same = refl; range = range; sound = boot_reached l range })

pub next_reached : (l : Limits) (s n : State) (t : ℕ) (c : Call) → IsReached l s → is_well_formed s ≡ true
    → is_well_formed n ≡ true → n ≡ next s t c → IsReached l n
next_reached l s n t c h before after step = record {
  same = ap (λ (z : State). z.limits) step ∙ next_limits s t c ∙ h.same;
  range = h.range;
  sound = sound_more l t c s n h.range before after step h.sound;
}

-- what is not refused
refused_none : (a b c : Bool) → cond (not a) (Some errors.BadLimits) (cond (not b) (Some errors.IllFormed)
    (cond (not c) (Some errors.OlderContainer) None)) ≡ None → (a ≡ true) × (b ≡ true)
refused_none true true c h = (refl, refl)
refused_none true false c h = absurd (cc)
refused_none false b c h = absurd (cc)

pub unrefused : (l : Limits) (c : Checkpoint) → restore_refusal l c ≡ None → (in_range l ≡ true) × (is_restorable l c ≡ true)
unrefused l c fit = refused_none (in_range l) (is_restorable l c) (are_younger (restored l c)) fit

pub restored_reached : (l : Limits) (c : Checkpoint) (s : State) → restore_refusal l c ≡ None → s ≡ restored l c → IsReached l s
restored_reached l c s fit is =
    let parts = unrefused l c fit in
    subst (IsReached l) (sym is)
    (record { same = refl; range = parts.0; sound = ((restorable_whole l c).0 parts.1).sound })

-- it can be laid out anew
pub reached_holdable : (l : Limits) (a : ArenaState) → IsReached l (state_of a) → IsHoldable (state_of a)
reached_holdable l a h = record {
  formed = whole_formed a.pieces a.sound a.stocked;
  some = h.sound.ids;
  range = ap in_range h.same ∙ h.range;
  root = root_quota l (object_at (state_of a) 1) h.sound.root ∙ ap (λ (m : Limits). m.pages) (sym h.same);
  younger = younger a;
}

-- what writes it down is not refused
pub written_fit : (l : Limits) (a : ArenaState) (c : Checkpoint) (next : List NextNumber) → IsReached l (state_of a)
    → restored l c ≡ state_of a → c.next ≡ next
    → list_all (λ (e : Recorded). has_slots (filled_in e.object.body)) c.objects ≡ true → AreNext (state_of a) next
    → restore_refusal l c ≡ None
written_fit l a c next h is same slots numbered =
    let numbers : AreNext (state_of a) c.next = subst (AreNext (state_of a)) (sym same) numbered in
    let id : c.next_id ≡ (state_of a).next_id = ap (λ (z : State). z.next_id) is in
    let fit : is_restorable l c ≡ true =
    written_restorable l c (state_of a) is (whole_formed a.pieces a.sound a.stocked) h.sound slots numbers.rise numbers.later
    (subst (λ (i : ℕ). list_all (λ (n : NextNumber). nat_lt n.thread i) c.next ≡ true) (sym id) numbers.given) in
    let young : are_younger (restored l c) ≡ true = ap are_younger is ∙ younger a in
    (λ i. cond (not (h.range i)) (Some errors.BadLimits) (cond (not (fit i)) (Some errors.IllFormed)
    (cond (not (young i)) (Some errors.OlderContainer) None)))

-- the same, of a result
pub all_fit : (l : Limits) (a : ArenaState) (r : Result Checkpoint NoMemory) (next : List NextNumber) → IsReached l (state_of a)
    → IfOk r (λ c. restored l c ≡ state_of a) → IfOk r (λ c. c.next ≡ next)
    → IfOk r (λ c. list_all (λ (e : Recorded). has_slots (filled_in e.object.body)) c.objects ≡ true) → AreNext (state_of a) next
    → IfOk r (λ c. restore_refusal (state_of a).limits c ≡ None)
all_fit l a (Ok c) next h is same slots numbered =
    subst (λ (m : Limits). restore_refusal m c ≡ None) (sym h.same) (written_fit l a c next h is same slots numbered)
all_fit l a (Err e) next h is same slots numbered = tt
