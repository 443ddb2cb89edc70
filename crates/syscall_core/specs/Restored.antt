-- Which checkpoints an arena kernel refuses, and which numbers it writes down.
use Rattle.std.specs.Prelude.{◌≡◌, true, not, nat_le, nat_lt, List, Option, Some, None, if◌then◌else◌}
use Rattle.std.specs.List.{list_all}
use Rattle.base.specs.Limits.{in_range}
use Rattle.base.specs.declared.ranges.Limits.{Limits}
use Rattle.checkpoints.specs.Checkpoint.{Checkpoint}
use Rattle.checkpoints.specs.Reached.{IsSound}
use Rattle.checkpoints.specs.Restorable.{is_restorable, threads_rise}
use Rattle.checkpoints.specs.Restored.{restored}
use Rattle.checkpoints.specs.declared.checkpoints.NextNumber.{NextNumber}
use Rattle.kernel_laws.specs.Names.{IsNamedRightly}
use Rattle.arena_state.specs.Restored.{are_younger, IsHoldable}
use Rattle.kernel_rules.specs.State.{State}
use Rattle.syscall_core.specs.declared.restores.RestoreError.{RestoreError}
use Rattle.syscall_core.specs.declared.restores.RestoreError.TheVariants as errors

-- why a checkpoint is refused, if it is: the first of these
abbrev pub restore_refusal : Limits → Checkpoint → Option RestoreError
restore_refusal limits c =
    if not (in_range limits) then Some errors.BadLimits
    else if not (is_restorable limits c) then Some errors.IllFormed
    else if not (are_younger (restored limits c)) then Some errors.OlderContainer
    else None

-- a state that an arena kernel can keep: it can be laid out, and what its spaces name is named rightly
pub record IsKeepable (s : State) : Type 0 where
  pub holdable : IsHoldable s
  pub named : IsNamedRightly s

-- next numbers of threads that were given, which rise; each is from 2
pub record AreNext (s : State) (next : List NextNumber) : Type 0 where
  pub rise : threads_rise next ≡ true
  pub later : list_all (λ n. nat_le 2 n.number) next ≡ true
  pub given : list_all (λ n. nat_lt n.thread s.next_id) next ≡ true

-- what holds of a kernel with these limits and in this state, beside that the state is well formed
pub record IsReached (l : Limits) (s : State) : Type 0 where
  pub same : s.limits ≡ l
  pub range : in_range l ≡ true
  pub sound : IsSound l s

-- the same, for whoever asks
abbrev pub WasReached : Limits → State → Type 0
WasReached l s = Unit {0} → IsReached l s
