-- Where the events after a checkpoint begin.
use Rattle.std.specs.Prelude.{◌≡◌, ℕ, true, ◌+◌, ◌==◌, nat_le, List, [], ◌∷◌, if◌then◌else◌}
use Rattle.std.specs.List.{list_all}
use Rattle.base.specs.declared.ranges.Limits.{Limits}
use Rattle.kernel_rules.specs.Events.{Event}
use Rattle.kernel_rules.specs.History.{Start, state_of, count}
use Rattle.checkpoints.specs.Restorable.{threads_rise}
use Rattle.checkpoints.specs.Restored.{restored}
use Rattle.checkpoints.specs.Checkpoint.{Checkpoint}
use Rattle.checkpoints.specs.declared.checkpoints.NextNumber.{NextNumber}

-- the number of a thread's next event: 1, where none is written
abbrev pub number_of : List NextNumber → ℕ → ℕ
number_of [] t = 1
number_of (n ∷ ns) t = if t == n.thread then n.number else number_of ns t

-- the state that is written down, with these numbers
abbrev pub start_of : Limits → Checkpoint → Start
start_of limits c = record { state = restored limits c; first = number_of c.next }

-- The checkpoint writes down the state after these events of a boot, and for each thread of them, as its next number, one
-- more than the count of its events. The threads are written by rising id, each with a number from 2.
pub record IsCheckpointOf (limits : Limits) (events : List Event) (c : Checkpoint) : Type 0 where
  pub state : restored limits c ≡ state_of limits events
  pub numbers : (t : ℕ) → number_of c.next t ≡ count t events + 1
  pub rise : threads_rise c.next ≡ true
  pub later : list_all (λ n. nat_le 2 n.number) c.next ≡ true
