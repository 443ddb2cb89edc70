-- What a text opens: a kernel at the checkpoint of its dump, or why there is none.
use Rattle.std.specs.Prelude.{◌≡◌, ◌⊎◌, ℕ, List, [], ◌∷◌, true, Option, Some, None, option_map, Result, Ok, Err}
use Rattle.base.specs.declared.ranges.Limits.{Limits}
use Rattle.checkpoints.specs.Checkpoint.{Checkpoint}
use Rattle.checkpoints.specs.Restored.{restored}
use Rattle.dump_text.specs.Dump.{DumpFaultsAt, IsDump}
use Rattle.dump_text.specs.Lists.{DumpLists}
use Rattle.kernel_rules.specs.Events.{Event}
use Rattle.logged_kernel.specs.Logged.{Logged}
use Rattle.syscall_core.specs.Kernel.{kernel_state}
use Rattle.syscall_core.specs.Restored.{restore_refusal}
use Rattle.syscall_core.specs.declared.restores.RestoreError.{RestoreError}
use Rattle.syscall_core.specs.declared.restores.RestoreError.TheVariants as errors
use Rattle.histar_c.specs.Served.{IsBoot}

-- the number that tells why a checkpoint is not restored
abbrev pub number_of : RestoreError → ℕ
number_of errors.BadLimits = 31
number_of errors.IllFormed = 60
number_of errors.OlderContainer = 60
number_of errors.NoMemory = 30

-- a new kernel in the state that the checkpoint writes down, whose calls are not kept; or why there is none, 30 for want of memory
abbrev pub IsRestored : Limits → Checkpoint → Result Logged ℕ → Type 0
IsRestored limits c (Ok k) =
    (restore_refusal limits c ≡ None) × (kernel_state k.kernel ≡ restored limits c) × (k.limits ≡ limits) × (k.origin ≡ c)
    × (k.is_new ≡ true) × (k.log ≡ None)
IsRestored limits c (Err why) = (why ≡ 30) ⊎ (option_map number_of (restore_refusal limits c) ≡ Some why)

-- where events begin: at a boot, or at the checkpoint
abbrev pub IsBegun : Limits → Option Checkpoint → Result Logged ℕ → Type 0
IsBegun limits None held = IsBoot (Some limits) held
IsBegun limits (Some c) held = IsRestored limits c held

-- a dump with events opens nothing, and the number is 63
abbrev pub IsOpenedAt : Limits → Option Checkpoint → List Event → Result Logged ℕ → Type 0
IsOpenedAt limits checkpoint [] held = IsBegun limits checkpoint held
IsOpenedAt limits checkpoint (e ∷ es) held = held ≡ Err 63

-- what the dump of the text opens; 50 where the text is none, and 30 for want of memory
abbrev pub IsOpened : List ℕ → Result Logged ℕ → Type 0
IsOpened text held =
    (held ≡ Err 30)
    ⊎ ((line : ℕ) × DumpFaultsAt text line × (held ≡ Err 50))
    ⊎ ((d : DumpLists) × IsDump text d × IsOpenedAt d.limits d.checkpoint d.events held)
