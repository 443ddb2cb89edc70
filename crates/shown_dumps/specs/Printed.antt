-- What is printed, and the status of each fault.
use Rattle.std.specs.Global.{Vec}
use Rattle.std.specs.Prelude.{ℕ, List, Option, Result, Ok, Err}
use Rattle.std.specs.Io.KnownBytes.{Appends}
use Rattle.shown_dumps.specs.declared.states.faults.ShowFault.{ShowFault}
use Rattle.shown_dumps.specs.declared.states.faults.ShowFault.TheVariants as faults

-- the status of each fault: 1 where the checkpoint is false, 2 where the words or the dump can't be taken, 4 for want of memory
abbrev pub fault_status : ShowFault → ℕ
fault_status (faults.Unreadable m) = 2
fault_status faults.IllFormed = 1
fault_status faults.NoCall = 2
fault_status faults.NoThread = 2
fault_status faults.Memory = 4

-- what is shown was added to what was printed
abbrev pub IsPrinted : Result (Vec ℕ) ShowFault → Option (List ℕ) → Option (List ℕ) → Type 0
IsPrinted (Ok told) before after = Appends before after told.items
IsPrinted (Err fault) before after = ⊥
