-- Why a run ends with another status than 0.
use Rattle.std.specs.Prelude.{◌≡◌, ℕ, List, Option, IfSome}
use Rattle.call_text.specs.Script.{IsScript}
use Rattle.call_text.specs.Scripts.{plain_text}
use Rattle.call_text.specs.declared.phases.Line.{Line}
use Rattle.check_text.specs.Checks.{IsFaultyIn}
use Rattle.program_io.specs.Faults.{status_of}
use Rattle.program_io.specs.declared.faults.Fault.{Fault}
use Rattle.program_io.specs.declared.faults.Fault.TheVariants.{Input, Output, Memory}
use Rattle.script_runner.specs.declared.program.RunFault.{RunFault}
use Rattle.script_runner.specs.declared.program.RunFault.TheVariants.{Script, Other}

-- the status: 1 for a fault of the script
abbrev pub run_status : RunFault → ℕ
run_status (Script faults) = 1
run_status (Other fault) = status_of fault

-- a fault of the script is the first in the exact form of these bytes, which stand at a path, and is told as histar check tells it;
-- the only other is want of memory
abbrev pub IsFaultOf : List ℕ → List ℕ → RunFault → Type 0
IsFaultOf path bytes (Script faults) = IsFaultyIn path bytes faults.line faults.text.items
IsFaultOf path bytes (Other fault) = fault ≡ Memory

-- the bytes spell a script, in their exact form
abbrev pub SpellScript : List ℕ → Type 0
SpellScript bytes = (script : List (List Line)) × IsScript (plain_text bytes) script

-- a fault that is not the script's: only where the bytes spell a script is it the output's
abbrev pub IsOtherFault : List ℕ → Fault → Type 0
IsOtherFault bytes Input = Unit {0}
IsOtherFault bytes Output = SpellScript bytes
IsOtherFault bytes Memory = Unit {0}

-- how a run ends that read these bytes, or could not
abbrev pub IsEndOf : List ℕ → List ℕ → RunFault → Type 0
IsEndOf path bytes (Script faults) = IsFaultyIn path bytes faults.line faults.text.items
IsEndOf path bytes (Other fault) = IsOtherFault bytes fault

-- the same of the bytes that a reader gives, where they are known
abbrev pub IsRefusedFor : List ℕ → Option (List ℕ) → RunFault → Type 0
IsRefusedFor path given fault = IfSome given (λ bytes. IsEndOf path bytes fault)

-- nothing was printed, but where the output failed
abbrev pub IsQuiet : Option (List ℕ) → Option (List ℕ) → RunFault → Type 0
IsQuiet old new (Script faults) = new ≡ old
IsQuiet old new (Other Input) = new ≡ old
IsQuiet old new (Other Output) = Unit {0}
IsQuiet old new (Other Memory) = new ≡ old
