-- What a run of the program prints and writes.
use Rattle.std.proofs.Common.{◌≡◌, ◌≢◌, List, ℕ, refl, ◌∙◌, ap, sym, subst, Option, Some, None, IfSome, Result, Ok, Err}
use Rattle.std.specs.Result.{IfErr, IsErrAnd}
use Rattle.std.specs.Io.KnownBytes.{Appends}
use Rattle.call_text.specs.declared.phases.Line.{Line}
use Rattle.call_text.specs.Script.{IsScript}
use Rattle.call_text.specs.Numbers.{renumbered}
use Rattle.call_text.specs.Scripts.{kept_numbers, plain_text}
use Rattle.check_text.specs.Checks.{IsFaultyIn}
use Rattle.program_io.specs.declared.faults.Fault.{Fault}
use Rattle.program_io.specs.declared.faults.Fault.TheVariants.{Input, Output, Memory}
use Rattle.program_io.specs.declared.options.Options.{Options}
use Rattle.script_runner.specs.Faults.{IsFaultOf, IsOtherFault, IsQuiet, IsRefusedFor, SpellScript}
use Rattle.script_runner.specs.Runs.{IsRunTold, Writes}
use Rattle.script_runner.specs.declared.program.RunFault.{RunFault}
use Rattle.script_runner.specs.declared.program.RunFault.TheVariants.{Script, Other}

-- the run of the script that was read, by the numbers of the lines as they were written
pub run_of : (left : Option (List ℕ)) (read given : List ℕ) (options : Options) (script : List (List Line)) (old new : Option (List ℕ))
    (text told dump names : List ℕ) → IfSome left (λ bytes. read ≡ bytes) → given ≡ read → IsScript (plain_text given) script
    → Writes options script text dump names → told ≡ renumbered (kept_numbers given) text → Appends old new told
    → IfSome left (λ bytes. IsRunTold options bytes old new dump names)
run_of None read given options script old new text told dump names same is spelled written text_is printed = tt
run_of (Some bytes) read given options script old new text told dump names same is spelled written text_is printed = record {
  script = script;
  text = text;
  spelled = subst (λ (bs : List ℕ). IsScript (plain_text bs) script) (is ∙ same) spelled;
  written = written;
  printed = subst (Appends old new) (text_is ∙ ap (λ (bs : List ℕ). renumbered (kept_numbers bs) text) (is ∙ same)) printed;
}

-- a fault of reading
pub unread : (path : List ℕ) (given : Option (List ℕ)) (fault : Fault) → fault ≢ Output → IsRefusedFor path given (Other fault)
unread path None fault is = tt
unread path (Some bytes) Input is = tt
unread path (Some bytes) Output is = absurd (is refl)
unread path (Some bytes) Memory is = tt

-- of the script that was read
pub unplayed : (path : List ℕ) (given : Option (List ℕ)) (read : List ℕ) (fault : RunFault) → IfSome given (λ bytes. read ≡ bytes)
    → IsFaultOf path read fault → IsRefusedFor path given fault
unplayed path None read fault same is = tt
unplayed path (Some bytes) read (Script faults) same is =
    subst (λ (bs : List ℕ). IsFaultyIn path bs faults.line faults.text.items) same is
unplayed path (Some bytes) read (Other fault) same is = subst (IsOtherFault bytes) (sym is) tt

-- and of writing what it left
pub unwritten : (path : List ℕ) (given : Option (List ℕ)) (read : List ℕ) (script : List (List Line)) (fault : Fault)
    → IfSome given (λ bytes. read ≡ bytes) → IsScript (plain_text read) script → fault ≡ Output → IsRefusedFor path given (Other fault)
unwritten path None read script fault same spelled is = tt
unwritten path (Some bytes) read script fault same spelled is =
    subst (IsOtherFault bytes) (sym is) (subst SpellScript same (script, spelled))

-- what holds of a fault, where a run ends with it
pub ends_with : {T : Type 0} (ended : Result T RunFault) (P : RunFault → Type 0) (fault : RunFault) → IsErrAnd ended (λ e. e ≡ fault)
    → P fault → IfErr ended P
ends_with (Ok x) P fault is holds = absurd is
ends_with (Err e) P fault is holds = subst P (sym is) holds

-- what was printed stays so
pub quiet : (printed : Option (List ℕ)) (fault : RunFault) → IsQuiet printed printed fault
quiet printed (Script faults) = refl
quiet printed (Other Input) = refl
quiet printed (Other Output) = tt
quiet printed (Other Memory) = refl

-- but where the output failed
pub broken_off : (old new : Option (List ℕ)) (fault : Fault) → fault ≡ Output → IsQuiet old new (Other fault)
broken_off old new fault is = subst (λ (f : Fault). IsQuiet old new (Other f)) (sym is) tt
