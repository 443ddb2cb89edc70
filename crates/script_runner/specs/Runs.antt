-- What a run leaves, prints and writes.
use Rattle.std.specs.Prelude.{◌≡◌, ℕ, true, false, List, Option}
use Rattle.std.specs.Io.KnownBytes.{Appends}
use Rattle.base.specs.declared.ranges.Limits.{Limits}
use Rattle.kernel_rules.specs.Events.{Event}
use Rattle.call_text.specs.Script.{IsScript}
use Rattle.call_text.specs.declared.known_names.Named.{Named}
use Rattle.call_text.specs.declared.phases.Line.{Line}
use Rattle.call_text.specs.Numbers.{renumbered}
use Rattle.call_text.specs.Scripts.{kept_numbers, plain_text}
use Rattle.program_io.specs.declared.options.Options.{Options}
use Rattle.script_runner.specs.Dumps.{IsFileOf}
use Rattle.script_runner.specs.Names.{IsNamesFileOf}
use Rattle.script_runner.specs.Reads.{ThreadRead}
use Rattle.script_runner.specs.Shared.{IsShared}
use Rattle.script_runner.specs.Turns.{IsTurns}
use Rattle.script_runner.specs.Workers.{take_turns}

-- what a script leaves: its run by the rules, if its workers take turns, and else what workers leave who share phases
pub record Leaves (limits : Limits) (script : List (List Line)) (text : List ℕ) (events : List Event) (known : List Named)
    (asked : List ThreadRead) : Type 0 where
  pub turns : take_turns script ≡ true → IsTurns limits script text events known asked
  pub shared : take_turns script ≡ false → IsShared limits script text events known asked

-- it leaves this text, and the files are of the events, the names and the queries that it leaves
pub record Writes (options : Options) (script : List (List Line)) (text dump names : List ℕ) : Type 0 where
  pub events : List Event
  pub known : List Named
  pub asked : List ThreadRead
  pub left : Leaves options.limits script text events known asked
  pub dumped : IsFileOf options.dump options.checkpoint options.limits events asked dump
  pub named : IsNamesFileOf options.names known names

-- the script that the exact form of these bytes spells writes these files, and its text was added to what was printed, by the
-- numbers of the lines as they were written
pub record IsRunTold (options : Options) (bytes : List ℕ) (old new : Option (List ℕ)) (dump names : List ℕ) : Type 0 where
  pub script : List (List Line)
  pub text : List ℕ
  pub spelled : IsScript (plain_text bytes) script
  pub written : Writes options script text dump names
  pub printed : Appends old new (renumbered (kept_numbers bytes) text)
