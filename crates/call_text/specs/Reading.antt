-- What is read of a script.
use Rattle.std.specs.Prelude.{◌≡◌, ℕ, List, [], ◌∷◌, ◌++◌, Option, Some, None, map, Result, Ok, Err, Bool, true, false}
use Rattle.text_words.specs.declared.spoken_calls.args.Arg.{Arg}
use Rattle.call_text.specs.declared.lines.Outline.{Outline}
use Rattle.call_text.specs.declared.lines.Outline.TheVariants as outlines
use Rattle.call_text.specs.declared.phases.KeptLine.{KeptLine}
use Rattle.call_text.specs.declared.phases.Line.{Line}
use Rattle.call_text.specs.declared.phases.Script.{Script}
use Rattle.call_text.specs.declared.errors.ScriptError.{ScriptError}
use Rattle.call_text.specs.declared.errors.ScriptError.TheVariants as errors
use Rattle.call_text.specs.declared.batches.Open.{Open}
use Rattle.call_text.specs.Batch.{others, opens_after, LeavesOpen, first_fault}
use Rattle.call_text.specs.Line.{Written}
use Rattle.call_text.specs.Phase.{line_in}
use Rattle.call_text.specs.Script.{IsScript, ScriptFaultsAt}

-- The line as it is kept: its place in the text, and the number of arguments that stand before its call's.
abbrev pub kept_as : Outline → ℕ → ℕ → Option KeptLine
kept_as outlines.Break number first = None
kept_as (outlines.Said binds worker goes_on verb) number first = Some record {
  number = number;
  binds = binds;
  worker = worker;
  more = goes_on;
  verb = verb;
  first = first;
}

-- The new phases are the old ones with one more line, and so are the lines of the last one, whose
-- arguments are in the list: after -- it has neither lines nor arguments yet.
abbrev pub AddsLine : Option KeptLine → List (List Line) → List Arg → List KeptLine
    → List (List Line) → List Arg → List KeptLine → Type 0
AddsLine None phases args lines more left last =
    (more ≡ phases ++ map (line_in args) lines ∷ []) × (left ≡ []) × (last ≡ [])
AddsLine (Some line) phases args lines more left last =
    (more ≡ phases) × (left ≡ args) × (last ≡ lines ++ line ∷ [])

-- The script that the bytes spell, or the first faulty line. Where memory ran out nothing is told.
abbrev pub ReadsScript : List ℕ → Result Script ScriptError → Type 0
ReadsScript bytes (Ok script) = IsScript bytes script
ReadsScript bytes (Err errors.Memory) = Unit {0}
ReadsScript bytes (Err (errors.Line n)) = ScriptFaultsAt bytes n

-- Whether the line may come after these open batches. The new ones are then those after it, and else the old ones.
abbrev pub Joins : ℕ → Written → List Open → List Open → Bool → Type 0
Joins number l old new true = opens_after number old l ≡ Some new
Joins number l old new false = (opens_after number old l ≡ None) × (new ≡ old)

-- the first faulty line, where the rest does not go on with a script in line `stop`
abbrev pub TellsFault : List ℕ → List Open → ℕ → ScriptError → Type 0
TellsFault rest batches stop errors.Memory = Unit {0}
TellsFault rest batches stop (errors.Line n) =
    (left : List Open) × LeavesOpen rest batches left × (n ≡ first_fault left stop)

-- Whether the line ends the phase. The new open batches are the old ones with which it does not go on.
abbrev pub GoesPast : Outline → List Open → List Open → Bool → Type 0
GoesPast outlines.Break old new ended = (ended ≡ true) × (new ≡ old)
GoesPast (outlines.Said binds worker more verb) old new ended =
    (ended ≡ false) × (new ≡ others worker old)
