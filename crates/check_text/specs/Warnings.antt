-- Warnings.
use Rattle.std.specs.Prelude.{ℕ, suc, List, [], ◌∷◌, ◌++◌, map, Option, Some, None, option_map, if◌then◌else◌}
use Rattle.std.specs.List.{flat_map}
use Rattle.text_words.specs.declared.spoken_calls.args.Arg.{Arg}
use Rattle.call_text.specs.declared.phases.Line.{Line}
use Rattle.check_text.specs.Mentions.{mentions_in}
use Rattle.check_text.specs.Outlines.{outline_of}
use Rattle.check_text.specs.Surveys.{Surveyed, survey_of, knows_worker, unknown, unused}
use Rattle.check_text.specs.declared.script_checks.mentions.Mention.{Mention}
use Rattle.check_text.specs.declared.script_checks.outlines.Outline.{Outline}
use Rattle.check_text.specs.declared.script_checks.warnings.Warned.{Warned}
use Rattle.check_text.specs.declared.script_checks.warnings.Warning.{Warning}
use Rattle.check_text.specs.declared.script_checks.warnings.Warning.TheVariants.{Unused, NoWorker, Unbound}

-- a warning with its line
abbrev pub warned : ℕ → Option Warning → List Warned
warned line None = []
warned line (Some warning) = record { line = line; warning = warning } ∷ []

-- the line's worker is not bound before its phase
abbrev pub no_worker : List Outline → Outline → Option Warning
no_worker lines line = if knows_worker lines line then None else Some (NoWorker line.worker)

-- the line uses a name that it does not know
abbrev pub unbound : ℕ → Mention → Warned
unbound line m = record { line = line; warning = Unbound m }

-- the name that the line binds is used by no line; the above of its worker; and of each name once
abbrev pub line_warnings : Surveyed → Outline → List Arg → List Warned
line_warnings s line args =
    warned line.number (option_map Unused (unused s.mentions line))
    ++ (warned line.number (no_worker s.outlines line)
    ++ map (unbound line.number) (unknown s.outlines line (mentions_in args)))

-- the same of the lines of a phase
abbrev pub phase_warnings : Surveyed → ℕ → List Line → List Warned
phase_warnings s place phase =
    flat_map (λ (l : Line). line_warnings s (outline_of place l) l.call.args) phase

-- and of phases, the first of which is at a place
abbrev pub warnings_from : Surveyed → ℕ → List (List Line) → List Warned
warnings_from s place [] = []
warnings_from s place (phase ∷ more) =
    phase_warnings s place phase ++ warnings_from s (suc place) more

-- all warnings of a script, in the order of its lines
abbrev pub warnings_of : List (List Line) → List Warned
warnings_of phases = warnings_from (survey_of phases) 0 phases
