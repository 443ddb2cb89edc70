-- What an audit prints, and the status that it ends with.
use Rattle.std.specs.Prelude.{◌≡◌, ◌⊎◌, ◌==◌, ◌&&◌, not, ℕ, Bool, true, false, List, [], ◌∷◌, ◌++◌, codes, decimal, length, Option, Some, None, is_some}
use Rattle.std.specs.Io.KnownBytes.{Appends}
use Rattle.std.specs.List.{flat_map}
use Rattle.base.specs.declared.ids.Category.{Category}
use Rattle.call_text.specs.Known.{name_of}
use Rattle.call_text.specs.declared.known_names.Named.{Named}
use Rattle.call_text.specs.declared.known_names.Value.TheVariants as values
use Rattle.base.specs.declared.ranges.Limits.{Limits}
use Rattle.call_text.specs.Text.{lines_text}
use Rattle.checkpoints.specs.Checkpoint.{Checkpoint}
use Rattle.dump_text.specs.Boot.{boot_checkpoint}
use Rattle.dump_text.specs.Dump.{IsDump}
use Rattle.dump_text.specs.Pieces.{head_lines}
use Rattle.dump_text.specs.Line.{line_text}
use Rattle.dump_text.specs.Lists.{DumpLists}
use Rattle.std.specs.Str.{bytes_eq}
use Rattle.histar_audit.specs.Lines.{difference_line}
use Rattle.histar_audit.specs.declared.audit_program.lines.Answers.{Answers}
use Rattle.histar_audit.specs.declared.audit_program.program.Asked.{Asked}
use Rattle.dump_text.specs.Boot.{FirstFormatFaultsAt}
use Rattle.auditor.specs.Lines.{verdict_line}
use Rattle.auditor.specs.Migrated.{IsMigrated}
use Rattle.auditor.specs.Verdict.{IsVerdict, TellsFalse}
use Rattle.auditor.specs.declared.verdicts.Verdict.{Verdict}
use Rattle.auditor.specs.declared.verdicts.Verdict.TheVariants as is
use Rattle.hidden_replies.specs.Told.{AreTold}
use Rattle.hidden_replies.specs.declared.differences.Difference.{Difference}
use Rattle.label_lattice.specs.Label.{LabelValue}
use Rattle.auditor.specs.Traces.{Traces}

-- an object by the first name that is bound to it, or by its number
abbrev pub name_or_id : Option (List ℕ) → ℕ → List ℕ
name_or_id (Some name) id = name
name_or_id None id = decimal id

-- the line that tells an object that is reached
abbrev pub reached_line : List Named → ℕ → List ℕ
reached_line names id = codes "reaches " ++ (name_or_id (name_of (values.Object id) names) id ++ 10 ∷ [])

-- a line that is told where something holds
abbrev pub line_if : Bool → List ℕ → List ℕ
line_if true line = line
line_if false line = []

-- whether lines after the verdict are asked for: of a clean dump alone
abbrev pub is_asked : Bool → Verdict → Bool
is_asked asked is.Clean = asked
is_asked asked verdict = false

-- what is told of a dump after its verdict: whether it begins at a checkpoint after the boot; where they are asked for, the objects that flows
-- reach, and the replies that hidden threads changed
pub record Answered : Type 0 where
  pub later : Bool
  pub flows : Bool
  pub reached : List ℕ
  pub hidden : Bool
  pub told : List Difference

abbrev pub answered : Answers → Answered
answered a = record { later = a.begins_later; flows = a.flows; reached = a.reached.now; hidden = a.hidden; told = a.told.now }

-- nothing of this is told
abbrev pub nothing : Answered
nothing = record { later = false; flows = false; reached = []; hidden = false; told = [] }

-- the lines of the objects that are reached; where they are asked for and there is none, a line says so
abbrev pub flows_text : List Named → Answered → List ℕ
flows_text names a =
    flat_map (reached_line names) a.reached ++ line_if (a.flows && length a.reached == 0) (codes "reaches nothing\n")

-- the same of the replies that differ
abbrev pub changes_text : List Named → Answered → List ℕ
changes_text names a =
    flat_map (difference_line names) a.told ++ line_if (a.hidden && length a.told == 0) (codes "no reply differs\n")

-- the line of a verdict, one where the dump begins at a checkpoint after the boot, and what is asked for
abbrev pub told_text : List Named → Verdict → Answered → List ℕ
told_text names verdict a =
    verdict_line verdict ++ line_if a.later (codes "from its checkpoint\n") ++ flows_text names a ++ changes_text names a

-- what is printed of a verdict, with the answers to what was asked
abbrev pub audit_text : Asked → Verdict → Bool → List ℕ → List Difference → List ℕ
audit_text asked verdict later reached told = told_text asked.names.now verdict (record {
  later = later;
  flows = is_asked (is_some asked.options.flow) verdict;
  reached = reached;
  hidden = is_asked (is_some asked.hidden) verdict;
  told = told;
})

-- the status that tells it
abbrev pub verdict_status : Verdict → ℕ
verdict_status is.Clean = 0
verdict_status (is.False n) = 1
verdict_status (is.Unreadable n) = 2

-- the lines before the events of a dump that begins at a checkpoint
abbrev pub head_text : Limits → Checkpoint → List ℕ
head_text limits c = lines_text line_text (head_lines limits (Some c))

-- events begin at a checkpoint whose lines are not those of the boot's
abbrev pub begins_later : Limits → Option Checkpoint → Bool
begins_later limits None = false
begins_later limits (Some c) = not (bytes_eq (head_text limits c) (head_text limits (boot_checkpoint limits)))

-- whether a clean dump begins there; of another that is not told
abbrev pub IsStart : List ℕ → Verdict → Bool → Type 0
IsStart bytes is.Clean later = (d : DumpLists) × IsDump bytes d × (later ≡ begins_later d.limits d.checkpoint)
IsStart bytes verdict later = later ≡ false

-- What is told as reached: of a clean dump, where it is asked for, the ids of all objects that flows from the
-- one object outside the category reach in it. Else nothing.
abbrev pub IsReachedIn : Option (ℕ × Category) → List ℕ → Verdict → List ℕ → Type 0
IsReachedIn (Some asked) bytes is.Clean reached = Traces bytes asked.1.0 asked.0 reached
IsReachedIn asked bytes verdict reached = reached ≡ []

-- What is told of hidden threads: of a clean dump, where it is asked for, the replies that differ without the calls of
-- threads that an observer of the label does not observe. Else nothing.
abbrev pub IsHiddenIn : Option LabelValue → List ℕ → Verdict → List Difference → Type 0
IsHiddenIn (Some label) bytes is.Clean told = AreTold label bytes told
IsHiddenIn asked bytes verdict told = told ≡ []

-- What goes to the migrated dump's file: of a clean dump, where it is asked for, the dump in format 2, and nothing
-- where it isn't of format 1. Else nothing.
abbrev pub IsMigration : Bool → List ℕ → Verdict → List ℕ → Type 0
IsMigration true bytes is.Clean file =
    IsMigrated bytes file ⊎ ((n : ℕ) × FirstFormatFaultsAt bytes n × (file ≡ []))
IsMigration asked bytes verdict file = file ≡ []

-- the verdict on the bytes is this one, and the text is its line, with one where they begin after the boot, one for each of
-- these objects, which are reached, and one for each of these replies, which differ; the file is what is asked for
pub record IsFound (asked : Asked) (verdict : Verdict) (file text bytes : List ℕ) : Type 0 where
  pub verdict_is : IsVerdict bytes verdict
  pub tells : TellsFalse bytes verdict
  pub later : Bool
  pub is_start : IsStart bytes verdict later
  pub reached : List ℕ
  pub is_reached : IsReachedIn asked.options.flow bytes verdict reached
  pub told : List Difference
  pub is_hidden : IsHiddenIn asked.hidden bytes verdict told
  pub text_is : text ≡ audit_text asked verdict later reached told
  pub migration : IsMigration asked.options.migrate bytes verdict file

-- what was found was added to what was printed
pub record IsTold (before after : Option (List ℕ)) (asked : Asked) (verdict : Verdict) (file bytes : List ℕ) : Type 0 where
  pub text : List ℕ
  pub found : IsFound asked verdict file text bytes
  pub added : Appends before after text

-- a verdict on the bytes was printed with what is asked for, whose status is this one, with this file
abbrev pub TellsVerdict : Option (List ℕ) → Option (List ℕ) → Asked → ℕ → List ℕ → List ℕ → Type 0
TellsVerdict before after asked status file bytes =
    (verdict : Verdict) × IsTold before after asked verdict file bytes × (status ≡ verdict_status verdict)
