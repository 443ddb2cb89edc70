-- What is told of a script.
use Rattle.std.specs.Prelude.{◌≡◌, ◌⊎◌, ℕ, zero, suc, ◌+◌, ◌-◌, List, [], ◌∷◌, ◌++◌, Option, Some, None}
use Rattle.std.specs.Io.KnownBytes.{Appends}
use Rattle.call_text.specs.Line.{written_text, IsWritten}
use Rattle.call_text.specs.Script.{IsScript, ScriptFaultsAt}
use Rattle.call_text.specs.declared.phases.Line.{Line}
use Rattle.check_text.specs.Faults.{TellsFault}
use Rattle.check_text.specs.declared.line_faults.expected.LineFault.{LineFault}
use Rattle.check_text.specs.Warnings.{warnings_of}
use Rattle.check_text.specs.FaultTexts.{fault_text, reason_text}
use Rattle.check_text.specs.Lines.{before_byte, after_byte}
use Rattle.check_text.specs.Reasons.{IsReason, from_line, line_at, numbered}
use Rattle.call_text.specs.Numbers.{number_at}
use Rattle.call_text.specs.Scripts.{kept_numbers, plain_text}
use Rattle.check_text.specs.WarningTexts.{warnings_text}
use Rattle.check_text.specs.declared.checks.Checked.{Checked}
use Rattle.check_text.specs.declared.checks.Checked.TheVariants as is
use Rattle.check_text.specs.declared.reasons.Reason.{Reason}
use Rattle.check_text.specs.declared.reasons.Reason.TheVariants.{Malformed}

-- the bytes spell a script, and these are its warnings, by the numbers of the lines as they were written
pub record IsWarned (path numbers bytes told : List ℕ) : Type 0 where
  pub phases : List (List Line)
  pub script : IsScript bytes phases
  pub text : told ≡ warnings_text path numbers (warnings_of phases)

-- what is told of a line after the first faulty one: where it is not well formed, or nothing
abbrev pub later_text : List ℕ → List ℕ → ℕ → List ℕ → Option LineFault → List ℕ
later_text path numbers number line None = []
later_text path numbers number line (Some fault) = fault_text path numbers number line (Malformed fault)

abbrev pub IsToldLater : List ℕ → List ℕ → ℕ → List ℕ → List ℕ → Type 0
IsToldLater path numbers number line told =
    (found : Option LineFault) × TellsFault written_text IsWritten line found
    × (told ≡ later_text path numbers number line found)

-- the same of the lines of a text, at most so many, of which the first has this number
abbrev pub AreToldLater : List ℕ → List ℕ → ℕ → ℕ → List ℕ → List ℕ → Type 0
AreToldLater path numbers number zero text told = told ≡ []
AreToldLater path numbers number (suc n) [] told = told ≡ []
AreToldLater path numbers number (suc n) (b ∷ text) told =
    (here : List ℕ) × (later : List ℕ) × IsToldLater path numbers number (before_byte 10 (b ∷ text)) here
    × AreToldLater path numbers (number + 1) n (after_byte 10 (b ∷ text)) later × (told ≡ here ++ later)

-- what is told of one is added
abbrev pub AddsLaterLine : List ℕ → List ℕ → ℕ → List ℕ → List ℕ → List ℕ → Type 0
AddsLaterLine path numbers number line old new =
    (told : List ℕ) × IsToldLater path numbers number line told × (new ≡ old ++ told)

-- what is told of them is added
abbrev pub AddsLater : List ℕ → List ℕ → ℕ → ℕ → List ℕ → List ℕ → List ℕ → Type 0
AddsLater path numbers number n text old new =
    (told : List ℕ) × AreToldLater path numbers number n text told × (new ≡ old ++ told)

-- Line n is the first faulty one, and this is why. Of the lines after it, up to the last that a script may have, those are
-- told that are not well formed.
pub record IsFaultyAt (path numbers bytes : List ℕ) (n : ℕ) (told : List ℕ) : Type 0 where
  pub faults : ScriptFaultsAt bytes n
  pub reason : Reason
  pub why : IsReason bytes n reason
  pub later : List ℕ
  pub are_later : AreToldLater path numbers (n + 1) (65536 - n) (after_byte 10 (from_line n bytes)) later
  pub text : told ≡ fault_text path numbers n (line_at n bytes) (numbered numbers reason) ++ later

-- what is told of faults from line n on, where that is the first, was added
abbrev pub AddsFaults : List ℕ → List ℕ → List ℕ → ℕ → List ℕ → List ℕ → Type 0
AddsFaults path numbers bytes n old new =
    (reason : Reason) × (later : List ℕ) × IsReason bytes n reason
    × AreToldLater path numbers (n + 1) (65536 - n) (after_byte 10 (from_line n bytes)) later
    × (new ≡ old ++ (fault_text path numbers n (line_at n bytes) (numbered numbers reason) ++ later))

-- the same of the first faulty line, whichever that is
abbrev pub IsFaulty : List ℕ → List ℕ → List ℕ → List ℕ → Type 0
IsFaulty path numbers bytes told = (n : ℕ) × IsFaultyAt path numbers bytes n told

-- what is told of the exact form of bytes that were written, and the number of the first faulty line there
abbrev pub IsFaultyIn : List ℕ → List ℕ → ℕ → List ℕ → Type 0
IsFaultyIn path bytes line told =
    (n : ℕ) × IsFaultyAt path (kept_numbers bytes) (plain_text bytes) n told × (line ≡ number_at (kept_numbers bytes) n)

-- the script that it spells, or what is told of its faults
abbrev pub IsChecked : List ℕ → List ℕ → Checked → Type 0
IsChecked path bytes (is.Script exact) =
    IsScript (plain_text bytes) exact.script × (exact.plain.text.items ≡ plain_text bytes)
    × (exact.plain.numbers.items ≡ kept_numbers bytes)
IsChecked path bytes (is.Faulty faults) = IsFaultyIn path bytes faults.line faults.text.items

abbrev pub IsTold : List ℕ → List ℕ → List ℕ → Type 0
IsTold path bytes told =
    IsWarned path (kept_numbers bytes) (plain_text bytes) told ⊎ IsFaulty path (kept_numbers bytes) (plain_text bytes) told

-- why line n is the first faulty one, where it is, was added
abbrev pub AddsWhy : List ℕ → ℕ → List ℕ → List ℕ → Type 0
AddsWhy bytes n old new =
    (reason : Reason) × IsReason bytes n reason × (new ≡ old ++ reason_text (line_at n bytes) reason)

-- the status: 0 where nothing is told, and 1 where something is
abbrev pub status_of : List ℕ → ℕ
status_of [] = 0
status_of (b ∷ told) = 1

-- the same of a script that was read, added to what was printed, with the status
abbrev pub Prints : List ℕ → Option (List ℕ) → Option (List ℕ) → ℕ → List ℕ → Type 0
Prints path old new status bytes =
    (told : List ℕ) × IsTold path bytes told × Appends old new told × (status ≡ status_of told)

-- the text is the exact form of the bytes, and spells a script
abbrev pub IsExact : List ℕ → List ℕ → Type 0
IsExact bytes text = (phases : List (List Line)) × IsScript text phases × (text ≡ plain_text bytes)

-- it was added to what was printed
abbrev pub PrintsPlain : Option (List ℕ) → Option (List ℕ) → List ℕ → Type 0
PrintsPlain old new bytes = (text : List ℕ) × IsExact bytes text × Appends old new text
