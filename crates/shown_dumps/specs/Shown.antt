-- What is shown of a line, or of the first false one.
use Rattle.std.specs.Global.{Vec}
use Rattle.std.specs.Prelude.{◌≡◌, ◌⊎◌, ℕ, Bool, false, List, [], ◌∷◌, ◌++◌, Option, Some, None, Result, Ok, Err, codes, decimal}
use Rattle.std.specs.Io.KnownBytes.{Appends}
use Rattle.auditor.specs.Verdict.{begins, IsVerdict}
use Rattle.auditor.specs.Lines.{verdict_line}
use Rattle.auditor.specs.declared.verdicts.Verdict.{Verdict}
use Rattle.auditor.specs.declared.verdicts.Verdict.TheVariants as is
use Rattle.call_text.specs.declared.known_names.Named.{Named}
use Rattle.dump_text.specs.Dump.{IsDump}
use Rattle.dump_text.specs.Lists.{DumpLists}
use Rattle.shown_dumps.specs.Explained.{IsWhy, line_explained, Explains}
use Rattle.shown_dumps.specs.States.{IsDumpIn}
use Rattle.shown_dumps.specs.declared.states.faults.ShowFault.{ShowFault}

-- line n tells no call and no read, or is that of a checkpoint that can't be restored
abbrev pub TellsNone : List Named → Bool → List ℕ → ℕ → Type 0
TellsNone names whole text n =
    (d : DumpLists) × IsDump text d × ((begins d ≡ false) ⊎ (line_explained names whole text d n ≡ None))

-- why what line n tells is answered as it is, and nothing where it tells none
abbrev pub WhyOrNone : List Named → Bool → List ℕ → ℕ → List ℕ → Type 0
WhyOrNone names whole text n more = Explains names whole text n more ⊎ ((more ≡ []) × TellsNone names whole text n)

abbrev pub IsWhyOrNone : List Named → Bool → List ℕ → ℕ → Result (Vec ℕ) ShowFault → Type 0
IsWhyOrNone names whole text n (Ok told) = WhyOrNone names whole text n told.items
IsWhyOrNone names whole text n (Err fault) = IsDumpIn text (Err fault)

-- the verdict's line, and why what the first false line tells is answered as it is, where it tells a call or a read
abbrev pub TellsVerdict : List Named → Bool → List ℕ → Verdict → List ℕ → Type 0
TellsVerdict names whole text is.Clean told = told ≡ verdict_line is.Clean
TellsVerdict names whole text (is.False n) told =
    (more : List ℕ) × (told ≡ verdict_line (is.False n) ++ more) × WhyOrNone names whole text n more
TellsVerdict names whole text (is.Unreadable n) told = ⊥

-- what is shown of line n, or of the first false line where none is named
abbrev pub IsShown : List Named → Bool → Option ℕ → List ℕ → Result (Vec ℕ) ShowFault → Type 0
IsShown names whole (Some n) text result = IsWhy names whole text n result
IsShown names whole None text (Ok told) = (v : Verdict) × IsVerdict text v × TellsVerdict names whole text v told.items
IsShown names whole None text (Err fault) = IsDumpIn text (Err fault)

-- what is shown of the text was added to what was printed
abbrev pub Shows : List Named → Bool → Option ℕ → Option (List ℕ) → Option (List ℕ) → List ℕ → Type 0
Shows names whole line before after text =
    (told : Vec ℕ) × IsShown names whole line text (Ok told) × Appends before after told.items
