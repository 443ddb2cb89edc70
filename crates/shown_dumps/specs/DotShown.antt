-- What is shown of a dump.
use Rattle.std.specs.Global.{Vec}
use Rattle.std.specs.Prelude.{◌≡◌, ℕ, List, [], Option, Some, None, Result, Ok, Err}
use Rattle.std.specs.Io.KnownBytes.{Appends}
use Rattle.auditor.specs.Verdict.{IsVerdict}
use Rattle.auditor.specs.declared.verdicts.Verdict.TheVariants as is
use Rattle.base.specs.declared.ids.Category.{Category}
use Rattle.call_text.specs.declared.known_names.Named.{Named}
use Rattle.shown_dumps.specs.Dots.{dot_text}
use Rattle.shown_dumps.specs.declared.dot.faults.DotFault.{DotFault}
use Rattle.shown_dumps.specs.declared.dot.faults.DotFault.TheVariants as faults
use Rattle.kernel_rules.specs.State.{State}
use Rattle.shown_dumps.specs.States.{LeadsTo, IsWhyNone}
use Rattle.auditor.specs.Traces.{Traces}

-- which objects are red: those that flows from an object outside a category reach in the dump, where they are asked for
abbrev pub IsRed : Option (ℕ × Category) → List ℕ → List ℕ → Type 0
IsRed None text reached = reached ≡ []
IsRed (Some flow) text reached = Traces text flow.1.0 flow.0 reached

-- flows are asked for, and an audit does not find the dump clean
abbrev pub IsUntraced : Option (ℕ × Category) → List ℕ → Type 0
IsUntraced None text = ⊥
IsUntraced (Some flow) text = IsVerdict text is.Clean → ⊥

-- why there is no graph
abbrev pub IsNoDot : Option (ℕ × Category) → List ℕ → DotFault → Type 0
IsNoDot flow text (faults.Unshown fault) = IsWhyNone text fault
IsNoDot flow text faults.NotClean = IsUntraced flow text

-- the graph of the state that all events of a dump lead to, with the names that are known
abbrev pub IsDot : List Named → Option (ℕ × Category) → List ℕ → Result (Vec ℕ) DotFault → Type 0
IsDot names flow text (Ok told) =
    (s : State) × LeadsTo text None s
    × ((reached : List ℕ) × IsRed flow text reached × (told.items ≡ dot_text names s reached))
IsDot names flow text (Err fault) = IsNoDot flow text fault

-- the same of a dump that was read, added to what was printed
abbrev pub PrintsDot : List Named → Option (ℕ × Category) → Option (List ℕ) → Option (List ℕ) → List ℕ → Type 0
PrintsDot names flow old new text = (told : Vec ℕ) × IsDot names flow text (Ok told) × Appends old new told.items
