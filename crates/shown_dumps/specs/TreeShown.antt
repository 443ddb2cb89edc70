-- What is shown of a dump as a tree.
use Rattle.std.specs.Global.{Vec}
use Rattle.std.specs.Prelude.{◌≡◌, ℕ, true, false, List, Option, Result, Ok, Err}
use Rattle.std.specs.Io.KnownBytes.{Appends}
use Rattle.kernel_rules.specs.State.{State}
use Rattle.shown_dumps.specs.Colours.{coloured_if}
use Rattle.shown_dumps.specs.Deleting.{is_there}
use Rattle.shown_dumps.specs.States.{LeadsTo, IsWhyNone}
use Rattle.shown_dumps.specs.Trees.{whole_tree}
use Rattle.shown_dumps.specs.declared.states.faults.ShowFault.{ShowFault}
use Rattle.shown_dumps.specs.declared.states.faults.ShowFault.TheVariants as faults
use Rattle.shown_dumps.specs.declared.tree.looks.Look.{Look}

-- why there is no tree. NoThread: the thread that is asked about is not live in the state
abbrev pub IsNoTree : Option ℕ → List ℕ → Option ℕ → ShowFault → Type 0
IsNoTree asked text after faults.NoThread = (s : State) × LeadsTo text after s × (is_there s asked ≡ false)
IsNoTree asked text after fault = IsWhyNone text fault

-- the tree of the state that the first events of a dump lead to, in which the thread that is asked about is live
abbrev pub IsTree : Look → List ℕ → Option ℕ → Result (Vec ℕ) ShowFault → Type 0
IsTree look text after (Ok told) =
    (s : State) × LeadsTo text after s × (is_there s look.asked ≡ true)
    × (told.items ≡ coloured_if look.is_coloured (whole_tree look.names.now look.asked s))
IsTree look text after (Err fault) = IsNoTree look.asked text after fault

-- the same of a dump that was read, added to what was printed
abbrev pub PrintsTree : Look → Option ℕ → Option (List ℕ) → Option (List ℕ) → List ℕ → Type 0
PrintsTree look after old new text = (told : Vec ℕ) × IsTree look text after (Ok told) × Appends old new told.items
