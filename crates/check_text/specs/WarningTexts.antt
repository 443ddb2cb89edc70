-- What is printed of warnings.
use Rattle.std.specs.Prelude.{ℕ, List, [], ◌∷◌, ◌++◌, Bool, true, false, codes}
use Rattle.std.specs.List.{flat_map}
use Rattle.check_text.specs.Places.{place_text}
use Rattle.check_text.specs.declared.script_checks.warnings.Warned.{Warned}
use Rattle.check_text.specs.declared.script_checks.warnings.Warning.{Warning}
use Rattle.check_text.specs.declared.script_checks.warnings.Warning.TheVariants.{Unused, NoWorker, Unbound}

-- as what a name is not bound
abbrev pub kind_text : Bool → List ℕ
kind_text false = codes " is not bound to an object here"
kind_text true = codes " is not bound to a category here"

-- the name that is told of
abbrev pub name_in : Warning → List ℕ
name_in (Unused name) = name
name_in (NoWorker name) = name
name_in (Unbound mention) = mention.name

-- what is told of it
abbrev pub said_text : Warning → List ℕ
said_text (Unused name) = codes " is bound and never used"
said_text (NoWorker name) = codes " is a worker that is not bound before this phase"
said_text (Unbound mention) = kind_text mention.category

abbrev pub warning_text : Warning → List ℕ
warning_text w = name_in w ++ said_text w

-- PATH:LINE: warning: and what is told
abbrev pub warned_text : List ℕ → List ℕ → Warned → List ℕ
warned_text path numbers w =
    place_text path numbers w.line ++ (codes " warning: " ++ (warning_text w.warning ++ 10 ∷ []))

-- a line for each
abbrev pub warnings_text : List ℕ → List ℕ → List Warned → List ℕ
warnings_text path numbers warnings = flat_map (warned_text path numbers) warnings
