-- Arguments of calls, and their spelling.
use Rattle.std.specs.Prelude.{◌≡◌, ℕ, ◌<◌, ◌^◌, List, [], ◌∷◌, ◌++◌, Bool, true, false, decimal}
use Rattle.text_words.specs.DataWord.{data_text, IsData}
use Rattle.text_words.specs.Label.{label_text, IsLabel}
use Rattle.text_words.specs.Reference.{reference_text, IsReference}
use Rattle.text_words.specs.RightsWord.{rights_text}
use Rattle.text_words.specs.SignedWord.{signed_text, IsSigned}
use Rattle.text_words.specs.TypeWord.{types_text}
use Rattle.text_words.specs.declared.spoken_calls.args.ArgKind.{ArgKind}
use Rattle.text_words.specs.declared.spoken_calls.args.ArgKind.TheVariants as kinds
use Rattle.text_words.specs.declared.spoken_calls.args.Arg.{Arg}
use Rattle.text_words.specs.declared.spoken_calls.args.Arg.TheVariants as args

-- the word of an argument
abbrev pub arg_text : Arg → List ℕ
arg_text (args.Object r) = reference_text r
arg_text (args.Number n) = decimal n
arg_text (args.Wide n) = decimal n
arg_text (args.Signed z) = signed_text z
arg_text (args.Label l) = label_text l
arg_text (args.Data d) = data_text d
arg_text (args.Types s) = types_text s
arg_text (args.Rights r) = rights_text r

-- what kind of argument it is
abbrev pub kind_of : Arg → ArgKind
kind_of (args.Object r) = kinds.Object
kind_of (args.Number n) = kinds.Number
kind_of (args.Wide n) = kinds.Wide
kind_of (args.Signed z) = kinds.Signed
kind_of (args.Label l) = kinds.Label
kind_of (args.Data d) = kinds.Data
kind_of (args.Types s) = kinds.Types
kind_of (args.Rights r) = kinds.Rights

-- the argument is in its range
abbrev pub FitsArg : Arg → Type 0
FitsArg (args.Object r) = IsReference r
FitsArg (args.Number n) = n < 2 ^ 32
FitsArg (args.Wide n) = n < 2 ^ 64
FitsArg (args.Signed z) = IsSigned z
FitsArg (args.Label l) = IsLabel l
FitsArg (args.Data d) = IsData d
FitsArg (args.Types s) = Unit {0}
FitsArg (args.Rights r) = Unit {0}

-- an argument of the kind, in its range
pub record IsArg (kind : ArgKind) (arg : Arg) : Type 0 where
  pub kind_is : kind_of arg ≡ kind
  pub fits : FitsArg arg

-- Whether the word is an argument of the kind. The new arguments then are the old ones and it.
abbrev pub AddsArg : ArgKind → List ℕ → List Arg → List Arg → Bool → Type 0
AddsArg kind word old new true =
    (arg : Arg) × IsArg kind arg × (word ≡ arg_text arg) × (new ≡ old ++ arg ∷ [])
AddsArg kind word old new false =
    ((arg : Arg) → IsArg kind arg → word ≡ arg_text arg → ⊥) × (new ≡ old)
