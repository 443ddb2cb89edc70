-- Words that name no object or category but by its number, as arguments of calls.
use Rattle.std.specs.Prelude.{ℕ, List, map}
use Rattle.label_lattice.specs.declared.pairings.Pair.{Pair}
use Rattle.label_lattice.specs.declared.raw_labels.RawLabel.{RawLabel}
use Rattle.text_words.specs.declared.references.Reference.TheVariants.{Number as Numbered}
use Rattle.text_words.specs.declared.spoken_labels.SpokenPair.{SpokenPair}
use Rattle.text_words.specs.Label.{LabelValue}
use Rattle.text_words.specs.declared.spoken_calls.args.Arg.{Arg}
use Rattle.text_words.specs.declared.spoken_calls.args.Arg.TheVariants as args
use Rattle.text_words.specs.Spoken.{arguments_text}
use Rattle.dump_text.specs.declared.words.Word.{Word}
use Rattle.dump_text.specs.declared.words.Word.TheVariants as words

-- a pair, its category by number
abbrev pub spoken_pair : Pair → SpokenPair
spoken_pair p = record { category = Numbered p.category.0; level = p.level }

-- a label, its categories by number
abbrev pub spoken_label : RawLabel → LabelValue
spoken_label l = record { pairs = map spoken_pair l.pairs; default = l.default }

-- the argument that a word is
abbrev pub arg_of : Word → Arg
arg_of (words.Object id) = args.Object (Numbered id)
arg_of (words.Number n) = args.Number n
arg_of (words.Wide n) = args.Wide n
arg_of (words.Signed z) = args.Signed z
arg_of (words.Label l) = args.Label (spoken_label l)
arg_of (words.Data d) = args.Data d
arg_of (words.Types s) = args.Types s
arg_of (words.Rights r) = args.Rights r

-- words as arguments
abbrev pub args_of : List Word → List Arg
args_of ws = map arg_of ws

-- words, parted by single spaces
abbrev pub words_text : List Word → List ℕ
words_text ws = arguments_text (args_of ws)
