-- The names that lines use.
use Rattle.std.specs.Prelude.{List, [], ◌∷◌, Bool, true, false}
use Rattle.std.specs.List.{flat_map}
use Rattle.text_words.specs.declared.references.Reference.{Reference}
use Rattle.text_words.specs.declared.references.Reference.TheVariants.{Number, Name}
use Rattle.text_words.specs.declared.spoken_labels.SpokenPair.{SpokenPair}
use Rattle.text_words.specs.declared.spoken_calls.args.Arg.{Arg}
use Rattle.text_words.specs.declared.spoken_calls.args.Arg.TheVariants as args
use Rattle.call_text.specs.declared.phases.Line.{Line}
use Rattle.check_text.specs.declared.script_checks.mentions.Mention.{Mention}

-- the name, where it is one
abbrev pub mention_of : Bool → Reference → List Mention
mention_of category (Number n) = []
mention_of category (Name name) = record { name = name; category = category } ∷ []

-- the names of the categories of a label
abbrev pub pair_mentions : List SpokenPair → List Mention
pair_mentions pairs = flat_map (λ (p : SpokenPair). mention_of true p.category) pairs

-- the names of an argument
abbrev pub argument_mentions : Arg → List Mention
argument_mentions (args.Object reference) = mention_of false reference
argument_mentions (args.Label label) = pair_mentions label.pairs
argument_mentions _ = []

-- the names of arguments, in the order of the words
abbrev pub mentions_in : List Arg → List Mention
mentions_in xs = flat_map argument_mentions xs

-- the names that a line uses: its worker's, and those of its call's arguments
abbrev pub line_mentions : Line → List Mention
line_mentions l = record { name = l.worker; category = false } ∷ mentions_in l.call.args

-- those of all lines
abbrev pub phase_mentions : List Line → List Mention
phase_mentions phase = flat_map line_mentions phase

abbrev pub script_mentions : List (List Line) → List Mention
script_mentions phases = flat_map phase_mentions phases
