-- Values that stand in a line by their words.
use Rattle.std.specs.Prelude.{List}
use Rattle.text_words.specs.declared.spoken_calls.args.ArgKind.{ArgKind}
use Rattle.text_words.specs.Spoken.{AreArgs}
use Rattle.dump_text.specs.declared.words.Word.{Word}
use Rattle.dump_text.specs.Word.{args_of}

-- words of these kinds, each in its range
abbrev pub AreWords : List ArgKind → List Word → Type 0
AreWords ks ws = AreArgs ks (args_of ws)

-- whatever it is
abbrev pub Anything : {V : Type 0} → V → Type 0
Anything v = Unit {0}

-- a value whose words are of these kinds, each in its range, and that is allowed
abbrev pub AreAllowed : {V : Type 0} → List ArgKind → (V → List Word) → (V → Type 0) → V → Type 0
AreAllowed ks words Allows v = AreWords ks (words v) × Allows v
