-- The spelling of objects and categories in scripts.
use Rattle.std.specs.Prelude.{ℕ, ◌<◌, ◌^◌, List, ◌∷◌, decimal}
use Rattle.text_words.specs.declared.references.Reference.{Reference}
use Rattle.text_words.specs.declared.references.Reference.TheVariants.{Number, Name}
use Rattle.text_words.specs.Name.{IsName, name_text}

-- a number behind a #, or a name
abbrev pub reference_text : Reference → List ℕ
reference_text (Number n) = 35 ∷ decimal n
reference_text (Name name) = name_text name

-- the number is of 64 bits
abbrev pub IsReference : Reference → Type 0
IsReference (Number n) = n < 2 ^ 64
IsReference (Name name) = IsName name
