-- What a run is asked for.
use Rattle.std.specs.Prelude.{◌≡◌, ⊤, is_some}
use Rattle.program_args.specs.declared.words.Verb.{Verb}
use Rattle.program_args.specs.declared.words.Verb.TheVariants.{Run}

-- the dump of a run is made exactly where the file that it goes to is told, and so are the names
abbrev pub HasFiles : Verb → Type 0
HasFiles (Run args) = (args.options.dump ≡ is_some args.dump) × (args.options.names ≡ is_some args.names)
HasFiles _ = ⊤
