-- Which words are those of `show`.
use Rattle.std.specs.Prelude.{ℕ, List, [], ◌∷◌, Option, Some, None, codes, if◌then◌else◌}
use Rattle.std.specs.Str.{bytes_eq}

-- `help show WORDS` is `show help WORDS`
abbrev pub help_of : List (List ℕ) → Option (List (List ℕ))
help_of [] = None
help_of (verb ∷ more) = if bytes_eq verb (codes "show") then Some (codes "show" ∷ codes "help" ∷ more) else None

-- the words after the verb are those of `show`
abbrev of_verb : List ℕ → List (List ℕ) → Option (List (List ℕ))
of_verb verb more =
    if bytes_eq verb (codes "show") then Some (codes "show" ∷ more)
    else (if bytes_eq verb (codes "help") then help_of more else None)

-- the words of `show`, of those that a program was started with
abbrev pub words_of_show : List (List ℕ) → Option (List (List ℕ))
words_of_show [] = None
words_of_show (program ∷ []) = None
words_of_show (program ∷ verb ∷ more) = of_verb verb more
