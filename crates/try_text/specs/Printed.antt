-- What the program prints for a line.
use Rattle.std.specs.Prelude.{◌≡◌, ◌⊎◌, ℕ, Bool, true, false, List, [], ◌∷◌, ◌++◌, Option, codes}
use Rattle.std.specs.Io.KnownBytes.{Appends}
use Rattle.try_text.specs.Dialogues.{Talk}
use Rattle.try_text.specs.Responds.{Responds}
use Rattle.try_text.specs.Words.{word_of}
use Rattle.try_text.specs.declared.words.Word.{Word}
use Rattle.try_text.specs.declared.words.Word.TheVariants.{Nothing, Why, Tree, Undo, Help, Quit, Save, Call}

-- what stands before the end of a line, where it has one
abbrev pub IsBeforeEnd : List ℕ → List ℕ → Type 0
IsBeforeEnd line before =
    (line ≡ before ++ 10 ∷ []) ⊎ ((line ≡ before) × ((other : List ℕ) → line ≡ other ++ 10 ∷ [] → ⊥))

-- all words but one
abbrev pub goes_on : Word → Bool
goes_on Quit = false
goes_on _ = true

-- what is told of a dialogue that was saved, or could not be
abbrev pub saved_text : Bool → List ℕ
saved_text true = codes "saved\n"
saved_text false = codes "fault: the file can't be written\n"

-- what is told after the answer to a line of this word
abbrev pub Adds : Word → List ℕ → Type 0
Adds Save more = (is_saved : Bool) × (more ≡ saved_text is_saved)
Adds _ more = more ≡ []

-- the answer to the line, with what is told after it
abbrev pub Answers : List ℕ → Talk → Talk → List ℕ → Type 0
Answers line d d' answer =
    (text : List ℕ) × (more : List ℕ) × Responds (word_of line) line d d' [] text × Adds (word_of line) more
    × (answer ≡ text ++ more)

-- it was added to what was printed
abbrev pub Prints : List ℕ → Talk → Talk → Option (List ℕ) → Option (List ℕ) → Type 0
Prints line d d' old new = (answer : List ℕ) × Answers line d d' answer × Appends old new answer
