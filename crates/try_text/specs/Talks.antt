-- A whole dialogue: which lines are read, what is printed, and how it ends.
use Rattle.std.specs.Prelude.{◌≡◌, ◌≢◌, ◌⊎◌, ℕ, Bool, true, false, List, [], ◌∷◌, ◌++◌, Option, Some, None, codes, if◌then◌else◌}
use Rattle.std.specs.Io.BufRead.{take_through, drop_through}
use Rattle.std.specs.Io.KnownBytes.{Appends}
use Rattle.try_text.specs.Dialogues.{Talk}
use Rattle.try_text.specs.Printed.{IsBeforeEnd, goes_on, Answers}
use Rattle.try_text.specs.Words.{word_of}

-- the first lines of the bytes, each with its end, and what follows them
abbrev pub AreLines : List (List ℕ) → List ℕ → List ℕ → Type 0
AreLines [] bytes rest = rest ≡ bytes
AreLines (line ∷ lines) bytes rest =
    (bytes ≢ []) × (line ≡ take_through 10 bytes) × AreLines lines (drop_through 10 bytes) rest

-- there is a line where there are bytes
abbrev pub HasLine : Bool → List ℕ → Type 0
HasLine true bytes = bytes ≢ []
HasLine false bytes = bytes ≡ []

-- what asks for a line
abbrev pub prompt : Bool → List ℕ
prompt asked = if asked then codes "> " else []

-- a line, which goes on or ends the dialogue, leads from one dialogue to another, and this is printed for it
abbrev pub Turns : Bool → Bool → List ℕ → Talk → Talk → List ℕ → Type 0
Turns asked on line d e text =
    (before : List ℕ) × (answer : List ℕ) × IsBeforeEnd line before × (goes_on (word_of before) ≡ on)
    × Answers before d e answer × (text ≡ prompt asked ++ answer)

-- lines that go on, one after another
abbrev pub TurnAll : Bool → List (List ℕ) → Talk → Talk → List ℕ → Type 0
TurnAll asked [] d e text = (e ≡ d) × (text ≡ [])
TurnAll asked (line ∷ lines) d e text =
    (f : Talk) × (here : List ℕ) × (later : List ℕ) × Turns asked true line d f here
    × TurnAll asked lines f e later × (text ≡ here ++ later)

-- so many lines of the bytes were read, and this was printed for them
pub record IsSoFar (asked : Bool) (bytes rest : List ℕ) (d e : Talk) (text : List ℕ) : Type 0 where
  pub lines : List (List ℕ)
  pub are : AreLines lines bytes rest
  pub turns : TurnAll asked lines d e text

-- the dialogue ends where the bytes do, or with the line that says so; the line that was asked for then has no answer
abbrev pub Ends : Bool → List ℕ → Talk → Talk → List ℕ → Type 0
Ends asked rest d e text =
    ((rest ≡ []) × (e ≡ d) × (text ≡ prompt asked)) ⊎ ((rest ≢ []) × Turns asked false (take_through 10 rest) d e text)

-- a dialogue over the bytes, from one on
pub record IsTalk (asked : Bool) (bytes : List ℕ) (d e : Talk) (text : List ℕ) : Type 0 where
  pub rest : List ℕ
  pub last : Talk
  pub said : List ℕ
  pub end : List ℕ
  pub so_far : IsSoFar asked bytes rest d last said
  pub ends : Ends asked rest last e end
  pub whole : text ≡ said ++ end

-- what is printed so far of a dialogue over known bytes, of which these are left
abbrev pub HasTalked : Bool → List ℕ → Talk → Talk → Option (List ℕ) → Option (List ℕ) → Option (List ℕ) → Type 0
HasTalked asked bytes d e left old new =
    (rest : List ℕ) × (said : List ℕ) × (left ≡ Some rest) × IsSoFar asked bytes rest d e said × Appends old new said

-- and of a whole one
abbrev pub Talks : Bool → List ℕ → Talk → Talk → Option (List ℕ) → Option (List ℕ) → Type 0
Talks asked bytes d e old new = (text : List ℕ) × IsTalk asked bytes d e text × Appends old new text
