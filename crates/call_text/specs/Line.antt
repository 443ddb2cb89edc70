-- The spelling of a script's line.
use Rattle.std.specs.Prelude.{◌≡◌, ◌≤◌, ℕ, List, [], ◌∷◌, ◌++◌, length, codes, Option, Some, None, Bool}
use Rattle.std.specs.Prelude.{true, false, not, ◌||◌}
use Rattle.text_words.specs.Name.{IsName, name_text}
use Rattle.text_words.specs.declared.spoken_calls.args.Arg.{Arg}
use Rattle.text_words.specs.declared.spoken_calls.verbs.Verb.{Verb}
use Rattle.text_words.specs.Verb.{makes, writes}
use Rattle.text_words.specs.Spoken.{Spoken, IsSpoken, spoken_text, call_with}
use Rattle.call_text.specs.declared.lines.Outline.{Outline}
use Rattle.call_text.specs.declared.lines.Outline.TheVariants as outlines

-- A line without its place: --, or the name that is bound, a worker, whether the worker's next line
-- is of the same batch, and its call.
pub data Written : Type 0 where
  Break : Written
  Said : Option (List ℕ) → List ℕ → Bool → Spoken → Written

-- a line's outline with its call's arguments
abbrev pub written_with : Outline → List Arg → Written
written_with outlines.Break xs = Break
written_with (outlines.Said binds worker more verb) xs = Said binds worker more (call_with verb xs)

-- what stands after a worker: a plus where its batch goes on
abbrev pub mark : Bool → List ℕ
mark true = codes ":+"
mark false = codes ":"

-- a worker, whether its batch goes on, and a call
abbrev pub Saying : Type 0
Saying = List ℕ × Bool × Spoken

-- WORKER: CALL, or WORKER:+ CALL
abbrev pub said_text : Saying → List ℕ
said_text said = (name_text said.0 ++ mark said.1) ++ 32 ∷ spoken_text said.2

-- a batch has write calls only
abbrev pub may_go_on : Bool → Verb → Bool
may_go_on more verb = not more || writes verb

-- a name, and a call in its ranges
abbrev pub IsSaid : Saying → Type 0
IsSaid said = IsName said.0 × IsSpoken said.2 × (may_go_on said.1 said.2.verb ≡ true)

-- a worker, and a call with its arguments
abbrev pub said_with : List ℕ × Bool × Verb → List Arg → Saying
said_with said xs = (said.0, said.1, call_with said.2 xs)

-- NAME = WORKER: CALL, or NAME = WORKER:+ CALL
abbrev pub bound_text : List ℕ × Saying → List ℕ
bound_text bound = name_text bound.0 ++ codes " = " ++ said_text bound.1

-- a name stands only before a call that makes something
abbrev pub IsBound : List ℕ × Saying → Type 0
IsBound bound = IsName bound.0 × IsSaid bound.1 × (makes bound.1.2.verb ≡ true)

-- a name, a worker, and a call with its arguments
abbrev pub bound_with : List ℕ × (List ℕ × Bool × Verb) → List Arg → List ℕ × Saying
bound_with bound xs = (bound.0, said_with bound.1 xs)

-- --, or a call with its worker, and with the name that it binds
abbrev pub written_text : Written → List ℕ
written_text Break = codes "--"
written_text (Said None worker more call) = said_text (worker, more, call)
written_text (Said (Some name) worker more call) = bound_text (name, (worker, more, call))

-- each word is in its range
abbrev pub IsWritten : Written → Type 0
IsWritten Break = Unit {0}
IsWritten (Said None worker more call) = IsSaid (worker, more, call)
IsWritten (Said (Some name) worker more call) = IsBound (name, (worker, more, call))

-- at most 4,096 bytes
pub record FitsWritten (line : Written) : Type 0 where
  pub written : IsWritten line
  pub short : length (written_text line) ≤ 4096
