-- What may stand at a place of a line, and where a line stops being well formed.
use Rattle.std.specs.Prelude.{◌≡◌, ◌≤◌, ◌+◌, ◌⊎◌, ◌&&◌, ◌||◌, ℕ, Bool, true, false, not, List, [], ◌∷◌, ◌++◌, length, take, drop, codes}
use Rattle.std.specs.Prelude.{Option, Some, None}
use Rattle.text_words.specs.Name.{IsName, name_text}
use Rattle.text_words.specs.declared.spoken_calls.args.Arg.{Arg}
use Rattle.text_words.specs.declared.spoken_calls.args.ArgKind.{ArgKind}
use Rattle.text_words.specs.declared.spoken_calls.verbs.Verb.{Verb}
use Rattle.text_words.specs.Arg.{arg_text, IsArg}
use Rattle.text_words.specs.Spoken.{Spoken, IsSpoken, spoken_text, IsRest}
use Rattle.text_words.specs.Verb.{name_of, makes, writes}
use Rattle.call_text.specs.Line.{Saying, mark, said_text, IsSaid}
use Rattle.check_text.specs.declared.line_faults.expected.Expected.{Expected}
use Rattle.check_text.specs.declared.line_faults.expected.Expected.TheVariants as expected
use Rattle.check_text.specs.declared.line_faults.expected.LineFault.{LineFault}

-- whether a call may stand where a name is bound or not, and its batch goes on or not
abbrev pub suits : Bool → Bool → Verb → Bool
suits binds more verb = (not binds || makes verb) && (not more || writes verb)

-- a worker with its colon, and with a plus where its batch goes on
abbrev pub IsWorker : Bool → List ℕ → Type 0
IsWorker more word = (name : List ℕ) × IsName name × (word ≡ name_text name ++ mark more)

-- an argument of the kind
abbrev pub IsArgument : ArgKind → List ℕ → Type 0
IsArgument kind word = (arg : Arg) × IsArg kind arg × (word ≡ arg_text arg)

-- the word of a call that may stand there
abbrev pub IsVerb : Bool → Bool → List ℕ → Type 0
IsVerb binds more word = (verb : Verb) × (suits binds more verb ≡ true) × (word ≡ name_of verb)

-- the word is one that is expected; at the line's end there is none
abbrev pub IsExpected : Expected → List ℕ → Type 0
IsExpected expected.Beginning word =
    (word ≡ codes "--") ⊎ (IsName word ⊎ (IsWorker false word ⊎ IsWorker true word))
IsExpected expected.Equals word = word ≡ codes "="
IsExpected expected.Worker word = IsWorker false word ⊎ IsWorker true word
IsExpected (expected.Call binds more) word = IsVerb binds more word
IsExpected (expected.Argument kind) word = IsArgument kind word
IsExpected expected.End word = ⊥

-- what stands before a word: a space, but for a line's first word
abbrev pub space_before : Expected → List ℕ
space_before expected.Beginning = []
space_before _ = 32 ∷ []

-- the text begins with a word that is expected
abbrev pub BeginsWith : Expected → List ℕ → Type 0
BeginsWith e text = (word : List ℕ) × (more : List ℕ) × IsExpected e word × IsRest more
    × (text ≡ space_before e ++ (word ++ more))

-- a text goes on with what is expected: a word, or nothing where the line's end is
abbrev pub GoesOn : Expected → List ℕ → Type 0
GoesOn expected.End text = text ≡ []
GoesOn e text = BeginsWith e text

-- no word goes on over the place between these: nothing stands before it, or a space or nothing after it
abbrev pub EndsWord : List ℕ → List ℕ → Type 0
EndsWord [] more = Unit {0}
EndsWord (b ∷ front) more = IsRest more

-- this follows the words before it in some well-formed text
abbrev pub MayFollow : {V : Type 0} → (V → List ℕ) → (V → Type 0) → List ℕ → List ℕ → Type 0
MayFollow {V} text Fits front more =
    (whole : V) × Fits whole × (text whole ≡ front ++ more) × EndsWord front more

-- each word that is expected may follow, or nothing where the line's end is
abbrev pub AllFollow : Expected → (List ℕ → Type 0) → Type 0
AllFollow expected.End Follows = Follows []
AllFollow e Follows = (word : List ℕ) → IsExpected e word
    → (rest : List ℕ) × IsRest rest × Follows (space_before e ++ (word ++ rest))

-- In well-formed texts the words before the place are followed by just what is expected. In these bytes they are not.
pub record StopsAt {V : Type 0} (text : V → List ℕ) (Fits : V → Type 0) (bytes : List ℕ)
    (f : LineFault) : Type 0 where
  pub within : f.before ≤ length bytes
  pub ends : EndsWord (take f.before bytes) (drop f.before bytes)
  pub follows : (more : List ℕ) → MayFollow text Fits (take f.before bytes) more → GoesOn f.expected more
  pub all : AllFollow f.expected (MayFollow text Fits (take f.before bytes))
  pub stops : GoesOn f.expected (drop f.before bytes) → ⊥

-- the bytes are a well-formed text, or they stop being the beginning of one
abbrev pub TellsFault : {V : Type 0} → (V → List ℕ) → (V → Type 0) → List ℕ → Option LineFault → Type 0
TellsFault {V} text Fits bytes None = (whole : V) × Fits whole × (bytes ≡ text whole)
TellsFault text Fits bytes (Some f) = StopsAt text Fits bytes f

-- the fault of what stands after so many bytes, as one of the whole
abbrev pub further : ℕ → Option LineFault → Option LineFault
further bytes None = None
further bytes (Some f) = Some (record { before = bytes + f.before; expected = f.expected })

-- a call after a space, which may stand there
abbrev pub call_after : Spoken → List ℕ
call_after call = 32 ∷ spoken_text call

abbrev pub IsCall : Bool → Bool → Spoken → Type 0
IsCall binds more call = IsSpoken call × (suits binds more call.verb ≡ true)

-- a worker after a space, and its call that makes something
abbrev pub making_after : Saying → List ℕ
making_after said = 32 ∷ said_text said

abbrev pub IsMaking : Saying → Type 0
IsMaking said = IsSaid said × (makes said.2.verb ≡ true)

-- the same after an equals sign
abbrev pub bound_after : Saying → List ℕ
bound_after said = codes " = " ++ said_text said

-- whether a word is an argument of a kind
abbrev pub TellsArgument : ArgKind → List ℕ → Bool → Type 0
TellsArgument kind word true = IsArgument kind word
TellsArgument kind word false = IsArgument kind word → ⊥

-- whether a worker's batch goes on, where a word is a worker with its colon
abbrev pub TellsWorker : List ℕ → Option Bool → Type 0
TellsWorker word (Some more) = IsWorker more word
TellsWorker word None = (more : Bool) → IsWorker more word → ⊥
