-- Scripts: phases of lines, and their text.
use Rattle.std.specs.Prelude.{◌≡◌, ◌≤◌, ◌+◌, ℕ, List, [], ◌∷◌, ◌++◌, length, map, Option, Some}
use Rattle.std.specs.Prelude.{None, Bool, ◌==◌, codes, nat_le, if◌then◌else◌}
use Rattle.std.specs.List.{list_any, flat_map}
use Rattle.std.specs.Str.{bytes_eq}
use Rattle.call_text.specs.declared.phases.Line.{Line}
use Rattle.call_text.specs.Line.{Written, Break, Said, written_text, FitsWritten}
use Rattle.call_text.specs.declared.batches.Open.{Open}
use Rattle.call_text.specs.Batch.{opens_after, LeavesOpen, first_fault}
use Rattle.call_text.specs.Text.{Spells, StopsAt, lines_text}

-- a line as it stands in the text
abbrev pub said_of : Line → Written
said_of l = Said l.binds l.worker l.more l.call

-- the lines of the text: those of each phase, with a -- between phases
abbrev pub lines_of : List (List Line) → List Written
lines_of [] = []
lines_of (phase ∷ more) = map said_of phase ++ flat_map (λ p. Break ∷ map said_of p) more

-- the bytes of a script
abbrev pub script_text : List (List Line) → List ℕ
script_text phases = lines_text written_text (lines_of phases)

-- the first line has number n, and each further one the next number
abbrev pub AreNumbered : ℕ → List Line → Type 0
AreNumbered n [] = Unit {0}
AreNumbered n (l ∷ ls) = (l.number ≡ n) × AreNumbered (n + 1) ls

-- Each line's number is its place in the text. A -- takes a place too, and the first phase begins
-- at n.
abbrev pub ArePhasesNumbered : ℕ → List (List Line) → Type 0
ArePhasesNumbered n [] = Unit {0}
ArePhasesNumbered n (phase ∷ more) =
    AreNumbered n phase × ArePhasesNumbered (n + length phase + 1) more

-- the names that are known at the start of each script
abbrev pub known_names : List (List ℕ)
known_names = codes "root" ∷ codes "boot" ∷ codes "dev" ∷ []

-- what earlier lines come to: how many there are, which names are known, and which batches of the
-- phase are open
pub record Earlier : Type 0 where
  pub lines : ℕ
  pub bound : List (List ℕ)
  pub open_batches : List Open

-- before the first line
abbrev pub start : Earlier
start = record { lines = 0; bound = known_names; open_batches = [] }

-- the name is among these
abbrev pub is_bound : List ℕ → List (List ℕ) → Bool
is_bound name bound = list_any (bytes_eq name) bound

-- the name that the line binds
abbrev pub binds_of : Written → Option (List ℕ)
binds_of Break = None
binds_of (Said binds worker more call) = binds

-- the names that are known after one more is bound, None where it is known already
abbrev pub bind : List (List ℕ) → Option (List ℕ) → Option (List (List ℕ))
bind bound None = Some bound
bind bound (Some name) = if is_bound name bound then None else Some (bound ++ name ∷ [])

-- so many lines, where the names could be bound and the line could come after the open batches
abbrev pub with_both : ℕ → Option (List (List ℕ)) → Option (List Open) → Option Earlier
with_both lines (Some bound) (Some batches) =
    Some (record { lines = lines; bound = bound; open_batches = batches })
with_both lines bound batches = None

-- After one more line, None where it may not stand there.
-- A script has at most 65,536 lines, binds no name twice, and ends its batches.
unfoldable pub next : Earlier → Written → Option Earlier
next s l =
    if nat_le 65536 s.lines then None
    else with_both (s.lines + 1) (bind s.bound (binds_of l)) (opens_after (s.lines + 1) s.open_batches l)

-- a script may end where no batch is open
abbrev pub ends : Earlier → Bool
ends s = length s.open_batches == 0

-- the bytes spell this script
pub record IsScript (bytes : List ℕ) (phases : List (List Line)) : Type 0 where
  pub some : 1 ≤ length phases
  pub numbers : ArePhasesNumbered 1 phases
  pub spelled : Spells written_text FitsWritten next ends start bytes (lines_of phases)

-- Line n is the first faulty one. The bytes stop being the beginning of a script at line `stop`. The last line of a batch
-- that is open there is faulty too, and stands before it, unless a line of its worker comes in the rest of the phase.
pub record ScriptFaultsAt (bytes : List ℕ) (n : ℕ) : Type 0 where
  pub stop : ℕ
  pub state : Earlier
  pub rest : List ℕ
  pub stops : StopsAt written_text FitsWritten next ends start bytes stop state rest
  pub left : List Open
  pub leaves : LeavesOpen rest state.open_batches left
  pub told : n ≡ first_fault left stop
