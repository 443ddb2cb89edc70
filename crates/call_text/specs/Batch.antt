-- Batches of a phase: a worker's lines that are submitted at once.
use Rattle.std.specs.Prelude.{◌≡◌, ℕ, ◌+◌, ◌==◌, ◌&&◌, ◌⊎◌, Bool, true, false, not, nat_le, if◌then◌else◌, List, [], ◌∷◌, ◌++◌}
use Rattle.std.specs.Prelude.{length, filter, codes, Option, Some, None}
use Rattle.std.specs.Str.{bytes_eq}
use Rattle.text_words.specs.Lacks.{lacks}
use Rattle.text_words.specs.declared.spoken_calls.verbs.Verb.{Verb}
use Rattle.text_words.specs.Verb.{writes}
use Rattle.text_words.specs.Spoken.{Spoken}
use Rattle.call_text.specs.declared.batches.Open.{Open}
use Rattle.call_text.specs.Line.{Written, Break, Said, written_text, FitsWritten}

-- the open batches of other workers
abbrev pub others : List ℕ → List Open → List Open
others worker batches = filter (λ o. not (bytes_eq o.worker worker)) batches

-- how many lines the worker's open batch has, 0 where it has none
abbrev pub lines_open : List ℕ → List Open → ℕ
lines_open worker [] = 0
lines_open worker (o ∷ os) = if bytes_eq o.worker worker then o.lines else lines_open worker os

-- how many lines a batch of so many has with one more, None where that may not join it: a batch has at
-- most 16, and only the first line of a worker that has none open may be a read call
abbrev pub with_line : ℕ → Verb → Option ℕ
with_line lines verb =
    if lines == 0 then Some 1 else if nat_le lines 15 && writes verb then Some (lines + 1) else None

-- a batch that goes on is open after its line with this number
abbrev pub still_open : List ℕ → Bool → ℕ → Option ℕ → List Open → Option (List Open)
still_open worker more number None batches = None
still_open worker true number (Some lines) batches =
    Some (batches ++ record { worker = worker; lines = lines; last = number } ∷ [])
still_open worker false number (Some lines) batches = Some batches

-- The open batches after the line with this number, those whose last lines come first before the others. None where it
-- may not come: a phase ends where no batch is open.
abbrev pub opens_after : ℕ → List Open → Written → Option (List Open)
opens_after number batches Break = if length batches == 0 then Some batches else None
opens_after number batches (Said binds worker more call) =
    still_open worker more number (with_line (lines_open worker batches) call.verb) (others worker batches)

-- no whole line is left of the phase
abbrev pub EndsPhase : List ℕ → Type 0
EndsPhase rest = (lacks 10 rest ≡ true) ⊎ ((more : List ℕ) × (rest ≡ codes "--" ++ 10 ∷ more))

-- Which of the batches are still open after the rest of a phase, whatever else its lines are: a line that is well formed
-- goes on with its worker's batch.
pub data LeavesOpen : List ℕ → List Open → List Open → Type 0 where
  NoneOpen : {rest : List ℕ} → LeavesOpen rest [] []
  Ended : {rest : List ℕ} {batches : List Open} → EndsPhase rest → LeavesOpen rest batches batches
  Malformed : {rest more : List ℕ} {batches left : List Open} (text : List ℕ) → rest ≡ text ++ 10 ∷ more
      → lacks 10 text ≡ true → ((l : Written) → FitsWritten l → text ≡ written_text l → ⊥)
      → LeavesOpen more batches left → LeavesOpen rest batches left
  GoesOn : {rest more : List ℕ} {batches left : List Open} (binds : Option (List ℕ)) (worker : List ℕ) (goes_on : Bool)
      (call : Spoken) → FitsWritten (Said binds worker goes_on call)
      → rest ≡ written_text (Said binds worker goes_on call) ++ 10 ∷ more
      → LeavesOpen more (others worker batches) left → LeavesOpen rest batches left

-- the first faulty line, where these batches are left open before a line that stops a script
abbrev pub first_fault : List Open → ℕ → ℕ
first_fault [] stop = stop
first_fault (o ∷ os) stop = o.last
