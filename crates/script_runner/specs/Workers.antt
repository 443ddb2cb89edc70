-- The workers of a script, and which scripts are played by one worker at a time.
use Rattle.std.specs.Prelude.{ℕ, Bool, true, List, [], ◌∷◌, filter}
use Rattle.std.specs.List.{list_all}
use Rattle.std.specs.Str.{bytes_eq}
use Rattle.call_text.specs.declared.phases.Line.{Line}

-- all lines are of a worker
abbrev pub are_of : List ℕ → List Line → Bool
are_of worker lines = list_all (λ line. bytes_eq line.worker worker) lines

-- no two lines of a phase are of different workers
abbrev pub is_of_one : List Line → Bool
is_of_one [] = true
is_of_one (line ∷ lines) = are_of line.worker (line ∷ lines)

-- no phase has lines of two workers
abbrev pub take_turns : List (List Line) → Bool
take_turns phases = list_all is_of_one phases

-- the lines of a worker, in their order
abbrev pub lines_of : List ℕ → List Line → List Line
lines_of worker lines = filter (λ line. bytes_eq line.worker worker) lines
