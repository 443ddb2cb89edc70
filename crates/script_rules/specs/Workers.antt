-- The workers of a script.
use Rattle.std.specs.Prelude.{ℕ, List, [], map, flat_map}
use Rattle.std.specs.Str.{bytes_eq}
use Rattle.indexmap.specs.IndexSet.{insert_all}
use Rattle.call_text.specs.declared.phases.Line.{Line}

-- the lines of phases, in their order
abbrev pub lines_in : List (List Line) → List Line
lines_in phases = flat_map (λ (lines : List Line). lines) phases

-- the workers with those of these lines, each in the order of its first line
abbrev pub with_workers : List (List ℕ) → List Line → List (List ℕ)
with_workers workers lines = insert_all bytes_eq workers (map (λ line. line.worker) lines)

-- the workers of these lines, in the order of their first lines
abbrev pub workers_of : List Line → List (List ℕ)
workers_of lines = with_workers [] lines
