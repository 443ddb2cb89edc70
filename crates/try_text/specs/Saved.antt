-- The script that a dialogue is saved as.
use Rattle.std.specs.Prelude.{ℕ, List, [], ◌∷◌, ◌++◌, Option, Some, None, Bool, false, codes, if◌then◌else◌}
use Rattle.std.specs.Str.{bytes_eq}
use Rattle.call_text.specs.Line.{Said, written_text}
use Rattle.call_text.specs.declared.phases.Line.{Line}
use Rattle.try_text.specs.Standing.{first_line}
use Rattle.try_text.specs.declared.tried_lines.kept.TriedLine.{TriedLine}

-- what parts a line from the line before it: --, where that was another worker's
abbrev pub break_text : Option (List ℕ) → List ℕ → List ℕ
break_text None worker = []
break_text (Some before) worker = if bytes_eq before worker then [] else codes "--\n"

-- a line, with the name that it bound
abbrev pub line_text : Option (List ℕ) → Line → List ℕ
line_text binds l = written_text (Said binds l.worker false l.call)

-- a line after another one, whose worker was this
abbrev pub next_text : Option (List ℕ) → Option (List ℕ) → Option Line → List ℕ
next_text before binds None = []
next_text before binds (Some l) = break_text before l.worker ++ (line_text binds l ++ 10 ∷ [])

-- the worker of the last line so far
abbrev pub worker_after : Option (List ℕ) → Option Line → Option (List ℕ)
worker_after before None = before
worker_after before (Some l) = Some l.worker

-- the lines after another one, whose worker was this
abbrev pub saved_after : Option (List ℕ) → List TriedLine → List ℕ
saved_after before [] = []
saved_after before (k ∷ kept) =
    next_text before k.binds (first_line k.script)
    ++ saved_after (worker_after before (first_line k.script)) kept

-- The whole script. Each name is bound by the line that made something, so no name is bound twice, and none is used in a
-- phase of another worker than its own.
abbrev pub saved_text : List TriedLine → List ℕ
saved_text kept = saved_after None kept
