-- What a run prints.
use Rattle.std.specs.Prelude.{ℕ, List, [], ◌∷◌, ◌++◌, map, filter, flat_map, codes, decimal, Result, Ok, Err}
use Rattle.std.specs.Str.{bytes_eq}
use Rattle.kernel_rules.specs.declared.replies.Reply.{Reply}
use Rattle.text_words.specs.Name.{name_text}
use Rattle.call_text.specs.declared.known_names.Named.{Named}
use Rattle.call_text.specs.declared.phases.Line.{Line}
use Rattle.call_text.specs.Reply.{reply_text}
use Rattle.script_rules.specs.Lines.{AnsweredLine, Seen}
use Rattle.script_rules.specs.Run.{Run}
use Rattle.script_rules.specs.Workers.{lines_in, workers_of}

-- what a worker had of what all had, in its order
abbrev pub own : {A : Type 0} → List ℕ → List (List ℕ × A) → List A
own worker things = map (λ t. t.1) (filter (λ t. bytes_eq t.0 worker) things)

-- a reply, with the names that are known, or which name is not
abbrev pub answer_text : List Named → Result Reply (List ℕ) → List ℕ
answer_text names (Ok reply) = reply_text names reply
answer_text names (Err name) = codes "unbound " ++ name_text name

-- WORKER N: ANSWER
abbrev pub line_text : List ℕ → ℕ → List ℕ → List ℕ
line_text worker number answer =
    name_text worker ++ 32 ∷ (decimal number ++ (codes ": " ++ (answer ++ 10 ∷ [])))

-- the line of what a worker was told
abbrev pub told_text : List Named → List ℕ → AnsweredLine → List ℕ
told_text names worker t = line_text worker t.number (answer_text names t.answer)

-- the lines of all that it was told
abbrev pub worker_text : List Named → List (List ℕ × AnsweredLine) → List ℕ → List ℕ
worker_text names told worker = flat_map (told_text names worker) (own worker told)

-- the lines of workers, with the names as they are known at the end
abbrev pub text_of : Run → List (List ℕ) → List ℕ
text_of r workers = flat_map (worker_text r.names r.told) workers

-- what a script prints: the workers in the order of their first lines
abbrev pub output_text : List (List Line) → Run → List ℕ
output_text phases r = text_of r (workers_of (lines_in phases))
