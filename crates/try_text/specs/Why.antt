-- Why the last call was answered as it was.
use Rattle.std.specs.Prelude.{ℕ, false, List, [], ◌++◌, Option, Some, None, Result, Ok, Err, codes}
use Rattle.std.specs.List.{flat_map}
use Rattle.call_text.specs.declared.asking.Asked.{Asked}
use Rattle.call_text.specs.declared.asking.Asked.TheVariants.{Read, Write}
use Rattle.call_text.specs.declared.known_names.Named.{Named}
use Rattle.call_text.specs.declared.phases.Line.{Line}
use Rattle.explained.specs.Explained.{explained, query_explained}
use Rattle.explained.specs.declared.parts.Finding.{Finding}
use Rattle.kernel_rules.specs.State.{State}
use Rattle.shown_dumps.specs.Explained.{call_head}
use Rattle.shown_dumps.specs.Parts.{condition_text}
use Rattle.try_text.specs.Dialogues.{Talk, last_of, standing, undone}
use Rattle.try_text.specs.Saved.{line_text}
use Rattle.try_text.specs.Standing.{first_line, question, reply_to}
use Rattle.try_text.specs.Stands.{Stands}
use Rattle.try_text.specs.declared.tried_lines.kept.TriedLine.{TriedLine}
use Rattle.try_text.specs.declared.tried_lines.questions.Question.{Question}

-- the conditions of what is asked
abbrev pub findings_by : State → ℕ → Asked → List Finding
findings_by s thread (Write call) = explained s thread call
findings_by s thread (Read query) = query_explained s thread query

abbrev pub findings_of : State → Question → List Finding
findings_of s q = findings_by s q.thread q.asked

-- the line, what the rules answer to it, and the reasons of a refusal
abbrev pub why_asked : List Named → Stands → List ℕ → Question → List ℕ
why_asked names s said q =
    call_head names said (reply_to s.state q) ++ flat_map (condition_text names false) (findings_of s.state q)

abbrev pub why_asking : List Named → Stands → List ℕ → Result Question (List ℕ) → List ℕ
why_asking names s said (Ok q) = why_asked names s said q
why_asking names s said (Err name) = []

abbrev pub why_of : List Named → Stands → Option (List ℕ) → Option Line → List ℕ
why_of names s binds None = []
why_of names s binds (Some l) = why_asking names s (line_text binds l) (question s.names l)

abbrev pub why_line : List Named → Stands → TriedLine → List ℕ
why_line names s k = why_of names s k.binds (first_line k.script)

abbrev pub why_last : List Named → Stands → Option TriedLine → List ℕ
why_last names s None = codes "no call was made\n"
why_last names s (Some k) = why_line names s k

-- the same of the last line of a dialogue, in the state that the lines before it lead to, with the names that are known after it
abbrev pub why_text : Talk → List ℕ
why_text d = why_last (standing d).names (standing (undone d)) (last_of d.lines)
