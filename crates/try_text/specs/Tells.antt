-- What is told of a line.
use Rattle.std.specs.Prelude.{◌≡◌, ℕ, List, [], ◌∷◌, ◌++◌, Option, Some, None, codes}
use Rattle.call_text.specs.Reply.{reply_text}
use Rattle.call_text.specs.declared.phases.Line.{Line}
use Rattle.check_text.specs.Checks.{AddsWhy}
use Rattle.kernel_rules.specs.declared.replies.Reply.{Reply}
use Rattle.call_text.specs.declared.known_names.Named.{Named}
use Rattle.try_text.specs.Dialogues.{Talk, standing}
use Rattle.try_text.specs.Saved.{line_text}
use Rattle.try_text.specs.Standing.{first_line}
use Rattle.try_text.specs.Takes.{ended}
use Rattle.try_text.specs.declared.tried_lines.answers.LineAnswer.{LineAnswer}
use Rattle.try_text.specs.declared.tried_lines.answers.LineAnswer.TheVariants as is
use Rattle.try_text.specs.declared.tried_lines.kept.TriedLine.{TriedLine}

-- a line with a name in it
abbrev pub named_text : List ℕ → List ℕ → List ℕ → List ℕ
named_text before name after = before ++ name ++ after

-- a reply, with the names that are known
abbrev pub told_text : List Named → Reply → List ℕ
told_text names reply = reply_text names reply ++ 10 ∷ []

-- why the text, line n of which is its first faulty one, is no line of a script
abbrev pub AddsFault : List ℕ → ℕ → List ℕ → List ℕ → Type 0
AddsFault text n old new =
    (why : List ℕ) × AddsWhy (ended text) n (old ++ codes "fault: ") why × (new ≡ why ++ 10 ∷ [])

-- what came of a line, after which the dialogue is this
abbrev pub AddsAnswer : List ℕ → Talk → LineAnswer → List ℕ → List ℕ → Type 0
AddsAnswer text d (is.Told reply) old new = new ≡ old ++ told_text (standing d).names reply
AddsAnswer text d (is.Faulty n) old new = AddsFault text n old new
AddsAnswer text d (is.Rebound name) old new =
    new ≡ old ++ named_text (codes "fault: ") name (codes " is bound already\n")
AddsAnswer text d (is.Unbound name) old new = new ≡ old ++ named_text (codes "unbound ") name (codes "\n")
AddsAnswer text d (is.NoThread name) old new =
    new ≡ old ++ named_text (codes "fault: ") name (codes " is no live thread\n")
AddsAnswer text d is.Nothing old new = new ≡ old
AddsAnswer text d is.Full old new = new ≡ old ++ codes "fault: a dialogue has at most 32,768 calls\n"

-- the line that is taken back
abbrev pub undone_line : Option (List ℕ) → Option Line → List ℕ
undone_line binds None = []
undone_line binds (Some l) = codes "undone: " ++ line_text binds l ++ 10 ∷ []

abbrev pub undone_text : Option TriedLine → List ℕ
undone_text None = codes "nothing to undo\n"
undone_text (Some k) = undone_line k.binds (first_line k.script)
