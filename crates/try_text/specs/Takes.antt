-- What comes of a line.
use Rattle.std.specs.Prelude.{◌≡◌, ℕ, ◌++◌, ◌∷◌, List, [], length, nat_le, Option, Some, None, Result, Ok, Err, Bool, true, false}
use Rattle.std.specs.Prelude.{if◌then◌else◌}
use Rattle.base.specs.declared.kinds.Kind.TheVariants as kinds
use Rattle.kernel_rules.specs.State.{State, is_live_kind}
use Rattle.kernel_rules.specs.declared.replies.Reply.{Reply}
use Rattle.call_text.specs.Known.{value_of}
use Rattle.call_text.specs.Script.{IsScript, ScriptFaultsAt}
use Rattle.call_text.specs.declared.known_names.Named.{Named}
use Rattle.call_text.specs.declared.known_names.Value.{Value}
use Rattle.call_text.specs.declared.phases.Line.{Line}
use Rattle.try_text.specs.Dialogues.{Talk, with_line, standing}
use Rattle.try_text.specs.Stands.{Stands}
use Rattle.try_text.specs.Standing.{first_line, made_by, question, reply_to}
use Rattle.try_text.specs.declared.tried_lines.answers.LineAnswer.{LineAnswer}
use Rattle.try_text.specs.declared.tried_lines.answers.LineAnswer.TheVariants as is
use Rattle.try_text.specs.declared.tried_lines.kept.TriedLine.{TriedLine}
use Rattle.try_text.specs.declared.tried_lines.questions.Question.{Question}

-- the name, where it is known already
abbrev pub if_known : List ℕ → Option Value → Option (List ℕ)
if_known name None = None
if_known name (Some value) = Some name

abbrev pub rebound : Option (List ℕ) → List Named → Option (List ℕ)
rebound None names = None
rebound (Some name) names = if_known name (value_of name names)

-- what is asked, where the thread is live
abbrev pub if_live : State → List ℕ → Question → Result Question LineAnswer
if_live s worker q = if is_live_kind s kinds.Thread q.thread then Ok q else Err (is.NoThread worker)

abbrev pub if_asked : State → List ℕ → Result Question (List ℕ) → Result Question LineAnswer
if_asked s worker (Ok q) = if_live s worker q
if_asked s worker (Err name) = Err (is.Unbound name)

abbrev pub unless_rebound : Option (List ℕ) → Stands → Line → Result Question LineAnswer
unless_rebound (Some name) s l = Err (is.Rebound name)
unless_rebound None s l = if_asked s.state l.worker (question s.names l)

-- what a line asks, or why it is not asked: the first of these that is so
abbrev pub checked : Stands → Option Line → Result Question LineAnswer
checked s None = Err is.Nothing
checked s (Some l) = unless_rebound (rebound l.binds s.names) s l

-- the rules' reply, or why there is none
abbrev pub answer_by : State → Result Question LineAnswer → LineAnswer
answer_by s (Ok q) = is.Told (reply_to s q)
answer_by s (Err answer) = answer

abbrev pub answer_at : Stands → Option Line → LineAnswer
answer_at s l = answer_by s.state (checked s l)

-- a dialogue has at most 32,768 lines
abbrev pub is_full : Talk → Bool
is_full d = nat_le 32768 (length d.lines)

abbrev pub answer_in : Talk → Option Line → LineAnswer
answer_in d l = if is_full d then is.Full else answer_at (standing d) l

-- the name that a line binds, where its call made something
abbrev pub if_made : Option (List ℕ) → Option Value → Option (List ℕ)
if_made binds None = None
if_made binds (Some value) = binds

abbrev pub binds_of : Option Line → Option (List ℕ)
binds_of None = None
binds_of (Some l) = l.binds

-- the line as it is kept
abbrev pub kept_as : List (List Line) → Reply → TriedLine
kept_as script reply = record { binds = if_made (binds_of (first_line script)) (made_by reply); script = script }

-- only a line that was answered by a reply is kept
abbrev pub after_answer : Talk → List (List Line) → LineAnswer → Talk
after_answer d script (is.Told reply) = with_line d (kept_as script reply)
after_answer d script _ = d

-- the bytes with a line's end
abbrev pub ended : List ℕ → List ℕ
ended text = text ++ 10 ∷ []

-- the line is this script of its own, or its text has a first faulty line
abbrev pub IsScriptOf : List ℕ → Result (List (List Line)) ℕ → Type 0
IsScriptOf text (Ok script) = IsScript (ended text) script
IsScriptOf text (Err n) = ScriptFaultsAt (ended text) n

-- this comes of the line, which is a script of its own
pub record IsTaken (text : List ℕ) (old new : Talk) (answer : LineAnswer) : Type 0 where
  pub script : List (List Line)
  pub spelled : IsScript (ended text) script
  pub answered : answer ≡ answer_in old (first_line script)
  pub after : new ≡ after_answer old script answer

-- or it is none, and changes nothing
abbrev pub Takes : List ℕ → Talk → Talk → LineAnswer → Type 0
Takes text old new (is.Faulty n) = ScriptFaultsAt (ended text) n × (new ≡ old)
Takes text old new answer = IsTaken text old new answer
