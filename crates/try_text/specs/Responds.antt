-- What a dialogue answers to a line, and how it goes on.
use Rattle.std.specs.Prelude.{◌≡◌, ℕ, List, [], ◌∷◌, ◌++◌, Option, Some, None, codes}
use Rattle.call_text.specs.Lines.{plain_line}
use Rattle.shown_dumps.specs.Trees.{named_tree}
use Rattle.try_text.specs.Dialogues.{Talk, last_of, standing, undone}
use Rattle.try_text.specs.FullLines.{full_line}
use Rattle.try_text.specs.Takes.{Takes}
use Rattle.try_text.specs.declared.tried_lines.answers.LineAnswer.{LineAnswer}
use Rattle.try_text.specs.Tells.{AddsAnswer, undone_text}
use Rattle.try_text.specs.Why.{why_text}
use Rattle.try_text.specs.declared.words.Word.{Word}
use Rattle.try_text.specs.declared.words.Word.TheVariants.{Nothing, Why, Tree, Undo, Help, Quit, Save, Call}

-- what can be said
abbrev pub help_text : List ℕ
help_text =
    codes "a line is a call, as in a script: [NAME =] [WORKER:] CALL ARGUMENTS, by boot where it names no worker\nwhy        why the last call was answered so\ntree       the objects, by name where they have one\nundo       takes the last call back\nsave FILE  writes the calls as a script, which histar run plays\nquit       ends\n"

-- a call: its line in exact form, with a worker, is asked, and what comes of it is told
abbrev pub Calls : List ℕ → Talk → Talk → List ℕ → List ℕ → Type 0
Calls line d d' old new =
    (answer : LineAnswer) × Takes (full_line (plain_line line)) d d' answer
    × AddsAnswer (full_line (plain_line line)) d' answer old new

-- the dialogue stays, and this is told
abbrev pub Shows : List ℕ → Talk → Talk → List ℕ → List ℕ → Type 0
Shows told d d' old new = (d' ≡ d) × (new ≡ old ++ told)

-- what was told before a line of this word, and after it; and the dialogue before and after it
abbrev pub Responds : Word → List ℕ → Talk → Talk → List ℕ → List ℕ → Type 0
Responds Call line d d' old new = Calls line d d' old new
Responds Undo line d d' old new = (d' ≡ undone d) × (new ≡ old ++ undone_text (last_of d.lines))
Responds Why line d d' old new = Shows (why_text d) d d' old new
Responds Tree line d d' old new = Shows (named_tree (standing d).names (standing d).state) d d' old new
Responds Help line d d' old new = Shows help_text d d' old new
Responds Nothing line d d' old new = Shows [] d d' old new
Responds Quit line d d' old new = Shows [] d d' old new
Responds Save line d d' old new = Shows [] d d' old new
