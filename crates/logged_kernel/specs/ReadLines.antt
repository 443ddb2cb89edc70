-- A read as a log keeps it: its thread, and its line in a dump.
use Rattle.std.specs.Prelude.{ℕ, List, [], ◌∷◌}
use Rattle.call_text.specs.Text.{lines_text}
use Rattle.kernel_rules.specs.declared.calls.Query.{Query}
use Rattle.kernel_rules.specs.declared.replies.Reply.{Reply}
use Rattle.dump_text.specs.Line.{line_text}
use Rattle.dump_text.specs.Whole.{raw_reply}
use Rattle.dump_text.specs.declared.lines.Line.TheVariants as lines
use Rattle.dump_text.specs.declared.reads.Read.{Read}

pub record ReadLine : Type 0 where
  pub thread : ℕ
  pub line : List ℕ

-- the line of a read, with its end
abbrev pub line_of : Read → ReadLine
line_of r = record { thread = r.thread; line = lines_text line_text (lines.Read r ∷ []) }

-- a thread's query with its reply
abbrev pub read_of : ℕ → Query → Reply → Read
read_of thread query reply = record { thread = thread; query = query; reply = raw_reply reply }
