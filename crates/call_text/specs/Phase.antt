-- The lines of a phase, whose calls' arguments stand in one list.
use Rattle.std.specs.Prelude.{◌≤◌, ◌+◌, List, length, take, drop}
use Rattle.text_words.specs.declared.spoken_calls.args.Arg.{Arg}
use Rattle.text_words.specs.Verb.{kinds_of}
use Rattle.text_words.specs.Spoken.{AreArgs, call_with}
use Rattle.call_text.specs.declared.phases.KeptLine.{KeptLine}
use Rattle.call_text.specs.declared.phases.Line.{Line}

-- the arguments of the line's call
abbrev pub args_in : List Arg → KeptLine → List Arg
args_in args l = take (length (kinds_of l.verb)) (drop l.first args)

-- the line with its call's arguments
abbrev pub line_in : List Arg → KeptLine → Line
line_in args l = record {
  number = l.number;
  binds = l.binds;
  worker = l.worker;
  more = l.more;
  call = call_with l.verb (args_in args l);
}

-- the arguments of the line's call stand in the list
pub record IsKept (args : List Arg) (l : KeptLine) : Type 0 where
  pub within : l.first + length (kinds_of l.verb) ≤ length args
  pub are : AreArgs (kinds_of l.verb) (args_in args l)
