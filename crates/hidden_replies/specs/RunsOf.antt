-- A run with the same without the calls of hidden threads, as a contract sees them.
use Rattle.std.specs.Prelude.{List, [], ◌∷◌, Option, Some, None}
use Rattle.plain_state.specs.StateOf.{state_of}
use Rattle.hidden_replies.specs.Hidden.{Runs as Seen}
use Rattle.hidden_replies.specs.declared.differences.Difference.{Difference}
use Rattle.hidden_replies.specs.declared.runs.Runs.{Runs}

abbrev pub runs_of : Runs → Seen
runs_of r = record {
  whole = state_of r.whole;
  purged = state_of r.purged;
  parted = r.parted;
  exception = r.exception;
}

-- what is told of one call: one difference, or none
abbrev pub list_of : Option Difference → List Difference
list_of None = []
list_of (Some d) = d ∷ []
