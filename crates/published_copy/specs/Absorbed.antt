-- What a copy shows, and what it becomes when it takes in a call.
use Rattle.std.specs.Prelude.{Bool, true, false, List, [], ◌∷◌, ◌++◌}
use Rattle.kernel_rules.specs.Runs.{state_after, replies_to}
use Rattle.kernel_rules.specs.declared.calls.Call.{Call}
use Rattle.kernel_rules.specs.Events.{Event, by}
use Rattle.syscall_core.specs.Kernel.{kernel_state}
use Rattle.published_copy.specs.declared.entries.Entry.{Entry}
use Rattle.published_copy.specs.declared.entries.Entry.TheVariants.{Made}
use Rattle.published_copy.specs.Entries.{made}
use Rattle.published_copy.specs.declared.copies.Copied.{Copied}
use Rattle.published_copy.specs.declared.copies.Shown.{Shown}
use Rattle.published_copy.specs.declared.ops.Op.{Op}

-- the events of a log that was seen, with the one that was tried last where that is not made there
abbrev pub list_of : Bool → List Entry → List Event
list_of true log = made log
list_of false log = made (log ++ Made ∷ [])

-- the list that an operation makes: all that its log makes once the event that it tried is made
abbrev pub listed : Op → List Event
listed op = list_of false op.seen.log

-- its calls
abbrev pub calls_with : Op → List Call
calls_with op = op.call.value ∷ op.more.items

-- what both copies have in common
abbrev pub shown_of : Copied → Shown
shown_of c = record {
  state = kernel_state c.kernel;
  limits = c.limits;
  length = c.length;
  number = c.seen.book.number;
  log_name = c.seen.book.log_name;
  cells_name = c.seen.book.cells_name;
  list = list_of c.sealed c.seen.log;
  replies = c.reply ∷ c.further;
}

-- and what becomes of it: the state after all calls, the list with their event, and the answers
abbrev pub absorbed : Shown → Op → Shown
absorbed s op = record {
  state = state_after s.state (by op.thread (calls_with op));
  limits = s.limits;
  length = op.length;
  number = op.seen.book.number;
  log_name = op.seen.book.log_name;
  cells_name = op.seen.book.cells_name;
  list = listed op;
  replies = replies_to s.state (by op.thread (calls_with op));
}
