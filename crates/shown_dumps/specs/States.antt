-- The dump that a text spells, and the state that its first events lead to.
use Rattle.std.specs.Prelude.{◌≡◌, ℕ, true, false, List, take, Option, Some, None, Result, Ok, Err}
use Rattle.auditor.specs.Verdict.{begins}
use Rattle.dump_text.specs.Dump.{IsDump, DumpFaultsAt}
use Rattle.dump_text.specs.Lists.{DumpLists}
use Rattle.dump_text.specs.Whole.{start_with}
use Rattle.kernel_rules.specs.Events.{Event}
use Rattle.kernel_rules.specs.History.{state_from}
use Rattle.kernel_rules.specs.State.{State}
use Rattle.plain_state.specs.StateOf.{state_of}
use Rattle.plain_state.specs.declared.states.PlainState.{PlainState}
use Rattle.shown_dumps.specs.declared.states.faults.ShowFault.{ShowFault}
use Rattle.shown_dumps.specs.declared.states.faults.ShowFault.TheVariants as faults

-- the text spells this dump, or line m is the first at which it stops being the beginning of one
abbrev pub IsDumpIn : List ℕ → Result DumpLists ShowFault → Type 0
IsDumpIn text (Ok dump) = IsDump text dump
IsDumpIn text (Err (faults.Unreadable m)) = DumpFaultsAt text m
IsDumpIn text (Err faults.Memory) = Unit {0}
IsDumpIn text (Err _) = ⊥

-- the first n of events, all where no count is told
abbrev pub first_of : Option ℕ → List Event → List Event
first_of None events = events
first_of (Some n) events = take n events

-- the state that the first events of a dump lead to, whatever its replies say
abbrev pub state_after : DumpLists → Option ℕ → State
state_after d after = state_from (start_with d.limits d.checkpoint).state (first_of after d.events)

-- the text is a dump whose events can begin, and this is the state after so many of them
abbrev pub LeadsTo : List ℕ → Option ℕ → State → Type 0
LeadsTo text after s = (d : DumpLists) × IsDump text d × (begins d ≡ true) × (s ≡ state_after d after)

-- why there is no such state. IllFormed: the checkpoint can't be restored.
abbrev pub IsWhyNone : List ℕ → ShowFault → Type 0
IsWhyNone text faults.IllFormed = (d : DumpLists) × IsDump text d × (begins d ≡ false)
IsWhyNone text fault = IsDumpIn text (Err fault)

abbrev pub IsStateAfter : List ℕ → Option ℕ → Result PlainState ShowFault → Type 0
IsStateAfter text after (Ok p) = LeadsTo text after (state_of p)
IsStateAfter text after (Err fault) = IsWhyNone text fault
