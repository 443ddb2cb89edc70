use Rattle.std.proofs.Common.{◌≡◌, ◌+◌, ◌++◌}
use Rattle.shared_calls.specs.Dumps.{IsSameDump, IsTelling, events_told}
use Rattle.shared_calls.proofs.tellings.tell_more.Given as goal

abbrev pub invariant-loop-told : goal.invariant-loop-told
invariant-loop-told l = record {
  telling : IsTelling l.telling;
  same : IsSameDump l.fn.telling l.telling;
  events : events_told l.telling ≡ events_told l.fn.telling ++ l.events.items;
  count : l.telling.cursor.count ≡ l.fn.telling.cursor.count + l.told;
}
