use Rattle.std.proofs.Common.{◌≡◌, ◌<◌, ◌+◌, ℕ, true, take}
use Rattle.std.specs.List.{list_all}
use Rattle.std.specs.Option.{unwrap_or}
use Rattle.std.specs.Ordering.{nat_cmp}
use Rattle.std.specs.BTreeMap.{get}
use Rattle.checkpoints.specs.Starts.{number_of}
use Rattle.kernel_rules.specs.History.{count}
use Rattle.logged_kernel.specs.Entries.{events_of}
use Rattle.logged_kernel.specs.Numbers.{is_noted}
use Rattle.logged_kernel.proofs.numbers.note_events.Given as goal

abbrev pub invariant-loop-entry : goal.invariant-loop-entry
invariant-loop-entry l = record {
  value : (t : ℕ) → t < l.next_id
      → unwrap_or (get nat_cmp l.numbers t) 1 ≡ count t (events_of (take l.entry-index l.entries)) + number_of l.first t;
  noted : list_all (is_noted l.next_id) l.numbers.entries ≡ true;
}
