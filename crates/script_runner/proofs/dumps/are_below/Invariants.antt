use Rattle.std.proofs.Common.{◌≡◌, true, nat_lt, take}
use Rattle.std.specs.List.{list_all}
use Rattle.script_runner.proofs.dumps.are_below.Given as goal

abbrev pub invariant-loop-event : goal.invariant-loop-event
invariant-loop-event l = list_all (λ e. nat_lt e.thread l.next_id) (take l.event-index l.events) ≡ true
