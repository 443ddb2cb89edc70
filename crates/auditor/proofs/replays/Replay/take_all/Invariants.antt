use Rattle.std.proofs.Common.{◌≡◌, ◌≤◌, ◌++◌, List, [], true, length, take, drop}
use Rattle.kernel_rules.specs.History.{Start}
use Rattle.dump_text.specs.Reads.{are_placed}
use Rattle.dump_text.specs.declared.tables.PlacedRead.{PlacedRead}
use Rattle.auditor.specs.Replay.{IsReplay, TakesAll, true_reads, true_reads_after}
use Rattle.auditor.proofs.replays.Replay.take_all.Given as goal

abbrev pub invariant-loop-read : goal.invariant-loop-read
invariant-loop-read l = record {
  within : l.place ≤ length l.events;
  placed : are_placed l.place (length l.events) (drop l.read-index l.reads) ≡ true;
  before : are_placed 0 l.place (take l.read-index l.reads) ≡ true;
  told : (start : Start) → IsReplay start l.fn.self → l.fn.self.events.items ≡ []
      → TakesAll start (take l.place l.events) l.self
      × ((rest : List PlacedRead) → l.told.items ++ true_reads_after start l.events l.place l.thread rest
      ≡ true_reads start l.events (take l.read-index l.reads ++ rest));
}
