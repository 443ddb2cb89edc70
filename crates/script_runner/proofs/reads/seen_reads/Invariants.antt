-- the queries of the workers so far
use Rattle.std.proofs.Common.{take}
use Rattle.std.specs.List.{AllZip}
use Rattle.script_runner.specs.Reads.{reads_kept}
use Rattle.script_runner.proofs.AskedLaws.{IsAsked}
use Rattle.script_runner.proofs.reads.seen_reads.Given as goal

abbrev pub invariant-loop-reads : goal.invariant-loop-reads
invariant-loop-reads l = AllZip IsAsked (reads_kept (take l.reads-index l.workers)) l.all.items
