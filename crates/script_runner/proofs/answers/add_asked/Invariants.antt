-- the queries so far are added
use Rattle.std.proofs.Common.{map, take}
use Rattle.script_runner.specs.Answers.{seen_in}
use Rattle.script_runner.specs.Reads.{AddsReads}
use Rattle.script_runner.proofs.answers.add_asked.Given as goal

abbrev pub invariant-loop-query : goal.invariant-loop-query
invariant-loop-query l = AddsReads l.thread (map (seen_in l.kept l.whole) (take l.query-index l.asked)) l.fn.all.items l.all.items
