use Rattle.std.proofs.Common.{rules}
use Rattle.program_io.proofs.SinkLemmas.{written_on, stays_after}
use Rattle.program_io.proofs.sinks.put.Goals as goal

-- what was written, and then a beginning of the rest
pub loop-written-preserved : goal.loop-written-preserved
loop-written-preserved g c =
    let before = c.loop-written.invariant in
    let some = c.in-Some.ensures.some in
    record {
      within = search rules;
      written = written_on _ _ _ c.args.text.now c.loop-written.written c.in-Some.taken before.written some.2;
      count = stays_after _ _ _ before.count c.put_some.ensures.count;
    }
