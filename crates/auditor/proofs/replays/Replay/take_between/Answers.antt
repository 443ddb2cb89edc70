use Rattle.std.proofs.Common.{arith}
use Rattle.auditor.proofs.ReplayLaws.{replayed_more}
use Rattle.auditor.proofs.StopLaws.{stops_at}
use Rattle.auditor.proofs.replays.Replay.take_between.Goals as goal

pub loop-place-preserved : goal.loop-place-preserved
loop-place-preserved c = λ start was.
    let before = c.loop-place.invariant start was in
    let taken = c.in_ok-take.ensures.taken c.if-not-branch.false start before.replay in
    record {
      replay = taken.replay;
      all = replayed_more start c.args.events.now c.loop-place.place c.index-events-place.result c.loop-place.self.events.items
          c.take.new.self.events.items before.all taken.event (omega arith) c.index-events-place.is;
    }

pub returns-then-not-branch-clause-stopped : goal.returns-then-not-branch-clause-stopped
returns-then-not-branch-clause-stopped c = λ no start was.
    let before = c.loop-place.invariant start was in
    stops_at start c.args.events.now c.args.from c.args.to c.loop-place.place c.index-events-place.result c.loop-place.self c.take.new.self
    (omega (arith, c.loop-place.auto.place)) (omega (arith, c.loop-place-test.true)) c.requires.within c.index-events-place.is before
    (c.in_ok-take.ensures.stopped c.if-not-branch.true start before.replay)
