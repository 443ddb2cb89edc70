use Rattle.std.proofs.Common.{◌-◌, ◌≤◌, length, arith}
use Rattle.arena_memory.specs.Pages.{pages_at}
use Rattle.arena_memory.proofs.Costs.{no_probes, probed_more, fewer_probes}
use Rattle.arena_memory.proofs.Rounds.{length_of, shrunk, shrunk_length, no_more, unshrunk, shrunk_all}
use Rattle.arena_memory.proofs.segments.frames.Frames.shrink.Goals as goal

pub loop-self-init : goal.loop-self-init
loop-self-init c = record {
  cut = unshrunk c.args.self.now c.args.slot c.requires;
  least = omega arith;
  probes = no_probes _ _;
}

pub count-requires : goal.count-requires
count-requires c = omega (arith, c.requires, length_of c.args.self.now c.args.slot c.requires c.loop-self.self _ c.loop-self.invariant.cut)

pub pop-requires : goal.pop-requires
pop-requires c = record {
  slot = omega (arith, c.requires, length_of c.args.self.now c.args.slot c.requires c.loop-self.self _ c.loop-self.invariant.cut);
  some = omega (arith, c.loop-self-test.true, c.count.ensures.count);
}

pub loop-self-preserved : goal.loop-self-preserved
loop-self-preserved c =
    let i = c.loop-self.invariant in
    let less = shrunk_length c.args.self.now c.args.slot c.requires c.loop-self.self c.pop.new.self i.cut c.pop.ensures.after in
    let most = no_more c.args.self.now c.args.slot c.requires c.loop-self.self c.pop.new.self i.cut c.pop.ensures.after in
    record {
      cut = shrunk c.args.self.now c.args.slot c.requires c.loop-self.self c.pop.new.self i.cut c.pop.ensures.after;
      least = omega (arith, less, i.least, c.loop-self-test.true, c.count.ensures.count);
      probes = probed_more (length (pages_at c.args.self.now c.args.slot) - length (pages_at c.loop-self.self c.args.slot)) 1 _ c.args.meter.now c.loop-self.meter c.pop.new.meter i.probes c.pop.ensures.counted
          (omega (arith, less, most, c.loop-self-test.true, c.count.ensures.count));
    }

pub loop-self-smaller : goal.loop-self-smaller
loop-self-smaller c =
    omega (arith, shrunk_length c.args.self.now c.args.slot c.requires c.loop-self.self c.pop.new.self c.loop-self.invariant.cut c.pop.ensures.after, c.loop-self-test.true, c.count.ensures.count)

pub returns : goal.returns
returns c =
    let i = c.loop-self.invariant in
    let most : length (pages_at c.loop-self.self c.args.slot) ≤ c.args.pages = omega (arith, c.loop-self-test.false, c.count.ensures.count) in
    record {
      after = shrunk_all c.args.self.now c.args.slot c.requires c.loop-self.self c.args.pages i.cut i.least most;
      probes = fewer_probes _ _ _ _ i.probes (omega (arith, most, i.least));
    }
