use Rattle.std.proofs.Common.{◌≡◌, ◌-◌, ◌≤◌, ◌++◌, length, replicate, set, ℕ, ap, ◌∙◌, arith}
use Rattle.arena_memory.specs.Pages.{pages_at}
use Rattle.arena_memory.proofs.Costs.{no_probes, probed_more, fewer_probes}
use Rattle.arena_memory.proofs.Rounds.{row_of, length_of, total_of, grown, grown_length, no_fewer, ungrown}
use Rattle.arena_memory.proofs.segments.frames.Frames.grow.Goals as goal

pub loop-self-init : goal.loop-self-init
loop-self-init c = record {
  grown = ungrown c.args.self.now c.args.slot c.requires.slot (replicate {A = ℕ} 256 0);
  most = omega arith;
  probes = no_probes _ _;
}

pub count-requires : goal.count-requires
count-requires c = omega (arith, c.requires.slot, length_of c.args.self.now c.args.slot c.requires.slot c.loop-self.self _ c.loop-self.invariant.grown)

pub push-requires : goal.push-requires
push-requires c =
    let is = c.loop-self.invariant.grown in
    let long = length_of c.args.self.now c.args.slot c.requires.slot c.loop-self.self _ is in
    record {
      slot = omega (arith, c.requires.slot, long);
      few = omega (arith, c.requires.few, c.loop-self-test.true, c.count.ensures.count);
      room = omega (arith, c.requires.room, long, total_of c.args.self.now c.args.slot c.requires.slot c.loop-self.self _ is, ap length (row_of c.args.self.now c.args.slot c.requires.slot c.loop-self.self _ is), c.loop-self-test.true, c.count.ensures.count);
    }

pub loop-self-preserved : goal.loop-self-preserved
loop-self-preserved c =
    let i = c.loop-self.invariant in
    let page = replicate {A = ℕ} 256 0 in
    let more = grown_length c.args.self.now c.args.slot c.requires.slot page c.loop-self.self c.push.new.self i.grown c.push.ensures.after in
    let least = no_fewer c.args.self.now c.args.slot c.requires.slot page c.loop-self.self c.push.new.self i.grown c.push.ensures.after in
    record {
      grown = grown c.args.self.now c.args.slot c.requires.slot page c.loop-self.self c.push.new.self i.grown c.push.ensures.after;
      most = omega (arith, more, c.loop-self-test.true, c.count.ensures.count);
      probes = probed_more (length (pages_at c.loop-self.self c.args.slot) - length (pages_at c.args.self.now c.args.slot)) 1 _ c.args.meter.now c.loop-self.meter c.push.new.meter i.probes c.push.ensures.counted
          (omega (arith, more, least));
    }

pub loop-self-smaller : goal.loop-self-smaller
loop-self-smaller c =
    omega (arith, grown_length c.args.self.now c.args.slot c.requires.slot (replicate {A = ℕ} 256 0) c.loop-self.self c.push.new.self c.loop-self.invariant.grown c.push.ensures.after, c.loop-self-test.true, c.count.ensures.count)

pub returns : goal.returns
returns c =
    let i = c.loop-self.invariant in
    let ps = pages_at c.args.self.now c.args.slot in
    let least : c.args.pages ≤ length (pages_at c.loop-self.self c.args.slot) = omega (arith, c.loop-self-test.false, c.count.ensures.count) in
    let count : length (pages_at c.loop-self.self c.args.slot) - length ps ≡ c.args.pages - length ps = omega (arith, least, i.most) in
    record {
      after = i.grown ∙ ap (λ (n : ℕ). set c.args.self.now c.args.slot (ps ++ replicate n (replicate {A = ℕ} 256 0))) count;
      probes = fewer_probes _ _ _ _ i.probes (omega (arith, count));
    }
