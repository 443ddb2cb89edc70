use Rattle.std.proofs.Common.{◌<◌, ◌≤◌, ◌+◌, ◌*◌, [], get_or, length, List, ℕ, ap, ◌∙◌, arith}
use Rattle.std.proofs.lemmas.List.{length-take}
use Rattle.arena_memory.specs.Pages.{pages_at}
use Rattle.arena_memory.proofs.Costs.{no_probes, probed_more, fewer_probes}
use Rattle.arena_memory.proofs.Rounds.{row_of, length_of, total_of, copied, uncopied, copied_all, other_row, is_other}
use Rattle.arena_memory.proofs.segments.frames.Frames.append.Goals as goal

pub loop-place-init : goal.loop-place-init
loop-place-init c = record {
  copied = uncopied c.args.self.now c.args.to c.requires.to c.args.from c.requires.blank;
  probes = no_probes _ _;
}

pub page-requires : goal.page-requires
page-requires c =
    let is = c.loop-place.invariant.copied in
    let less : c.loop-place.place < length (pages_at c.args.self.now c.args.from) = omega (arith, c.loop-place-test.true, c.count-count.ensures.count) in
    let ne = is_other c.args.self.now c.args.to c.requires.to c.args.from c.requires.blank (omega (arith, less)) in
    record {
      slot = omega (arith, c.requires.from, length_of c.args.self.now c.args.to c.requires.to c.loop-place.self _ is);
      place = omega (arith, less, ap length (other_row c.args.self.now c.args.to c.requires.to c.loop-place.self _ c.args.from ne is));
    }

pub push-requires : goal.push-requires
push-requires c =
    let is = c.loop-place.invariant.copied in
    let less : c.loop-place.place < length (pages_at c.args.self.now c.args.from) = omega (arith, c.loop-place-test.true, c.count-count.ensures.count) in
    let long = length_of c.args.self.now c.args.to c.requires.to c.loop-place.self _ is in
    let row = ap length (row_of c.args.self.now c.args.to c.requires.to c.loop-place.self _ is) in
    let short = length-take c.loop-place.place (pages_at c.args.self.now c.args.from) in
    record {
      slot = omega (arith, c.requires.to, long);
      few = omega (arith, less, row, short, c.count-count.ensures.paged.few c.args.from);
      room = omega (arith, less, long, short, c.requires.room, total_of c.args.self.now c.args.to c.requires.to c.loop-place.self _ is);
    }

pub loop-place-preserved : goal.loop-place-preserved
loop-place-preserved c =
    let i = c.loop-place.invariant in
    let less : c.loop-place.place < length (pages_at c.args.self.now c.args.from) = omega (arith, c.loop-place-test.true, c.count-count.ensures.count) in
    let ne = is_other c.args.self.now c.args.to c.requires.to c.args.from c.requires.blank (omega (arith, less)) in
    let page = c.page.ensures.value ∙ ap (λ (ps : List (List ℕ)). get_or ps c.loop-place.place []) (other_row c.args.self.now c.args.to c.requires.to c.loop-place.self _ c.args.from ne i.copied) in
    let read = probed_more (2 * c.loop-place.place) 1 (2 * c.loop-place.place + 1) c.args.meter.now c.loop-place.meter c.page.new.meter i.probes c.page.ensures.counted (omega arith) in
    record {
      copied = copied c.args.self.now c.args.to c.requires.to c.args.from c.loop-place.place c.loop-place.self c.push.new.self _ i.copied less page c.push.ensures.after;
      probes = probed_more (2 * c.loop-place.place + 1) 1 _ c.args.meter.now c.page.new.meter c.push.new.meter read c.push.ensures.counted (omega arith);
    }

pub returns : goal.returns
returns c =
    let i = c.loop-place.invariant in
    let most : length (pages_at c.args.self.now c.args.from) ≤ c.loop-place.place = omega (arith, c.loop-place-test.false, c.count-count.ensures.count) in
    record {
      after = copied_all c.args.self.now c.args.to c.requires.to c.loop-place.self c.args.from c.loop-place.place i.copied most;
      probes = fewer_probes _ _ _ _ i.probes (omega (arith, c.loop-place.auto.place-end, c.count-count.ensures.count, c.count-count.ensures.paged.few c.args.from));
    }
