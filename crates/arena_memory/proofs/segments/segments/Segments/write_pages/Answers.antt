use Rattle.std.proofs.Common.{◌≡◌, ◌+◌, ◌-◌, ◌%◌, ◌≤◌, ◌∙◌, min, ℕ, List, length, set, sym, ap, subst, arith}
use Rattle.std.proofs.lemmas.List.{take_all}
use Rattle.kernel_rules.specs.Written.{written}
use Rattle.arena_memory.specs.Segments.{bytes_in}
use Rattle.arena_memory.proofs.Writes.{IsMet, nothing_written, none_met, one_met, all_met, slot_in, at_fits, place_in, written_one}
use Rattle.arena_memory.proofs.segments.segments.Segments.write_pages.Goals as goal

pub loop-done-init : goal.loop-done-init
loop-done-init c = record {
  most = omega arith;
  so_far = c.self.view_is ∙ nothing_written c.args.self.now c.args.slot.0 c.args.at;
  met = none_met c.args.at (length c.args.given.now) c.args.meter.now;
}

pub overflow_add-place : goal.overflow_add-place
overflow_add-place c =
    let i = c.loop-done.invariant in
    omega (arith, at_fits c.args.self.now c.args.slot.0 c.args.at c.args.given.now c.requires.slot c.requires.within c.loop-done.self-inside.frames c.paged.ensures c.loop-done.done i.most i.so_far)

pub overflow_add-offset : goal.overflow_add-offset
overflow_add-offset c =
    let i = c.loop-done.invariant in
    omega (arith, at_fits c.args.self.now c.args.slot.0 c.args.at c.args.given.now c.requires.slot c.requires.within c.loop-done.self-inside.frames c.paged.ensures c.loop-done.done i.most i.so_far)

pub put-requires-clause-slot : goal.put-requires-clause-slot
put-requires-clause-slot c =
    let i = c.loop-done.invariant in
    slot_in c.args.self.now c.args.slot.0 c.args.at c.args.given.now c.requires.slot c.requires.within c.loop-done.self-inside.frames c.paged.ensures c.loop-done.done i.most i.so_far

pub put-requires-clause-place : goal.put-requires-clause-place
put-requires-clause-place c =
    let i = c.loop-done.invariant in
    place_in c.args.self.now c.args.slot.0 c.args.at c.args.given.now c.requires.slot c.requires.within c.loop-done.self-inside.frames c.paged.ensures c.loop-done.done i.most i.so_far c.loop-done-test.true

pub loop-done-preserved : goal.loop-done-preserved
loop-done-preserved c =
    let i = c.loop-done.invariant in
    let long = length c.args.given.now in
    let at = c.args.at + c.loop-done.done in
    let part : c.min-part.result ≡ min (long - c.loop-done.done) (256 - at % 256) = c.min-part.ensures in
    let some : c.loop-done.done + c.min-part.result ≤ long = omega (arith, part, i.most) in
    let short : at % 256 + c.min-part.result ≤ 256 = omega (arith, part) in
    record {
      most = some;
      so_far = written_one c.args.self.now c.args.slot.0 c.args.at c.args.given.now c.requires.slot c.requires.within c.loop-done.self-inside.frames c.paged.ensures c.loop-done.done i.most i.so_far
          c.min-part.result some short c.loop-done-test.true c.put.new.self c.put.ensures.after;
      met = subst (λ (n : ℕ). IsMet c.args.at (c.loop-done.done + n) long c.args.meter.now c.put.new.meter) (sym part)
          (one_met c.args.at c.loop-done.done long c.args.meter.now c.loop-done.meter c.put.new.meter i.met c.loop-done-test.true c.put.ensures.counted);
    }

pub returns-clause-after : goal.returns-clause-after
returns-clause-after c =
    let i = c.loop-done.invariant in
    let all = take_all c.loop-done.done c.args.given.now c.loop-done-test.false in
    i.so_far ∙ ap (λ (xs : List ℕ). set c.args.self.now c.args.slot.0 (written c.args.at xs (bytes_in c.args.self.now c.args.slot.0))) all

pub returns-clause-probes : goal.returns-clause-probes
returns-clause-probes c =
    let i = c.loop-done.invariant in
    let done : c.loop-done.done ≡ length c.args.given.now = omega (arith, c.loop-done-test.false, i.most) in
    all_met c.args.at (length c.args.given.now) c.args.meter.now c.loop-done.meter (subst (λ (n : ℕ). IsMet c.args.at n (length c.args.given.now) c.args.meter.now c.loop-done.meter) done i.met)
