use Rattle.std.proofs.Common.{◌≡◌, ◌+◌, length, ap, ◌∙◌, arith, rules}
use Rattle.shared_calls.proofs.BeginningLaws.{prefix_equal}
use Rattle.shared_calls.proofs.Prefixes.{prefix_trans}
use Rattle.shared_calls.proofs.beginnings.end_at.Goals as goal

pub loop-end-init : goal.loop-end-init
loop-end-init c =
    let was = c.args.cursor.now in
    let told = c.in-Ok.ensures in
    let same : c.in-Ok.end.count ≡ was.count =
    told.placed.count ∙ (ap (λ s. length s.log) told.seen ∙ omega (arith, c.requires.placed.count)) in
    record {
      placed = told.placed;
      list = ap (λ s. s.book) told.seen;
      begins = prefix_equal was.seen.log c.in-Ok.end.seen.log (ap (λ s. s.log) told.seen);
      after = omega (arith, same);
      within = omega (arith, same, c.requires.within);
    }

pub pass_next-requires : goal.pass_next-requires
pass_next-requires c = record {
  placed = c.loop-end.invariant.placed;
  list = c.loop-end.invariant.list ∙ c.requires.list;
}

pub loop-end-preserved : goal.loop-end-preserved
loop-end-preserved c =
    let loop = c.loop-end.invariant in
    let told = c.pass_next.ensures in
    let count : c.pass_next.new.cursor.count ≡ c.loop-end.end.count + 1 = told.count (search rules) in
    record {
      placed = told.placed;
      list = told.list ∙ loop.list;
      begins = prefix_trans c.args.cursor.now.seen.log c.loop-end.end.seen.log c.pass_next.new.cursor.seen.log loop.begins told.begins;
      after = omega (arith, count, loop.after);
      within = omega (arith, count, c.loop-end-test.true);
    }

pub loop-end-smaller : goal.loop-end-smaller
loop-end-smaller c =
    let count : c.pass_next.new.cursor.count ≡ c.loop-end.end.count + 1 = c.pass_next.ensures.count (search rules) in
    omega (arith, count, c.loop-end-test.true)
