use Rattle.std.proofs.Common.{◌==◌, arith, refl, bit_and}
use Rattle.std.specs.Int.{bit_at}
use Rattle.std.specs.Int.Bits.{and_lt}
use Rattle.label_lattice.specs.Ways.{both_test}
use Rattle.label_lattice.proofs.WalkLemmas.{compare_none, compare_more, compare_never}
use Rattle.std.proofs.lemmas.Nat.Bits.{bit_at-zero}
use Rattle.label_lattice.proofs.WaysLemmas.{both_few, and_bit}
use Rattle.label_lattice.proofs.walk.compare_everywhere.Goals as goal

pub loop-i-init : goal.loop-i-init
loop-i-init c = record {
  a_within = omega arith;
  b_within = omega arith;
  few = rw c.compare_levels-held.ensures (both_few c.args.a_default c.args.b_default);
  bits =
      λ k. compare_none (both_test k) c.args.a_default c.args.b_default c.args.a.now c.args.b.now _
      (rw c.compare_levels-held.ensures refl);
}

pub loop-i-preserved : goal.loop-i-preserved
loop-i-preserved c =
    let turn = c.take_least-turn in
    let x = turn.result.a in
    let y = turn.result.b in
    record {
      a_within = turn.ensures.a_within;
      b_within = turn.ensures.b_within;
      few =
          rw c.compare_levels-held-in-loop-i.ensures
          (and_lt 6 c.loop-i.held _ c.loop-i.invariant.few (both_few x y));
      bits =
          λ k. compare_more (both_test k) c.args.a_default c.args.b_default c.args.a.now c.args.b.now
          c.loop-i.i c.loop-i.j _ turn.ensures.takes.category turn.result.i turn.result.j x y _
          (c.loop-i.invariant.bits k) turn.ensures.takes.first turn.ensures.takes.second
          (rw c.compare_levels-held-in-loop-i.ensures (and_bit c.loop-i.held _ k));
    }

pub returns-then-held-eq0-clause-bits : goal.returns-then-held-eq0-clause-bits
returns-then-held-eq0-clause-bits c =
    let turn = c.take_least-turn in
    λ k. compare_never (both_test k) c.args.a_default c.args.b_default c.args.a.now c.args.b.now
    turn.result.i turn.result.j (bit_at 0 k == 1)
    (rw c.if-held-eq0.true
    at (compare_more (both_test k) c.args.a_default c.args.b_default c.args.a.now c.args.b.now
    c.loop-i.i c.loop-i.j _ turn.ensures.takes.category turn.result.i turn.result.j turn.result.a
    turn.result.b
    (bit_at (bit_and c.loop-i.held c.compare_levels-held-in-loop-i.result) k == 1)
    (c.loop-i.invariant.bits k) turn.ensures.takes.first
    turn.ensures.takes.second
    (rw c.compare_levels-held-in-loop-i.ensures (and_bit c.loop-i.held _ k)))) (rw (bit_at-zero k) refl)
