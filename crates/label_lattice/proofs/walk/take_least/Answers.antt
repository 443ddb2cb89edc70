use Rattle.std.proofs.Common.{◌≤◌, length, add-one, arith}
use Rattle.label_lattice.proofs.WalkLemmas.{takes_first, takes_second, other_within, one_within}
use Rattle.label_lattice.proofs.walk.take_least.Goals as goal

pub returns-then-i-a_len-clause-takes : goal.returns-then-i-a_len-clause-takes
returns-then-i-a_len-clause-takes c =
    let past : length c.args.a.now ≤ c.args.i = omega (arith, c.if-i-a_len.true, c.len-a_len.ensures.value) in
    rw (add-one, c.pair_at.ensures)
    (takes_second c.args.a_default c.args.b_default c.args.a.now c.args.b.now c.args.i c.args.j c.requires.a_rising c.requires.b_rising
    (other_within c.args.i (length c.args.a.now) c.args.j (length c.args.b.now) past c.requires.some) (λ h. absurd (omega (arith, past, h))))

pub returns-then-j-b_len-clause-takes : goal.returns-then-j-b_len-clause-takes
returns-then-j-b_len-clause-takes c =
    let past : length c.args.b.now ≤ c.args.j = omega (arith, c.if-j-b_len.true, c.len-b_len.ensures.value) in
    rw (add-one, c.pair_at-then-j-b_len.ensures)
    (takes_first c.args.a_default c.args.b_default c.args.a.now c.args.b.now c.args.i c.args.j c.requires.a_rising c.requires.b_rising
    (one_within c.args.i (length c.args.a.now) c.args.j (length c.args.b.now) past c.requires.some) (λ h. absurd (omega (arith, past, h))))
