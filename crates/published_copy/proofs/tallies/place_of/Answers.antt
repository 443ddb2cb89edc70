use Rattle.std.proofs.Common.{◌≡◌, ◌==◌, true, false, sym, ap, ◌∙◌, arith, get_or}
use Rattle.published_copy.specs.declared.tallies.Tally.{Tally}
use Rattle.published_copy.proofs.TallyLaws.{place-hit, place-miss}
use Rattle.published_copy.proofs.tallies.place_of.Goals as goal

pub returns-then-eq-clause-place : goal.returns-then-eq-clause-place
returns-then-eq-clause-place c =
    let same : ((get_or c.args.tallies.now c.loop-i.i c.index-tallies-i.result).thread == c.args.thread) ≡ true = ap (λ (t : Tally). t.thread == c.args.thread) (sym c.index-tallies-i.is) ∙ (sym c.eq.ensures ∙ c.if-eq.true) in
    omega (arith, c.loop-i.invariant, place-hit c.args.thread c.args.tallies.now c.loop-i.i _ c.loop-i-test.true same)

pub loop-i-preserved : goal.loop-i-preserved
loop-i-preserved c =
    let other : ((get_or c.args.tallies.now c.loop-i.i c.index-tallies-i.result).thread == c.args.thread) ≡ false = ap (λ (t : Tally). t.thread == c.args.thread) (sym c.index-tallies-i.is) ∙ (sym c.eq.ensures ∙ c.if-eq.false) in
    omega (arith, c.loop-i.invariant, place-miss c.args.thread c.args.tallies.now c.loop-i.i _ c.loop-i-test.true other)
