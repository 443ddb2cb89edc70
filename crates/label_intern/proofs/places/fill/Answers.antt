use Rattle.label_intern.proofs.FillLemmas.{fills_none, fills_more}
use Rattle.label_intern.proofs.places.fill.Goals as goal

pub loop-i-init : goal.loop-i-init
loop-i-init c =
    fills_none _ _ _ _ _ _ _ _ (rw c.order_bits-own.ensures.bits at c.put.ensures) c.order_bits-own.ensures.scans

pub loop-i-preserved : goal.loop-i-preserved
loop-i-preserved c =
    let change = rw (c.from-other.ensures, c.order_bits_both_ways-ways.ensures.forth, c.order_bits_both_ways-ways.ensures.back)
    at c.put-in-loop-i.ensures in
    fills_more _ _ _ _ _ _ _ _ _ _ _ _ c.loop-i.invariant c.requires.free (c.requires.listed.taken c.loop-i.i c.loop-i-test.true)
    (rw c.from-other.ensures at c.label_at.ensures) change c.order_bits_both_ways-ways.ensures.scans
