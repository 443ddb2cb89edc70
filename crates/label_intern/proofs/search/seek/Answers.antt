use Rattle.std.proofs.Common.{refl, sym}
use Rattle.label_intern.proofs.SearchLemmas.{halved_none, halved_above, halved_below, halves_found, halves_ended, halves_few, gap_found}
use Rattle.label_intern.proofs.search.seek.Goals as goal

pub loop-low-init : goal.loop-low-init
loop-low-init c = halved_none _ _ _ _

pub loop-low-preserved-in-Less : goal.loop-low-preserved-in-Less
loop-low-preserved-in-Less c =
    halved_above _ _ _ _ _ _ _ _ _ refl c.loop-low-test.true c.requires c.loop-low.invariant c.compare_at.ensures.scan
    (sym c.in-Less.ensures.order)

pub loop-low-preserved : goal.loop-low-preserved
loop-low-preserved c =
    halved_below _ _ _ _ _ _ _ _ _ refl c.loop-low-test.true c.requires c.loop-low.invariant c.compare_at.ensures.scan
    (sym c.in-Greater.ensures.order)

pub returns-in-Equal-clause-halves : goal.returns-in-Equal-clause-halves
returns-in-Equal-clause-halves c =
    halves_found _ _ _ _ _ _ _ _ _ refl c.loop-low-test.true c.requires c.loop-low.invariant c.compare_at.ensures.scan

pub returns-in-Equal-clause-scans : goal.returns-in-Equal-clause-scans
returns-in-Equal-clause-scans c =
    halves_few _ _ _
    (halves_found _ _ _ _ _ _ _ _ _ refl c.loop-low-test.true c.requires c.loop-low.invariant c.compare_at.ensures.scan)

pub returns-clause-halves : goal.returns-clause-halves
returns-clause-halves c = halves_ended _ _ _ _ _ _ _ c.requires c.loop-low.invariant

pub returns-clause-scans : goal.returns-clause-scans
returns-clause-scans c = halves_few _ _ _ (halves_ended _ _ _ _ _ _ _ c.requires c.loop-low.invariant)

pub returns-clause-gap : goal.returns-clause-gap
returns-clause-gap c = gap_found _ _ _ _ _ _ _ c.loop-low.invariant c.loop-low-test.false
