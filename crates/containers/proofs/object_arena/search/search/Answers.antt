use Rattle.std.proofs.Common.{length, arith}
use Rattle.containers.proofs.SearchSteps.{IsHalved-start, IsHalved-above, IsHalved-below, halved_as, halved_first}
use Rattle.containers.proofs.object_arena.search.search.Goals as goal
use Rattle.containers.proofs.object_arena.search.search.Goals.{then-here-id-2, else-here-id-2}

pub loop-low-init : goal.loop-low-init
loop-low-init c = IsHalved-start _ _ _ _ _ c.requires c.end_of-high.ensures (λ some. halved_first c.end_of-high.result (length c.args.ids.now) some (omega (arith, c.end_of-high.ensures)))

pub overflow_add-reads : goal.overflow_add-reads
overflow_add-reads c = omega (arith, c.loop-low.invariant.short, c.loop-low-test.true)

pub loop-low-preserved : goal.loop-low-preserved
loop-low-preserved c =
    let halved = c.loop-low.invariant in
    elim c.if-here-id-2.branch [
      | then-here-id-2 w ↦ halved_as _ _ _ _ _ _ _ _ w.low-is w.high-is
          (IsHalved-above _ _ _ _ _ _ _ c.loop-low-test.true c.requires halved w.if-here-id-2.true)
      | else-here-id-2 w ↦ halved_as _ _ _ _ _ _ _ _ w.low-is w.high-is
          (IsHalved-below _ _ _ _ _ _ _ c.loop-low-test.true c.requires halved c.if-here-id.false w.if-here-id-2.false)
    ]
