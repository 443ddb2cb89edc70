use Rattle.std.proofs.Common.{refl, arith}
use Rattle.arena_memory.proofs.Costs.{fewer_probes}
use Rattle.arena_memory.proofs.Seen.{seen}
use Rattle.arena_memory.proofs.segments.segments.Segments.clear.Goals as goal

pub returns-clause-after : goal.returns-clause-after
returns-clause-after c = seen c.self.inside.frames c.paged.ensures _ c.self.view_is _ c.args.slot.0 _ _ c.shrink.ensures.after refl

pub returns-clause-probes : goal.returns-clause-probes
returns-clause-probes c = fewer_probes _ _ _ _ c.shrink.ensures.probes (omega (arith, c.paged.ensures.few c.args.slot.0))
