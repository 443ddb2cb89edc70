use Rattle.std.proofs.Common.{sym, ◌∙◌}
use Rattle.memory_calls.proofs.SegmentLaws.{read_fits}
use Rattle.memory_calls.proofs.segments.read_found.Goals as goal

pub bytes_from-requires-clause-inside : goal.bytes_from-requires-clause-inside
bytes_from-requires-clause-inside g c = (read_fits _ _ _ _ _ (sym c.refused_segment_read.ensures.value ∙ c.in_default.is)).inside
