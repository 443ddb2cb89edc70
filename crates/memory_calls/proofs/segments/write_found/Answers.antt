use Rattle.std.proofs.Common.{sym, ◌∙◌}
use Rattle.memory_calls.proofs.SegmentLaws.{write_fits}
use Rattle.memory_calls.proofs.segments.write_found.Goals as goal

pub write_bytes-requires-clause-inside : goal.write_bytes-requires-clause-inside
write_bytes-requires-clause-inside g c = rw c.as_slice.ensures.value (write_fits _ _ _ _ _ (sym c.refused_segment_write.ensures.value ∙ c.in_default.is))
