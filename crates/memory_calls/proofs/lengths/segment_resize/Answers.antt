use Rattle.std.proofs.Common.{sym, ◌∙◌}
use Rattle.memory_calls.proofs.LengthLaws.{resize_fits}
use Rattle.memory_calls.proofs.lengths.segment_resize.Goals as goal

pub resize-requires-clause-kind : goal.resize-requires-clause-kind
resize-requires-clause-kind g c = (resize_fits _ _ _ _ (sym c.refused_segment_resize.ensures.value ∙ c.in_default.is)).kind

pub resize-requires-clause-few : goal.resize-requires-clause-few
resize-requires-clause-few g c = (resize_fits _ _ _ _ (sym c.refused_segment_resize.ensures.value ∙ c.in_default.is)).few

pub resize-requires-clause-room : goal.resize-requires-clause-room
resize-requires-clause-room g c = (resize_fits _ _ _ _ (sym c.refused_segment_resize.ensures.value ∙ c.in_default.is)).room
