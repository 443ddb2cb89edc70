use Rattle.base.proofs.PaddedLaws.{written_front}
use Rattle.base.proofs.bytes.Data.from_slice.Goals as goal

pub invariant_of-result : goal.invariant_of-result
invariant_of-result c = written_front 64 0 c.args.bytes.now c.copy_from_slice.new.self c.copy_from_slice.ensures.after c.requires
