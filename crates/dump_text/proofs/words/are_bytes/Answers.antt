use Rattle.std.proofs.Common.{arith}
use Rattle.dump_text.proofs.words.are_bytes.Goals as goal

pub returns : goal.returns
returns c = record { few = c.requires; bytes = λ i. omega (arith, c.type_inv.bytes i) }
