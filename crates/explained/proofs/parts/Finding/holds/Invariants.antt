use Rattle.std.proofs.Common.{◌≡◌, drop}
use Rattle.explained.specs.Parts.{refuses}
use Rattle.explained.proofs.parts.Finding.holds.Given as goal

abbrev pub invariant-loop-part : goal.invariant-loop-part
invariant-loop-part l = refuses l.self.parts ≡ refuses (drop l.part-index l.part-items)
