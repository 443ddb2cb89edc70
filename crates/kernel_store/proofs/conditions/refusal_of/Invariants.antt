use Rattle.std.proofs.Common.{◌≡◌, drop}
use Rattle.kernel_rules.specs.Rows.{least_of}
use Rattle.kernel_store.proofs.PartLaws.{refusal_in}
use Rattle.kernel_store.proofs.conditions.refusal_of.Given as goal

abbrev pub invariant-loop-part : goal.invariant-loop-part
invariant-loop-part l = least_of l.least (refusal_in (drop l.part-index l.row)) ≡ refusal_in l.row
