use Rattle.std.proofs.Common.{◌+◌, drop, Option, ap, ◌∙◌}
use Rattle.base.specs.declared.refusals.Refusal.{Refusal}
use Rattle.kernel_rules.specs.Rows.{least_of}
use Rattle.kernel_store.proofs.PartLaws.{refusal_in, part_more}
use Rattle.kernel_store.proofs.conditions.refusal_of.Goals as goal

pub loop-part-preserved : goal.loop-part-preserved
loop-part-preserved c =
    ap (λ (a : Option Refusal). least_of a (refusal_in (drop (c.loop-part.part-index + 1) c.args.row.now))) c.least_with-least.ensures
    ∙ part_more _ _ c.args.row.now _ _ c.loop-part-test.true c.loop-part.invariant
