use Rattle.std.proofs.Common.{◌+◌, drop, Option, ap, ◌∙◌}
use Rattle.base.specs.declared.refusals.Refusal.{Refusal}
use Rattle.kernel_rules.specs.Rows.{least_of, refusal_of}
use Rattle.kernel_rules.proofs.RowLaws.{held_more, unheld_more}
use Rattle.kernel_rules.proofs.refusing.least_with.Goals as goal
use Rattle.kernel_rules.proofs.refusing.least_with.Goals.{then-condition, else-condition}

pub loop-condition-preserved : goal.loop-condition-preserved
loop-condition-preserved c =
    let rest = refusal_of (drop (c.loop-condition.condition-index + 1) c.args.row.now) in
    elim c.if-condition.branch [
      | then-condition w ↦
          ap (λ (a : Option Refusal). least_of a rest) (w.least-is ∙ w.least_of-least.ensures)
          ∙ held_more _ _ c.args.row.now _ _ c.loop-condition-test.true w.if-condition.true c.loop-condition.invariant
      | else-condition w ↦
          ap (λ (a : Option Refusal). least_of a rest) w.least-is
          ∙ unheld_more _ _ c.args.row.now _ _ c.loop-condition-test.true w.if-condition.false c.loop-condition.invariant
    ]
