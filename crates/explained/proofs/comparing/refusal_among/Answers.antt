use Rattle.std.proofs.Common.{◌+◌, drop, Option, ap, ◌∙◌, sym}
use Rattle.base.specs.declared.refusals.Refusal.{Refusal}
use Rattle.kernel_rules.specs.Rows.{least_of}
use Rattle.explained.specs.Laws.{least}
use Rattle.explained.proofs.Least.{held_more, unheld_more}
use Rattle.explained.proofs.comparing.refusal_among.Goals as goal
use Rattle.explained.proofs.comparing.refusal_among.Goals.{then-holds, else-holds}

pub loop-finding-preserved : goal.loop-finding-preserved
loop-finding-preserved c =
    let rest = least (drop (c.loop-finding.finding-index + 1) c.args.found.now) in
    elim c.if-holds.branch [
      | then-holds w ↦
          ap (λ (a : Option Refusal). least_of a rest) (w.least-is ∙ w.least_of-least.ensures)
          ∙ held_more _ _ c.args.found.now _ c.finding-item.result c.loop-finding-test.true c.finding-item.is
          (sym c.holds.ensures ∙ w.if-holds.true) c.loop-finding.invariant
      | else-holds w ↦
          ap (λ (a : Option Refusal). least_of a rest) w.least-is
          ∙ unheld_more _ _ c.args.found.now _ c.finding-item.result c.loop-finding-test.true c.finding-item.is
          (sym c.holds.ensures ∙ w.if-holds.false) c.loop-finding.invariant
    ]
