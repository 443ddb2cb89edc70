use Rattle.std.proofs.Common.{sym, ◌∙◌}
use Rattle.std.proofs.lemmas.Bool.{iff_false}
use Rattle.plain_core.proofs.BuildLaws.{written_none, written_same, written_other}
use Rattle.plain_core.proofs.restoring.labels.stored.Goals as goal

pub returns-in-None : goal.returns-in-None
returns-in-None c = written_none c.args.raw.now c.if_good.result c.in-None.is c.if_good.ensures.value

pub returns-then-is_same : goal.returns-then-is_same
returns-then-is_same c =
    written_same c.args.raw.now c.in-Some.label c.in-Some.ensures.stored
    (sym c.to_raw.ensures.raw ∙ c.is_same.ensures.0 c.if-is_same.true)

pub returns-else-is_same : goal.returns-else-is_same
returns-else-is_same c =
    written_other c.args.raw.now c.if_good.result c.in-Some.label c.in-Some.is c.if_good.ensures.value
    (λ e. iff_false c.is_same.ensures c.if-is_same.false (c.to_raw.ensures.raw ∙ e))
