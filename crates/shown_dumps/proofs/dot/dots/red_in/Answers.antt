use Rattle.std.proofs.Common.{ℕ, List, Option, sym, subst}
use Rattle.auditor.specs.Traces.{Traces}
use Rattle.base.specs.declared.ids.Category.{Category}
use Rattle.shown_dumps.specs.DotShown.{IsRed}
use Rattle.shown_dumps.proofs.dot.dots.red_in.Goals as goal

pub returns-clause-red : goal.returns-clause-red
returns-clause-red c =
    subst (λ (flow : Option (ℕ × Category)). IsRed flow c.args.text.now c.in-Ok.ids.items) (sym c.in-Some.is)
    (subst (λ (text : List ℕ). Traces text c.in-Some.asked.1.0 c.in-Some.asked.0 c.in-Ok.ids.items) c.in_ok-audited.ensures.bytes
    c.in-Ok.ensures.exact)
