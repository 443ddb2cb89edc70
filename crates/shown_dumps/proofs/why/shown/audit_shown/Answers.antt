use Rattle.std.proofs.Common.{ℕ, List, None, subst}
use Rattle.shown_dumps.specs.Shown.{IsShown}
use Rattle.shown_dumps.proofs.why.shown.audit_shown.Goals as goal

pub returns-in-Ok : goal.returns-in-Ok
returns-in-Ok c =
    subst (λ (text : List ℕ). IsShown c.args.telling.now.names.now c.args.telling.now.is_whole None text c.verdict_shown.result)
    c.in-Ok.ensures.bytes c.verdict_shown.ensures
