use Rattle.std.proofs.Common.{◌≡◌, IfOk, true, subst, rules}
use Rattle.base.specs.Limits.{in_range}
use Rattle.base.specs.declared.ranges.Limits.{Limits}
use Rattle.script_runner.specs.Dumps.{IsClosing}
use Rattle.script_runner.proofs.Plays.{plays, holds_at_ok}
use Rattle.script_runner.proofs.play.play_seated.Goals as goal

pub returns-in-Ok-clause-played : goal.returns-in-Ok-clause-played
returns-in-Ok-clause-played g c =
    let limits : Limits = c.args.limits.now in
    let same : c.in-Ok.boot.limits ≡ limits = search rules in
    let good : in_range limits ≡ true = holds_at_ok c.in-Ok.boot _ (in_range limits) c.in-Ok.ensures.limits.1 in
    let closed : IfOk c.play_shared.result (λ p. IsClosing c.in-Ok.boot.limits p.events.items p.tables) = c.play_shared.ensures.closing in
    plays limits c.play_shared.result good (subst (λ (l : Limits). IfOk c.play_shared.result (λ p. IsClosing l p.events.items p.tables)) same closed)
