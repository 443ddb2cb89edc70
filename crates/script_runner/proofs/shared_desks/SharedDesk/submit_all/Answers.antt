use Rattle.std.proofs.Common.{rules, ◌≡◌, ◌∙◌, [], sym}
use Rattle.script_runner.proofs.SharedLaws.{empty_is, none_submitted}
use Rattle.script_runner.proofs.shared_desks.SharedDesk.submit_all.Goals as goal

pub returns-then-is_empty : goal.returns-then-is_empty
returns-then-is_empty g c =
    let none : c.args.calls.now ≡ [] = empty_is c.args.calls.now (sym c.is_empty.ensures ∙ c.if-is_empty.true) in
    none_submitted g.B.Naming.boot.limits c.args.self.now c.args.calls.now _ none (search rules)
