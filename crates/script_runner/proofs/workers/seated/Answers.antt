use Rattle.std.proofs.Common.{rules, ◌≡◌, Some, None}
use Rattle.script_runner.specs.Shared.{object_in}
use Rattle.script_runner.proofs.SharedLaws.{given_for, given_none}
use Rattle.script_runner.proofs.workers.seated.Goals as goal

pub returns-in-Some-clause-given : goal.returns-in-Some-clause-given
returns-in-Some-clause-given g c refusal =
    let is : object_in c.args.bound.now ≡ Some c.in-Some.thread = search rules in
    given_for g.B.Naming.boot.limits g.B.Naming.boot.seats c.args.bound.now refusal c.in-Some.thread is c.open.ensures.given

pub returns-in-None-clause-given : goal.returns-in-None-clause-given
returns-in-None-clause-given g c refusal =
    let is : object_in c.args.bound.now ≡ None = search rules in
    given_none g.B.Naming.boot.limits g.B.Naming.boot.seats c.args.bound.now refusal is
