use Rattle.std.proofs.Common.{List}
use Rattle.std.proofs.lemmas.Result.{IfOk-at_ok}
use Rattle.std.specs.List.{AllZip}
use Rattle.script_runner.specs.Shared.{Plays, Post}
use Rattle.script_runner.proofs.SharedLaws.{all_of_halves}
use Rattle.script_runner.proofs.shared_play.+together.Goals as goal

pub returns : goal.returns
returns g t c =
    let R : Post → Post → Type 0 = Plays g.B.Naming.boot.limits c.args.known.now c.args.phase.now in
    let front : List Post = c.split_off.new.self.items in
    let back : List Post = c.in_ok-others.others.items in
    all_of_halves R c.args.workers.items front back _ c.in_ok-all.all.items c.in_ok-rest.rest.items c.append.new.self.items
    c.in_ok-others.ensures.items c.in_ok-others.ensures.tail c.in_ok-append.ensures.items
    (IfOk-at_ok (λ v. AllZip R front v.items) {r = c.join-first.result.0} c.in_ok-all.was c.join-first.ensures.first)
    (IfOk-at_ok (λ v. AllZip R back v.items) {r = c.join-first.result.1} c.in_ok-rest.was c.join-first.ensures.second)
