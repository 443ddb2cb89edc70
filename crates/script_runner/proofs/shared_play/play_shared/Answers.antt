use Rattle.std.proofs.Common.{rules, ◌≡◌, ◌∙◌, true, IfOk, subst}
use Rattle.std.specs.List.{AllByRecursion}
use Rattle.script_runner.specs.Shared.{AreSeen, IsAnswered}
use Rattle.script_runner.specs.Reads.{reads_kept}
use Rattle.script_runner.proofs.AskedLaws.{shared_reads}
use Rattle.script_runner.proofs.SharedLaws.{shared_by}
use Rattle.script_runner.proofs.shared_play.play_shared.Goals as goal

pub returns-clause-shared : goal.returns-clause-shared
returns-clause-shared g c =
    let a = c.in_ok-left.field-0 in
    let on : c.all_seen-seen.result ≡ true = search rules in
    let answered : IsAnswered g.B.Naming.boot.limits g.B.Naming.boot.seats c.args.script.now c.args.workers.now.keys a.names a.left.items
    a.passes.items
    = subst (λ r. IfOk r (λ b. IsAnswered g.B.Naming.boot.limits g.B.Naming.boot.seats c.args.script.now c.args.workers.now.keys b.names
    b.left.items b.passes.items)) c.in_ok-left.was c.play_workers-answered.ensures in
    let seen : AllByRecursion (AreSeen c.close-book.result.journal) a.passes.items
    = subst (λ r. IfOk r (λ b. AllByRecursion (AreSeen c.close-book.result.journal) b.passes.items)) c.in_ok-left.was
    (c.all_seen-seen.ensures on) in
    shared_by g.B.Naming.boot.limits g.B.Naming.boot.seats c.args.script.now c.args.workers.now.keys a.names a.left.items a.passes.items
    c.in_ok-output.field-0.output.items c.close-book.result.journal c.in_ok-events.field-0.events.items answered seen
    c.in_ok-events.ensures.journal c.in_ok-output.ensures.lines (reads_kept c.in_ok-output.field-0.reads.items)
    (λ posts are. c.in_ok-output.ensures.reads ∙ shared_reads posts a.left.items are)
