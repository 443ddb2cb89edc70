use Rattle.std.proofs.Common.{ap, ◌∙◌}
use Rattle.dump_text.specs.Boot.{boot_checkpoint}
use Rattle.kernel_rules.specs.Runs.{booted}
use Rattle.shared_calls.specs.declared.lists.CallList.{CallList}
use Rattle.shared_calls.proofs.TellingLaws.{whole_is}
use Rattle.shared_calls.proofs.seats.Seat.begin_dump.Goals as goal

pub returns-clause-begun : goal.returns-clause-begun
returns-clause-begun c =
    let view = c.self.view_is in
    let told = c.in_ok-telling.ensures in
    let limits = ap (λ v. v.limits) view in
    c.begun.ensures
    ∙ whole_is c.in_ok-telling.telling c.args.self.now (ap (λ (l : CallList). l.limits) told.list ∙ limits) (told.origin ∙ ap boot_checkpoint limits)
    (told.state ∙ ap booted limits) told.before (ap (λ s. s.book) told.end ∙ (c.self.invariant.0.list ∙ ap (λ v. v.list) view))
    (ap (λ s. s.log) told.end ∙ ap (λ v. v.seen) view)
