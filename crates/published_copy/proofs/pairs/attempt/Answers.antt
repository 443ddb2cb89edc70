use Rattle.std.proofs.Common.{◌≡◌, ◌++◌, ◌∷◌, [], List, ap, ◌∙◌, arith, rules}
use Rattle.kernel_rules.specs.Events.{Event}
use Rattle.published_copy.specs.declared.entries.Entry.{Entry}
use Rattle.published_copy.specs.declared.entries.Entry.TheVariants.{Made}
use Rattle.syscall_core.specs.Kernel.{kernel_state}
use Rattle.published_copy.specs.Turns.{event_at}
use Rattle.published_copy.specs.Entries.{made, weight, tried}
use Rattle.published_copy.proofs.EntryLaws.{made-tried, made-made, weight-append}
use Rattle.published_copy.proofs.pairs.attempt.Goals as goal

pub returns-clause-same : goal.returns-clause-same
returns-clause-same g c =
    let e : Event = event_at (kernel_state c.args.kernel.now) c.args.pass.now (c.args.call.now ∷ c.args.more.now) in
    let log : c.attempt.new.self ≡ c.args.whole.now ++ tried e ∷ [] = search rules in
    ap made log ∙ made-tried c.args.whole.now e

pub returns-clause-list : goal.returns-clause-list
returns-clause-list g c =
    let e : Event = event_at (kernel_state c.args.kernel.now) c.args.pass.now (c.args.call.now ∷ c.args.more.now) in
    let log : c.attempt.new.self ≡ c.args.whole.now ++ tried e ∷ [] = search rules in
    ap (λ (l : List Entry). made (l ++ Made ∷ [])) log
    ∙ (made-made c.args.whole.now e ∙ ap (λ s. made c.args.whole.now ++ event_at s c.args.pass.now (c.args.call.now ∷ c.args.more.now) ∷ []) c.requires.state)

pub returns-clause-room : goal.returns-clause-room
returns-clause-room g c =
    let e : Event = event_at (kernel_state c.args.kernel.now) c.args.pass.now (c.args.call.now ∷ c.args.more.now) in
    let log : c.attempt.new.self ≡ c.args.whole.now ++ tried e ∷ [] = search rules in
    omega (arith, ap weight log, weight-append c.args.whole.now (tried e ∷ []), c.weight.ensures, c.if-weight.false)
