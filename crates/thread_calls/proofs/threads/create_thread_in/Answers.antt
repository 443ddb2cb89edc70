use Rattle.std.proofs.Common.{ℕ, sym, subst, ◌∙◌, rules}
use Rattle.kernel_rules.specs.Fitting.{IsFitting}
use Rattle.kernel_rules.specs.Step.{new_thread}
use Rattle.thread_calls.proofs.BearerLaws.{thread_fits}
use Rattle.thread_calls.proofs.threads.create_thread_in.Goals as goal

pub create-requires-clause-fitting : goal.create-requires-clause-fitting
create-requires-clause-fitting g c =
    let s = g.S.Store.state c.args.state.now in
    subst (λ (d : ℕ). IsFitting s d c.args.made.now.quota (new_thread c.in-Some-clearance.clearance.now c.args.made.now.entry_point)) (sym c.requires.container)
    (thread_fits s (g.S.Store.id_of c.args.named.caller) c.args.made.now
    c.in-Some-clearance.clearance.now (sym c.refused_thread_create.ensures.value ∙ c.in_default.is) (search rules))
