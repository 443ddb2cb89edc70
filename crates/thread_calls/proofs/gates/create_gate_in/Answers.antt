use Rattle.std.proofs.Common.{ℕ, sym, subst, ◌∙◌, rules}
use Rattle.kernel_rules.specs.Fitting.{IsFitting}
use Rattle.kernel_rules.specs.Step.{new_gate}
use Rattle.thread_calls.proofs.BearerLaws.{gate_fits}
use Rattle.thread_calls.proofs.SpaceLaws.{gate_space}
use Rattle.thread_calls.proofs.gates.create_gate_in.Goals as goal

pub create-requires-clause-fitting : goal.create-requires-clause-fitting
create-requires-clause-fitting g c =
    let s = g.S.Store.state c.args.state.now in
    subst (λ (d : ℕ). IsFitting s d c.args.made.now.quota (new_gate c.in-Some-clearance.clearance.now c.args.made.now.space c.args.made.now.entry_point c.args.made.now.closure)) (sym c.requires.container)
    (gate_fits s (g.S.Store.id_of c.args.named.caller) c.args.made.now
    c.in-Some-clearance.clearance.now (sym c.refused_gate_create.ensures.value ∙ c.in_default.is) (search rules))

pub create-requires-clause-sourced : goal.create-requires-clause-sourced
create-requires-clause-sourced g c =
    gate_space (g.S.Store.state c.args.state.now) (g.S.Store.id_of c.args.named.caller) c.args.made.now
    (sym c.refused_gate_create.ensures.value ∙ c.in_default.is)
