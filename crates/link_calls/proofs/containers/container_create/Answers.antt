use Rattle.std.proofs.Common.{ℕ, [], sym, subst, ◌∙◌}
use Rattle.kernel_rules.specs.Fitting.{IsFitting}
use Rattle.kernel_rules.specs.declared.objects.Body.TheVariants as is
use Rattle.link_calls.proofs.ContainerLaws.{container_fits}
use Rattle.link_calls.proofs.containers.container_create.Goals as goal

pub create-requires-clause-fitting : goal.create-requires-clause-fitting
create-requires-clause-fitting g c =
    let s = g.S.Store.state c.args.state.now in
    subst (λ (d : ℕ). IsFitting s d c.args.made.now.quota (is.Container c.joined-kinds.result [])) (sym c.find_container-named.ensures.container)
    (container_fits _ _ _ c.joined-kinds.result (sym c.refused_container_create.ensures.value ∙ c.in_default.is))
