use Rattle.std.proofs.Common.{ℕ, None, replicate, sym, subst, ◌∙◌}
use Rattle.kernel_rules.specs.Fitting.{IsFitting}
use Rattle.kernel_rules.specs.declared.objects.Body.TheVariants as is
use Rattle.memory_calls.proofs.LengthLaws.{space_fits}
use Rattle.memory_calls.proofs.spaces.create_in.Goals as goal

pub create-requires-clause-fitting : goal.create-requires-clause-fitting
create-requires-clause-fitting g c =
    let s = g.S.Store.state c.args.state.now in
    subst (λ (d : ℕ). IsFitting s d c.args.made.now.quota (is.AddressSpace (record { slots = replicate 16 None }))) (sym c.requires.container)
    (space_fits _ _ _ (sym c.refused_as_create.ensures.value ∙ c.in_default.is))
