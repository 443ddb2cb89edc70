use Rattle.std.proofs.Common.{◌≡◌, true, sym, subst}
use Rattle.kernel_rules.specs.State.{State}
use Rattle.kernel_rules.specs.WellFormed.{is_well_formed}
use Rattle.kernel_rules.proofs.FixedLaws.{fixed_well_formed}
use Rattle.plain_state.specs.StateOf.{state_of}
use Rattle.plain_state.proofs.states.PlainState.set_fixed.Goals as goal

pub invariant_of-self : goal.invariant_of-self
invariant_of-self c = record {
  well_formed = subst (λ (s : State). is_well_formed s ≡ true) (sym c.set_fixed.ensures)
      (fixed_well_formed (state_of c.args.self.now) c.args.id c.args.self.now.well_formed);
}
