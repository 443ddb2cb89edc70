use Rattle.kernel_rules.proofs.MadeLaws.{sound_after}
use Rattle.kernel_rules.proofs.UnrefLaws.{unref_well_formed}
use Rattle.plain_state.specs.StateOf.{state_of}
use Rattle.plain_state.proofs.states.PlainState.unref.Goals as goal

pub invariant_of-self : goal.invariant_of-self
invariant_of-self c = record {
  well_formed = sound_after c.unref.result _ _ _ c.unref.ensures.ok c.unref.ensures.err
      c.args.self.now.well_formed
      (unref_well_formed (state_of c.args.self.now) c.args.entry.now.container c.args.entry.now.object
      c.args.self.now.well_formed);
}
