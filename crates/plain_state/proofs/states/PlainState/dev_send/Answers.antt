use Rattle.kernel_rules.proofs.MadeLaws.{sound_after}
use Rattle.kernel_rules.proofs.PlaceLaws.{sent_well_formed}
use Rattle.plain_state.specs.StateOf.{state_of}
use Rattle.plain_state.proofs.states.PlainState.dev_send.Goals as goal

pub invariant_of-self : goal.invariant_of-self
invariant_of-self c = record {
  well_formed = sound_after c.dev_send_in.result _ _ _ c.dev_send_in.ensures.ok c.dev_send_in.ensures.err
      c.args.self.now.well_formed
      (sent_well_formed (state_of c.args.self.now) c.args.id c.args.packet c.requires.some
      c.requires.few c.requires.room
      c.args.self.now.well_formed);
}
