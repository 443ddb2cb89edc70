use Rattle.std.proofs.Common.{◌≡◌, ◌≤◌, true, sym, subst, arith}
use Rattle.kernel_rules.specs.State.{State, quota_at, use_of}
use Rattle.kernel_rules.specs.WellFormed.{is_well_formed}
use Rattle.kernel_rules.proofs.MoveLaws.{moved_well_formed, quota_listed}
use Rattle.plain_state.specs.StateOf.{state_of}
use Rattle.plain_state.proofs.states.PlainState.quota_move.Goals as goal

pub quota_move-requires-clause-fits : goal.quota_move-requires-clause-fits
quota_move-requires-clause-fits c =
    let part : quota_at (state_of c.args.self.now) c.args.entry.now.object
    ≤ use_of (state_of c.args.self.now) c.args.entry.now.container
    = quota_listed (state_of c.args.self.now) c.args.entry.now.container c.args.entry.now.object
    c.requires.listed in
    omega arith

pub invariant_of-self : goal.invariant_of-self
invariant_of-self c = record {
  well_formed = subst (λ (s : State). is_well_formed s ≡ true) (sym c.quota_move.ensures)
      (moved_well_formed (state_of c.args.self.now) c.args.entry.now c.args.up c.args.down c.requires.listed
      c.requires.loose c.requires.room c.requires.free c.args.self.now.well_formed);
}
