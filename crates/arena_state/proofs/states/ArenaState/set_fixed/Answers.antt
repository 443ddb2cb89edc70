use Rattle.std.proofs.Common.{refl, true}
use Rattle.kernel_rules.specs.Changes.{made_fixed}
use Rattle.arena_state.specs.declared.records.Record.{Record}
use Rattle.kernel_rules.proofs.FixedLaws.{fixed_keeps}
use Rattle.arena_state.proofs.EditLaws.{edited_sound}
use Rattle.arena_state.proofs.WholeEditLaws.{edited_stocked, edited_whole}
use Rattle.arena_state.proofs.states.ArenaState.set_fixed.Goals as goal

abbrev fixing : Record → Record
fixing q = record q { fixed = true }

pub invariant_of-self : goal.invariant_of-self
invariant_of-self c = record {
  sound = edited_sound c.args.self.now.pieces c.args.self.now.sound c.args.at.id c.in-Some.slot.0 c.in-Some.ensures.found.has
      (fixing) (made_fixed) (λ r l. refl) (fixed_keeps) (λ i r. refl) (λ r. refl) c.index_mut.result.now c.index_mut.ensures.value;
  stocked = edited_stocked c.args.self.now.pieces c.args.self.now.sound c.args.at.id c.in-Some.slot.0 c.in-Some.ensures.found.has c.args.self.now.stocked
      (fixing) (made_fixed) (λ r l. refl) (fixed_keeps) (λ i r. refl) (λ r. refl) (λ r. refl) (λ r. refl) (λ o x. refl) c.index_mut.result.now c.index_mut.ensures.value;
}

pub returns-in-Some-clause-state : goal.returns-in-Some-clause-state
returns-in-Some-clause-state c =
    edited_whole c.args.self.now.pieces c.args.self.now.sound c.args.at.id c.in-Some.slot.0 c.in-Some.ensures.found.has c.args.self.now.stocked
    (fixing) (made_fixed) (λ r l. refl) (fixed_keeps) (λ i r. refl) (λ r. refl) (λ r. refl) (λ r. refl) (λ o x. refl) c.index_mut.result.now c.index_mut.ensures.value
