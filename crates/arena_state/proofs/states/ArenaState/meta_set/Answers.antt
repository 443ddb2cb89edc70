use Rattle.std.proofs.Common.{refl, sym, subst, ◌≡◌}
use Rattle.kernel_rules.specs.Changes.{changed, noted, padded_data}
use Rattle.kernel_rules.proofs.PlaceLaws.{noted_keeps, padded_full}
use Rattle.arena_state.specs.Sound.{IsSound}
use Rattle.arena_state.specs.Stocked.{IsStocked, whole_state}
use Rattle.arena_state.proofs.SoundLaws.{with_record}
use Rattle.arena_state.proofs.EditLaws.{edited_sound}
use Rattle.arena_state.proofs.WholeEditLaws.{edited_stocked, edited_whole}
use Rattle.arena_state.proofs.states.ArenaState.meta_set.Goals as goal

pub invariant_of-self : goal.invariant_of-self
invariant_of-self c = record {
  sound = subst (λ l. IsSound (with_record c.args.self.now.pieces c.in-Some.slot.0 (record c.index_mut.result.now { metadata = l })))
      (sym c.padded_data-data.ensures.value)
      (edited_sound c.args.self.now.pieces c.args.self.now.sound c.args.at.id c.in-Some.slot.0 c.in-Some.ensures.found.has
      (λ q. record q { metadata = padded_data c.args.given.now }) (noted c.args.given.now) (λ r l. refl)
      (noted_keeps c.args.given.now (padded_full c.args.given.now c.padded_data-data.ensures.few)) (λ i r. refl) (λ r. refl)
      c.index_mut.result.now c.index_mut.ensures.value);
  stocked = subst (λ l. IsStocked (with_record c.args.self.now.pieces c.in-Some.slot.0 (record c.index_mut.result.now { metadata = l })))
      (sym c.padded_data-data.ensures.value)
      (edited_stocked c.args.self.now.pieces c.args.self.now.sound c.args.at.id c.in-Some.slot.0 c.in-Some.ensures.found.has c.args.self.now.stocked
      (λ q. record q { metadata = padded_data c.args.given.now }) (noted c.args.given.now) (λ r l. refl)
      (noted_keeps c.args.given.now (padded_full c.args.given.now c.padded_data-data.ensures.few)) (λ i r. refl) (λ r. refl)
      (λ r. refl) (λ r. refl) (λ o x. refl) c.index_mut.result.now c.index_mut.ensures.value);
}

pub returns-in-Some-clause-state : goal.returns-in-Some-clause-state
returns-in-Some-clause-state c =
    subst (λ l. whole_state (with_record c.args.self.now.pieces c.in-Some.slot.0 (record c.index_mut.result.now { metadata = l }))
    ≡ changed (whole_state c.args.self.now.pieces) c.args.at.id (noted c.args.given.now))
    (sym c.padded_data-data.ensures.value)
    (edited_whole c.args.self.now.pieces c.args.self.now.sound c.args.at.id c.in-Some.slot.0 c.in-Some.ensures.found.has c.args.self.now.stocked
    (λ q. record q { metadata = padded_data c.args.given.now }) (noted c.args.given.now) (λ r l. refl)
    (noted_keeps c.args.given.now (padded_full c.args.given.now c.padded_data-data.ensures.few)) (λ i r. refl) (λ r. refl)
    (λ r. refl) (λ r. refl) (λ o x. refl) c.index_mut.result.now c.index_mut.ensures.value)
