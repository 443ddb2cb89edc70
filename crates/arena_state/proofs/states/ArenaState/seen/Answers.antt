use Rattle.std.proofs.Common.{◌≡◌, false, Option, None, Bor, sym, subst, ◌∙◌, ap, IfSome, IfNone}
use Rattle.kernel_rules.specs.State.{object_at, of_object}
use Rattle.label_lattice.specs.LabelRules.{both, visible, below}
use Rattle.arena_state.specs.declared.records.Record.{Record}
use Rattle.arena_state.specs.States.{state_of, Shows}
use Rattle.arena_state.proofs.SightLaws.{found_some, found_none, labelled, label_is, kind_some, kind_none, immutable_some, fixed_some}
use Rattle.arena_state.proofs.SightLaws.{pages_some, pages_none}
use Rattle.arena_state.proofs.states.ArenaState.seen.Goals as goal

pub observed-visible-requires-clause-own : goal.observed-visible-requires-clause-own
observed-visible-requires-clause-own c = labelled c.args.self.now c.args.caller.id _ c.record-own.ensures

pub observed-visible-requires-clause-other : goal.observed-visible-requires-clause-other
observed-visible-requires-clause-other c = labelled c.args.self.now c.args.at.id _ c.record-other.ensures

pub flowing-below-requires-clause-own : goal.flowing-below-requires-clause-own
flowing-below-requires-clause-own c = labelled c.args.self.now c.args.caller.id _ c.record-own.ensures

pub flowing-below-requires-clause-other : goal.flowing-below-requires-clause-other
flowing-below-requires-clause-other c = labelled c.args.self.now c.args.at.id _ c.record-other.ensures

pub returns-in-Some : goal.returns-in-Some
returns-in-Some c =
    let a = c.args.self.now in
    let own = label_is a c.args.caller.id _ c.record-own.ensures in
    let other = label_is a c.args.at.id _ c.record-other.ensures in
    let shows : Shows a c.args.at.id c.in-Some.row.now
    = subst (λ (o : Option (Bor Record)). IfSome o (λ x. Shows a c.args.at.id x.now)) c.in-Some.is
    (found_some a c.args.at.id c.record-other.result c.record-other.ensures) in
    (λ i. record {
      kind = kind_some a c.args.at.id c.in-Some.row.now shows c.kind.result c.kind.ensures i;
      observed = (c.observed-visible.ensures ∙ (λ j. both visible (other j) (own j))) i;
      flowing = (c.flowing-below.ensures ∙ (λ j. both below (own j) (other j))) i;
      immutable = immutable_some a c.args.at.id c.in-Some.row.now shows i;
      fixed = fixed_some a c.args.at.id c.in-Some.row.now shows i;
      pages = (c.pages.ensures ∙ pages_some a c.args.at.id c.in-Some.row.now shows) i;
    })

pub returns-in-None : goal.returns-in-None
returns-in-None c =
    let a = c.args.self.now in
    let own = label_is a c.args.caller.id _ c.record-own.ensures in
    let other = label_is a c.args.at.id _ c.record-other.ensures in
    let none : object_at (state_of a) c.args.at.id ≡ None
    = subst (λ (o : Option (Bor Record)). IfNone o (object_at (state_of a) c.args.at.id ≡ None)) c.in-None.is
    (found_none a c.args.at.id c.record-other.result c.record-other.ensures) in
    (λ i. record {
      kind = kind_none a c.args.at.id none i;
      observed = (c.observed-visible.ensures ∙ (λ j. both visible (other j) (own j))) i;
      flowing = (c.flowing-below.ensures ∙ (λ j. both below (own j) (other j))) i;
      immutable = sym (ap (of_object false (λ y. y.immutable)) none) i;
      fixed = sym (ap (of_object false (λ y. y.fixed)) none) i;
      pages = pages_none a c.args.at.id none i;
    })
