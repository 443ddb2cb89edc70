use Rattle.std.proofs.Common.{ℕ, List, [], get_or, set, refl, sym, subst, ap, arith}
use Rattle.std.specs.Prelude.{remove}
use Rattle.std.specs.Vec.{with_items}
use Rattle.std.proofs.lemmas.List.{with_items_is}
use Rattle.containers.specs.Lists.{Lists, StandsAt, list_at}
use Rattle.containers.specs.Chain.{IsLaidOut}
use Rattle.containers.proofs.ListViews.{laid_out, view_of}
use Rattle.containers.proofs.Changes.{not_after_remove, well_formed, well_formed_as, before_in, after_in}
use Rattle.containers.proofs.Slices.{laid_first, laid_as, read_is, read_laid, stands_read}
use Rattle.containers.proofs.entry_lists.chains.Chains.unlink.Goals as goal

-- the lists after it lie in the vectors
after : (c : goal.After-self-3-1) (head place : ℕ) → StandsAt (list_at c.args.self.now head) place c.args.cell
    → IsLaidOut c.self.inside.cells (with_items c.self.inside.next c.take_out.new.next).items (with_items c.self.inside.prev c.take_out.new.prev).items c.self.inside.heads.items (with_items c.self.inside.lens c.take_out.new.lens).items (set c.args.self.now.lists head (remove (list_at c.args.self.now head) place))
after c head place at =
    let was = laid_first c.self.inside.cells c.self.inside.next c.self.inside.prev c.self.inside.heads c.self.inside.lens _ _ _ _ c.args.self.now
    c.deref_mut.ensures.value c.deref_mut-2.ensures.value c.deref.ensures.value c.deref_mut-3.ensures.value
    c.self.invariant c.self.view_is in
    let lay = subst (λ (ls : List (List ℕ)). IsLaidOut c.self.inside.cells c.take_out.new.next c.take_out.new.prev c.deref.result.now c.take_out.new.lens (set ls head (remove (get_or ls head []) place)))
    (read_is _ _ _ _ _ _ was) (c.take_out.ensures head place (stands_read _ _ _ _ _ _ was head place c.args.cell at)) in
    laid_as c.self.inside.cells _ _ _ _ _ _ _ _ _
    (sym (with_items_is c.self.inside.next c.take_out.new.next (omega (arith, c.take_out.auto.next, c.deref_mut.ensures.len))))
    (sym (with_items_is c.self.inside.prev c.take_out.new.prev (omega (arith, c.take_out.auto.prev, c.deref_mut-2.ensures.len))))
    c.deref.ensures.value
    (sym (with_items_is c.self.inside.lens c.take_out.new.lens (omega (arith, c.take_out.auto.lens, c.deref_mut-3.ensures.len)))) lay

pub take_out-requires : goal.take_out-requires
take_out-requires c =
    let was = laid_first c.self.inside.cells c.self.inside.next c.self.inside.prev c.self.inside.heads c.self.inside.lens _ _ _ _ c.args.self.now
    c.deref_mut.ensures.value c.deref_mut-2.ensures.value c.deref.ensures.value c.deref_mut-3.ensures.value
    c.self.invariant c.self.view_is in
    let laid = read_laid _ _ _ _ _ _ was in
    let at = c.requires in
    let there = stands_read _ _ _ _ _ _ was at.0 at.1 c.args.cell at.2 in (
      laid,
      (
        (at.0, at.1, there),
        (
          before_in _ _ _ _ _ _ laid at.0 at.1 c.args.cell _ _ _ refl refl refl there,
          after_in _ _ _ _ _ _ laid at.0 at.1 c.args.cell _ _ _ refl refl refl there,
        ),
      ),
    )

pub invariant_of-self : goal.invariant_of-self
invariant_of-self c = record { lists = _; lay = after c c.requires.0 c.requires.1 c.requires.2 }

pub returns-clause-removed : goal.returns-clause-removed
returns-clause-removed c = λ head place at.
    view_of _ _ _ _ _ _ c.args.self.now (after c head place at) (ap (λ (r : Lists). r.cells) c.self.view_is)

pub returns-clause-free : goal.returns-clause-free
returns-clause-free c =
    let at = c.requires in
    let are = ap (λ (r : Lists). r.lists) (view_of _ _ _ _ _ _ c.args.self.now (after c at.0 at.1 at.2) (ap (λ (r : Lists). r.cells) c.self.view_is)) in
    λ linked. not_after_remove _ _ _ _ _ _ (laid_out _ _ _ _ _ _ c.self.invariant c.self.view_is) at.0 at.1 c.args.cell at.2 linked.0 linked.1
    (subst (λ (ls : List (List ℕ)). StandsAt (get_or ls linked.0 []) linked.1 c.args.cell) are linked.2)

pub returns-clause-was_well_formed : goal.returns-clause-was_well_formed
returns-clause-was_well_formed c =
    well_formed _ _ _ _ _ _ (laid_out _ _ _ _ _ _ c.self.invariant c.self.view_is) (ap (λ (r : Lists). r.cells) c.self.view_is)

pub returns-clause-well_formed : goal.returns-clause-well_formed
returns-clause-well_formed c = well_formed_as _ _ _ _ _ _ (after c c.requires.0 c.requires.1 c.requires.2)
