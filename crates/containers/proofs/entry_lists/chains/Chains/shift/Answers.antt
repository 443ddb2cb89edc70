use Rattle.std.proofs.Common.{◌<◌, ℕ, List, length, subst, ap, arith}
use Rattle.std.specs.Vec.{with_items}
use Rattle.containers.specs.Lists.{Lists, StandsAt, list_at, shifted}
use Rattle.containers.specs.Chain.{IsLaidOut}
use Rattle.containers.proofs.ListViews.{laid_out, view_of}
use Rattle.containers.proofs.Changes.{well_formed, well_formed_as}
use Rattle.containers.proofs.Slices.{laid_first, laid_in, read, read_is, read_laid, stands_read}
use Rattle.containers.proofs.entry_lists.chains.Chains.shift.Goals as goal

-- the lists after it lie in the vectors
after : (c : goal.After-self-4-1) (head place : ℕ) → StandsAt (list_at c.args.self.now head) place c.args.cell
    → IsLaidOut c.self.inside.cells (with_items c.self.inside.next c.shift.new.next).items (with_items c.self.inside.prev c.shift.new.prev).items (with_items c.self.inside.heads c.shift.new.heads).items (with_items c.self.inside.lens c.shift.new.lens).items (shifted c.args.self.now.lists head place c.args.to c.args.cell)
after c head place at =
    let was = laid_first c.self.inside.cells c.self.inside.next c.self.inside.prev c.self.inside.heads c.self.inside.lens _ _ _ _ c.args.self.now
    c.deref_mut.ensures.value c.deref_mut-2.ensures.value c.deref_mut-3.ensures.value c.deref_mut-4.ensures.value
    c.self.invariant c.self.view_is in
    let lay = subst (λ (ls : List (List ℕ)). IsLaidOut c.self.inside.cells c.shift.new.next c.shift.new.prev c.shift.new.heads c.shift.new.lens (shifted ls head place c.args.to c.args.cell))
    (read_is _ _ _ _ _ _ was) (c.shift.ensures head place (stands_read _ _ _ _ _ _ was head place c.args.cell at)) in
    laid_in c.self.inside.cells c.self.inside.next c.self.inside.prev c.self.inside.heads c.self.inside.lens _ _ _ _ _
    (omega (arith, c.shift.auto.next, c.deref_mut.ensures.len)) (omega (arith, c.shift.auto.prev, c.deref_mut-2.ensures.len))
    (omega (arith, c.shift.auto.heads, c.deref_mut-3.ensures.len)) (omega (arith, c.shift.auto.lens, c.deref_mut-4.ensures.len)) lay

pub shift-requires : goal.shift-requires
shift-requires c =
    let was = laid_first c.self.inside.cells c.self.inside.next c.self.inside.prev c.self.inside.heads c.self.inside.lens _ _ _ _ c.args.self.now
    c.deref_mut.ensures.value c.deref_mut-2.ensures.value c.deref_mut-3.ensures.value c.deref_mut-4.ensures.value
    c.self.invariant c.self.view_is in
    let at = c.requires.linked in
    let to : c.args.to < length (read _ _ _ _ _ _ was) = omega (arith, c.requires.to, ap length (read_is _ _ _ _ _ _ was)) in
    (read_laid _ _ _ _ _ _ was, (to, (at.0, at.1, stands_read _ _ _ _ _ _ was at.0 at.1 c.args.cell at.2)))

pub invariant_of-self : goal.invariant_of-self
invariant_of-self c =
    let at = c.requires.linked in
    record { lists = _; lay = after c at.0 at.1 at.2 }

pub returns-clause-shifted : goal.returns-clause-shifted
returns-clause-shifted c = λ head place at.
    view_of _ _ _ _ _ _ c.args.self.now (after c head place at) (ap (λ (r : Lists). r.cells) c.self.view_is)

pub returns-clause-was_well_formed : goal.returns-clause-was_well_formed
returns-clause-was_well_formed c =
    well_formed _ _ _ _ _ _ (laid_out _ _ _ _ _ _ c.self.invariant c.self.view_is) (ap (λ (r : Lists). r.cells) c.self.view_is)

pub returns-clause-well_formed : goal.returns-clause-well_formed
returns-clause-well_formed c =
    let at = c.requires.linked in
    well_formed_as _ _ _ _ _ _ (after c at.0 at.1 at.2)
