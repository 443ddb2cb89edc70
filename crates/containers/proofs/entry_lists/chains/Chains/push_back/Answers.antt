use Rattle.std.proofs.Common.{◌<◌, ◌++◌, ◌∷◌, ℕ, List, [], length, get_or, set, refl, subst, ap, arith}
use Rattle.std.specs.Vec.{with_items}
use Rattle.containers.specs.Lists.{Lists, StandsAt, list_at}
use Rattle.containers.specs.Chain.{IsLaidOut}
use Rattle.containers.proofs.ListViews.{laid_out, view_of}
use Rattle.containers.proofs.Changes.{last_in, well_formed, well_formed_as}
use Rattle.containers.proofs.Slices.{laid_first, laid_in, read, read_is, read_laid, stands_there}
use Rattle.containers.proofs.entry_lists.chains.Chains.push_back.Goals as goal

-- the lists after it lie in the vectors
after : (c : goal.After-self-4-1)
    → IsLaidOut c.self.inside.cells (with_items c.self.inside.next c.put_last.new.next).items (with_items c.self.inside.prev c.put_last.new.prev).items (with_items c.self.inside.heads c.put_last.new.heads).items (with_items c.self.inside.lens c.put_last.new.lens).items (set c.args.self.now.lists c.args.head (list_at c.args.self.now c.args.head ++ c.args.cell ∷ []))
after c =
    let was = laid_first c.self.inside.cells c.self.inside.next c.self.inside.prev c.self.inside.heads c.self.inside.lens _ _ _ _ c.args.self.now
    c.deref_mut.ensures.value c.deref_mut-2.ensures.value c.deref_mut-3.ensures.value c.deref_mut-4.ensures.value
    c.self.invariant c.self.view_is in
    let lay = subst (λ (ls : List (List ℕ)). IsLaidOut c.self.inside.cells c.put_last.new.next c.put_last.new.prev c.put_last.new.heads c.put_last.new.lens (set ls c.args.head (get_or ls c.args.head [] ++ c.args.cell ∷ [])))
    (read_is _ _ _ _ _ _ was) c.put_last.ensures in
    laid_in c.self.inside.cells c.self.inside.next c.self.inside.prev c.self.inside.heads c.self.inside.lens _ _ _ _ _
    (omega (arith, c.put_last.auto.next, c.deref_mut.ensures.len)) (omega (arith, c.put_last.auto.prev, c.deref_mut-2.ensures.len))
    (omega (arith, c.put_last.auto.heads, c.deref_mut-3.ensures.len)) (omega (arith, c.put_last.auto.lens, c.deref_mut-4.ensures.len)) lay

pub put_last-requires : goal.put_last-requires
put_last-requires c =
    let was = laid_first c.self.inside.cells c.self.inside.next c.self.inside.prev c.self.inside.heads c.self.inside.lens _ _ _ _ c.args.self.now
    c.deref_mut.ensures.value c.deref_mut-2.ensures.value c.deref_mut-3.ensures.value c.deref_mut-4.ensures.value
    c.self.invariant c.self.view_is in
    let laid = read_laid _ _ _ _ _ _ was in
    let head : c.args.head < length (read _ _ _ _ _ _ was) = omega (arith, c.requires.head, ap length (read_is _ _ _ _ _ _ was)) in
    let below : c.args.cell < c.self.inside.cells = omega (arith, c.requires.cell, ap (λ (r : Lists). r.cells) c.self.view_is) in
    let free = λ (other place : ℕ) (s : StandsAt (get_or (read _ _ _ _ _ _ was) other []) place c.args.cell).
    c.requires.free (other, place, stands_there _ _ _ _ _ _ was other place c.args.cell s) in
    (laid, (head, (below, (free, last_in _ _ _ _ _ _ laid c.args.head c.args.cell _ _ refl refl head below free))))

pub invariant_of-self : goal.invariant_of-self
invariant_of-self c = record { lists = _; lay = after c }

pub returns-clause-appended : goal.returns-clause-appended
returns-clause-appended c =
    view_of _ _ _ _ _ _ c.args.self.now (after c) (ap (λ (r : Lists). r.cells) c.self.view_is)

pub returns-clause-was_well_formed : goal.returns-clause-was_well_formed
returns-clause-was_well_formed c =
    well_formed _ _ _ _ _ _ (laid_out _ _ _ _ _ _ c.self.invariant c.self.view_is) (ap (λ (r : Lists). r.cells) c.self.view_is)

pub returns-clause-well_formed : goal.returns-clause-well_formed
returns-clause-well_formed c = well_formed_as _ _ _ _ _ _ (after c)
