use Rattle.std.proofs.Common.{◌≡◌, ℕ, ◌-◌, [], get_or, set, refl, sym, subst, ap, arith}
use Rattle.std.specs.Prelude.{remove}
use Rattle.containers.specs.Chain.{IsLaidOut}
use Rattle.containers.proofs.ListViews.{head_is, head_below, len_is}
use Rattle.containers.proofs.Changes.{unlinked_laid_out}
use Rattle.containers.proofs.entry_lists.chains.take_out.Goals as goal

pub overflow_sub-lens : goal.overflow_sub-lens
overflow_sub-lens g c =
    let at = c.requires.1.0 in
    let owner = head_is _ _ _ _ _ _ c.requires.0 at.0 at.1 c.args.cell at.2 in
    let long = len_is _ _ _ _ _ _ c.requires.0 at.0 (head_below g.lists at.0 at.1 c.args.cell at.2) in
    omega (arith, ap (λ (h : ℕ). get_or c.args.lens.now h 0) owner, long, at.2.within)

pub returns : goal.returns
returns g c = λ head place at.
    let owner : head ≡ get_or c.args.heads.now c.args.cell 0 = sym (head_is _ _ _ _ _ _ c.requires.0 head place c.args.cell at) in
    let lay = unlinked_laid_out _ _ _ _ _ _ c.requires.0 head place c.args.cell _ _ _ refl refl refl at in
    subst (λ (h : ℕ). IsLaidOut c.args.cells
    (set c.args.next.now (get_or c.args.prev.now c.args.cell 0) (get_or c.args.next.now c.args.cell 0))
    (set c.args.prev.now (get_or c.args.next.now c.args.cell 0) (get_or c.args.prev.now c.args.cell 0))
    c.args.heads.now (set c.args.lens.now h (get_or c.args.lens.now h 0 - 1))
    (set g.lists head (remove (get_or g.lists head []) place))) owner lay
