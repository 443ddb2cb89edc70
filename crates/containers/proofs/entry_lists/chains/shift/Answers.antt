use Rattle.std.proofs.Common.{◌≡◌, ◌<◌, ◌++◌, ◌∷◌, ℕ, List, [], length, get_or, set, refl, sym, subst, ap, arith, length-set}
use Rattle.std.specs.Prelude.{remove}
use Rattle.containers.specs.Lists.{StandsAt}
use Rattle.containers.specs.Chain.{IsLaidOut, lists_from}
use Rattle.containers.proofs.ListViews.{lists_are, cell_below}
use Rattle.containers.proofs.Changes.{before_in, after_in, last_in, not_after_remove}
use Rattle.containers.proofs.entry_lists.chains.shift.Goals as goal

pub take_out-requires : goal.take_out-requires
take_out-requires g c =
    let laid = c.requires.0 in
    let at = c.requires.1.1 in (
      laid,
      (
        at,
        (
          before_in _ _ _ _ _ _ laid at.0 at.1 c.args.put.cell _ _ _ refl refl refl at.2,
          after_in _ _ _ _ _ _ laid at.0 at.1 c.args.put.cell _ _ _ refl refl refl at.2,
        ),
      ),
    )

pub put_last-requires : goal.put_last-requires
put_last-requires g c =
    let at = c.requires.1.1 in
    let out = set g.lists at.0 (remove (get_or g.lists at.0 []) at.1) in
    let left = c.take_out.ensures at.0 at.1 at.2 in
    let lists = lists_from c.take_out.new.next c.args.cells c.take_out.new.lens in
    let same : lists ≡ out = lists_are _ _ _ _ _ _ left in
    let laid = subst (λ (ls : List (List ℕ)). IsLaidOut c.args.cells c.take_out.new.next c.take_out.new.prev c.args.heads.now c.take_out.new.lens ls) (sym same) left in
    let to : c.args.put.head < length lists = omega (arith, ap length same, length-set g.lists at.0 (remove (get_or g.lists at.0 []) at.1), c.requires.1.0) in
    let below = cell_below _ _ _ _ _ _ c.requires.0 at.0 at.1 c.args.put.cell at.2 in
    let free = λ (other place : ℕ) (s : StandsAt (get_or lists other []) place c.args.put.cell).
    not_after_remove _ _ _ _ _ _ c.requires.0 at.0 at.1 c.args.put.cell at.2 other place
    (subst (λ (ls : List (List ℕ)). StandsAt (get_or ls other []) place c.args.put.cell) same s) in
    (laid, (to, (below, (free, last_in _ _ _ _ _ _ laid c.args.put.head c.args.put.cell _ _ refl refl to below free))))

pub returns : goal.returns
returns g c = λ head place at.
    let out = set g.lists head (remove (get_or g.lists head []) place) in
    let same = lists_are _ _ _ _ _ _ (c.take_out.ensures head place at) in
    subst (λ (ls : List (List ℕ)). IsLaidOut c.args.cells c.put_last.new.next c.put_last.new.prev c.put_last.new.heads c.put_last.new.lens (set ls c.args.put.head (get_or ls c.args.put.head [] ++ c.args.put.cell ∷ []))) same c.put_last.ensures
