use Rattle.std.proofs.Common.{Some, refl, sym, subst, arith, length-set}
use Rattle.std.specs.Prelude.{IsSome}
use Rattle.containers.specs.Objects.{Objects, object_at}
use Rattle.containers.proofs.HintSteps.{count_as}
use Rattle.containers.proofs.Kept.{kept_put}
use Rattle.containers.proofs.object_arena.arena.Arena.get_mut.Goals as goal

pub invariant_of-self-lent : goal.invariant_of-self-lent
invariant_of-self-lent g c = λ w.
    let kept = c.self.invariant.0 in
    let rooms = c.self.invariant in
    let long = length-set c.self.inside.cells.items c.args.slot.0 (Some w) in
    let some = subst (λ (a : Objects g.row.T.Denot). IsSome (object_at a c.args.slot.0)) (sym c.self.view_is) c.requires in
    (kept_put _ _ _ _ c.args.slot.0 w kept some, omega (arith, long, rooms.1), omega (arith, long, rooms.2), omega (arith, long, rooms.3), rooms.4, count_as _ _ _ _ rooms.5 refl long)
