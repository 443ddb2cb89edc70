use Rattle.std.proofs.Common.{sym, subst}
use Rattle.containers_twin.specs.Layers.{IsLayered}
use Rattle.containers_twin.proofs.Layers.{layered_unref}
use Rattle.containers_twin.proofs.guarded.GuardedHierarchy.unref.Goals as goal

pub invariant_of-self-2-clause-layered : goal.invariant_of-self-2-clause-layered
invariant_of-self-2-clause-layered g c =
    subst (λ (ls : _). IsLayered ls) (sym c.unref.ensures.lists) (layered_unref c.args.self.now.tree.lists c.args.container c.args.object c.args.self.now.layered)
