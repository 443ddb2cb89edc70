use Rattle.std.proofs.Common.{ap, sym, subst, List, ℕ}
use Rattle.containers.specs.Tree.{Tree}
use Rattle.containers_twin.specs.Layers.{IsLayered}
use Rattle.containers_twin.proofs.Layers.{layered_link}
use Rattle.containers_twin.proofs.guarded.GuardedHierarchy.link.Goals as goal

pub invariant_of-self-2-clause-layered : goal.invariant_of-self-2-clause-layered
invariant_of-self-2-clause-layered c =
    let may = c.may_list.ensures c.if-not-may_list.false in
    subst (λ (ls : List (ℕ × List ℕ)). IsLayered ls) (sym (ap (λ (t : Tree ℕ). t.lists) c.link.ensures.linked))
    (layered_link c.args.self.now.tree.lists c.args.container c.args.object c.args.self.now.layered may.0 may.1)
