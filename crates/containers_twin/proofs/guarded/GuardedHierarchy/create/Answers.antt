use Rattle.std.proofs.Common.{◌≡◌, ◌%◌, ◌∙◌, sym, subst, List, ℕ}
use Rattle.containers_twin.specs.Layers.{IsLayered}
use Rattle.containers_twin.proofs.Layers.{layered_create}
use Rattle.containers.specs.Tree.{ids_in}
use Rattle.containers_twin.proofs.Rooms.{above_there}
use Rattle.containers_twin.proofs.guarded.GuardedHierarchy.create.Goals as goal

pub invariant_of-self-2-clause-layered : goal.invariant_of-self-2-clause-layered
invariant_of-self-2-clause-layered c =
    let lists = c.args.self.now.tree.lists in
    let odd : c.args.container % 2 ≡ 1 = c.is_container.ensures.0 c.if-not-is_container.false in
    let there = sym c.is_there.ensures ∙ c.if-not-is_there.false in
    let above = above_there (ids_in lists) c.args.container c.args.id there (c.is_above.ensures c.if-not-is_above.false) in
    subst (λ (ls : List (ℕ × List ℕ)). IsLayered ls) (sym c.create-slot.ensures.lists)
    (layered_create lists c.args.container c.args.id c.args.self.now.layered odd above)
