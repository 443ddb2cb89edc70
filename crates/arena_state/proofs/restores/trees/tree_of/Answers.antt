use Rattle.std.proofs.Common.{◌≡◌, ◌≢◌, ℕ, true, List, subst, sym, arith}
use Rattle.base.specs.Live.{has, links}
use Rattle.containers.specs.Tree.{ids_in}
use Rattle.plain_state.specs.Recorded.{records_state}
use Rattle.arena_state.proofs.HoldLaws.{rise, bounds, many, few, root_first, all_listed}
use Rattle.arena_state.proofs.restores.trees.tree_of.Goals as goal

pub lay_objects-requires-clause-rise : goal.lay_objects-requires-clause-rise
lay_objects-requires-clause-rise c = rise (records_state c.args.records.now) c.requires

pub lay_objects-requires-clause-some : goal.lay_objects-requires-clause-some
lay_objects-requires-clause-some c = let b = many (records_state c.args.records.now) c.requires in omega (arith, b)

pub lay_objects-requires-clause-fits : goal.lay_objects-requires-clause-fits
lay_objects-requires-clause-fits c = let b = few (records_state c.args.records.now) c.requires in omega (arith, b)

pub lay_objects-requires-clause-root : goal.lay_objects-requires-clause-root
lay_objects-requires-clause-root c = root_first (records_state c.args.records.now) c.requires

pub lay_objects-requires-clause-few : goal.lay_objects-requires-clause-few
lay_objects-requires-clause-few c = (bounds (records_state c.args.records.now) c.requires).0

pub finish-requires : goal.finish-requires
finish-requires c =
    subst (λ (t : List (ℕ × List ℕ)). (i : ℕ) → has (ids_in t) i ≡ true → i ≢ 1 → (a : ℕ) × (links t a i ≡ true))
    (sym c.link_objects.ensures.lists) (all_listed (records_state c.args.records.now) c.requires)
