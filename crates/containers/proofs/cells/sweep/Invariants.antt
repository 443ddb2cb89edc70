use Rattle.std.proofs.Common.{◌≡◌, ◌≤◌, ℕ, List, length, vec_capacity}
use Rattle.containers.specs.Lists.{cells_at}
use Rattle.containers.specs.Sweep.{IsSweeping}
use Rattle.containers.specs.Visits.{IsTold, named, named_one, object_ids}
use Rattle.containers.proofs.Measures.{work}
use Rattle.containers.proofs.cells.sweep.Given as goal

abbrev pub invariant-loop-last : goal.invariant-loop-last
invariant-loop-last g l = (links : List (ℕ × ℕ)) × (objects : List ℕ) × IsSweeping l.pool.size l.pool.root l.initial.rings l.rings links objects
    × IsTold g.V.Visitor.link_gives g.V.Visitor.object_gives l.initial.visitor l.visitor (named l.pool.names.now links) (named_one l.pool.names.now objects)
    × (l.meter.scans ≡ l.initial.meter.scans)
    × (l.dead.items ≡ object_ids (named_one l.pool.names.now objects))
    × (vec_capacity l.dead ≡ vec_capacity l.initial.dead)
    × (length l.dead.items ≤ length (cells_at l.rings 0 l.pool.size))

abbrev pub decreases-loop-last : goal.decreases-loop-last
decreases-loop-last g l = work l.pool.size l.rings
