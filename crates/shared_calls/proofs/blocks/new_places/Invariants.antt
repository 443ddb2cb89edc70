use Rattle.std.proofs.Common.{◌≤◌, ◌-◌, vec_capacity}
use Rattle.boxcar.specs.Table.{Tagged}
use Rattle.shared_calls.specs.Names.{name_of}
use Rattle.shared_calls.proofs.blocks.new_places.Given as goal

abbrev pub invariant-loop-number : goal.invariant-loop-number
invariant-loop-number l =
    (l.number ≤ 256) × (256 ≤ vec_capacity l.places) × Tagged (name_of l.seen.book) l.from l.number l.places.items

abbrev pub decreases-loop-number : goal.decreases-loop-number
decreases-loop-number l = 256 - l.number
