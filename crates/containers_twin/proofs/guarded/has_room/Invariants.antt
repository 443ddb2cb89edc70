use Rattle.std.proofs.Common.{◌≡◌, ◌+◌, length}
use Rattle.containers.specs.Tree.{ids_in}
use Rattle.containers_twin.proofs.Rooms.{links_before}
use Rattle.containers_twin.proofs.guarded.has_room.Given as goal

abbrev pub invariant-loop-place : goal.invariant-loop-place
invariant-loop-place l = record {
  counted : links_before l.tree.lists l.place + l.left ≡ l.pool;
  all : l.len ≡ length (ids_in l.tree.lists);
}
