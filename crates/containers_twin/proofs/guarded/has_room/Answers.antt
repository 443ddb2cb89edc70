use Rattle.std.proofs.Common.{◌<◌, length, arith}
use Rattle.containers_twin.proofs.Rooms.{links_at}
use Rattle.containers.specs.Tree.{ids_in}
use Rattle.containers_twin.proofs.guarded.has_room.Goals as goal

pub loop-place-preserved : goal.loop-place-preserved
loop-place-preserved c =
    let lists = c.args.tree.now.lists in
    let within : c.loop-place.place < length (ids_in lists) = omega (arith, c.loop-place.invariant.all, c.loop-place-test.true) in
    let more = links_at lists c.loop-place.place c.live-id.result c.len-len.ensures.well_formed.rises within c.live-id.ensures.value in
    record { counted = omega (arith, more, c.entry_count-count.ensures.count, c.loop-place.invariant.counted); all = c.loop-place.invariant.all }
