use Rattle.std.proofs.Common.{◌≡◌, take, map}
use Rattle.containers.specs.Lists.{empty_lists}
use Rattle.containers.proofs.entry_lists.rings.Rings.new.Given as goal

abbrev pub invariant-loop-count : goal.invariant-loop-count
invariant-loop-count g l = l.families.items ≡ map (empty_lists l.cells) (take l.count-index l.heads)
