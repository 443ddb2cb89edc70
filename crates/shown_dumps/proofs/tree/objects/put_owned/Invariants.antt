use Rattle.std.proofs.Common.{◌≡◌, ◌++◌, take}
use Rattle.shown_dumps.specs.Objects.{owned_text}
use Rattle.shown_dumps.proofs.tree.objects.put_owned.Given as goal

abbrev pub invariant-loop-place : goal.invariant-loop-place
invariant-loop-place l = l.out.items ≡ l.fn.out.items ++ owned_text l.names (take l.place l.label.pairs)
