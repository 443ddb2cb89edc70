use Rattle.std.proofs.Common.{◌≡◌, ◌++◌}
use Rattle.shown_dumps.specs.Objects.{indent}
use Rattle.shown_dumps.proofs.tree.objects.put_indent.Given as goal

abbrev pub invariant-loop : goal.invariant-loop
invariant-loop l = l.out.items ≡ l.fn.out.items ++ indent l.counter
