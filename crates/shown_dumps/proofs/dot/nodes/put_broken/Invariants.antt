use Rattle.std.proofs.Common.{◌≡◌, ◌++◌, drop}
use Rattle.shown_dumps.specs.Nodes.{broken}
use Rattle.shown_dumps.proofs.dot.nodes.put_broken.Given as goal

abbrev pub invariant-loop-byte : goal.invariant-loop-byte
invariant-loop-byte l = l.out.items ++ broken l.last (drop l.byte-index l.text) ≡ l.fn.out.items ++ broken 0 l.text
