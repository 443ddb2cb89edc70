use Rattle.std.proofs.Common.{◌≡◌, ◌++◌, drop}
use Rattle.std.specs.List.{flat_map}
use Rattle.histar_audit.specs.Lines.{difference_line}
use Rattle.histar_audit.proofs.audit_program.differences.put_differences.Given as goal

abbrev pub invariant-loop-difference : goal.invariant-loop-difference
invariant-loop-difference l =
    l.text.items ++ flat_map (difference_line l.names) (drop l.difference-index l.told)
    ≡ l.fn.text.items ++ flat_map (difference_line l.names) l.told
