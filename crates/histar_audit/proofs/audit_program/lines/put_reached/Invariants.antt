use Rattle.std.proofs.Common.{◌≡◌, ◌++◌, drop}
use Rattle.std.specs.List.{flat_map}
use Rattle.histar_audit.specs.Told.{reached_line}
use Rattle.histar_audit.proofs.audit_program.lines.put_reached.Given as goal

abbrev pub invariant-loop-id : goal.invariant-loop-id
invariant-loop-id l =
    l.text.items ++ flat_map (reached_line l.names) (drop l.id-index l.reached)
    ≡ l.fn.text.items ++ flat_map (reached_line l.names) l.reached
