use Rattle.std.proofs.Common.{◌≡◌, ◌++◌, drop}
use Rattle.std.specs.List.{flat_map}
use Rattle.shown_dumps.specs.Parts.{condition_text}
use Rattle.shown_dumps.proofs.why.parts.put_findings.Given as goal

abbrev pub invariant-loop-finding : goal.invariant-loop-finding
invariant-loop-finding l =
    l.out.items ++ flat_map (condition_text l.names l.is_whole) (drop l.finding-index l.found)
    ≡ l.fn.out.items ++ flat_map (condition_text l.names l.is_whole) l.found
