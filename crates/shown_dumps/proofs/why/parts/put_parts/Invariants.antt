use Rattle.std.proofs.Common.{◌≡◌, ◌++◌, drop}
use Rattle.std.specs.List.{flat_map}
use Rattle.shown_dumps.specs.Parts.{part_text}
use Rattle.shown_dumps.proofs.why.parts.put_parts.Given as goal

abbrev pub invariant-loop-part : goal.invariant-loop-part
invariant-loop-part l =
    l.out.items ++ flat_map (part_text l.names) (drop l.part-index l.parts) ≡ l.fn.out.items ++ flat_map (part_text l.names) l.parts
