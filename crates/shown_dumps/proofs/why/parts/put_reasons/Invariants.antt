use Rattle.std.proofs.Common.{◌≡◌, ◌++◌, drop}
use Rattle.std.specs.List.{flat_map}
use Rattle.shown_dumps.specs.Parts.{reason_text}
use Rattle.shown_dumps.proofs.why.parts.put_reasons.Given as goal

abbrev pub invariant-loop-part : goal.invariant-loop-part
invariant-loop-part l =
    l.out.items ++ flat_map (reason_text l.names l.finding.refusal) (drop l.part-index l.finding.parts)
    ≡ l.fn.out.items ++ flat_map (reason_text l.names l.finding.refusal) l.finding.parts
