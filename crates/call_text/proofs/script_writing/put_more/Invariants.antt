use Rattle.std.proofs.Common.{◌≡◌, ◌++◌, ◌∷◌, map, take}
use Rattle.std.specs.List.{flat_map}
use Rattle.call_text.specs.Line.{Break, written_text}
use Rattle.call_text.specs.Text.{lines_text}
use Rattle.call_text.specs.Script.{said_of}
use Rattle.call_text.proofs.script_writing.put_more.Given as goal

abbrev pub invariant-loop-phase : goal.invariant-loop-phase
invariant-loop-phase l = l.out.items ≡ l.fn.out.items ++ lines_text written_text (flat_map (λ p. Break ∷ map said_of p) (take l.phase-index l.phases))
