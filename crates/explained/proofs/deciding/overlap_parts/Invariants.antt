use Rattle.std.proofs.Common.{◌≡◌, ◌++◌, ◌∷◌, drop}
use Rattle.explained.specs.Told.{apart_parts}
use Rattle.explained.specs.declared.parts.Part.TheVariants as is
use Rattle.explained.proofs.deciding.overlap_parts.Given as goal

abbrev pub invariant-loop-i : goal.invariant-loop-i
invariant-loop-i l =
    l.parts ++ apart_parts l.i l.mapping (drop l.i l.slots)
    ≡ is.Empty l.fn.slot l.fn.filled ∷ apart_parts 0 l.mapping l.slots
