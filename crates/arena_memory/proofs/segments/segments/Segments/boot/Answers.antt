use Rattle.std.proofs.Common.{ℕ, List, map, ap, ◌∙◌}
use Rattle.std.specs.List.{concat}
use Rattle.arena_memory.proofs.Blank.{blank_bytes}
use Rattle.arena_memory.proofs.segments.segments.Segments.boot.Goals as goal

pub returns : goal.returns
returns c = ap (λ (f : List (List (List ℕ))). map concat f) c.in_ok-frames.ensures ∙ blank_bytes c.args.slots
