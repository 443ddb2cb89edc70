-- A row of conditions that is put together of parts.
use Rattle.std.specs.Prelude.{List, [], ◌∷◌, ◌++◌}
use Rattle.kernel_rules.specs.Rows.{Row}

-- the parts, one after the other
abbrev pub joined : List Row → Row
joined [] = []
joined (part ∷ parts) = part ++ joined parts
