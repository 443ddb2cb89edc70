-- The order in which labels are listed.
use Rattle.std.specs.declared.cmp.Ordering.{Ordering}
use Rattle.std.specs.Ordering.{nat_cmp, ordering_then}
use Rattle.std.specs.Cmp.Lexicographic.{slice_cmp}
use Rattle.base.specs.Level.{rank_of}
use Rattle.label_lattice.specs.Label.{LabelValue}
use Rattle.label_lattice.specs.declared.pairings.Pair.{Pair}

-- pairs: by their categories, and then by their levels
abbrev pub pair_cmp : Pair → Pair → Ordering
pair_cmp p q =
    ordering_then (nat_cmp p.category.0 q.category.0) (nat_cmp (rank_of p.level) (rank_of q.level))

-- labels: by their defaults, and then by their lists of exceptions, place by place, a list before
-- those that it begins
abbrev pub label_cmp : LabelValue → LabelValue → Ordering
label_cmp a b =
    ordering_then (nat_cmp (rank_of a.default_level) (rank_of b.default_level))
    (slice_cmp pair_cmp a.exceptions b.exceptions)
