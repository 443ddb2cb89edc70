-- The two sides of a comparison of labels: on either side a rank at each category, and the left
-- side is to be at most the right one everywhere.
use Rattle.std.specs.Prelude.{ℕ, Bool, true, false, max, List, map}
use Rattle.label_lattice.specs.Label.{LabelValue}
use Rattle.label_lattice.specs.Order.{Levels, levels, leq_test, up, join, gate_floor}
use Rattle.label_lattice.specs.Rule.{up_rank, down_rank}
use Rattle.explained.specs.declared.relations.Relation.{Relation}
use Rattle.explained.specs.declared.relations.Relation.TheVariants.{Below, Visible, Shown}
use Rattle.explained.specs.declared.relations.Relation.TheVariants.{BelowJoin, BelowJoinUp, AboveFloor}

-- what is to be at most the other side
abbrev pub left : Relation → LabelValue → LabelValue → LabelValue → Levels
left Below a b c = levels a
left Visible a b c = levels a
left Shown a b c = up (levels a)
left BelowJoin a b c = levels a
left BelowJoinUp a b c = levels a
left AboveFloor a b c = gate_floor (levels a) (levels b)

-- what it is to be at most
abbrev pub right : Relation → LabelValue → LabelValue → LabelValue → Levels
right Below a b c = levels b
right Visible a b c = up (levels b)
right Shown a b c = up (levels b)
right BelowJoin a b c = join (levels b) (levels c)
right BelowJoinUp a b c = join (levels b) (up (levels c))
right AboveFloor a b c = levels c

-- the comparison holds
abbrev pub compares : Relation → LabelValue → LabelValue → LabelValue → Bool
compares relation a b c = leq_test (left relation a b c) (right relation a b c)

-- the same sides at one category, by the ranks that the labels give it
abbrev pub left_rank : Relation → ℕ → ℕ → ℕ
left_rank Below a b = a
left_rank Visible a b = a
left_rank Shown a b = up_rank a
left_rank BelowJoin a b = a
left_rank BelowJoinUp a b = a
left_rank AboveFloor a b = down_rank (max (up_rank a) (up_rank b))

abbrev pub right_rank : Relation → ℕ → ℕ → ℕ
right_rank Below b c = b
right_rank Visible b c = up_rank b
right_rank Shown b c = up_rank b
right_rank BelowJoin b c = max b c
right_rank BelowJoinUp b c = max b (up_rank c)
right_rank AboveFloor b c = c

-- it asks of three labels
abbrev pub is_of_three : Relation → Bool
is_of_three Below = false
is_of_three Visible = false
is_of_three Shown = false
is_of_three BelowJoin = true
is_of_three BelowJoinUp = true
is_of_three AboveFloor = true

-- the exceptions of a label
abbrev pub exceptions : LabelValue → List ℕ
exceptions a = map (λ p. p.category.0) a.exceptions
