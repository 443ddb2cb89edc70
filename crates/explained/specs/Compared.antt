-- Where the comparison of a part fails.
use Rattle.std.specs.Prelude.{◌≡◌, IfSome, Bool, false, ◌&&◌, List, Option, Some, None, is_none}
use Rattle.label_lattice.specs.Label.{LabelValue}
use Rattle.label_lattice.specs.Order.{Levels}
use Rattle.explained.specs.Sides.{left, right}
use Rattle.explained.specs.Failing.{failing, failing_rest}
use Rattle.explained.specs.Laws.{is_nil, IsExact}
use Rattle.explained.specs.Parts.{agrees}
use Rattle.explained.specs.declared.failing.Failure.{Failure}
use Rattle.explained.specs.declared.failing.Ranks.{Ranks}
use Rattle.explained.specs.declared.parts.Comparison as comparison
use Rattle.explained.specs.declared.parts.Comparison.TheVariants as compared
use Rattle.explained.specs.declared.relations.Relation.{Relation}
use Rattle.explained.specs.declared.relations.Relation.TheVariants as relation

-- the two sides of a comparison
pub record Sides : Type 0 where
  pub left : Levels
  pub right : Levels

-- those of labels that are there
abbrev pub sides_of : Relation → LabelValue → LabelValue → LabelValue → Sides
sides_of r a b c = record { left = left r a b c; right = right r a b c }

abbrev pub of_two : Relation → Option LabelValue → Option LabelValue → Option Sides
of_two r (Some a) (Some b) = Some (sides_of r a b b)
of_two r (Some a) None = None
of_two r None b = None

abbrev pub of_three : Relation → Option LabelValue → Option LabelValue → Option LabelValue → Option Sides
of_three r (Some a) (Some b) (Some c) = Some (sides_of r a b c)
of_three r (Some a) (Some b) None = None
of_three r (Some a) None c = None
of_three r None b c = None

-- those of a comparison, where its labels are there
abbrev pub sides : comparison.Comparison → Option Sides
sides (compared.Below a b) = of_two relation.Below a.label b.label
sides (compared.Visible a b) = of_two relation.Visible a.label b.label
sides (compared.Shown a b) = of_two relation.Shown a.label b.label
sides (compared.BelowJoin a b c) = of_three relation.BelowJoin a.label b.label c.label
sides (compared.BelowJoinUp a b c) = of_three relation.BelowJoinUp a.label b.label c.label
sides (compared.AboveFloor a b c) = of_three relation.AboveFloor a.label b.label c.label

-- the exceptions at which it fails, where its labels are there
abbrev pub named_of : Option Sides → Option (List Failure)
named_of None = None
named_of (Some x) = Some (failing x.left x.right)

-- what it fails by at each other category, where it does
abbrev pub rest_of : Option Sides → Option Ranks
rest_of None = None
rest_of (Some x) = failing_rest x.left x.right

-- its labels are there, and no category fails
abbrev pub none_fails : Option Sides → Bool
none_fails None = false
none_fails (Some x) = is_nil (failing x.left x.right) && is_none (failing_rest x.left x.right)

-- a comparison holds exactly where its labels are there and no category fails
abbrev pub AgreesWhereNoneFails : Type 0
AgreesWhereNoneFails = (k : comparison.Comparison) → agrees k ≡ none_fails (sides k)

-- what is told of each is exact
abbrev pub SidesAreExact : Type 0
SidesAreExact =
    (k : comparison.Comparison)
    → IfSome (sides k)
    (λ x. IsExact x.left x.right (failing x.left x.right) (failing_rest x.left x.right))
