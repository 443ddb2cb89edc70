-- The comparisons of parts, and where they fail.
use Rattle.std.proofs.Common.{◌≡◌, ◌∙◌, Bool, refl, Option, Some, None, IfSome}
use Rattle.label_lattice.specs.Label.{LabelValue}
use Rattle.label_lattice.specs.LabelRules.{both, all_three, below, visible, shown, below_join, below_join_up, above_floor}
use Rattle.explained.specs.Sides.{compares}
use Rattle.explained.specs.Failing.{failing, failing_rest}
use Rattle.explained.specs.Laws.{IsExact}
use Rattle.explained.specs.Compared.{of_two, of_three, sides, none_fails}
use Rattle.explained.specs.Parts.{agrees}
use Rattle.explained.specs.declared.parts.Comparison as comparison
use Rattle.explained.specs.declared.parts.Comparison.TheVariants as compared
use Rattle.explained.specs.declared.relations.Relation.{Relation}
use Rattle.explained.specs.declared.relations.Relation.TheVariants as relation
use Rattle.explained.proofs.Exact.{failing_is_exact, holds_where_none_fails}

two : (r : Relation) (f : LabelValue → LabelValue → Bool) → ((a b : LabelValue) → f a b ≡ compares r a b b)
    → (a b : Option LabelValue) → both f a b ≡ none_fails (of_two r a b)
two r f is (Some a) (Some b) = is a b ∙ holds_where_none_fails r a b b
two r f is (Some a) None = refl
two r f is None b = refl

three : (r : Relation) (f : LabelValue → LabelValue → LabelValue → Bool)
    → ((a b c : LabelValue) → f a b c ≡ compares r a b c)
    → (a b c : Option LabelValue) → all_three f a b c ≡ none_fails (of_three r a b c)
three r f is (Some a) (Some b) (Some c) = is a b c ∙ holds_where_none_fails r a b c
three r f is (Some a) (Some b) None = refl
three r f is (Some a) None c = refl
three r f is None b c = refl

pub agrees_where_none_fails : (k : comparison.Comparison) → agrees k ≡ none_fails (sides k)
unfolding below visible shown below_join below_join_up above_floor
agrees_where_none_fails (compared.Below a b) = two relation.Below below (λ _ _. refl) a.label b.label
agrees_where_none_fails (compared.Visible a b) = two relation.Visible visible (λ _ _. refl) a.label b.label
agrees_where_none_fails (compared.Shown a b) = two relation.Shown shown (λ _ _. refl) a.label b.label
agrees_where_none_fails (compared.BelowJoin a b c) = three relation.BelowJoin below_join (λ _ _ _. refl) a.label b.label c.label
agrees_where_none_fails (compared.BelowJoinUp a b c) = three relation.BelowJoinUp below_join_up (λ _ _ _. refl) a.label b.label c.label
agrees_where_none_fails (compared.AboveFloor a b c) = three relation.AboveFloor above_floor (λ _ _ _. refl) a.label b.label c.label

exact_two : (r : Relation) (a b : Option LabelValue) → IfSome (of_two r a b)
    (λ x. IsExact x.left x.right (failing x.left x.right) (failing_rest x.left x.right))
exact_two r (Some a) (Some b) = failing_is_exact r a b b
exact_two r (Some a) None = tt
exact_two r None b = tt

exact_three : (r : Relation) (a b c : Option LabelValue) → IfSome (of_three r a b c)
    (λ x. IsExact x.left x.right (failing x.left x.right) (failing_rest x.left x.right))
exact_three r (Some a) (Some b) (Some c) = failing_is_exact r a b c
exact_three r (Some a) (Some b) None = tt
exact_three r (Some a) None c = tt
exact_three r None b c = tt

pub sides_are_exact : (k : comparison.Comparison) → IfSome (sides k)
    (λ x. IsExact x.left x.right (failing x.left x.right) (failing_rest x.left x.right))
sides_are_exact (compared.Below a b) = exact_two relation.Below a.label b.label
sides_are_exact (compared.Visible a b) = exact_two relation.Visible a.label b.label
sides_are_exact (compared.Shown a b) = exact_two relation.Shown a.label b.label
sides_are_exact (compared.BelowJoin a b c) = exact_three relation.BelowJoin a.label b.label c.label
sides_are_exact (compared.BelowJoinUp a b c) = exact_three relation.BelowJoinUp a.label b.label c.label
sides_are_exact (compared.AboveFloor a b c) = exact_three relation.AboveFloor a.label b.label c.label
