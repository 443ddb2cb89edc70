-- The conditions of the code are those of the table of calls.
use Rattle.std.specs.Prelude.{Bool, Option, Some, None, map}
use Rattle.base.specs.Sets.{may_read, may_write}
use Rattle.base.specs.declared.refusals.Refusal.{Refusal}
use Rattle.base.specs.declared.sets.Rights.{Rights}
use Rattle.kernel_rules.specs.Conditions as rules
use Rattle.explained.specs.declared.conditions.Condition.{Condition}
use Rattle.explained.specs.declared.conditions.Condition.TheVariants as is
use Rattle.explained.specs.declared.conditions.Right.{Right}
use Rattle.explained.specs.declared.conditions.Right.TheVariants as right
use Rattle.kernel_rules.specs.Rows.{Conditions}
use Rattle.explained.specs.declared.rows.Given.{Given}
use Rattle.explained.specs.declared.rows.Row.{Row}

-- a right
abbrev pub right_of : Right → Rights → Bool
right_of right.Read = may_read
right_of right.Write = may_write

-- a condition
abbrev pub condition_of : Condition → rules.Condition
condition_of is.Halted = rules.Halted
condition_of (is.NotAccessible d) = rules.NotAccessible d
condition_of (is.NotHeld e) = rules.NotHeld e
condition_of (is.NotListed e) = rules.NotListed e
condition_of (is.NotLinked e) = rules.NotLinked e
condition_of (is.Listed d o) = rules.Listed d o
condition_of (is.Root e) = rules.Root e
condition_of (is.NotOfKind k o) = rules.NotOfKind k o
condition_of (is.OfKind k o) = rules.OfKind k o
condition_of (is.NotObserved o) = rules.NotObserved o
condition_of (is.NotFlowing o) = rules.NotFlowing o
condition_of (is.NotShown o) = rules.NotShown o
condition_of (is.BadLabel x) = rules.BadLabel x
condition_of (is.BadOrStarred x) = rules.BadOrStarred x
condition_of (is.BelowThread x) = rules.BelowThread x
condition_of (is.OutOfRange x) = rules.OutOfRange x
condition_of (is.OutOfClearance x y) = rules.OutOfClearance x y
condition_of (is.NotClearable y) = rules.NotClearable y
condition_of (is.AboveClearance o) = rules.AboveClearance o
condition_of (is.Avoided k d) = rules.Avoided k d
condition_of (is.KindAvoided d o) = rules.KindAvoided d o
condition_of (is.Above n most) = rules.Above n most
condition_of (is.Zero n) = rules.Zero n
condition_of (is.Overfull d n) = rules.Overfull d n
condition_of (is.WithoutRoom e n) = rules.WithoutRoom e n
condition_of (is.Immutable o) = rules.Immutable o
condition_of (is.Fixed o) = rules.Fixed o
condition_of (is.NotFixed o) = rules.NotFixed o
condition_of is.IdsSpent = rules.IdsSpent
condition_of is.CategoriesSpent = rules.CategoriesSpent
condition_of is.LabelFull = rules.LabelFull
condition_of (is.NotShaped a n) = rules.NotShaped a n
condition_of (is.NotMapping slot m) = rules.NotMapping slot m
condition_of (is.Overlapping o slot m) = rules.Overlapping o slot m
condition_of (is.SlotEmpty o slot) = rules.SlotEmpty o slot
condition_of (is.NotMapped a) = rules.NotMapped a
condition_of (is.NotAllowed a r) = rules.NotAllowed a (right_of r)
condition_of (is.NotAdmitted g r q v) = rules.NotAdmitted g r q v
condition_of (is.QueueFull o) = rules.QueueFull o
condition_of (is.QueueEmpty o) = rules.QueueEmpty o

-- a condition that may have a test before it
abbrev pub tested : Option Bool → rules.Condition → rules.Condition
tested None c = c
tested (Some b) c = rules.When b c

-- a condition with its refusal
abbrev pub ruled : Given → Refusal × rules.Condition
ruled g = (g.refusal, tested g.test (condition_of g.condition))

-- those of a row
unfoldable pub conditions_in : Row → Conditions
conditions_in row = map ruled row.given.items
