-- What the categories are that are told: all at which the comparison fails, and no other.
use Rattle.std.specs.Prelude.{◌≡◌, ◌↔◌, ℕ, ◌<◌, ◌==◌, ◌&&◌, ◌++◌, ◌⊎◌, Bool, true, false, List, [], ◌∷◌, Option, IsSome, IfSome, None, is_none, IsTrue, map, not}
use Rattle.std.specs.List.{list_any, list_all}
use Rattle.base.specs.declared.refusals.Refusal.{Refusal}
use Rattle.kernel_rules.specs.State.{State}
use Rattle.kernel_rules.specs.Conditions.{Condition}
use Rattle.kernel_rules.specs.Conditions as rules
use Rattle.kernel_rules.specs.Rows.{refusal_of}
use Rattle.kernel_rules.specs.Table.{halted, row, query_row, refused, query_refused}
use Rattle.kernel_rules.specs.declared.calls.Call.{Call}
use Rattle.kernel_rules.specs.declared.calls.Query.{Query}
use Rattle.explained.specs.Parts.{condition, refuses}
use Rattle.explained.specs.Told.{parts_of}
use Rattle.explained.specs.Explained.{explained, query_explained}
use Rattle.explained.specs.declared.parts.Finding.{Finding}
use Rattle.label_lattice.specs.Label.{LabelValue}
use Rattle.label_lattice.specs.Order.{Levels, IsOutside}
use Rattle.explained.specs.Sides.{left, right, compares}
use Rattle.explained.specs.Failing.{failing, failing_rest}
use Rattle.explained.specs.Ranks.{rank_at}
use Rattle.explained.specs.declared.failing.Failure.{Failure}
use Rattle.explained.specs.declared.failing.Ranks.{Ranks}
use Rattle.explained.specs.declared.relations.Relation.{Relation}

-- every category of the list is above a number
abbrev pub IsPast : ℕ → List Failure → Type 0
IsPast m [] = Unit {0}
IsPast m (f ∷ fs) = (m < f.category.0) × IsPast m fs

-- the categories rise, so that each stands once
abbrev pub IsRising : List Failure → Type 0
IsRising [] = Unit {0}
IsRising (f ∷ fs) = IsPast f.category.0 fs × IsRising fs

-- at a category, the left side is above the right one, and these are the two
pub record Fails (l r : Levels) (f : Failure) : Type 0 where
  pub left : f.ranks.left ≡ rank_at (l.at f.category.0)
  pub right : f.ranks.right ≡ rank_at (r.at f.category.0)
  pub above : r.at f.category.0 < l.at f.category.0

-- at each category of the list
abbrev pub AllFail : Levels → Levels → List Failure → Type 0
AllFail l r [] = Unit {0}
AllFail l r (f ∷ fs) = Fails l r f × AllFail l r fs

-- the category stands in the list
abbrev pub names : List Failure → ℕ → Bool
names fs c = list_any (λ f. f.category.0 == c) fs

-- these are the failures of a comparison: all of them and no other, by rising categories, and the rest is
-- told exactly where the comparison fails for all categories that are no exceptions
pub record IsExact (l r : Levels) (fs : List Failure) (rest : Option Ranks) : Type 0 where
  pub rising : IsRising fs
  pub no_other : AllFail l r fs
  pub all : (c : ℕ) → r.at c < l.at c → IsTrue (names fs c) ⊎ IsOutside c (l.points ++ r.points)
  pub inside : (c : ℕ) → IsOutside c (l.points ++ r.points) → (r.at c < l.at c) ↔ IsSome rest
  pub ranks : (c : ℕ) → IsOutside c (l.points ++ r.points)
      → IfSome rest (λ told. (told.left ≡ rank_at (l.at c)) × (told.right ≡ rank_at (r.at c)))

-- what `failing` and `failing_rest` tell is exact
abbrev pub FailingIsExact : Type 0
FailingIsExact =
    (relation : Relation) (a b c : LabelValue)
    → IsExact (left relation a b c) (right relation a b c)
    (failing (left relation a b c) (right relation a b c))
    (failing_rest (left relation a b c) (right relation a b c))

-- nothing is listed
abbrev pub is_nil : List Failure → Bool
is_nil [] = true
is_nil (f ∷ fs) = false

-- a comparison holds exactly where nothing fails
abbrev pub HoldsWhereNoneFails : Type 0
HoldsWhereNoneFails =
    (relation : Relation) (a b c : LabelValue)
    → compares relation a b c
    ≡ (is_nil (failing (left relation a b c) (right relation a b c))
    && is_none (failing_rest (left relation a b c) (right relation a b c)))

-- the parts of a condition refuse exactly where the condition does
abbrev pub PartsAreTheCondition : Type 0
PartsAreTheCondition =
    (s : State) (t : ℕ) (c : Condition) → refuses (parts_of s t c) ≡ rules.refuses s t c

-- the findings of a call are the conditions of its row, in the row's order
abbrev pub FindingsAreTheRow : Type 0
FindingsAreTheRow =
    (s : State) (t : ℕ) (c : Call) → map condition (explained s t c) ≡ halted s t ++ row s t c

-- and those of a query
abbrev pub QueryFindingsAreTheRow : Type 0
QueryFindingsAreTheRow =
    (s : State) (t : ℕ) (c : Query)
    → map condition (query_explained s t c) ≡ halted s t ++ query_row s t c

-- the least number among the findings that hold
abbrev pub least : List Finding → Option Refusal
least found = refusal_of (map condition found)

-- is the call's refusal
abbrev pub LeastIsTheRefusal : Type 0
LeastIsTheRefusal = (s : State) (t : ℕ) (c : Call) → least (explained s t c) ≡ refused s t c

-- and the query's
abbrev pub LeastIsTheQueryRefusal : Type 0
LeastIsTheQueryRefusal =
    (s : State) (t : ℕ) (c : Query) → least (query_explained s t c) ≡ query_refused s t c

-- none of these findings holds
abbrev pub none_holds : List Finding → Bool
none_holds found = list_all (λ f. not (refuses f.parts)) found

-- a call is accepted exactly where none of its findings holds
abbrev pub NoneHoldsWhereAccepted : Type 0
NoneHoldsWhereAccepted =
    (s : State) (t : ℕ) (c : Call)
    → (refused s t c ≡ None) ↔ IsTrue (none_holds (explained s t c))

-- and so is a query
abbrev pub NoneHoldsWhereFound : Type 0
NoneHoldsWhereFound =
    (s : State) (t : ℕ) (c : Query)
    → (query_refused s t c ≡ None) ↔ IsTrue (none_holds (query_explained s t c))
