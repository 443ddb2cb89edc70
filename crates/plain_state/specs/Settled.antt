-- Which ids stand in lists, and what is left of records of which some are gone.
use Rattle.std.specs.Prelude.{◌≡◌, ◌≤◌, ℕ, Bool, true, not, ◌||◌, ◌==◌, List, [], ◌∷◌, ◌⊎◌, length, is_some}
use Rattle.std.specs.List.{list_any}
use Rattle.std.specs.Ordering.{nat_cmp}
use Rattle.std.specs.Map.{lookup}
use Rattle.std.specs.BTreeMap.{is_at}
use Rattle.base.specs.Live.{has}
use Rattle.kernel_rules.specs.State.{State, listed}
use Rattle.kernel_rules.specs.Step.{restricted}
use Rattle.kernel_rules.specs.WellFormed.{ids_rise}
use Rattle.kernel_rules.specs.declared.objects.Object.{Object}

-- whether some record lists o
abbrev pub is_listed : List (ℕ × Object) → ℕ → Bool
is_listed es o = list_any (λ e. has (listed e.1.body) o) es

-- whether o is the root, is not recorded, or stands in a list
abbrev pub is_settled : List (ℕ × Object) → ℕ → Bool
is_settled es o = (o == 1) || not (is_some (lookup (is_at (nat_cmp o)) es)) || is_listed es o

-- x is one of xs
abbrev pub In : {X : Type 0} → X → List X → Type 0
In x [] = ⊥
In x (y ∷ ys) = (x ≡ y) ⊎ In x ys

-- the new state has only records of the old one, and its live part is the old one's
pub record Pruned (old new : State) : Type 0 where
  pub live : restricted new ≡ restricted old
  pub part : (e : ℕ × Object) → In e new.objects → In e old.objects
  pub fewer : length new.objects ≤ length old.objects
  pub rise : ids_rise old.objects ≡ true → ids_rise new.objects ≡ true
