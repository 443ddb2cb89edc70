-- How often ids stand in lists, counted up to two.
use Rattle.std.specs.Prelude.{◌≡◌, ℕ, zero, suc, ◌+◌, nat_lt, if◌then◌else◌}
use Rattle.std.specs.Option.{unwrap_or}
use Rattle.std.specs.Ordering.{nat_cmp}
use Rattle.std.specs.BTreeMap.{BTreeMap, get}
use Rattle.kernel_rules.specs.State.{State}
use Rattle.kernel_rules.specs.WellFormed.{listers}

-- what is counted at an id, which is nothing where the map has none
abbrev pub count_in : BTreeMap ℕ ℕ → ℕ → ℕ
count_in m q = unwrap_or (get nat_cmp m q) 0

-- 0, 1, or 2 for more
abbrev pub capped : ℕ → ℕ
capped zero = 0
capped (suc zero) = 1
capped (suc (suc n)) = 2

-- one more, up to two
abbrev pub one_more : ℕ → ℕ
one_more n = if nat_lt n 2 then n + 1 else n

-- the map counts, up to two, how many lists have each id
abbrev pub CountsListers : State → BTreeMap ℕ ℕ → Type 0
CountsListers s m = (q : ℕ) → count_in m q ≡ capped (listers s q)
