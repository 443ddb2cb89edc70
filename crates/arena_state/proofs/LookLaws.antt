-- What looks at objects cost in a pool of up to 1,024 slots.
use Rattle.std.proofs.Common.{ℕ, ◌+◌, ◌≤◌, arith}
use Rattle.std.proofs.lemmas.Int.Digits.{length-digits_of-le}
use Rattle.base.specs.Counts.{Counts}
use Rattle.arena_state.specs.Looks.{Looks}
use Rattle.arena_state.specs.States.{find_cost}
use Rattle.arena_state.specs.declared.states.ArenaState.{ArenaState}

-- an object is found by twelve probes
pub few_find : (a : ArenaState) → a.pieces.limits.pages ≤ 1024 → find_cost a ≤ 12
few_find a few = omega (arith, length-digits_of-le 2 11 a.pieces.limits.pages (omega arith) (omega (arith, few)))

pub no_looks : (m : Counts) → Looks 0 m m
no_looks m = omega arith

pub more_looks : (a b : ℕ) (l m : Counts) → a ≤ b → Looks a l m → Looks b l m
more_looks a b l m le few = omega (arith, le, few)

-- looks add up
pub both_looks : (a b : ℕ) (l m n : Counts) → Looks a l m → Looks b m n → Looks (a + b) l n
both_looks a b l m n one other = omega (arith, one, other)
