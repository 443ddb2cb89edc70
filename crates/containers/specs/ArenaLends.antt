-- What an arena ends as, where a `&mut` to one of its objects is returned.
use Rattle.std.specs.Prelude.{ℕ, slice_set, Some}
use Rattle.std.specs.Borrow.{Lends, Fml, RattleType, MutBor}
use Rattle.containers.specs.Objects.{Objects}
use Rattle.containers.specs.contracts.object_arena.arena.Arena.{the_row}

module _ (T : RattleType) (s : MutBor (Objects T.Denot)) (slot : ℕ) where
  -- once the borrow r ends, the slot has the last object written through r
  abbrev pub lends_object : MutBor T.Denot → Fml
  lends_object r =
      Lends (the_row T) T s r (λ v. record s.now { cells = slice_set s.now.cells slot (Some v) })
