-- What containers end as, where a `&mut` to one of their records is returned.
use Rattle.std.specs.Prelude.{ℕ, slice_set, Some}
use Rattle.std.specs.Borrow.{Lends, Fml, RattleType, MutBor}
use Rattle.containers.specs.Tree.{Tree}
use Rattle.containers.specs.contracts.tree.Containers.{the_row}

module _ (T : RattleType) (s : MutBor (Tree T.Denot)) (slot : ℕ) where
  -- once the borrow r ends, the slot has the last record written through r
  abbrev pub lends_record : MutBor T.Denot → Fml
  lends_record r =
      Lends (the_row T) T s r (λ v. record s.now { cells = slice_set s.now.cells slot (Some v) })
