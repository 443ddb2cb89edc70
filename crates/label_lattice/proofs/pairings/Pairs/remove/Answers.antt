use Rattle.std.proofs.Common.{◌≡◌, ◌<◌, ◌≤◌, ◌-◌, ◌+◌, ℕ, List, length, arith}
use Rattle.std.proofs.lemmas.List.Edits.{length-remove}
use Rattle.std.proofs.Math.ListN.{set}
use Rattle.std.specs.List.{remove}
use Rattle.base.specs.declared.ids.Category.{Category}
use Rattle.base.specs.declared.levels.Level.{Level}
use Rattle.label_lattice.specs.Columns.{filler, categories_of, levels_of}
use Rattle.label_lattice.specs.Pairs.{items_of, IsFilled}
use Rattle.label_lattice.proofs.PairsLemmas.{column-remove}
use Rattle.label_lattice.proofs.PairsLemmas.{IsFilled-by, items_of-by}
use Rattle.label_lattice.proofs.pairings.Pairs.remove.Goals as goal
use Rattle.std.specs.List.{copy_within}

module _ (n len i : ℕ) (cs : List Category) (ls : List Level)
    (filled : IsFilled n len cs ls) (within : i < length (items_of len cs ls)) where
  categories : set (copy_within cs (i + 1) len i) (len - 1) filler.category
      ≡ categories_of n (remove (items_of len cs ls) i)
  categories =
      rw (filled.categories, filled.within)
      at (column-remove (λ q. q.category) n (items_of len cs ls) i filler within
      (rw filled.within filled.few))

  levels : set (copy_within ls (i + 1) len i) (len - 1) filler.level
      ≡ levels_of n (remove (items_of len cs ls) i)
  levels =
      rw (filled.levels, filled.within)
      at (column-remove (λ q. q.level) n (items_of len cs ls) i filler within
      (rw filled.within filled.few))

  many : length (remove (items_of len cs ls) i) ≡ len - 1
  many =
      let one = length-remove (items_of len cs ls) i within in
      let all = filled.within in omega arith

  few : len - 1 ≤ n
  few = omega (arith, filled.few)

  filled_after : IsFilled n (len - 1) (set (copy_within cs (i + 1) len i) (len - 1) filler.category)
      (set (copy_within ls (i + 1) len i) (len - 1) filler.level)
  filled_after =
      IsFilled-by n (len - 1) (remove (items_of len cs ls) i) _ _ categories levels many few

  items_after : items_of (len - 1) (set (copy_within cs (i + 1) len i) (len - 1) filler.category)
      (set (copy_within ls (i + 1) len i) (len - 1) filler.level)
      ≡ remove (items_of len cs ls) i
  items_after = items_of-by n (len - 1) (remove (items_of len cs ls) i) _ _ categories levels many

pub invariant_of-self : goal.invariant_of-self
invariant_of-self g c =
    rw (c.copy_within.ensures.after, c.copy_within-2.ensures.after)
    (filled_after g.row.N c.self.inside.len c.args.place c.self.inside.categories
    c.self.inside.levels c.self.invariant (rw (← c.self.view_is) at c.requires))

pub returns : goal.returns
returns g c =
    rw (← c.self.view_is, c.copy_within.ensures.after, c.copy_within-2.ensures.after)
    (items_after g.row.N c.self.inside.len c.args.place c.self.inside.categories
    c.self.inside.levels c.self.invariant (rw (← c.self.view_is) at c.requires))
