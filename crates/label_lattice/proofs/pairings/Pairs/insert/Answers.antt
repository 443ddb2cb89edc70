use Rattle.std.proofs.Common.{◌≡◌, ◌<◌, ◌≤◌, ◌+◌, ℕ, List, length, arith, ap, ◌∙◌}
use Rattle.std.proofs.lemmas.List.Edits.{length-insert}
use Rattle.std.proofs.Math.ListN.{set}
use Rattle.std.specs.List.{insert}
use Rattle.base.specs.declared.ids.Category.{Category}
use Rattle.base.specs.declared.levels.Level.{Level}
use Rattle.label_lattice.specs.declared.pairings.Pair.{Pair}
use Rattle.label_lattice.specs.Columns.{categories_of, levels_of}
use Rattle.label_lattice.specs.Pairs.{items_of, IsFilled}
use Rattle.label_lattice.proofs.PairsLemmas.{column-insert}
use Rattle.label_lattice.proofs.PairsLemmas.{IsFilled-by, items_of-by}
use Rattle.label_lattice.proofs.pairings.Pairs.insert.Goals as goal
use Rattle.std.specs.List.{copy_within}

module _ (n len i : ℕ) (cs : List Category) (ls : List Level) (p : Pair)
    (filled : IsFilled n len cs ls) (within : i ≤ length (items_of len cs ls))
    (room : length (items_of len cs ls) < n) where
  categories : set (copy_within cs i len (i + 1)) i p.category
      ≡ categories_of n (insert (items_of len cs ls) i p)
  categories =
      rw (filled.categories, filled.within)
      at (column-insert (λ q. q.category) n (items_of len cs ls) i p within room)

  levels : set (copy_within ls i len (i + 1)) i p.level
      ≡ levels_of n (insert (items_of len cs ls) i p)
  levels =
      rw (filled.levels, filled.within)
      at (column-insert (λ q. q.level) n (items_of len cs ls) i p within room)

  many : length (insert (items_of len cs ls) i p) ≡ len + 1
  many = length-insert (items_of len cs ls) i p within ∙ ap (λ k. k + 1) filled.within

  few : len + 1 ≤ n
  few = omega (arith, rw filled.within at room)

  filled_after : IsFilled n (len + 1) (set (copy_within cs i len (i + 1)) i p.category)
      (set (copy_within ls i len (i + 1)) i p.level)
  filled_after =
      IsFilled-by n (len + 1) (insert (items_of len cs ls) i p) _ _ categories levels many few

  items_after : items_of (len + 1) (set (copy_within cs i len (i + 1)) i p.category)
      (set (copy_within ls i len (i + 1)) i p.level)
      ≡ insert (items_of len cs ls) i p
  items_after = items_of-by n (len + 1) (insert (items_of len cs ls) i p) _ _ categories levels many

pub invariant_of-self : goal.invariant_of-self
invariant_of-self g c =
    rw (c.copy_within.ensures.after, c.copy_within-2.ensures.after)
    (filled_after g.row.N c.self.inside.len c.args.place c.self.inside.categories
    c.self.inside.levels c.args.pair c.self.invariant (rw (← c.self.view_is) at c.requires.place)
    (rw (← c.self.view_is) at c.requires.room))

pub returns : goal.returns
returns g c =
    rw (← c.self.view_is, c.copy_within.ensures.after, c.copy_within-2.ensures.after)
    (items_after g.row.N c.self.inside.len c.args.place c.self.inside.categories
    c.self.inside.levels c.args.pair c.self.invariant (rw (← c.self.view_is) at c.requires.place)
    (rw (← c.self.view_is) at c.requires.room))
