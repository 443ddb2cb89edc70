use Rattle.std.proofs.Common.{◌≡◌, ◌<◌, ℕ, List, length, ◌∙◌}
use Rattle.std.proofs.lemmas.List.{length-set}
use Rattle.std.proofs.Math.ListN.{set}
use Rattle.base.specs.declared.ids.Category.{Category}
use Rattle.base.specs.declared.levels.Level.{Level}
use Rattle.label_lattice.specs.declared.pairings.Pair.{Pair}
use Rattle.label_lattice.specs.Columns.{categories_of, levels_of}
use Rattle.label_lattice.specs.Pairs.{items_of, IsFilled}
use Rattle.label_lattice.proofs.PairsLemmas.{column-set}
use Rattle.label_lattice.proofs.PairsLemmas.{IsFilled-by, items_of-by}
use Rattle.label_lattice.proofs.pairings.Pairs.set.Goals as goal

module _ (n len i : ℕ) (cs : List Category) (ls : List Level) (p : Pair)
    (filled : IsFilled n len cs ls) (within : i < length (items_of len cs ls)) where
  categories : set cs i p.category ≡ categories_of n (set (items_of len cs ls) i p)
  categories =
      rw filled.categories at (column-set (λ q. q.category) n (items_of len cs ls) i p within)

  levels : set ls i p.level ≡ levels_of n (set (items_of len cs ls) i p)
  levels = rw filled.levels at (column-set (λ q. q.level) n (items_of len cs ls) i p within)

  many : length (set (items_of len cs ls) i p) ≡ len
  many = length-set (items_of len cs ls) i p ∙ filled.within

  filled_after : IsFilled n len (set cs i p.category) (set ls i p.level)
  filled_after = IsFilled-by n len (set (items_of len cs ls) i p) _ _ categories levels many filled.few

  items_after : items_of len (set cs i p.category) (set ls i p.level) ≡ set (items_of len cs ls) i p
  items_after = items_of-by n len (set (items_of len cs ls) i p) _ _ categories levels many

pub invariant_of-self : goal.invariant_of-self
invariant_of-self g c =
    filled_after g.row.N c.self.inside.len c.args.place c.self.inside.categories
    c.self.inside.levels c.args.pair c.self.invariant (rw (← c.self.view_is) at c.requires)

pub returns : goal.returns
returns g c =
    rw (← c.self.view_is)
    (items_after g.row.N c.self.inside.len c.args.place c.self.inside.categories
    c.self.inside.levels c.args.pair c.self.invariant (rw (← c.self.view_is) at c.requires))
