use Rattle.std.proofs.Common.{subst, sym, ℕ, ◌+◌}
use Rattle.label_lattice.proofs.TwiceLemmas.{TwiceGoesOn, category_found, category_rises, category_stays}
use Rattle.label_lattice.proofs.exceptions.has_twice.Goals as goal
use Rattle.label_lattice.proofs.exceptions.has_twice.Goals.{then-greatest-category, else-greatest-category+else-has_category}

pub returns-then-has_category : goal.returns-then-has_category
returns-then-has_category c =
    category_found c.args.pairs.now c.categories-categories.result.now c.loop-i.i c.loop-i.greatest
    c.categories-categories.ensures c.loop-i-test.true c.if-has_category.ensures

pub loop-i-preserved : goal.loop-i-preserved
loop-i-preserved c =
    elim c.if-greatest-category.branch [
      | then-greatest-category w ↦
          subst (λ (g : ℕ). TwiceGoesOn c.args.pairs.now (c.loop-i.i + 1) g) (sym w.greatest-is)
          (category_rises c.args.pairs.now c.categories-categories.result.now c.loop-i.i
          c.loop-i.greatest c.categories-categories.ensures c.loop-i-test.true c.loop-i.invariant
          w.if-greatest-category.true)
      | else-greatest-category+else-has_category w ↦
          subst (λ (g : ℕ). TwiceGoesOn c.args.pairs.now (c.loop-i.i + 1) g) (sym w.greatest-is)
          (category_stays c.args.pairs.now c.categories-categories.result.now c.loop-i.i
          c.loop-i.greatest c.categories-categories.ensures c.loop-i-test.true c.loop-i.invariant
          w.if-greatest-category.false w.if-has_category.ensures)
    ]
