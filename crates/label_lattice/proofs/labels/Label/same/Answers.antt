use Rattle.std.proofs.Common.{ap, subst, eq-eqb}
use Rattle.std.proofs.lemmas.Bool.{eqb-true}
use Rattle.base.specs.Level.{rank_of}
use Rattle.label_lattice.specs.Label.{LabelValue, level, IsStored}
use Rattle.label_lattice.proofs.LabelLemmas.{same_labels, rank_of-injective}
use Rattle.label_lattice.proofs.labels.Label.same.Goals as goal

pub returns-clause-everywhere : goal.returns-clause-everywhere
returns-clause-everywhere c = (
  λ r k. rank_of-injective _ _ (eqb-true _ _ (c.holds.ensures.0 r k)),
  λ e. c.holds.ensures.1 (λ k. eq-eqb _ _ (ap rank_of (e k))),
)

pub returns-clause-equal : goal.returns-clause-equal
returns-clause-equal c = (
  λ r. same_labels c.args.self.now c.args.other.now
      (subst IsStored c.self.view_is c.self.invariant.0)
      (subst IsStored c.other.view_is c.other.invariant.0)
      (λ k. rank_of-injective _ _ (eqb-true _ _ (c.holds.ensures.0 r k))),
  λ e. c.holds.ensures.1 (λ k. eq-eqb _ _ (ap (λ (l : LabelValue). rank_of (level l k)) e)),
)
