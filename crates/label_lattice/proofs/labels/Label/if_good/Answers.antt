use Rattle.std.proofs.Common.{ap, ◌∙◌, refl, sym}
use Rattle.base.specs.Level.{rank_of}
use Rattle.label_lattice.proofs.CollectLemmas.{collected_from, collected-levels}
use Rattle.label_lattice.proofs.CollectLemmas.{stored_from_collected}
use Rattle.label_lattice.proofs.labels.Label.if_good.Goals as goal

pub invariant_of-result : goal.invariant_of-result
invariant_of-result c = (
  stored_from_collected c.args.raw.now.default c.args.raw.now.pairs c.collect.new.exceptions
      (λ star. c.if-rank-eq0.false (c.rank.ensures ∙ ap rank_of star))
      (c.if-not-collect.ensures.few refl) c.if-not-collect.ensures.value,
  sym c.of.ensures,
)

pub returns-clause-stored : goal.returns-clause-stored
returns-clause-stored c =
    stored_from_collected c.args.raw.now.default c.args.raw.now.pairs c.collect.new.exceptions
    (λ star. c.if-rank-eq0.false (c.rank.ensures ∙ ap rank_of star))
    (c.if-not-collect.ensures.few refl) c.if-not-collect.ensures.value

pub returns-clause-levels : goal.returns-clause-levels
returns-clause-levels c = λ k.
    let found =
    collected_from c.args.raw.now.default c.args.raw.now.pairs c.collect.new.exceptions
    c.if-not-collect.ensures.value in
    rw found.1 (collected-levels c.args.raw.now.default c.args.raw.now.pairs k found.0)

pub of-requires : goal.of-requires
of-requires c =
    (stored_from_collected c.args.raw.now.default c.args.raw.now.pairs c.collect.new.exceptions
    (λ star. c.if-rank-eq0.false (c.rank.ensures ∙ ap rank_of star))
    (c.if-not-collect.ensures.few refl) c.if-not-collect.ensures.value).rising
