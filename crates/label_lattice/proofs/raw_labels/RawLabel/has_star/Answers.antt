use Rattle.std.proofs.Common.{◌≡◌, inl, inr, sym, ap, ◌∙◌}
use Rattle.base.specs.Level.{rank_of}
use Rattle.label_lattice.specs.declared.pairings.Pair.{Pair}
use Rattle.label_lattice.specs.Levels.{any_star}
use Rattle.label_lattice.proofs.PairsLemmas.{list_any-map}
use Rattle.label_lattice.proofs.RawLemmas.{any_star-Any, any_star-from_Any}
use Rattle.label_lattice.proofs.PlacedLemmas.{eq_false}
use Rattle.label_lattice.proofs.raw_labels.RawLabel.has_star.Goals as goal

pub returns-else-rank-eq0-clause-test : goal.returns-else-rank-eq0-clause-test
returns-else-rank-eq0-clause-test c =
    rw (eq_false (rank_of c.args.self.now.default) 0 (rw c.rank.ensures at c.if-rank-eq0.false))
    ((rw c.levels.ensures at c.has_star_in.ensures)
    ∙ list_any-map (λ (p : Pair). p.level) _ c.args.self.now.pairs)

pub returns-else-rank-eq0-clause-star : goal.returns-else-rank-eq0-clause-star
returns-else-rank-eq0-clause-star c =
    let e : c.has_star_in.result ≡ any_star c.args.self.now.pairs =
    (rw c.levels.ensures at c.has_star_in.ensures)
    ∙ list_any-map (λ (p : Pair). p.level) _ c.args.self.now.pairs in (
      λ h. inr (any_star-Any c.args.self.now.pairs (sym e ∙ h)),
      λ s. elim s [
        | inl star ↦ absurd (c.if-rank-eq0.false (c.rank.ensures ∙ ap rank_of star))
        | inr some ↦ e ∙ any_star-from_Any c.args.self.now.pairs some
      ],
    )
