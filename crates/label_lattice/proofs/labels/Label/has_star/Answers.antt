use Rattle.std.proofs.Common.{◌≡◌, ◌≢◌, ◌==◌, sym, ◌∙◌}
use Rattle.std.specs.List.{list_any}
use Rattle.base.specs.Level.{rank_of}
use Rattle.label_lattice.specs.declared.pairings.Pair.{Pair}
use Rattle.label_lattice.proofs.PairsLemmas.{list_any-map}
use Rattle.base.specs.declared.levels.Level.TheVariants.{Star}
use Rattle.label_lattice.proofs.LabelLemmas.{star_forth, star_back, rank_of-injective}
use Rattle.label_lattice.proofs.PlacedLemmas.{eq_false}
use Rattle.label_lattice.proofs.labels.Label.has_star.Goals as goal

pub returns-clause-test : goal.returns-clause-test
returns-clause-test c =
    let plain : rank_of c.self.inside.default ≢ 0 =
    λ zero. c.self.invariant.0.owned_by_none (rank_of-injective c.self.inside.default Star zero) in
    rw (← c.self.view_is, eq_false (rank_of c.self.inside.default) 0 plain)
    ((rw c.levels.ensures at c.has_star_in.ensures)
    ∙ list_any-map (λ (p : Pair). p.level) _ c.self.inside.exceptions)

pub returns-clause-star : goal.returns-clause-star
returns-clause-star c =
    let e : c.has_star_in.result ≡ list_any (λ p. rank_of p.level == 0) c.self.inside.exceptions =
    (rw c.levels.ensures at c.has_star_in.ensures)
    ∙ list_any-map (λ (p : Pair). p.level) _ c.self.inside.exceptions in
    rw (← c.self.view_is) (
      λ r. star_forth c.self.inside.default c.self.inside.exceptions c.self.invariant.0.owned_by_none
          c.self.invariant.0.rising (sym e ∙ r),
      λ s. e ∙ star_back c.self.inside.default c.self.inside.exceptions s.0
          c.self.invariant.0.owned_by_none s.1,
    )
