use Rattle.std.proofs.Common.{length, sym, ◌∙◌}
use Rattle.std.proofs.lemmas.Bool.{eqb-true}
use Rattle.containers.proofs.GapSteps.{without_none}
use Rattle.containers.proofs.object_arena.arena.Arena.remove_all.Goals as goal

pub returns-then-is_empty-clause-removed : goal.returns-then-is_empty-clause-removed
returns-then-is_empty-clause-removed g c =
    let well = c.len-count.ensures.well_formed in
    without_none c.args.self.now c.args.gone.now well.beside well.rises (eqb-true (length c.args.gone.now) 0 (sym c.is_empty.ensures ∙ c.if-is_empty.true))
