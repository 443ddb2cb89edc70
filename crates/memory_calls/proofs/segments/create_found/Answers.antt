use Rattle.std.proofs.Common.{ℕ, ◌*◌, replicate, sym, subst, ◌∙◌}
use Rattle.kernel_rules.specs.Fitting.{IsFitting}
use Rattle.kernel_rules.specs.declared.objects.Body.TheVariants as is
use Rattle.memory_calls.proofs.SegmentLaws.{segment_fits}
use Rattle.memory_calls.proofs.segments.create_found.Goals as goal

pub create-requires-clause-fitting : goal.create-requires-clause-fitting
create-requires-clause-fitting g c =
    let s = g.S.Store.state c.args.state.now in
    subst (λ (d : ℕ). IsFitting s d c.args.made.now.quota (is.Segment (replicate (256 * c.args.made.now.pages) 0)))
    (sym c.requires.container) (segment_fits _ _ _ (sym c.refused_segment_create.ensures.value ∙ c.in_default.is))
