use Rattle.std.proofs.Common.{ℕ, sym, subst, ◌∙◌}
use Rattle.kernel_rules.specs.Fitting.{IsFitting}
use Rattle.kernel_rules.specs.State.{bytes_at}
use Rattle.kernel_rules.specs.Step.{made_of}
use Rattle.kernel_rules.specs.declared.objects.Body.TheVariants as is
use Rattle.kernel_rules.proofs.BytesLaws.{bytes_whole}
use Rattle.kernel_rules.specs.declared.calls.Call.TheVariants as call
use Rattle.kernel_store.proofs.CallLaws.{next_done}
use Rattle.memory_calls.proofs.LengthLaws.{copy_fits}
use Rattle.memory_calls.proofs.lengths.copy_in.Goals as goal

pub create-requires-clause-fitting : goal.create-requires-clause-fitting
create-requires-clause-fitting g c =
    let s = g.S.Store.state c.args.state.now in
    subst (λ (d : ℕ). IsFitting s d c.args.made.now.quota (is.Segment (bytes_at s (g.S.Store.id_of c.args.source.object)))) (sym c.requires.container)
    (subst (λ (o : ℕ). IsFitting s c.args.made.now.container c.args.made.now.quota (is.Segment (bytes_at s o))) (sym c.requires.object)
    (copy_fits _ _ _ (sym c.refused_segment_copy.ensures.value ∙ c.in_default.is)
    (bytes_whole s c.args.made.now.source.object (g.met.S.Store.sound c.args.state.now))))

pub returns-clause-ok : goal.returns-clause-ok
returns-clause-ok g c =
    let s = g.S.Store.state c.args.state.now in
    let label = c.as_ref-label.ensures.value ∙ c.stored_label-label.ensures.value in
    sym (next_done s (g.S.Store.id_of c.args.named.caller) (call.SegmentCopy c.args.made.now) _ _ (g.met.S.Store.sound _)
    (c.in_ok-id.ensures.ok
    ∙ (λ i. made_of s (c.requires.container i) (label i) c.args.made.now.quota (is.Segment (bytes_at s (c.requires.object i)))))
    c.refused_segment_copy.ensures.value c.in_default.is)
