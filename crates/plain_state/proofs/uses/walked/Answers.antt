use Rattle.std.proofs.Common.{◌≡◌, ◌≤◌, ◌<◌, ◌+◌, ◌*◌, ◌^◌, ℕ, Some, length, sum_by, take, get_or, sym, ap, ◌∙◌, arith}
use Rattle.std.specs.BTreeMap.{get}
use Rattle.std.specs.Map.Iter.{deref_pair}
use Rattle.std.specs.Ordering.{nat_cmp}
use Rattle.std.proofs.lemmas.List.Sums.{sum_by_more}
use Rattle.std.proofs.lemmas.Map.Views.{All-turn}
use Rattle.kernel_rules.specs.State.{of_object, quota_at}
use Rattle.plain_state.specs.Recorded.{records_state}
use Rattle.plain_state.proofs.uses.walked.Goals as goal

pub loop-id-preserved-then-eq : goal.loop-id-preserved-then-eq
loop-id-preserved-then-eq c =
    let f = quota_at (records_state c.args.records.now) in
    let found : get nat_cmp c.args.records.now.objects c.in-Some.id.now ≡ Some c.in-Some.object.now =
    All-turn deref_pair (λ e. get nat_cmp c.args.records.now.objects e.0 ≡ Some e.1) _ _ _ _ _ _ _ c.iter-id-items.ensures.found
    (c.into_iter-id-iterator.ensures.into_iter_gives ∙ c.iter-id-items.ensures.rest) c.loop-id.yielded_by c.in-Some.is
    c.next.ensures.steps in
    let same : c.index-ids-met.result ≡ c.in-Some.id.now = grind (arith, c.eq.ensures, c.if-eq.true) in
    let quota : f c.index-ids-met.result ≡ c.in-Some.object.now.quota
    = ap f same ∙ ap (of_object 0 (λ x. x.quota)) found in
    let more : sum_by f (take (c.loop-id.met + 1) c.args.ids.now)
    ≡ sum_by f (take c.loop-id.met c.args.ids.now) + c.in-Some.object.now.quota
    = sum_by_more f c.args.ids.now c.loop-id.met c.index-ids-met.result c.if-met-ids.true
    ∙ ap (λ (k : ℕ). sum_by f (take c.loop-id.met c.args.ids.now) + k) (ap f (sym c.index-ids-met.is) ∙ quota) in
    record {
      within = omega arith;
      sum = omega (arith, c.loop-id.invariant.sum, c.from-total.ensures, more);
      small = omega (arith, c.loop-id.invariant.small, c.from-total.ensures);
    }
