use Rattle.std.proofs.Common.{◌≡◌, ℕ, ◌++◌, ◌∷◌, [], sym, ◌∙◌, ap, true, List}
use Rattle.std.specs.Map.Iter.{deref_pair}
use Rattle.std.proofs.lemmas.Map.Iter.{rest_more}
use Rattle.kernel_rules.specs.State.{listed}
use Rattle.kernel_rules.specs.WellFormed.{is_distinct}
use Rattle.kernel_rules.specs.declared.objects.Object.{Object}
use Rattle.plain_core.proofs.CountLaws.{lists_more, all_push, seam}
use Rattle.plain_core.proofs.restoring.counts.count_listers.Goals as goal

pub loop-object-preserved : goal.loop-object-preserved
loop-object-preserved c =
    let done : List (ℕ × Object) = c.loop-object.invariant.0 in
    let e : ℕ × Object = (c.in-Some.field-0-0.now, c.in-Some.object.now) in
    let left : c.loop-object.object-iterator ≡ (c.in-Some.field-0-0.now, c.in-Some.object.now) ∷ c.next.new.self
    = rest_more deref_pair c.loop-object.object-iterator c.next.new.self c.next.result
    (c.in-Some.field-0-0, c.in-Some.object) c.in-Some.is c.next.ensures.steps in
    let fit : is_distinct (listed c.in-Some.object.now.body) ≡ true
    = sym c.in_ok-count_listed.ensures.distinct ∙ c.if-not-branch.false in (
      c.loop-object.invariant.0 ++ (c.in-Some.field-0-0.now, c.in-Some.object.now) ∷ [],
      seam c.loop-object.invariant.0 (c.in-Some.field-0-0.now, c.in-Some.object.now) c.next.new.self
          ∙ ap (λ t. c.loop-object.invariant.0 ++ t) (sym left) ∙ c.loop-object.invariant.1,
      all_push (λ e. is_distinct (listed e.1.body)) c.loop-object.invariant.0
          (c.in-Some.field-0-0.now, c.in-Some.object.now) c.loop-object.invariant.2 fit,
      lists_more c.loop-object.invariant.0 (c.in-Some.field-0-0.now, c.in-Some.object.now) c.loop-object.counts
          c.count_listed.new.counts c.loop-object.invariant.3
          (c.in_ok-count_listed.ensures.counted c.if-not-branch.false),
    )
