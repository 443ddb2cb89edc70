use Rattle.std.proofs.Common.{◌≡◌, true, false, cond, sym, ◌∙◌, ap}
use Rattle.std.specs.Ordering.{nat_cmp}
use Rattle.std.specs.BTreeMap.{is_at}
use Rattle.std.specs.BTreeSet.{contains}
use Rattle.std.proofs.lemmas.Bool.{not-true, not-false}
use Rattle.plain_core.proofs.CountLaws.{twice, distinct_more, seen_more}
use Rattle.plain_core.proofs.restoring.counts.is_distinct.Goals as goal

pub returns-then-not-branch : goal.returns-then-not-branch
returns-then-not-branch c =
    let there : contains nat_cmp c.loop-id.seen c.id-item.result ≡ true
    = not-false (contains nat_cmp c.loop-id.seen c.id-item.result)
    (sym c.in_ok-insert.ensures.added ∙ c.if-not-branch.true) in
    sym (twice c.args.ids.now c.loop-id.id-index c.id-item.result c.loop-id-test.true c.id-item.is
    (sym (c.loop-id.invariant.0 c.id-item.result) ∙ there))

pub loop-id-preserved : goal.loop-id-preserved
loop-id-preserved c =
    let far : contains nat_cmp c.loop-id.seen c.id-item.result ≡ false
    = not-true (contains nat_cmp c.loop-id.seen c.id-item.result)
    (sym c.in_ok-insert.ensures.added ∙ c.if-not-branch.false) in (
      λ q. c.in_ok-insert.ensures.updates.0 q
          ∙ ap (cond (is_at (nat_cmp c.id-item.result) q) true) (c.loop-id.invariant.0 q)
          ∙ seen_more c.args.ids.now c.loop-id.id-index c.id-item.result q c.loop-id-test.true c.id-item.is,
      distinct_more c.args.ids.now c.loop-id.id-index c.id-item.result c.loop-id-test.true c.id-item.is
          c.loop-id.invariant.1 (sym (c.loop-id.invariant.0 c.id-item.result) ∙ far),
    )
