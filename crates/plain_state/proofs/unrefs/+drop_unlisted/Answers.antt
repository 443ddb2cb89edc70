use Rattle.std.proofs.Common.{◌≡◌, ◌==◌, ◌+◌, ◌||◌, ◌∷◌, true, false, ℕ, List, drop, subst, sym, ap, ◌∙◌, arith}
use Rattle.std.proofs.lemmas.List.{drop_more}
use Rattle.base.specs.Live.{has}
use Rattle.plain_state.specs.Recorded.{records_state}
use Rattle.plain_state.specs.Settled.{is_settled}
use Rattle.plain_state.proofs.PruneLaws.{absent_is, begun_is, pruned_then, one_settled}
use Rattle.plain_state.proofs.unrefs.+drop_unlisted.Goals as goal

pub loop-listed-init : goal.loop-listed-init
loop-listed-init t c =
    let other : (c.args.id == 1) ≡ false = grind (arith, c.root.ensures, c.eq.ensures) in
    let begun = begun_is (records_state c.args.records.now) (records_state c.remove.new.records) c.args.id c.in-Some.object
    other (sym c.is_listed.ensures ∙ c.if-is_listed.false) c.requires (sym c.remove.ensures.object ∙ c.in-Some.is)
    c.remove.ensures.state in
    record {
      pruned = begun.pruned;
      rise = begun.rise;
      fewer = begun.fewer;
      own = begun.own;
      left = λ q h. ap (λ (l : List ℕ). is_settled c.remove.new.records.objects.entries q || has l q) c.list_of-listed-items.ensures
          ∙ begun.left q h;
    }

pub loop-listed-preserved : goal.loop-listed-preserved
loop-listed-preserved t c =
    let inv = c.loop-listed.invariant in
    let all = c.list_of-listed-items.result.now in
    let fewer = inv.fewer in
    let fewer_still = c.drop_unlisted.ensures.pruned.fewer in
    let split : drop c.loop-listed.listed-index all ≡ c.listed-item.result ∷ drop (c.loop-listed.listed-index + 1) all
    = drop_more all c.loop-listed.listed-index c.listed-item.result c.loop-listed-test.true
    ∙ ap (λ (k : ℕ). k ∷ drop (c.loop-listed.listed-index + 1) all) (sym c.listed-item.is) in
    record {
      pruned = pruned_then (records_state c.args.records.now) (records_state c.loop-listed.records)
          (records_state c.drop_unlisted.new.records) inv.pruned c.drop_unlisted.ensures.pruned;
      rise = c.drop_unlisted.ensures.pruned.rise inv.rise;
      fewer = omega arith;
      own = c.drop_unlisted.ensures.stay c.args.id inv.own;
      left = λ q h. one_settled c.loop-listed.records.objects.entries c.drop_unlisted.new.records.objects.entries
          c.listed-item.result q (drop (c.loop-listed.listed-index + 1) all) (c.drop_unlisted.ensures.stay q)
          c.drop_unlisted.ensures.settled
          (subst (λ (l : List ℕ). (is_settled c.loop-listed.records.objects.entries q || has l q) ≡ true) split (inv.left q h));
    }

pub returns-in_default-clause-pruned : goal.returns-in_default-clause-pruned
returns-in_default-clause-pruned t c =
    (absent_is (records_state c.args.records.now) (records_state c.remove.new.records) c.args.id c.requires
    (sym c.remove.ensures.object ∙ c.in_default.is) c.remove.ensures.state).pruned

pub returns-in_default-clause-settled : goal.returns-in_default-clause-settled
returns-in_default-clause-settled t c =
    (absent_is (records_state c.args.records.now) (records_state c.remove.new.records) c.args.id c.requires
    (sym c.remove.ensures.object ∙ c.in_default.is) c.remove.ensures.state).own

pub returns-in_default-clause-stay : goal.returns-in_default-clause-stay
returns-in_default-clause-stay t c =
    (absent_is (records_state c.args.records.now) (records_state c.remove.new.records) c.args.id c.requires
    (sym c.remove.ensures.object ∙ c.in_default.is) c.remove.ensures.state).stay
