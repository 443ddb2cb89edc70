use Rattle.std.proofs.Common.{◌≡◌, ◌∙◌, rules, subst, sym}
use Rattle.core.specs.Mem.{manually_drop_value}
use Rattle.published_copy.specs.declared.copies.Copied.{Copied}
use Rattle.published_copy.specs.Absorbed.{list_of, shown_of}
use Rattle.published_copy.specs.Shares.{IsShown}
use Rattle.published_copy.proofs.Commits.{shows_own, shows_same}
use Rattle.published_copy.proofs.Shares.{forks, merges}
use Rattle.published_copy.proofs.writers.Copies.handle.Goals as goal

pub tell-requires : goal.tell-requires
tell-requires g c = forks _ _

pub learn-requires-clause-rule : goal.learn-requires-clause-rule
learn-requires-clause-rule g c = merges _ _ _ _

pub invariant_of-self : goal.invariant_of-self
invariant_of-self g c =
    let boot = g.B.Naming.boot in
    let same : c.deref_mut-writer.result.now ≡ manually_drop_value c.self.inside.writer = search rules in
    let x : Copied = (manually_drop_value c.self.inside.writer).desk.shown.value in
    let z : Copied = c.mark.new.writer.desk.shown.value in
    let y : Copied = c.tell.new.self.desk.shown.value in
    let marked : IsShown boot z (list_of x.sealed x.seen.log) = shows_same boot x z _ c.self.invariant.0 (c.mark.ensures.shown ∙ (λ i. shown_of (same i).desk.shown.value)) in
    let kept : y ≡ z = search rules in
    let shown : IsShown boot y (list_of y.sealed y.seen.log) = subst (λ (v : Copied). IsShown boot v (list_of v.sealed v.seen.log)) (sym kept) (shows_own boot z _ marked) in
    (shown, λ _. search rules)
