use Rattle.std.proofs.Common.{◌≡◌, ◌∙◌, ◌∷◌, drop, fold, rules, subst, sym}
use Rattle.core.specs.Mem.{manually_drop_value}
use Rattle.published_copy.specs.declared.copies.Copied.{Copied}
use Rattle.published_copy.specs.Absorbed.{absorbed, list_of, shown_of}
use Rattle.published_copy.specs.Entries.{made}
use Rattle.published_copy.specs.Shares.{EndsWithReplies, IsShown}
use Rattle.published_copy.proofs.Commits.{shows_awaited, shows_own, succeeds, shown_legal}
use Rattle.published_copy.proofs.writers.Copies.publish.Goals as goal

pub publish-requires : goal.publish-requires
publish-requires g c y is =
    let boot = g.B.Naming.boot in
    let list = made c.args.whole.now in
    let same : c.deref_mut-writer.result.now ≡ manually_drop_value c.self.inside.writer = search rules in
    let x : Copied = (manually_drop_value c.self.inside.writer).desk.shown.value in
    let now : IsShown boot y list × EndsWithReplies list (y.reply ∷ y.further) = shows_awaited boot c.args.self.now x y _ list c.self.view_is c.self.invariant.0 c.requires (is ∙ (λ i. fold absorbed (shown_of (same i).desk.shown.value) (drop (same i).behind (same i).log.items))) in
    let next = succeeds boot x y (list_of x.sealed x.seen.log) list c.self.invariant.0 now.0 in
    (next.0, next.1 ∙ (λ i. (sym same i).desk.shown.value.seen.book), next.2 ∙ (λ i. (sym same i).desk.shown.value.limits))

pub invariant_of-self : goal.invariant_of-self
invariant_of-self g c =
    let boot = g.B.Naming.boot in
    let list = made c.args.whole.now in
    let same : c.deref_mut-writer.result.now ≡ manually_drop_value c.self.inside.writer = search rules in
    let x : Copied = (manually_drop_value c.self.inside.writer).desk.shown.value in
    let y : Copied = c.publish.new.writer.desk.shown.value in
    let now : IsShown boot y list × EndsWithReplies list (y.reply ∷ y.further) = shows_awaited boot c.args.self.now x y _ list c.self.view_is c.self.invariant.0 c.requires
    (c.publish.ensures.shown ∙ (λ i. fold absorbed (shown_of (same i).desk.shown.value) (drop (same i).behind (same i).log.items))) in
    (shows_own boot y list now.0, λ _. c.publish.ensures.tag)

pub returns-clause-list : goal.returns-clause-list
returns-clause-list g c =
    let boot = g.B.Naming.boot in
    let list = made c.args.whole.now in
    let same : c.deref_mut-writer.result.now ≡ manually_drop_value c.self.inside.writer = search rules in
    let x : Copied = (manually_drop_value c.self.inside.writer).desk.shown.value in
    let y : Copied = c.publish.new.writer.desk.shown.value in
    let now : IsShown boot y list × EndsWithReplies list (y.reply ∷ y.further) = shows_awaited boot c.args.self.now x y _ list c.self.view_is c.self.invariant.0 c.requires
    (c.publish.ensures.shown ∙ (λ i. fold absorbed (shown_of (same i).desk.shown.value) (drop (same i).behind (same i).log.items))) in
    now.0.list_is

pub returns-clause-legal : goal.returns-clause-legal
returns-clause-legal g c =
    let boot = g.B.Naming.boot in
    let list = made c.args.whole.now in
    let same : c.deref_mut-writer.result.now ≡ manually_drop_value c.self.inside.writer = search rules in
    let x : Copied = (manually_drop_value c.self.inside.writer).desk.shown.value in
    let y : Copied = c.publish.new.writer.desk.shown.value in
    shown_legal boot y list (shows_awaited boot c.args.self.now x y _ list c.self.view_is c.self.invariant.0 c.requires
    (c.publish.ensures.shown ∙ (λ i. fold absorbed (shown_of (same i).desk.shown.value) (drop (same i).behind (same i).log.items)))).0

pub returns-clause-replies : goal.returns-clause-replies
returns-clause-replies g c =
    let boot = g.B.Naming.boot in
    let list = made c.args.whole.now in
    let same : c.deref_mut-writer.result.now ≡ manually_drop_value c.self.inside.writer = search rules in
    let x : Copied = (manually_drop_value c.self.inside.writer).desk.shown.value in
    let y : Copied = c.publish.new.writer.desk.shown.value in
    (shows_awaited boot c.args.self.now x y _ list c.self.view_is c.self.invariant.0 c.requires
    (c.publish.ensures.shown ∙ (λ i. fold absorbed (shown_of (same i).desk.shown.value) (drop (same i).behind (same i).log.items)))).1
