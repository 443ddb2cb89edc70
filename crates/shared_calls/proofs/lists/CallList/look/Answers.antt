use Rattle.std.proofs.Common.{List, [], ap, sym, ◌∙◌, subst, ◌≢◌}
use mathlib.Core.List.{IsPrefix}
use Rattle.shared_calls.specs.Lists.{made}
use Rattle.shared_calls.specs.declared.rules.Made.{Made}
use Rattle.shared_calls.proofs.Adding.{looks_moves}
use Rattle.shared_calls.proofs.Marks.{all_prefix, marked_prefix}
use Rattle.shared_calls.proofs.lists.CallList.look.Goals as goal

pub compare_exchange-requires : goal.compare_exchange-requires
compare_exchange-requires c =
    let h = c.args.self.now.headed in
    let known = c.requires.known in
    let same = c.again-later.ensures in
    let offer = c.plain-offer.ensures in (
      ap (λ w. w.tracked) h,
      ap (λ s. s.book) same ∙ (c.requires.book ∙ sym (ap (λ w. w.book) h)),
      known.pen ∙ sym (ap (λ w. w.book) h),
      offer.0,
      rw (ap (λ w. w.key) h, offer.3) (looks_moves c.again-later.result.log (made 0 0 []) c.args.known.now.pen.nib _ known.right),
    )

pub returns-clause-lacks : goal.returns-clause-lacks
returns-clause-lacks c =
    let key = c.args.known.now.pen.nib.key in
    let log = c.args.seen.now.log in
    let later = c.compare_exchange.new.seen.log in
    let told = c.compare_exchange.ensures in
    let begins : IsPrefix log later = subst (λ (l : List Made). IsPrefix l later) (ap (λ s. s.log) c.again-later.ensures) told.6 in
    all_prefix (λ m. m.mark ≢ key) log later begins told.7.1

pub returns-clause-marked : goal.returns-clause-marked
returns-clause-marked c =
    let log = c.args.seen.now.log in
    let later = c.compare_exchange.new.seen.log in
    let told = c.compare_exchange.ensures in
    let begins : IsPrefix log later = subst (λ (l : List Made). IsPrefix l later) (ap (λ s. s.log) c.again-later.ensures) told.6 in
    marked_prefix log later begins told.7.2
