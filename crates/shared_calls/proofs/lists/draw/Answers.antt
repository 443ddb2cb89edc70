use Rattle.std.proofs.Common.{List, [], ap, sym, ◌∙◌, subst}
use Rattle.shared_calls.specs.Lists.{IsSource, made}
use Rattle.shared_calls.specs.declared.rules.Made.{Made}
use Rattle.shared_calls.proofs.Adding.{draws_moves}
use Rattle.shared_calls.proofs.lists.draw.Goals as goal

pub compare_exchange-requires : goal.compare_exchange-requires
compare_exchange-requires c =
    let w = c.requires.word in
    let same = c.again-later.ensures in
    let offer = c.plain-offer.ensures in
    let pen = c.no_pen-pen.ensures in
    let book = ap (λ s. s.book) same ∙ sym (ap (λ x. x.book) w) in
    let key = c.args.from.now.key in (
      ap (λ x. x.tracked) w,
      book,
      pen.0 ∙ book,
      offer.0,
      rw (pen.1, offer.3)
          (draws_moves c.again-later.result.log (made 0 0 []) _ key (subst (λ (l : List Made). IsSource key l) (sym (ap (λ s. s.log) same)) c.requires.source)),
    )
