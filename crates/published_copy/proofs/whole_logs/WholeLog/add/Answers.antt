use Rattle.std.proofs.Common.{◌+◌, [], ◌∷◌, sym, ◌∙◌, ap, arith}
use Rattle.published_copy.specs.Entries.{weight}
use Rattle.published_copy.proofs.EntryLaws.{weight-append}
use Rattle.published_copy.proofs.Adding.{adds_moves, added}
use Rattle.published_copy.proofs.whole_logs.WholeLog.add.Goals as goal

pub compare_exchange-found-requires : goal.compare_exchange-found-requires
compare_exchange-found-requires g c =
    let h = c.requires.head in
    let same = c.again-seen.ensures in
    let offer = c.plain-offer.ensures in
    let pen = c.no_pen-pen.ensures in
    let book = ap (λ s. s.book) same ∙ (c.self.invariant.1 ∙ sym (ap (λ w. w.book) h)) in (
      ap (λ w. w.tracked) h,
      book,
      pen.0 ∙ book,
      offer.0,
      rw (ap (λ w. w.key) h, pen.1, offer.1, offer.3) (adds_moves c.again-seen.result.log _ c.self.inside.weight _ _ (ap (λ s. weight s.log) same ∙ sym c.self.invariant.0) (ap (λ n. c.self.inside.weight + n) c.requires.weighs)),
    )

pub invariant_of-self : goal.invariant_of-self
invariant_of-self g c =
    let h = c.compare_exchange-found.ensures in
    let same = c.again-seen.ensures in
    let grown = added c.compare_exchange-found.result c.self.inside.weight c.again-seen.result.log c.compare_exchange-found.new.seen.log c.plain-offer.result.ask c.if-found-weight.false h.7 in (
      omega (arith, c.self.invariant.0, c.requires.weighs, ap weight grown, weight-append c.again-seen.result.log (c.plain-offer.result.ask ∷ []), ap (λ s. weight s.log) same, ap (λ e. weight (e ∷ [])) c.plain-offer.ensures.1),
      h.0 ∙ (ap (λ s. s.book) same ∙ c.self.invariant.1),
    )
