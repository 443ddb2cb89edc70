use Rattle.std.proofs.Common.{length, refl, ap, sym, ◌∙◌}
use Rattle.shared_calls.proofs.Adding.{adds_moves}
use Rattle.shared_calls.proofs.lists.CallList.exchange.Goals as goal

pub compare_exchange-found-requires : goal.compare_exchange-found-requires
compare_exchange-found-requires c =
    let h = c.args.self.now.headed in
    let known = c.requires.known in
    let same = c.again-next.ensures in
    let offer = c.plain-offer.ensures in (
      ap (λ w. w.tracked) h,
      ap (λ s. s.book) same ∙ (known.list ∙ sym (ap (λ w. w.book) h)),
      known.pen ∙ sym (ap (λ w. w.book) h),
      offer.0,
      rw (ap (λ w. w.key) h, offer.1, offer.3)
          (adds_moves c.again-next.result.log _ c.args.known.now.pen.nib c.args.known.now.cursor.count _ _
          (ap (λ s. length s.log) same ∙ sym known.placed.count) refl known.right refl c.requires.size),
    )
