use Rattle.std.proofs.Common.{sym, ◌∙◌, ap}
use Rattle.published_copy.proofs.Adding.{looks_moves}
use Rattle.published_copy.proofs.logs.weighed.Goals as goal

pub load-weight-requires : goal.load-weight-requires
load-weight-requires c =
    let h = c.requires in
    let same = c.again-seen.ensures in
    let offer = c.plain-offer.ensures in (
      ap (λ w. w.tracked) h,
      ap (λ s. s.book) same ∙ sym (ap (λ w. w.book) h),
      offer.0,
      rw (ap (λ w. w.key) h) (looks_moves c.again-seen.result.log c.plain-offer.result.ask c.plain-offer.result.state),
    )
