use Rattle.std.proofs.Common.{◌≡◌, ◌++◌, ◌∷◌, [], List, ap, sym, ◌∙◌}
use Rattle.std.proofs.lemmas.List.{append-nil}
use mathlib.Core.List.{IsPrefix}
use Rattle.shared_calls.specs.Lists.{made}
use Rattle.shared_calls.specs.Seats.{SeatView}
use Rattle.shared_calls.specs.declared.rules.Made.{Made}
use Rattle.shared_calls.proofs.seats.Seat.take_next.Goals as goal

-- a seat that has seen the same is as it was
same_seen : (before : SeatView) (seen log : List Made) → seen ≡ before.seen → log ≡ seen → IsPrefix before.seen log
same_seen before seen log was is = ([], append-nil before.seen ∙ (sym was ∙ sym is))

pub returns-then-not-reach : goal.returns-then-not-reach
returns-then-not-reach c =
    let view = c.self.view_is in (
      ap (λ v. v.limits) view,
      ap (λ v. v.list) view,
      ap (λ v. v.is_logged) view,
      same_seen c.args.self.now c.self.inside.known.cursor.seen.log c.reach.new.cursor.seen.log (ap (λ v. v.seen) view) (ap (λ s. s.log) c.reach.ensures.seen),
      ap (λ v. v.mark) view,
    )

pub returns-in_default : goal.returns-in_default
returns-in_default c =
    let view = c.self.view_is in (
      ap (λ v. v.limits) view,
      ap (λ v. v.list) view,
      ap (λ v. v.is_logged) view,
      same_seen c.args.self.now c.self.inside.known.cursor.seen.log c.reach.new.cursor.seen.log (ap (λ v. v.seen) view) (ap (λ s. s.log) c.reach.ensures.seen),
      ap (λ v. v.mark) view,
    )

pub returns-in_default-get_mut : goal.returns-in_default-get_mut
returns-in_default-get_mut c =
    let view = c.self.view_is in (
      ap (λ v. v.limits) view,
      ap (λ v. v.list) view,
      ap (λ v. v.is_logged) view,
      same_seen c.args.self.now c.self.inside.known.cursor.seen.log c.reach.new.cursor.seen.log (ap (λ v. v.seen) view) (ap (λ s. s.log) c.reach.ensures.seen),
      ap (λ v. v.mark) view,
    )

pub returns : goal.returns
returns c =
    let view = c.self.view_is in
    let before : List Made = c.self.inside.known.cursor.seen.log in
    let next = c.in-Some.next.now in
    let told = c.in-Some.ensures.log in
    let m : Made = made told.0 next.thread (next.call ∷ next.more.items) in
    let log : c.step.new.self.seen.log ≡ before ++ m ∷ [] =
    ap (λ s. s.log) c.step.ensures.seen ∙ (ap (λ s. s.log) c.again-seen.ensures
    ∙ (told.1 ∙ ap (λ (l : List Made). l ++ m ∷ []) (ap (λ s. s.log) c.reach.ensures.seen))) in (
      ap (λ v. v.limits) view,
      ap (λ v. v.list) view,
      ap (λ v. v.is_logged) view,
      (m ∷ [], ap (λ (l : List Made). l ++ m ∷ []) (sym (ap (λ v. v.seen) view)) ∙ sym log),
      ap (λ v. v.mark) view,
    )
