use Rattle.std.proofs.Common.{ap, ◌∙◌}
use Rattle.shared_calls.specs.declared.lists.CallList.{CallList}
use Rattle.shared_calls.proofs.seats.Seat.beside.Goals as goal

pub returns : goal.returns
returns c =
    let view = c.self.view_is in
    let told = c.in_ok-chair.ensures in
    let limits = ap (λ (l : CallList). l.limits) told.list ∙ ap (λ v. v.limits) view in
    let list = ap (λ (l : CallList). l.start.book) told.list ∙ ap (λ v. v.list) view in
    let is_logged = ap (λ (l : CallList). l.is_logged) told.list ∙ ap (λ v. v.is_logged) view in
    let seen = ap (λ s. s.log) told.seen ∙ ap (λ v. v.seen) view in (
      c.in_ok-chair.known.pen.nib.key,
      λ i. record { limits = limits i; list = list i; is_logged = is_logged i; seen = seen i; mark = c.in_ok-chair.known.pen.nib.key },
    )
