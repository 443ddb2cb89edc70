use Rattle.std.proofs.Common.{List, length, ap, sym, ◌∙◌, subst}
use mathlib.Core.List.{IsPrefix}
use Rattle.syscall_core.specs.Kernel.{kernel_state}
use Rattle.shared_calls.specs.Dumps.{DumpView, IsDumpTo}
use Rattle.shared_calls.specs.Seats.{SeatView, state_of}
use Rattle.shared_calls.specs.declared.cursors.Cursor.{Cursor}
use Rattle.shared_calls.specs.declared.lists.CallList.{CallList}
use Rattle.shared_calls.specs.declared.rules.Made.{Made}
use Rattle.shared_calls.proofs.TellingLaws.{since_is}
use Rattle.shared_calls.proofs.seats.Seat.begin_dump_to.Goals as goal

pub returns-clause-begun : goal.returns-clause-begun
returns-clause-begun c =
    let view = c.self.view_is in
    let cursor = c.self.inside.known.cursor in
    let told = c.in_ok-telling.ensures in
    let telling = c.in_ok-telling.telling in
    let end = c.in_ok-end.ensures in
    let limits = ap (λ v. v.limits) view in
    let seen = ap (λ v. v.seen) view in
    let begins : IsPrefix cursor.seen.log telling.end.seen.log =
    subst (λ (e : Cursor). IsPrefix cursor.seen.log e.seen.log) (sym told.end) end.begins in
    subst (λ (d : DumpView). IsDumpTo c.args.count c.args.self.now d) (sym c.begun.ensures)
    (since_is telling c.args.count c.args.self.now told.telling (ap (λ (l : CallList). l.limits) told.list ∙ limits)
    (told.state ∙ (ap kernel_state c.deref.ensures ∙ (c.self.invariant.1 ∙ ap (λ (v : SeatView). state_of v.limits v.seen) view)))
    (told.before ∙ (c.self.invariant.0.placed.count ∙ ap length seen))
    (ap (λ (e : Cursor). e.seen.book) told.end ∙ (end.list ∙ (c.self.invariant.0.list ∙ ap (λ v. v.list) view)))
    (subst (λ (l : List Made). IsPrefix l telling.end.seen.log) seen begins)
    (ap (λ (e : Cursor). e.count) told.end ∙ end.count))
