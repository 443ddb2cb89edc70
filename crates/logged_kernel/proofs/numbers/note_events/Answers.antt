use Rattle.std.proofs.Common.{◌==◌, ◌+◌, ◌≤◌, ℕ, Option, cond, nat_cmp, ◌∙◌, ap, arith}
use Rattle.std.specs.Option.{unwrap_or}
use Rattle.std.specs.BTreeMap.{get}
use Rattle.checkpoints.specs.Starts.{number_of}
use Rattle.logged_kernel.proofs.NumberLaws.{counted_at, counted_more, counted_read, noted_value, number_some}
use Rattle.logged_kernel.proofs.numbers.note_events.Goals as goal
use Rattle.logged_kernel.proofs.numbers.note_events.Goals.{in-Event+in-Some+in_ok-note-in-Event, in-Read}

pub note-requires : goal.note-requires
note-requires c =
    let e = c.in-Event.event in
    let own = counted_at c.args.first.now c.args.entries.now c.loop-entry.entry-index c.entry-item.result e c.requires.events c.loop-entry-test.true
    c.entry-item.is c.in-Event.is in
    let some : 1 ≤ number_of c.args.first.now e.thread = number_some c.args.first.now e.thread c.requires.first in
    omega (arith, own, c.in-Some.ensures, c.number.ensures)

pub loop-entry-preserved : goal.loop-entry-preserved
loop-entry-preserved c =
    let first = c.args.first.now in
    let es = c.args.entries.now in
    let place = c.loop-entry.entry-index in
    let x = c.entry-item.result in
    elim c.match-entry.branch [
      | in-Event+in-Some+in_ok-note-in-Event w ↦ rw w.numbers-is (record {
        value = λ t below.
            ap (λ (o : Option ℕ). unwrap_or o 1) (w.in_ok-note-in-Event.ensures.value t below)
            ∙ noted_value (w.thread.result == t) w.in-Some.number (get nat_cmp c.loop-entry.numbers t)
            ∙ ap (λ (k : ℕ). cond (k == t) w.in-Some.number (unwrap_or (get nat_cmp c.loop-entry.numbers t) 1)) w.thread.ensures
            ∙ counted_more first es place x w.in-Event.event t (unwrap_or (get nat_cmp c.loop-entry.numbers t) 1) w.in-Some.number
            c.requires.events c.loop-entry-test.true c.entry-item.is w.in-Event.is (c.loop-entry.invariant.value t below)
            (w.in-Some.ensures ∙ ap (λ n. n + 1) w.number.ensures);
        noted = w.in_ok-note-in-Event.ensures.noted c.loop-entry.invariant.noted;
      })
      | in-Read w ↦ rw w.numbers-is (record {
        value = λ t below.
            counted_read first es place x _ t (unwrap_or (get nat_cmp c.loop-entry.numbers t) 1) c.loop-entry-test.true c.entry-item.is w.in-Read.is
            (c.loop-entry.invariant.value t below);
        noted = c.loop-entry.invariant.noted;
      })
    ]
