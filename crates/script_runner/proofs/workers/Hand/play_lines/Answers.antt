use Rattle.std.proofs.Common.{rules, ◌≡◌, ◌∙◌, ◌<◌, [], true, false, Some, Result, Option, ℕ, length, slice_get, sym, subst}
use Rattle.std.specs.Str.{bytes_eq}
use Rattle.base.specs.declared.refusals.Refusal.{Refusal}
use Rattle.script_runner.specs.Desks.{events_in, noted_in, seat_in}
use Rattle.script_runner.specs.Shared.{NotedStand, line_among, with_note, IsAfter}
use Rattle.script_runner.specs.Turns.{stand}
use Rattle.script_runner.proofs.SharedLaws.{mine_of, passed_by, played_more}
use Rattle.script_runner.proofs.workers.Hand.play_lines.Goals as goal

pub loop-place-preserved-then-not-is_of : goal.loop-place-preserved-then-not-is_of
loop-place-preserved-then-not-is_of g c =
    let within : c.loop-place.place < length c.args.phase.now = search rules in
    let other : c.is_of.result ≡ false = search rules in
    record {
      played = passed_by g.B.Naming.boot.limits c.args.known.now (seat_in c.args.seating.now) c.args.worker.now c.args.phase.now
          (with_note (noted_in c.args.seating.now) (stand (events_in c.args.seating.now) c.args.self.now.own [] c.args.self.now.answers))
          (with_note (noted_in c.loop-place.seating)
          (stand (events_in c.loop-place.seating) c.loop-place.self.own c.loop-place.self.batch.lines.items c.loop-place.self.answers))
          c.loop-place.place c.is_of.result within c.is_of.ensures other c.loop-place.invariant.played;
      seat = c.loop-place.invariant.seat;
    }

pub loop-place-preserved : goal.loop-place-preserved
loop-place-preserved g c =
    let p : NotedStand = with_note (noted_in c.loop-place.seating)
    (stand (events_in c.loop-place.seating) c.loop-place.self.own c.loop-place.self.batch.lines.items c.loop-place.self.answers) in
    let q : NotedStand = with_note (noted_in c.play_line.new.seating)
    (stand (events_in c.play_line.new.seating) c.play_line.new.self.own c.play_line.new.self.batch.lines.items c.play_line.new.self.answers) in
    let there : slice_get c.args.phase.now c.loop-place.place ≡ Some c.in-Some.line = sym c.line.ensures ∙ c.in-Some.is in
    let on : c.is_of.result ≡ true = search rules in
    let mine : bytes_eq c.in-Some.line.worker c.args.worker.now ≡ true
    = mine_of c.args.worker.now c.args.phase.now c.loop-place.place c.is_of.result c.in-Some.line c.is_of.ensures there on in
    let after = subst (λ (s : Result ℕ (Option Refusal)). IsAfter (line_among g.B.Naming.boot.limits c.args.known.now s p.stand c.in-Some.line) p q)
    c.loop-place.invariant.seat c.in_ok-play_line.ensures.line in
    record {
      played = played_more g.B.Naming.boot.limits c.args.known.now (seat_in c.args.seating.now) c.args.worker.now c.args.phase.now
          (with_note (noted_in c.args.seating.now) (stand (events_in c.args.seating.now) c.args.self.now.own [] c.args.self.now.answers)) p q c.loop-place.place c.in-Some.line there mine
          after c.loop-place.invariant.played;
      seat = c.in_ok-play_line.ensures.seat ∙ c.loop-place.invariant.seat;
    }
