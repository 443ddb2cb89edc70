use Rattle.std.proofs.Common.{◌≡◌, ◌∙◌, ℕ, List, [], Some, length, option_map, position, refl, slice_get, sym}
use Rattle.std.specs.Str.{bytes_eq}
use Rattle.std.proofs.lemmas.Option.{slice_get_read}
use Rattle.base.specs.declared.ranges.Limits.{Limits}
use Rattle.call_text.specs.declared.phases.Line.{Line}
use Rattle.script_rules.specs.Lines.{lines_by}
use Rattle.script_runner.specs.Turns.{stand}
use Rattle.script_runner.specs.declared.answers.Left.{Left}
use Rattle.script_runner.proofs.NumberLaws.{place_as_bytes}
use Rattle.script_runner.proofs.PhaseLaws.{phase_run}
use Rattle.script_runner.proofs.lone_play.play_phase.Goals as goal

pub returns : goal.returns
returns g c r was =
    let limits : Limits = g.B.Naming.boot.limits in
    let workers : List (List ℕ) = c.args.workers.now.keys in
    let left : List Left = c.args.played.now.items in
    let lines : List Line = c.args.phase.now in
    let w : List ℕ = c.in-Some.name in
    let i : ℕ = c.in-Some-get_index_of.index in
    let old : Left = c.in-Some-get_mut.own.now in
    let first : option_map (λ (l : Line). l.worker) (slice_get lines 0) ≡ Some w = sym c.worker.ensures ∙ c.in-Some.is in
    let place : position (bytes_eq w) workers ≡ Some i
    = sym (place_as_bytes workers w) ∙ sym c.get_index_of.ensures.index ∙ c.in-Some-get_index_of.is in
    let there : slice_get left i ≡ Some old
    = slice_get_read left (length left) i old refl c.in-Some-get_mut.ensures.item.3.0 c.in-Some-get_mut.ensures.value in
    let new : Left = record c.sit-seat.new.own { answers = c.play_lines.new.answers } in
    phase_run limits g.B.Naming.boot.seats workers w i lines c.args.player.now.desk c.sit-seat.new.desk c.play_lines.new.self.desk
    c.args.player.now.names c.play_lines.new.self.names left old new c.play_lines.new.self.batch.lines.items c.value_of-bound.result c.sit-seat.result
    c.requires first place there c.value_of-bound.ensures c.sit-seat.ensures.seat c.sit-seat.ensures.thread
    c.sit-seat.ensures.seated c.sit-seat.ensures.journal c.play_lines.ensures.seated
    (c.in_ok-play_lines.ensures.stands
    ∙ (λ k. lines_by limits c.sit-seat.result (stand c.sit-seat.new.desk.journal c.args.player.now.names [] (c.sit-seat.ensures.answers k)) lines))
    r was
