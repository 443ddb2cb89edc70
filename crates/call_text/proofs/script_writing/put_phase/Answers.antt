use Rattle.std.proofs.Common.{◌∙◌, sym, ap}
use Rattle.call_text.proofs.ScriptLemmas.{written_all, written_more}
use Rattle.call_text.proofs.script_writing.put_phase.Goals as goal
use Rattle.call_text.proofs.script_writing.put_phase.Goals.{in-Some+in_ok-put_line, in_default}

pub loop-place-preserved : goal.loop-place-preserved
loop-place-preserved c = elim c.match-line.branch [
  | in-Some+in_ok-put_line w ↦
      written_more c.args.out.now.items c.loop-place.out.items c.match-line.out.items c.args.phase.now c.loop-place.place w.in-Some.line (ap (λ v. v.items) w.out-is ∙ w.in_ok-put_line.ensures) c.loop-place.invariant (sym w.in-Some.is ∙ c.line.ensures)
  | in_default w ↦ written_all c.args.out.now.items c.loop-place.out.items c.match-line.out.items c.args.phase.now c.loop-place.place (ap (λ v. v.items) w.out-is) c.loop-place.invariant (sym w.in_default.is ∙ c.line.ensures)
]
