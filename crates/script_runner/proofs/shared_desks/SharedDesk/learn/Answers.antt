use Rattle.std.proofs.Common.{◌≡◌, ◌∙◌, List, Some, ap, slice_get, sym}
use Rattle.std.proofs.lemmas.Option.{slice_get-get_or}
use Rattle.kernel_rules.specs.Events.{Event}
use Rattle.published_copy.proofs.Prefixes.{prefix_trans}
use Rattle.script_runner.proofs.SharedLaws.{learnt_more}
use Rattle.script_runner.proofs.shared_desks.SharedDesk.learn.Goals as goal

pub loop-note-preserved : goal.loop-note-preserved
loop-note-preserved g c =
    let note : List Event = c.note-item.result in
    let there : slice_get c.args.notes.now c.loop-note.note-index ≡ Some note
    = slice_get-get_or c.args.notes.now c.loop-note.note-index note c.loop-note-test.true ∙ ap Some (sym c.note-item.is) in
    let before = c.loop-note.self-inside.seat in
    let after = c.learn.new.self in
    record {
      thread = c.learn.ensures.0 ∙ c.loop-note.invariant.thread;
      seen = prefix_trans c.args.self.now.events before.pass.seen after.pass.seen c.loop-note.invariant.seen c.learn.ensures.2.1;
      noted = prefix_trans c.args.self.now.noted before.told after.told c.loop-note.invariant.noted c.learn.ensures.3.1;
      learnt = learnt_more c.args.notes.now c.loop-note.note-index note before.told after.told there c.learn.ensures.3.1 c.learn.ensures.3.2
          c.loop-note.invariant.learnt;
    }
