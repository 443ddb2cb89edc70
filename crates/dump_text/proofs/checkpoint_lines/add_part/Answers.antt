use Rattle.std.proofs.Common.{◌++◌, ◌∷◌, [], ap, sym, ◌∙◌}
use Rattle.checkpoints.specs.declared.checkpoints.Recorded.{Recorded}
use Rattle.dump_text.specs.CheckpointLines.{recorded, with_last}
use Rattle.dump_text.proofs.Told.{last_push}
use Rattle.dump_text.proofs.checkpoint_lines.add_part.Goals as goal

pub returns-in_ok-push : goal.returns-in_ok-push
returns-in_ok-push c =
    c.in_ok-push.ensures.items
    ∙ ap (λ (r : Recorded). c.pop.new.self.items ++ r ∷ []) (c.recorded.ensures ∙ (λ i. recorded c.in-Some.last.id (c.common_of-common.ensures i) (c.in_ok-body.ensures i)))
    ∙ sym (last_push c.args.part.now c.pop.new.self.items c.in-Some.last)
    ∙ sym (ap (with_last c.args.part.now) c.in-Some.ensures.items)
