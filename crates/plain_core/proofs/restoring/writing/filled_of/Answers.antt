use Rattle.std.proofs.Common.{◌++◌, ◌∙◌, ap}
use Rattle.checkpoints.specs.Restored.{slotted}
use Rattle.checkpoints.specs.Restorable.{has_slots}
use Rattle.plain_core.specs.Numbered.{filled_from}
use Rattle.plain_core.proofs.FillLaws.{filled_slots, has_filled}
use Rattle.plain_core.proofs.restoring.writing.filled_of.Goals as goal

pub returns-clause-slots : goal.returns-clause-slots
returns-clause-slots c =
    ap slotted (c.in_ok-fill.ensures ∙ ap (λ fs. fs ++ filled_from 0 c.args.slots.now) c.new-filled.ensures)
    ∙ filled_slots c.args.slots.now c.requires

pub returns-clause-rise : goal.returns-clause-rise
returns-clause-rise c =
    ap has_slots (c.in_ok-fill.ensures ∙ ap (λ fs. fs ++ filled_from 0 c.args.slots.now) c.new-filled.ensures)
    ∙ has_filled c.args.slots.now c.requires
