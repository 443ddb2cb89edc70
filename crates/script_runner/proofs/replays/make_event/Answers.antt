use Rattle.std.proofs.Common.{◌∙◌, ap, List, map}
use Rattle.kernel_rules.specs.Events.{Event, by, calls_in}
use Rattle.kernel_rules.specs.declared.histories.events.Answered.{Answered}
use Rattle.kernel_rules.specs.Runs.{state_after}
use Rattle.syscall_core.specs.Kernel.{kernel_state}
use Rattle.script_runner.proofs.replays.make_event.Goals as goal

pub returns : goal.returns
returns c =
    c.make.ensures
    ∙ ap (λ (l : List Answered). state_after (kernel_state c.args.kernel.now) (by c.event.inside.thread (map (λ a. a.call) l)))
    c.as_slice.ensures.value
    ∙ ap (λ (e : Event). state_after (kernel_state c.args.kernel.now) (by e.thread (calls_in e))) c.event.view_is
