-- The state at boot, and whole runs from a state.
use Rattle.std.specs.Prelude.{ℕ, List, [], ◌∷◌}
use Rattle.base.specs.declared.levels.Level.TheVariants.{L1, L2}
use Rattle.base.specs.declared.ranges.Limits.{Limits}
use Rattle.base.specs.Sets.{no_kind}
use Rattle.kernel_rules.specs.State.{State}
use Rattle.kernel_rules.specs.Changes.{fresh_object}
use Rattle.kernel_rules.specs.Step.{answer, next, uniform, new_thread}
use Rattle.kernel_rules.specs.declared.calls.Call.{Call}
use Rattle.kernel_rules.specs.declared.replies.Reply.{Reply}
use Rattle.kernel_rules.specs.declared.objects.Object.{Object}
use Rattle.kernel_rules.specs.declared.objects.Body.TheVariants as is

-- the root container, which holds the boot thread and the device, in this order
abbrev pub root_object : Limits → Object
root_object l = fresh_object (uniform L1) l.pages (is.Container no_kind (2 ∷ 3 ∷ []))

-- the boot thread, whose address space is none
abbrev pub boot_thread : Object
boot_thread = fresh_object (uniform L1) 1 (new_thread (uniform L2) 0)

-- the device, of the label that the limits give
abbrev pub device_object : Limits → Object
device_object l = fresh_object (uniform l.device) 2 (is.Device [])

-- the newly booted state: the root 1, the boot thread 2 and the device 3
abbrev pub booted : Limits → State
booted l = record {
  limits = l;
  objects = (1, root_object l) ∷ (2, boot_thread) ∷ (3, device_object l) ∷ [];
  next_id = l.next_id;
  next_category = l.next_category;
}

-- the state after calls, each by a thread, one after another
abbrev pub state_after : State → List (ℕ × Call) → State
state_after s [] = s
state_after s (c ∷ calls) = state_after (next s c.0 c.1) calls

-- their replies, in order
abbrev pub replies_to : State → List (ℕ × Call) → List Reply
replies_to s [] = []
replies_to s (c ∷ calls) = answer s c.0 c.1 ∷ replies_to (next s c.0 c.1) calls
