use Rattle.std.proofs.Common.{◌≡◌, nat_lt, nat_le, ◌∙◌, ap}
use Rattle.std.specs.List.{list_all}
use Rattle.checkpoints.specs.Restorable.{threads_rise}
use Rattle.checkpoints.specs.Starts.{number_of}
use Rattle.checkpoints.specs.declared.checkpoints.NextNumber.{NextNumber}
use Rattle.plain_core.specs.Kernel.{kernel_state}
use Rattle.plain_core.proofs.CheckpointLaws.{written_state, written_restorable}
use Rattle.plain_core.proofs.checkpointing.checkpoint.Goals as goal

pub write-requires : goal.write-requires
write-requires c = c.in_ok-kernel.ensures.sound.plain

pub returns-clause-written : goal.returns-clause-written
returns-clause-written c =
    let next : c.in_ok-made.made.next ≡ c.in_ok-next.next.items = c.in_ok-made.ensures.next in
    let same = written_state c.args.limits.now c.args.events.now (kernel_state c.in_ok-kernel.kernel) c.in_ok-made.made
    c.in_ok-kernel.ensures.state c.in_ok-made.ensures.value in
    record {
      state = same ∙ c.in_ok-kernel.ensures.state;
      numbers = λ t. ap (λ ns. number_of ns t) next ∙ c.in_ok-next.ensures.numbers t;
      rise = ap threads_rise next ∙ c.in_ok-next.ensures.rise;
      later = ap (list_all (λ (n : NextNumber). nat_le 2 n.number)) next ∙ c.in_ok-next.ensures.later;
    }

pub returns-clause-restorable : goal.returns-clause-restorable
returns-clause-restorable c =
    λ h.
    let next : c.in_ok-made.made.next ≡ c.in_ok-next.next.items = c.in_ok-made.ensures.next in
    let same = written_state c.args.limits.now c.args.events.now (kernel_state c.in_ok-kernel.kernel) c.in_ok-made.made
    c.in_ok-kernel.ensures.state c.in_ok-made.ensures.value in
    written_restorable c.args.limits.now c.in_ok-made.made (kernel_state c.in_ok-kernel.kernel) same
    c.well_formed-2.ensures c.in_ok-kernel.ensures.sound c.in_ok-made.ensures.slots
    (ap threads_rise next ∙ c.in_ok-next.ensures.rise)
    (ap (list_all (λ (n : NextNumber). nat_le 2 n.number)) next ∙ c.in_ok-next.ensures.later)
    (ap (list_all (λ (n : NextNumber). nat_lt n.thread c.in_ok-made.made.next_id)) next
    ∙ c.in_ok-next.ensures.threads (λ t. nat_lt t c.in_ok-made.made.next_id) h)
