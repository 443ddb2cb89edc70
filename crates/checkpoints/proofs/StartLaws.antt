-- What comes after a checkpoint.
use Rattle.std.proofs.Common.{◌≡◌, ◌+◌, List, ◌∷◌, ◌++◌, sym, ◌∙◌, ap}
use Rattle.base.specs.declared.ranges.Limits.{Limits}
use Rattle.kernel_rules.specs.State.{State}
use Rattle.kernel_rules.specs.Events.{Event, calls_in}
use Rattle.kernel_rules.specs.History.{answered, boot_start, count, later, state_from, FollowsFrom, IsLegal, IsLegalFrom}
use Rattle.kernel_rules.proofs.LaterLaws.{legal_later}
use Rattle.checkpoints.specs.Starts.{start_of, IsCheckpointOf}
use Rattle.checkpoints.specs.Checkpoint.{Checkpoint}

pub later_legal : (limits : Limits) (c : Checkpoint) (before after : List Event) → IsCheckpointOf limits before c
    → IsLegal limits (before ++ after) → IsLegalFrom (start_of limits c) after
later_legal limits c before after of legal xs ys e is =
    let f : FollowsFrom (later (boot_start limits) before) xs e =
    legal_later (boot_start limits) before after legal xs ys e is in
    record {
      size = f.size;
      number = f.number ∙ ap (λ n. count e.thread xs + n) (sym (of.numbers e.thread));
      replies = f.replies ∙ ap (λ (s : State). answered (state_from s xs) e.thread (calls_in e)) (sym of.state);
    }
