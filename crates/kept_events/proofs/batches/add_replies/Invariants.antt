use Rattle.std.proofs.Common.{◌≡◌, ◌++◌, take, vec_capacity}
use Rattle.kept_events.proofs.batches.add_replies.Given as goal

abbrev pub invariant-loop-reply : goal.invariant-loop-reply
invariant-loop-reply l = (l.kept.items ≡ l.fn.kept.items ++ take l.reply-index l.replies) × (vec_capacity l.kept ≡ vec_capacity l.fn.kept)
