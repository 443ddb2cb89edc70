use Rattle.std.proofs.Common.{◌≡◌, ◌++◌, take, vec_capacity}
use Rattle.published_copy.proofs.receipts.add_replies.Given as goal

abbrev pub invariant-loop-reply : goal.invariant-loop-reply
invariant-loop-reply l = (l.replies.items ≡ l.fn.replies.items ++ take l.reply-index l.kept) × (vec_capacity l.replies ≡ vec_capacity l.fn.replies)
