-- The calls of a batch after its first, and their replies.
use Rattle.std.proofs.Common.{◌≡◌, map, length, Option, Some, None, refl, sym}
use Rattle.std.specs.Prelude.{Box}
use Rattle.std.specs.Global.{Global}
use Rattle.kernel_rules.proofs.BatchLaws.{answers_replies}
use Rattle.kept_events.specs.Batches.{rest_answers, rest_replies, AreAnswered}
use Rattle.kept_events.specs.declared.batches.Rest.{Rest}

pub rest_told : (rest : Option (Box Rest Global)) → AreAnswered rest → map (λ a. a.reply) (rest_answers rest) ≡ rest_replies rest
rest_told None same = refl
rest_told (Some apart) same = answers_replies apart.value.calls.items apart.value.replies.items same
