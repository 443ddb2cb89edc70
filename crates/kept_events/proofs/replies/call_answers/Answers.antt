use Rattle.kernel_rules.specs.Step.{answer}
use Rattle.kernel_rules.specs.Table.{refused}
use Rattle.kept_events.proofs.AnswerLemmas.{answer_kept}
use Rattle.kept_events.proofs.replies.call_answers.Goals as goal

pub returns : goal.returns
unfolding answer
returns c = λ s t call. answer_kept (refused s t call) s t call
