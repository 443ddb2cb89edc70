use Rattle.std.proofs.Common.{◌∙◌, ap, ◌++◌, ◌∷◌, [], take, append_assoc}
use Rattle.kernel_rules.specs.Events.{answers, told}
use Rattle.kernel_rules.proofs.BatchLaws.{answers_more, answers_all}
use Rattle.kept_events.proofs.events.tell_answers.Goals as goal

pub loop-place-preserved : goal.loop-place-preserved
loop-place-preserved c = (
  c.tell_answer.ensures.added
      ∙ ap (λ l. l ++ told c.index-calls-place.result c.index-replies-place.result ∷ []) c.loop-place.invariant.0
      ∙ append_assoc c.args.all.now.items (take c.loop-place.place (answers c.args.calls.now c.args.replies.now))
      (told c.index-calls-place.result c.index-replies-place.result ∷ [])
      ∙ ap (λ l. c.args.all.now.items ++ l)
      (answers_more c.args.calls.now c.args.replies.now c.loop-place.place _ _ c.requires.each c.loop-place-test.true c.index-calls-place.is c.index-replies-place.is),
  c.tell_answer.ensures.capacity ∙ c.loop-place.invariant.1,
)

pub returns : goal.returns
returns c =
    c.loop-place.invariant.0
    ∙ ap (λ l. c.args.all.now.items ++ l)
    (answers_all c.args.calls.now c.args.replies.now c.loop-place.place c.requires.each c.loop-place-test.false)
