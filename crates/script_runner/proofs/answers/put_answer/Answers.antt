use Rattle.std.proofs.Common.{◌∙◌, ◌++◌, ap, sym}
use Rattle.script_rules.specs.Output.{answer_text}
use Rattle.script_runner.specs.Answers.{answer_of}
use Rattle.script_runner.specs.declared.answers.KeptAnswer.{KeptAnswer}
use Rattle.script_runner.proofs.answers.put_answer.Goals as goal

pub returns-in_ok-put_unbound-in-Unbound : goal.returns-in_ok-put_unbound-in-Unbound
returns-in_ok-put_unbound-in-Unbound c = record {
  text = c.in_ok-put_unbound-in-Unbound.ensures.text c.args.names.now
      ∙ ap (λ (a : KeptAnswer). c.args.out.now.items ++ answer_text c.args.names.now (answer_of c.args.kept.now c.args.whole.now a))
      (sym c.in-Unbound.is);
}
