use Rattle.std.proofs.Common.{◌∙◌, ap}
use Rattle.std.proofs.lemmas.Result.{IfOk-weaker}
use Rattle.clap.specs.Walk.{rule_of}
use Rattle.clap.specs.declared.builder.Arg.{Arg}
use Rattle.program_args.proofs.Commands.{arg_added}
use Rattle.program_args.proofs.show.with_flows.Goals as goal

pub returns : goal.returns
returns c = λ app is.
    IfOk-weaker c.arg-2.result _ _ (λ new added.
    arg_added _ _ _ _ _ added
    (ap rule_of c.help-category.ensures ∙ c.in_ok-number_beside-2.ensures.rule)
    (ap (λ (a : Arg). a.global) c.help-category.ensures ∙ c.in_ok-number_beside-2.ensures.local)
    (arg_added _ _ _ _ _ c.in_ok-arg.ensures
    (ap rule_of c.help-object.ensures ∙ c.in_ok-number_beside.ensures.rule)
    (ap (λ (a : Arg). a.global) c.help-object.ensures ∙ c.in_ok-number_beside.ensures.local)
    is))
    c.arg-2.ensures
