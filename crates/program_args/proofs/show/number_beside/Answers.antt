use Rattle.std.proofs.Common.{◌∙◌, ap}
use Rattle.std.proofs.lemmas.Result.{IfOk-weaker}
use Rattle.clap.specs.declared.builder.Arg.{Arg}
use Rattle.program_args.proofs.Commands.{needs_added}
use Rattle.program_args.proofs.show.number_beside.Goals as goal

pub returns-clause-rule : goal.returns-clause-rule
returns-clause-rule c =
    IfOk-weaker c.requires_arg.result _ _ (λ new added. needs_added _ c.number.result new _ added c.number.ensures.rule) c.requires_arg.ensures

pub returns-clause-local : goal.returns-clause-local
returns-clause-local c =
    IfOk-weaker c.requires_arg.result _ _ (λ new added. ap (λ (a : Arg). a.global) added.0 ∙ c.number.ensures.local) c.requires_arg.ensures
