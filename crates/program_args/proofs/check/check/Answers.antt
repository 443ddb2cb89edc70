use Rattle.std.proofs.lemmas.Result.{IfOk-weaker}
use Rattle.program_args.proofs.Commands.{about_told, arg_added}
use Rattle.program_args.proofs.check.check.Goals as goal

pub returns : goal.returns
returns c =
    IfOk-weaker c.arg-2.result _ _ (λ new added. arg_added _ _ _ _ _ added c.plain.ensures.rule c.plain.ensures.local
    (arg_added _ _ _ _ _ c.in_ok-arg.ensures c.script.ensures.rule c.script.ensures.local
    (about_told _ _ _ _ c.about.ensures (c.new.ensures.app, c.new.ensures.local))))
    c.arg-2.ensures
