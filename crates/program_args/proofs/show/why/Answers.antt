use Rattle.std.proofs.lemmas.Result.{IfOk-weaker}
use Rattle.program_args.proofs.Commands.{about_told, arg_added}
use Rattle.program_args.proofs.show.why.Goals as goal

pub returns : goal.returns
returns c =
    IfOk-weaker c.arg-4.result _ _ (λ new added. arg_added _ _ _ _ _ added c.names.ensures.rule c.names.ensures.local
    (arg_added _ _ _ _ _ c.in_ok-arg-3.ensures c.all.ensures.rule c.all.ensures.local
    (arg_added _ _ _ _ _ c.in_ok-arg-2.ensures c.line.ensures.rule c.line.ensures.local
    (arg_added _ _ _ _ _ c.in_ok-arg.ensures c.dump.ensures.rule c.dump.ensures.local
    (about_told _ _ _ _ c.about.ensures (c.new.ensures.app, c.new.ensures.local))))))
    c.arg-4.ensures
