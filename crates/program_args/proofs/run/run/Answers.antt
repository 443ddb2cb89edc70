use Rattle.std.proofs.lemmas.Result.{IfOk-weaker}
use Rattle.program_args.proofs.Commands.{about_told, arg_added}
use Rattle.program_args.proofs.run.run.Goals as goal

pub returns : goal.returns
returns c =
    IfOk-weaker c.arg-8.result _ _ (λ new added. arg_added _ _ _ _ _ added c.names.ensures.rule c.names.ensures.local
    (arg_added _ _ _ _ _ c.in_ok-arg-7.ensures c.checkpoint.ensures.rule c.checkpoint.ensures.local
    (arg_added _ _ _ _ _ c.in_ok-arg-6.ensures c.dump.ensures.rule c.dump.ensures.local
    (arg_added _ _ _ _ _ c.in_ok-arg-5.ensures c.next_category.ensures.rule c.next_category.ensures.local
    (arg_added _ _ _ _ _ c.in_ok-arg-4.ensures c.next_id.ensures.rule c.next_id.ensures.local
    (arg_added _ _ _ _ _ c.in_ok-arg-3.ensures c.device.ensures.rule c.device.ensures.local
    (arg_added _ _ _ _ _ c.in_ok-arg-2.ensures c.pages.ensures.rule c.pages.ensures.local
    (arg_added _ _ _ _ _ c.in_ok-arg.ensures c.script.ensures.rule c.script.ensures.local
    (about_told _ _ _ _ c.about.ensures (c.new.ensures.app, c.new.ensures.local))))))))))
    c.arg-8.ensures
