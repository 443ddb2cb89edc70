use Rattle.std.proofs.lemmas.Result.{IfOk-weaker}
use Rattle.program_args.proofs.Commands.{about_told, arg_added}
use Rattle.program_args.proofs.show.tree.Goals as goal

pub returns : goal.returns
returns c =
    IfOk-weaker c.arg-5.result _ _ (λ new added. (
      c.color.ensures.rule.0,
      c.color.ensures.rule.1,
      arg_added _ _ _ _ _ added c.names.ensures.rule c.names.ensures.local
          (arg_added _ _ _ _ _ c.in_ok-arg-4.ensures c.color.ensures.rule.2 c.color.ensures.local
          (arg_added _ _ _ _ _ c.in_ok-arg-3.ensures c.asked.ensures.rule c.asked.ensures.local
          (arg_added _ _ _ _ _ c.in_ok-arg-2.ensures c.after.ensures.rule c.after.ensures.local
          (arg_added _ _ _ _ _ c.in_ok-arg.ensures c.dump.ensures.rule c.dump.ensures.local
          (about_told _ _ _ _ c.about.ensures (c.new.ensures.app, c.new.ensures.local)))))),
    ))
    c.arg-5.ensures
