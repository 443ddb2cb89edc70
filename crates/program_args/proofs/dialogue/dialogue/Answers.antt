use Rattle.std.proofs.lemmas.Result.{IfOk-weaker}
use Rattle.program_args.proofs.Commands.{about_told, arg_added}
use Rattle.program_args.proofs.dialogue.dialogue.Goals as goal

pub returns : goal.returns
returns c =
    IfOk-weaker c.arg.result _ _ (λ new added. arg_added _ _ _ _ _ added c.pages.ensures.rule c.pages.ensures.local
    (about_told _ _ _ _ c.about.ensures (c.new.ensures.app, c.new.ensures.local)))
    c.arg.ensures
