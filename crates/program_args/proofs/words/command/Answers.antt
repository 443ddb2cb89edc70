use Rattle.std.proofs.lemmas.Result.{IfOk-weaker}
use Rattle.program_args.proofs.Commands.{verb_added, verbs_told}
use Rattle.program_args.proofs.words.command.Goals as goal

pub returns : goal.returns
returns c =
    IfOk-weaker c.subcommand-4.result _ _ (λ new added. verb_added _ _ _ _ _ added c.show.ensures
    (verb_added _ _ _ _ _ c.in_ok-three.ensures c.in_ok-dialogue.ensures
    (verb_added _ _ _ _ _ c.in_ok-two.ensures c.in_ok-check.ensures
    (verb_added _ _ _ _ _ c.in_ok-one.ensures c.in_ok-run.ensures
    (verbs_told _ _ _ _ _ _ _ _ (c.new.ensures.app, c.new.ensures.local)
    c.in_ok-bin_name.ensures.0 c.about.ensures c.version.ensures c.subcommand_required-all.ensures)))))
    c.subcommand-4.ensures
