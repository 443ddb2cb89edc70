use Rattle.std.proofs.lemmas.Result.{IfOk-weaker}
use Rattle.program_args.proofs.Commands.{verb_added, verbs_told}
use Rattle.program_args.proofs.show.command.Goals as goal

pub returns : goal.returns
returns c =
    IfOk-weaker c.subcommand-5.result _ _ (λ new added. (
      c.in_ok-tree.ensures.0,
      c.in_ok-tree.ensures.1,
      verb_added _ _ _ _ _ added c.in_ok-page.ensures
          (verb_added _ _ _ _ _ c.in_ok-four.ensures c.in_ok-dot.ensures
          (verb_added _ _ _ _ _ c.in_ok-three.ensures c.in_ok-json.ensures
          (verb_added _ _ _ _ _ c.in_ok-two.ensures c.in_ok-tree.ensures.2
          (verb_added _ _ _ _ _ c.in_ok-one.ensures c.in_ok-why.ensures
          (verbs_told _ _ _ _ _ _ _ _ (c.new.ensures.app, c.new.ensures.local)
          c.in_ok-bin_name.ensures.0 c.about.ensures c.version.ensures c.subcommand_required-all.ensures))))),
    ))
    c.subcommand-5.ensures
