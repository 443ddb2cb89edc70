use Rattle.program_args.proofs.Commands.{about_told, arg_added}
use Rattle.program_args.proofs.show.page.Goals as goal

pub returns : goal.returns
returns c =
    c.with_flows.ensures _
    (arg_added _ _ _ _ _ c.in_ok-page.ensures c.names.ensures.rule c.names.ensures.local
    (arg_added _ _ _ _ _ c.in_ok-arg-2.ensures c.out.ensures.rule c.out.ensures.local
    (arg_added _ _ _ _ _ c.in_ok-arg.ensures c.dump.ensures.rule c.dump.ensures.local
    (about_told _ _ _ _ c.about.ensures (c.new.ensures.app, c.new.ensures.local)))))
