use Rattle.program_args.proofs.Commands.{about_told}
use Rattle.program_args.proofs.show.show.Goals as goal

pub returns : goal.returns
returns c = about_told _ _ _ _ c.about.ensures (c.new.ensures.app, c.new.ensures.local)
