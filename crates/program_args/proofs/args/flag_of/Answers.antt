use Rattle.std.proofs.Common.{◌∙◌}
use Rattle.std.specs.declared.str.ParseBoolError.{ParseBoolError}
use Rattle.clap.specs.Matches.{found_of}
use Rattle.program_args.proofs.Found.{flag_found}
use Rattle.program_args.proofs.args.flag_of.Goals as goal

pub returns : goal.returns
returns c =
    c.unwrap_or.ensures
    ∙ flag_found ParseBoolError (found_of c.args.told.now) c.args.name.now c.get_one.result c.get_one.ensures.none c.get_one.ensures.value
