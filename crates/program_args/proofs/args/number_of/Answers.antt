use Rattle.std.specs.Str.Parse.{ExplainsUnsignedError, HasUnsignedDigitsIfOk, ParsesUnsigned}
use Rattle.clap.specs.Matches.{found_of}
use Rattle.program_args.proofs.Found.{number_found}
use Rattle.program_args.proofs.args.number_of.Goals as goal

pub returns : goal.returns
returns c =
    number_found 64 (λ bs r. ParsesUnsigned 64 10 bs r × ExplainsUnsignedError 10 bs r × HasUnsignedDigitsIfOk bs r)
    (found_of c.args.told.now) c.args.name.now c.get_one.result (λ u x g. g.0) c.get_one.ensures.none c.get_one.ensures.value
