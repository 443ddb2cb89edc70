use Rattle.std.proofs.Common.{sym, ◌∙◌, refl}
use Rattle.base.specs.Sets.{only, union}
use Rattle.base.specs.declared.kinds.Kind.TheVariants as kinds
use Rattle.base.specs.SetBitLaws.{types_or}
use Rattle.base.proofs.SetBitFacts.{types_is}
use Rattle.happy_calls.proofs.words.insert_threads.Goals as goal

pub returns : goal.returns
returns c =
    let now = union c.args.set.now (only kinds.Thread) in
    types_is c.insert.new.self now
    (c.insert.ensures tt ∙ sym (types_or c.args.set.now (only kinds.Thread) now refl))
