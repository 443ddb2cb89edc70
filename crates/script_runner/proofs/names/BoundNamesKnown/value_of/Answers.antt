use Rattle.std.proofs.Common.{◌∙◌, ap}
use Rattle.call_text.specs.Known.{value_of}
use Rattle.script_runner.proofs.NameLemmas.{lookup_is}
use Rattle.script_runner.proofs.names.BoundNamesKnown.value_of.Goals as goal

pub returns : goal.returns
returns c =
    c.copied.ensures ∙ c.get.ensures.value ∙ lookup_is c.args.name.now c.self.inside.values.entries
    ∙ ap (value_of c.args.name.now) c.self.view_is
