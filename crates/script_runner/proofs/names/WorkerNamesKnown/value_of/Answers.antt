use Rattle.std.proofs.Common.{◌∙◌, ap, sym}
use Rattle.std.specs.Option.{option_or}
use Rattle.call_text.specs.Known.{value_of}
use Rattle.script_runner.proofs.NameLemmas.{value_of-append}
use Rattle.script_runner.proofs.names.WorkerNamesKnown.value_of.Goals as goal

pub returns-in-Some : goal.returns-in-Some
returns-in-Some c =
    sym (value_of-append c.args.name.now c.args.self.now.own.now c.args.self.now.earlier.now
    ∙ ap (λ v. option_or v (value_of c.args.name.now c.args.self.now.earlier.now))
    (sym c.value_of.ensures ∙ c.in-Some.is))

pub returns-in-None : goal.returns-in-None
returns-in-None c =
    c.value_of-in-None.ensures
    ∙ sym (value_of-append c.args.name.now c.args.self.now.own.now c.args.self.now.earlier.now
    ∙ ap (λ v. option_or v (value_of c.args.name.now c.args.self.now.earlier.now))
    (sym c.value_of.ensures ∙ c.in-None.is))
