use Rattle.std.proofs.Common.{◌∙◌, ap, sym}
use Rattle.std.specs.Option.{option_or}
use Rattle.call_text.specs.Known.{name_of}
use Rattle.script_runner.proofs.NameLemmas.{name_of-append}
use Rattle.script_runner.proofs.names.WorkerNamesKnown.name_of.Goals as goal

pub returns-in-Some : goal.returns-in-Some
returns-in-Some c =
    sym (name_of-append c.args.value.now c.args.self.now.own.now c.args.self.now.earlier.now
    ∙ ap (λ v. option_or v (name_of c.args.value.now c.args.self.now.earlier.now))
    (sym c.name_of.ensures ∙ c.in-Some.is))

pub returns-in-None : goal.returns-in-None
returns-in-None c =
    c.name_of-in-None.ensures
    ∙ sym (name_of-append c.args.value.now c.args.self.now.own.now c.args.self.now.earlier.now
    ∙ ap (λ v. option_or v (name_of c.args.value.now c.args.self.now.earlier.now))
    (sym c.name_of.ensures ∙ c.in-None.is))
