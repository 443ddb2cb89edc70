use Rattle.std.proofs.Common.{◌∙◌, Option, ap, ap₂, rules}
use Rattle.clap.specs.Walk.{Rule, rule_of}
use Rattle.clap.specs.declared.builder.value_parser.ValueParser.{ValueParser}
use Rattle.program_args.proofs.show.color.Goals as goal

pub returns-clause-rule : goal.returns-clause-rule
returns-clause-rule c =
    let given = c.value_parser.ensures.given in (
      given.0,
      (c.as_slice.result, given.2, search rules),
      ap rule_of c.help.ensures ∙ ap rule_of c.value_parser.ensures.others
          ∙ ap₂ (λ (r : Rule) (p : Option ValueParser). record r { parser = p }) c.option.ensures.rule given.1,
    )
