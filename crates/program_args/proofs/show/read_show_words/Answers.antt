use Rattle.std.proofs.Common.{◌≡◌, ◌∙◌, IsSomeAnd, Some, ap, map, refl, subst, sym, true, true≢false}
use Rattle.clap.proofs.OnLiterals.{clap_on_literals}
use Rattle.clap.specs.Matches.{found_of, has_subcommand}
use Rattle.clap.specs.Simple.{is_simple, subcommand_of}
use Rattle.clap.specs.Walk.{rows_of}
use Rattle.clap.specs.declared.builder.value_parser.ValueParser.{ValueParser}
use Rattle.program_args.proofs.Commands.{none_is, verb_is, verb_met}
use Rattle.program_args.specs.Commands.{show_command}
use Rattle.program_args.specs.Told.{IsShownOf}
use Rattle.program_args.proofs.show.read_show_words.Goals as goal

plain : (parser : ValueParser) → is_simple (show_command parser) ≡ true
unfolding clap_on_literals
plain parser = refl

pub returns-in_default : goal.returns-in_default
returns-in_default g c =
    let met : has_subcommand c.in_ok-matches.matches ≡ true =
    verb_met (show_command c.in_ok-command.ensures.0) _ _ c.in_ok-matches.ensures.parsed c.in_ok-command.ensures.2 refl in
    absurd (true≢false (sym met ∙ sym c.subcommand.ensures.variant ∙ none_is _ c.in_default.not-Some))

pub returns : goal.returns
returns g c =
    let words = map g.S.AsStr.text c.args.words.now in
    let parser = c.in_ok-command.ensures.0 in
    let is = c.in_ok-command.ensures.2 in
    let found : Some (c.in-Some.name.now, rows_of (found_of c.in-Some.args.now)) ≡ subcommand_of (show_command parser) words =
    verb_is c.in_ok-matches.matches (Some (c.in-Some.name, c.in-Some.args)) c.in-Some.ensures.name c.in-Some.ensures.rows
    ∙ (c.in_ok-matches.ensures.matches (ap is_simple is.0 ∙ plain parser)).1 ∙ ap (λ a. subcommand_of a words) is.0 in
    (parser, c.in_ok-command.ensures.1, subst (λ o. IsSomeAnd o (λ f. IsShownOf f c.shown_of.result)) found c.shown_of.ensures)
