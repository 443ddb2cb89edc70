use Rattle.std.proofs.Common.{◌≡◌, ◌∙◌, IsSomeAnd, Some, ap, map, refl, subst, sym, true, true≢false}
use Rattle.clap.proofs.OnLiterals.{clap_on_literals}
use Rattle.clap.specs.Matches.{found_of, has_subcommand}
use Rattle.clap.specs.Simple.{is_simple, subcommand_of}
use Rattle.clap.specs.Walk.{rows_of}
use Rattle.program_args.proofs.Commands.{none_is, verb_is, verb_met}
use Rattle.program_args.specs.Commands.{histar_command}
use Rattle.program_args.specs.Told.{IsVerbOf}
use Rattle.program_args.proofs.words.read_words.Goals as goal

plain : is_simple histar_command ≡ true
unfolding clap_on_literals
plain = refl

pub returns-in_default-clause-told : goal.returns-in_default-clause-told
returns-in_default-clause-told g c =
    let met : has_subcommand c.in_ok-matches.matches ≡ true =
    verb_met histar_command _ _ c.in_ok-matches.ensures.parsed c.in_ok-command.ensures refl in
    absurd (true≢false (sym met ∙ sym c.subcommand.ensures.variant ∙ none_is _ c.in_default.not-Some))

pub returns-clause-told : goal.returns-clause-told
returns-clause-told g c =
    let words = map g.S.AsStr.text c.args.words.now in
    let is = c.in_ok-command.ensures in
    let found : Some (c.in-Some.name.now, rows_of (found_of c.in-Some.args.now)) ≡ subcommand_of histar_command words =
    verb_is c.in_ok-matches.matches (Some (c.in-Some.name, c.in-Some.args)) c.in-Some.ensures.name c.in-Some.ensures.rows
    ∙ (c.in_ok-matches.ensures.matches (ap is_simple is.0 ∙ plain)).1 ∙ ap (λ a. subcommand_of a words) is.0 in
    subst (λ o. IsSomeAnd o (λ f. IsVerbOf f c.verb_of.result)) found c.verb_of.ensures.told
