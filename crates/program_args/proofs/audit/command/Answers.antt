use Rattle.std.proofs.Common.{◌∙◌, ap, ap₂, true}
use Rattle.clap.specs.Simple.{App, app_of_fields, on_top, with_rule}
use Rattle.program_args.proofs.audit.command.Goals as goal

-- a command that has a version
abbrev versioned : App → App
versioned = on_top (λ s. record s { has_version = true })

pub returns-clause-app : goal.returns-clause-app
returns-clause-app c =
    c.in_ok-six.ensures.shape c.names.ensures.local
    ∙ ap₂ with_rule
    (c.in_ok-five.ensures.shape c.hidden.ensures.local
    ∙ ap₂ with_rule
    (c.in_ok-four.ensures.shape c.category.ensures.local
    ∙ ap₂ with_rule
    (c.in_ok-three.ensures.shape c.from.ensures.local
    ∙ ap₂ with_rule
    (c.in_ok-two.ensures.shape c.migrated.ensures.local
    ∙ ap₂ with_rule
    (c.in_ok-one.ensures.shape c.file.ensures.local
    ∙ ap₂ with_rule
    (ap app_of_fields c.version-told.ensures ∙ ap (λ x. versioned (app_of_fields x)) c.about.ensures
    ∙ ap (λ x. versioned (app_of_fields x)) c.in_ok-named.ensures.0 ∙ ap versioned c.new.ensures.app)
    c.file.ensures.rule)
    c.migrated.ensures.rule)
    c.from.ensures.rule)
    c.category.ensures.rule)
    c.hidden.ensures.rule)
    c.names.ensures.rule
