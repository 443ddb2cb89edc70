use Rattle.std.proofs.Common.{◌∙◌, ap₂}
use Rattle.program_args.proofs.Found.{is_told}
use Rattle.program_args.proofs.audit.told_of.Goals as goal

pub returns-clause-told : goal.returns-clause-told
returns-clause-told c = (
  c.needed_text_of.ensures,
  ap₂ (λ m f. record { migrate = m; flow = f })
      (c.is_some.ensures ∙ is_told (λ path. path.now) c.text_of-migrate.result _ c.text_of-migrate.ensures) c.flow_of.ensures,
  c.text_of-migrate.ensures,
  c.text_of.ensures,
  c.text_of-2.ensures,
)
