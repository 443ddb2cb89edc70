use Rattle.std.proofs.Common.{◌∙◌, ap, sym, subst}
use Rattle.kernel_rules.specs.Scratch.{scratch}
use Rattle.logged_kernel.specs.Logged.{Logged, IsTextOf, Writes}
use Rattle.logged_kernel.proofs.kernel.LoggedKernel.checkpoint_text.Goals as goal

pub checkpoint_text_of-requires-clause-fit : goal.checkpoint_text_of-requires-clause-fit
checkpoint_text_of-requires-clause-fit c =
    (subst (λ (l : Logged). Writes l c.in_ok-checkpoint.checkpoint) (sym c.self.view_is) c.in_ok-checkpoint.ensures).fit

pub checkpoint_text_of-requires-clause-tables : goal.checkpoint_text_of-requires-clause-tables
checkpoint_text_of-requires-clause-tables c =
    c.in_ok-tables.ensures
    ∙ ap scratch (sym (subst (λ (l : Logged). Writes l c.in_ok-checkpoint.checkpoint) (sym c.self.view_is) c.in_ok-checkpoint.ensures).state)

pub returns : goal.returns
returns c = (
  c.in_ok-checkpoint.checkpoint,
  c.in_ok-checkpoint.ensures,
  subst (λ (l : Logged). IsTextOf l.limits c.in_ok-checkpoint.checkpoint c.in_ok-text.text.items) c.self.view_is c.in_ok-text.ensures,
)
