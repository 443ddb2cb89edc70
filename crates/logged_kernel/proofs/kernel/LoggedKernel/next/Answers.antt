use Rattle.std.proofs.Common.{◌≡◌, ℕ, true, nat_lt, ◌∙◌, ap, subst}
use Rattle.std.specs.List.{list_all}
use Rattle.checkpoints.specs.declared.checkpoints.NextNumber.{NextNumber}
use Rattle.syscall_core.specs.Kernel.{kernel_state}
use Rattle.logged_kernel.specs.Logged.{Logged}
use Rattle.logged_kernel.proofs.LogLaws.{all_three, first_later}
use Rattle.logged_kernel.proofs.kernel.LoggedKernel.next.Goals as goal

pub next_numbers-requires-clause-first : goal.next_numbers-requires-clause-first
next_numbers-requires-clause-first c = first_later c.self.inside.limits c.self.inside.origin c.self.invariant.0.fit

pub returns-clause-whole : goal.returns-clause-whole
returns-clause-whole c =
    let ids : c.number-next_id.result ≡ (kernel_state c.args.self.now.kernel).next_id =
    c.number-next_id.ensures ∙ c.next_id.ensures ∙ ap (λ (l : Logged). (kernel_state l.kernel).next_id) c.self.view_is in
    all_three c.next_numbers.result _ _ _ _ (λ next rise later given. record {
      rise = rise;
      later = later;
      given = subst (λ (i : ℕ). list_all (λ (n : NextNumber). nat_lt n.thread i) next.items ≡ true) ids given;
    }) c.next_numbers.ensures.rise c.next_numbers.ensures.later c.next_numbers.ensures.given
