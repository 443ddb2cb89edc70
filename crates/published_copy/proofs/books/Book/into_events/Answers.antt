use Rattle.std.proofs.Common.{List, ap, subst}
use Rattle.kernel_rules.specs.Events.{Event}
use Rattle.kernel_rules.specs.History.{IsLegal}
use Rattle.published_copy.proofs.books.Book.into_events.Goals as goal

pub returns-clause-legal : goal.returns-clause-legal
returns-clause-legal g c =
    subst (λ (l : List Event). IsLegal g.B.Naming.boot.limits l) (ap (λ b. b.journal) c.self.view_is) c.self.invariant.1
