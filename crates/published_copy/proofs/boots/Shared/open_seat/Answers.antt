use Rattle.std.proofs.Common.{rules}
use Rattle.published_copy.proofs.boots.Shared.open_seat.Goals as goal

pub returns-clause-done : goal.returns-clause-done
returns-clause-done g c =
    (c.deref_mut.result.now, search rules, search rules, search rules, search rules, search rules, search rules)
