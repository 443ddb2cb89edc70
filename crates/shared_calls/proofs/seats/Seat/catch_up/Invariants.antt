use Rattle.shared_calls.specs.Seats.{IsLater}
use Rattle.shared_calls.proofs.seats.Seat.catch_up.Given as goal

abbrev pub invariant-loop : goal.invariant-loop
invariant-loop l = IsLater l.fn.self l.self
