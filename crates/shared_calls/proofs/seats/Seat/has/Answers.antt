use Rattle.shared_calls.proofs.seats.Seat.has.Goals as goal

pub returns : goal.returns
returns c = rw (← c.self.view_is, ← c.other.view_is) c.has.ensures
