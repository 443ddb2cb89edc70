use Rattle.std.proofs.Common.{◌≡◌, ◌≤◌, vec_len, vec_capacity}
use Rattle.published_copy.proofs.places.seat_meters.Given as goal

abbrev pub invariant-loop : goal.invariant-loop
invariant-loop l = (vec_len l.meters ≡ l.counter) × (l.seats ≤ vec_capacity l.meters)
