-- What records ask of a seat beside calls and queries.
use Rattle.std.specs.Prelude.{◌-◌, ◌==◌, List, [], ◌∷◌, Option, Some, None, nat_le, slice_get, if◌then◌else◌}
use Rattle.std.specs.Option.{option_and_then}
use Rattle.kernel_rules.specs.declared.calls.Call.{Call}
use Rattle.call_records.specs.Calls.{call_of}
use Rattle.call_records.specs.declared.records.Request.{Request}
use Rattle.call_records.specs.Words.{wide_at}
use Rattle.shared_c.specs.declared.asking.SeatRequest.{SeatRequest}
use Rattle.shared_c.specs.declared.asking.SeatRequest.TheVariants as seats

-- what may be asked of a seat, by its numbers, from 43; a dump has 50
abbrev pub all : List (Request → SeatRequest)
all =
    (λ r. seats.Seen) ∷ (λ r. seats.Learn (wide_at r 0)) ∷ (λ r. seats.Begin) ∷ (λ r. seats.Make)
    ∷ (λ r. seats.Told (wide_at r 0)) ∷ []

-- what a record asks of a seat
abbrev pub seat_request_of : Request → Option SeatRequest
seat_request_of r =
    if r.call == 50 then Some (seats.DumpTo (wide_at r 0))
    else if nat_le 43 r.call
    then option_and_then (λ asks. Some (asks r)) (slice_get all (r.call - 43))
    else None

-- the write call that a record asks to keep for a batch, by a number that is 64 more than the call's
abbrev pub batch_call_of : Request → Option Call
batch_call_of r =
    if nat_le 65 r.call
    then call_of (record r { call = r.call - 64 })
    else None
