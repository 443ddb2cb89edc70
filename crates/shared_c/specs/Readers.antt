-- What readers in C's memory read, and what C is told.
use Rattle.std.specs.Prelude.{◌≡◌, ℕ, Option, Some, None, Result, Ok, Err}
use Rattle.kernel_rules.specs.State.{State}
use Rattle.kernel_rules.specs.Step.{query_answer}
use Rattle.kernel_rules.specs.declared.calls.Query.{Query}
use Rattle.call_records.specs.Queries.{query_of}
use Rattle.call_records.specs.declared.records.Answer.{Answer}
use Rattle.call_records.specs.declared.records.Request.{Request}
use Rattle.shared_calls.specs.Seats.{SeatView, state_of}
use Rattle.shared_c.specs.Served.{IsTold}
use Rattle.shared_c.specs.declared.readers.KeptReader.{KeptReader}

-- the state that is read, or why there is no reader
abbrev pub reader_in : Result KeptReader ℕ → Result State ℕ
reader_in (Ok kept) = Ok kept.reader
reader_in (Err why) = Err why

-- the state is that of what the seat has seen; 30 for want of memory, or why there is no seat
abbrev pub IsReaderOf : Result SeatView ℕ → Result State ℕ → Type 0
IsReaderOf (Ok seat) (Ok read) = read ≡ state_of seat.limits seat.seen
IsReaderOf (Ok seat) (Err why) = why ≡ 30
IsReaderOf (Err why) read = read ≡ Err why

-- the query's answer in the state is told; 45 where there is none
abbrev pub IsAskedOf : Option Query → ℕ → State → ℕ → Answer → Answer → Type 0
IsAskedOf (Some query) thread s number old told = IsTold (query_answer s thread query) number told
IsAskedOf None thread s number old told = (number ≡ 45) × (told ≡ old)

-- the same of what a record asks, where a reader may be held, which stays as it is; where none is, the number is why
abbrev pub IsReadBy : Request → Result KeptReader ℕ → Result KeptReader ℕ → ℕ → Answer → Answer → Type 0
IsReadBy request (Ok before) held number old told =
    (after : KeptReader) × (held ≡ Ok after) × (after.reader ≡ before.reader)
    × IsAskedOf (query_of request) request.thread before.reader number old told
IsReadBy request (Err why) held number old told = (held ≡ Err why) × (number ≡ why) × (told ≡ old)
