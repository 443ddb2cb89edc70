-- What the exports do to what C's memory holds, and what C is told.
use Rattle.std.specs.Prelude.{◌≡◌, ◌≢◌, ◌<◌, ◌⊎◌, ◌↔◌, ◌==◌, ℕ, List, [], ◌∷◌, ◌++◌, Bool, false, length, take, drop, not, nat_eq, nat_lt, slice_get, if◌then◌else◌, Option, Some, None, option_map, Result, Ok, Err}
use Rattle.std.specs.Bool.{MatchBool}
use Rattle.base.specs.Limits.{in_range}
use Rattle.base.specs.declared.ranges.Limits.{Limits}
use Rattle.kernel_rules.specs.History.{is_batch}
use Rattle.kernel_rules.specs.declared.calls.Call.{Call}
use Rattle.kernel_rules.specs.declared.calls.Query.{Query}
use Rattle.kernel_rules.specs.declared.replies.Reply.{Reply}
use Rattle.kernel_rules.specs.declared.replies.Reply.TheVariants as replies
use Rattle.call_records.specs.Calls.{call_of}
use Rattle.call_records.specs.Labels.{level_of}
use Rattle.call_records.specs.Logs.{log_request_of, TellsLength}
use Rattle.call_records.specs.Queries.{query_of}
use Rattle.call_records.specs.Told.{Has, Tells, refusal_number}
use Rattle.call_records.specs.declared.logs.LogRequest.{LogRequest}
use Rattle.call_records.specs.declared.logs.LogRequest.TheVariants as logs
use Rattle.call_records.specs.declared.records.Answer.{Answer}
use Rattle.call_records.specs.declared.records.Request.{Request}
use Rattle.shared_calls.specs.Dumps.{DumpView, IsDumpAfter, IsDumpTo, IsPieceOf, dump_at}
use Rattle.shared_calls.specs.Seats.{SeatView, IsBatchSubmitted, IsBeside, IsFirst, IsLater, IsLearned, IsRead, IsSubmitted}
use Rattle.shared_calls.specs.declared.refusals.SubmitRefusal.{SubmitRefusal}
use Rattle.shared_calls.specs.declared.refusals.SubmitRefusal.TheVariants as refusals
use Rattle.shared_c.specs.Asking.{batch_call_of, seat_request_of}
use Rattle.shared_c.specs.declared.asking.SeatRequest.{SeatRequest}
use Rattle.shared_c.specs.declared.asking.SeatRequest.TheVariants as seats
use Rattle.shared_c.specs.declared.held.KeptSeat.{KeptSeat}

-- the limits of these numbers, none where the device's level is none
abbrev pub limits_of : ℕ → ℕ → ℕ → ℕ → Option Limits
limits_of pages device id category =
    option_map (λ level. record { pages = pages; device = level; next_id = id; next_category = category })
    (level_of device)

-- the seat, or why there is none
abbrev pub seat_in : Result KeptSeat ℕ → Result SeatView ℕ
seat_in (Ok kept) = Ok kept.seat
seat_in (Err why) = Err why

-- whether a list has a log, by the number that asks for it
abbrev pub has_log : ℕ → Bool
has_log logs = not (nat_eq logs 0)

-- it is this seat; or there is none, and the number is 30
abbrev pub IsKeptAs : SeatView → Result SeatView ℕ → Type 0
IsKeptAs seat (Ok kept) = kept ≡ seat
IsKeptAs seat (Err why) = why ≡ 30

-- the first seat of a list, of a kernel with these limits; or 30 for want of memory
abbrev pub IsFirstBy : Limits → Bool → Result SeatView ℕ → Type 0
IsFirstBy limits is_logged (Ok seat) = IsFirst limits is_logged seat
IsFirstBy limits is_logged (Err why) = why ≡ 30

-- the same; 31 where the limits are out of range
abbrev pub IsFirstSeat : Option Limits → Bool → Result SeatView ℕ → Type 0
IsFirstSeat None is_logged seat = seat ≡ Err 31
IsFirstSeat (Some limits) is_logged seat = MatchBool (in_range limits) (IsFirstBy limits is_logged seat) (seat ≡ Err 31)

-- a seat of the same list that has seen the same as the other; 30 for want of memory or where the list has as many seats as it may
-- have, or why there is no other
abbrev pub IsSeatBeside : Result SeatView ℕ → Result SeatView ℕ → Type 0
IsSeatBeside (Ok other) (Ok seat) = IsBeside other seat
IsSeatBeside (Ok other) (Err why) = why ≡ 30
IsSeatBeside (Err why) seat = seat ≡ Err why

-- the number that tells why calls are not made
abbrev pub number_of : SubmitRefusal → ℕ
number_of refusals.Memory = 40
number_of refusals.BadBatch = 45
number_of refusals.Busy = 46
number_of refusals.Full = 47

-- the number is that of the reply's refusal, 0 for none, and the record tells the reply
abbrev pub IsTold : Reply → ℕ → Answer → Type 0
IsTold reply number told = (number ≡ refusal_number reply) × Tells reply told

-- 40 for want of memory, 46 where another seat adds a batch, 47 where the list has no room
abbrev pub IsUnmade : ℕ → Type 0
IsUnmade number = (refusal : SubmitRefusal) × (refusal ≢ refusals.BadBatch) × (number ≡ number_of refusal)

-- what is kept beside the seat: the calls for a batch, the replies of the last one, and the last piece of a dump with what comes after
-- it
abbrev pub SameCalls : KeptSeat → KeptSeat → Type 0
SameCalls before after = after.calls.items ≡ before.calls.items

abbrev pub SameReplies : KeptSeat → KeptSeat → Type 0
SameReplies before after = after.replies.items ≡ before.replies.items

abbrev pub SameText : KeptSeat → KeptSeat → Type 0
SameText before after = after.text.items ≡ before.text.items

abbrev pub SameDump : KeptSeat → KeptSeat → Type 0
SameDump before after = SameText before after × (after.dump ≡ before.dump)

abbrev pub SameBeside : KeptSeat → KeptSeat → Type 0
SameBeside before after = SameCalls before after × SameReplies before after × SameDump before after

-- nothing is done and nothing is told but this number
abbrev pub IsRefused : ℕ → KeptSeat → KeptSeat → ℕ → Answer → Answer → Type 0
IsRefused why before after number old told =
    (after.seat ≡ before.seat) × SameBeside before after × (number ≡ why) × (told ≡ old)

-- the call is the last that the seat has then seen, and its answer is told; or it is not made, and the seat has only seen more
abbrev pub IsCallMade : Call → ℕ → SeatView → SeatView → ℕ → Answer → Answer → Type 0
IsCallMade call thread before after number old told =
    ((reply : Reply) × IsSubmitted thread before call reply after × IsTold reply number told)
    ⊎ (IsLater before after × IsUnmade number × (told ≡ old))

abbrev pub IsCalled : Call → ℕ → KeptSeat → KeptSeat → ℕ → Answer → Answer → Type 0
IsCalled call thread before after number old told =
    IsCallMade call thread before.seat after.seat number old told × SameBeside before after

-- the reply is the answer in the state of what the seat has then seen, and is told
abbrev pub IsQueried : Query → ℕ → KeptSeat → KeptSeat → ℕ → Answer → Answer → Type 0
IsQueried query thread before after number old told =
    ((reply : Reply) × IsRead thread before.seat query reply after.seat × IsTold reply number told)
    × SameBeside before after

-- the seat has then seen so many batches, and the number is 0; or the list has fewer, and it is 48
abbrev pub IsNoteLearned : ℕ → SeatView → SeatView → ℕ → Type 0
IsNoteLearned count before after number =
    (learned : Bool) × IsLearned count before learned after × (number ≡ (if learned then 0 else 48))

-- no call is kept for a batch
abbrev pub IsBegun : KeptSeat → KeptSeat → Type 0
IsBegun before after =
    (after.seat ≡ before.seat) × (after.calls.items ≡ []) × SameReplies before after × SameDump before after

-- the call is kept after those that were, or there is no memory for it; where 16 are kept it is not
abbrev pub AreCallsThen : Call → List Call → List Call → ℕ → Type 0
AreCallsThen call before after number =
    MatchBool (nat_lt (length before) 16)
    (((after ≡ before ++ call ∷ []) × (number ≡ 0)) ⊎ ((after ≡ before) × (number ≡ 40)))
    ((after ≡ before) × (number ≡ 45))

abbrev pub IsCallKept : Call → KeptSeat → KeptSeat → ℕ → Type 0
IsCallKept call before after number =
    (after.seat ≡ before.seat) × AreCallsThen call before.calls.items after.calls.items number
    × SameReplies before after × SameDump before after

-- the calls that were kept are the last batch that the seat has then seen, and these are their replies; or none of them is made, and
-- the seat has only seen more: 45 where they are no batch, and else 40, 46 or 47
abbrev pub IsBatchMade : ℕ → List Call → KeptSeat → KeptSeat → ℕ → Type 0
IsBatchMade thread calls before after number =
    (IsBatchSubmitted thread before.seat calls after.replies.items after.seat × (number ≡ 0))
    ⊎ (IsLater before.seat after.seat × SameReplies before after
    × ((refusal : SubmitRefusal) × (number ≡ number_of refusal)
    × ((refusal ≡ refusals.BadBatch) ↔ (is_batch calls ≡ false))))

abbrev pub IsBatchCalled : ℕ → KeptSeat → KeptSeat → ℕ → Type 0
IsBatchCalled thread before after number =
    IsBatchMade thread before.calls.items before after number × SameCalls before after × SameDump before after

-- the reply to a call of the last batch is told, and the number of its refusal; 45 where there is no such call
abbrev pub IsReplyAt : Option Reply → ℕ → Answer → Answer → Type 0
IsReplyAt (Some reply) number old told = IsTold reply number told
IsReplyAt None number old told = (number ≡ 45) × (told ≡ old)

abbrev pub IsReplyTold : ℕ → KeptSeat → KeptSeat → ℕ → Answer → Answer → Type 0
IsReplyTold at before after number old told =
    (after.seat ≡ before.seat) × SameBeside before after
    × IsReplyAt (slice_get before.replies.items at) number old told

-- the dump is not begun: 48 where the seat has seen more batches, or where the list may have fewer, and else 51
abbrev pub IsUnbegun : ℕ → ℕ → ℕ → Type 0
IsUnbegun count seen number =
    MatchBool (nat_lt count seen) (number ≡ 48) (((number ≡ 48) × (seen < count)) ⊎ (number ≡ 51))

-- the dump is begun of what the list has more than the seat has seen, up to so many batches; or it is not, and there is none
abbrev pub IsDumpBegun : ℕ → KeptSeat → KeptSeat → ℕ → Type 0
IsDumpBegun count before after number =
    (after.seat ≡ before.seat) × SameCalls before after × SameReplies before after × SameText before after
    × (((d : DumpView) × IsDumpTo count before.seat d × (after.dump ≡ Some d) × (number ≡ 0))
    ⊎ ((after.dump ≡ None) × IsUnbegun count (length before.seat.seen) number))

-- what is asked of the seat is done
abbrev pub IsAsked : SeatRequest → ℕ → KeptSeat → KeptSeat → ℕ → Answer → Answer → Type 0
IsAsked seats.Seen thread before after number old told =
    (after.seat ≡ before.seat) × SameBeside before after × (number ≡ 0) × Has 15 (length before.seat.seen ∷ []) told
IsAsked (seats.Learn count) thread before after number old told =
    IsNoteLearned count before.seat after.seat number × SameBeside before after × (told ≡ old)
IsAsked seats.Begin thread before after number old told = IsBegun before after × (number ≡ 0) × (told ≡ old)
IsAsked seats.Make thread before after number old told = IsBatchCalled thread before after number × (told ≡ old)
IsAsked (seats.Told at) thread before after number old told = IsReplyTold at before after number old told
IsAsked (seats.DumpTo count) thread before after number old told = IsDumpBegun count before after number × (told ≡ old)

-- the text is kept as the last piece, after which this dump goes on, and its length is told
abbrev pub IsTextKept : List ℕ → Option DumpView → KeptSeat → KeptSeat → ℕ → Answer → Type 0
IsTextKept text dump before after number told =
    (after.seat ≡ before.seat) × SameCalls before after × SameReplies before after × (after.text.items ≡ text)
    × (after.dump ≡ dump) × (number ≡ 0) × TellsLength text told

-- no piece is made, and the dump is over
abbrev pub IsOver : ℕ → KeptSeat → KeptSeat → ℕ → Answer → Answer → Type 0
IsOver why before after number old told =
    (after.seat ≡ before.seat) × SameCalls before after × SameReplies before after × SameText before after
    × (after.dump ≡ None) × (number ≡ why) × (told ≡ old)

-- the next piece of the dump is made; or there is no memory for it, and the number is 51
abbrev pub IsPieceMade : DumpView → KeptSeat → KeptSeat → ℕ → Answer → Answer → Type 0
IsPieceMade dump before after number old told =
    (IsPieceOf dump after.text.items × IsDumpAfter dump after.text.items after.dump
    × IsTextKept after.text.items after.dump before after number told)
    ⊎ IsOver 51 before after number old told

-- the first piece is made of the dump of what the seat has seen; 45 where the list has no log
abbrev pub IsFirstMade : KeptSeat → KeptSeat → ℕ → Answer → Answer → Type 0
IsFirstMade before after number old told =
    MatchBool before.seat.is_logged (IsPieceMade (dump_at before.seat) before after number old told)
    (IsOver 45 before after number old told)

-- the dump whose next piece has this number
abbrev pub dump_of_piece : ℕ → Option DumpView → Option DumpView
dump_of_piece piece None = None
dump_of_piece piece (Some dump) = if dump.number == piece then Some dump else None

-- a piece is made of it; where it is not the next one it is empty, but the first begins a dump
abbrev pub IsNextMade : ℕ → Option DumpView → KeptSeat → KeptSeat → ℕ → Answer → Answer → Type 0
IsNextMade piece (Some dump) before after number old told = IsPieceMade dump before after number old told
IsNextMade piece None before after number old told =
    MatchBool (piece == 0) (IsFirstMade before after number old told) (IsTextKept [] None before after number told)

abbrev pub IsDumped : ℕ → KeptSeat → KeptSeat → ℕ → Answer → Answer → Type 0
IsDumped piece before after number old told = IsNextMade piece (dump_of_piece piece before.dump) before after number old told

-- what is asked of the log is done; it does not begin, is not cut, and has no checkpoint
abbrev pub IsLogAsked : LogRequest → KeptSeat → KeptSeat → ℕ → Answer → Answer → Type 0
IsLogAsked (logs.Begin most reads) before after number old told = IsRefused 45 before after number old told
IsLogAsked (logs.Checkpoint piece) before after number old told = IsRefused 45 before after number old told
IsLogAsked (logs.Cut most reads) before after number old told = IsRefused 45 before after number old told
IsLogAsked (logs.Dump piece) before after number old told = IsDumped piece before after number old told
IsLogAsked (logs.Text from) before after number old told =
    (after.seat ≡ before.seat) × SameBeside before after
    × IsTold (replies.Bytes (take 64 (drop from before.text.items))) number told

-- what is asked of the seat, of its log or for a batch is done; where nothing is, nothing changes and the number is 45
abbrev pub IsOther : Option SeatRequest → Option LogRequest → Option Call → ℕ → KeptSeat → KeptSeat → ℕ → Answer → Answer → Type 0
IsOther (Some asked) log call thread before after number old told = IsAsked asked thread before after number old told
IsOther None (Some asked) call thread before after number old told = IsLogAsked asked before after number old told
IsOther None None (Some call) thread before after number old told = IsCallKept call before after number × (told ≡ old)
IsOther None None None thread before after number old told = IsRefused 45 before after number old told

-- exactly what is asked for is done
abbrev pub IsDoneAs : Option Call → Option Query → Request → KeptSeat → KeptSeat → ℕ → Answer → Answer → Type 0
IsDoneAs (Some call) query request before after number old told = IsCalled call request.thread before after number old told
IsDoneAs None (Some query) request before after number old told = IsQueried query request.thread before after number old told
IsDoneAs None None request before after number old told =
    IsOther (seat_request_of request) (log_request_of request) (batch_call_of request) request.thread before after number old told

abbrev pub IsDone : Request → KeptSeat → KeptSeat → ℕ → Answer → Answer → Type 0
IsDone request before after number old told = IsDoneAs (call_of request) (query_of request) request before after number old told

-- the same, where a seat may be held; where none is, nothing changes and the number is why
abbrev pub IsServed : Request → Result KeptSeat ℕ → Result KeptSeat ℕ → ℕ → Answer → Answer → Type 0
IsServed request (Ok before) held number old told =
    (after : KeptSeat) × (held ≡ Ok after) × IsDone request before after number old told
IsServed request (Err why) held number old told = (held ≡ Err why) × (number ≡ why) × (told ≡ old)
