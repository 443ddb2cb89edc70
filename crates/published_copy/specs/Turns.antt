-- What passes and seats know, and what calls make of it.
use mathlib.Core.List.{IsPrefix}
use Rattle.std.specs.Prelude.{◌≡◌, ℕ, ◌+◌, ◌⊎◌, Bool, true, false, ◌&&◌, ◌==◌, nat_le, List, []}
use Rattle.std.specs.Prelude.{◌∷◌, ◌++◌, ◌<◌, length, map, MatchBool}
use Rattle.base.specs.declared.ranges.Limits.{Limits}
use Rattle.kernel_rules.specs.History.{answered, state_of, count, is_batch, IsLegal}
use Rattle.kernel_rules.specs.State.{State}
use Rattle.kernel_rules.specs.Runs.{replies_to}
use Rattle.kernel_rules.specs.Step.{answer, query_answer}
use Rattle.kernel_rules.specs.declared.calls.Call.{Call}
use Rattle.kernel_rules.specs.declared.calls.Query.{Query}
use Rattle.kernel_rules.specs.declared.replies.Reply.{Reply}
use Rattle.kernel_rules.specs.Events.{Event, by}
use Rattle.published_copy.specs.declared.receipts.BatchReceipt.{BatchReceipt}
use Rattle.published_copy.specs.declared.receipts.Placed.{Placed}
use Rattle.published_copy.specs.declared.receipts.ReadReceipt.{ReadReceipt}
use Rattle.published_copy.specs.declared.receipts.Receipt.{Receipt}
use Rattle.published_copy.specs.declared.refusals.SubmitRefusal as submit
use Rattle.published_copy.specs.declared.refusals.SubmitRefusal.TheVariants as no_submit

-- what a pass knows: its thread, the number of its next event, and the list that it has seen, which
-- begins the boot's one list
pub record Turn : Type 0 where
  pub thread : ℕ
  pub number : ℕ
  pub seen : List Event

-- what a seat knows: its pass, and the longest list that its opening, its submits and the notes
-- that it learnt gave it
pub record SeatView : Type 0 where
  pub pass : Turn
  pub told : List Event

abbrev pub turn : ℕ → ℕ → List Event → Turn
turn thread number seen = record { thread = thread; number = number; seen = seen }

abbrev pub seat_with : Turn → List Event → SeatView
seat_with pass told = record { pass = pass; told = told }

-- the turn of a thread that has seen the journal
abbrev pub next_turn : ℕ → List Event → Turn
next_turn thread journal = turn thread (count thread journal + 1) journal

-- the number is the thread's next in the journal, and the journal is no shorter than what was seen
abbrev pub is_turn : List Event → Turn → Bool
is_turn journal pass =
    (pass.number == count pass.thread journal + 1) && nat_le (length pass.seen) (length journal)

-- the event that calls make: each reply is the answer in the state that this one and the calls before lead to
abbrev pub event_at : State → Turn → List Call → Event
event_at s pass calls = record {
  thread = pass.thread;
  number = pass.number;
  calls = answered s pass.thread calls;
}

-- the journal with that event at its end
abbrev pub with_event : Limits → List Event → Turn → List Call → List Event
with_event limits journal pass calls = journal ++ event_at (state_of limits journal) pass calls ∷ []

-- the receipt of the event of one call
abbrev pub receipt_of : Limits → List Event → Turn → Call → Receipt
receipt_of limits journal pass call = record {
  reply = answer (state_of limits journal) pass.thread call;
  number = pass.number;
  length = length journal + 1;
}

-- what the receipt of a batch tells: a reply to each call, and where its event stands
abbrev pub TellsBatch : Limits → List Event → Turn → List Call → BatchReceipt → Type 0
TellsBatch limits journal pass calls receipt =
    (receipt.replies.items ≡ replies_to (state_of limits journal) (by pass.thread calls))
    × (receipt.number ≡ pass.number) × (receipt.length ≡ length journal + 1)

-- the receipt of an event by its reply and where it stands
abbrev pub receipt_with : Reply → Placed → Receipt
receipt_with reply placed = record {
  reply = reply;
  number = placed.number;
  length = placed.length;
}

-- the pass then: its number is the next one, and it has seen the journal with that event
abbrev pub passed_on : Limits → List Event → Turn → List Call → Turn
passed_on limits journal pass calls =
    turn pass.thread (pass.number + 1) (with_event limits journal pass calls)

-- some journal begins with all that the seat had seen; with the event of the calls it is legal, and is
-- what the seat has then seen and was told; the receipt tells of that event
abbrev pub IsSubmittedAs : (List Event → Type 0) → Limits → SeatView → List Call → SeatView → Type 0
IsSubmittedAs Tells limits seat calls after =
    (journal : List Event) × IsPrefix seat.pass.seen journal
    × IsLegal limits (with_event limits journal seat.pass calls)
    × Tells journal
    × (after ≡ seat_with (passed_on limits journal seat.pass calls)
    (with_event limits journal seat.pass calls))

-- the same, of a batch of one call
abbrev pub IsSubmitted : Limits → SeatView → Call → Receipt → SeatView → Type 0
IsSubmitted limits seat call receipt after =
    IsSubmittedAs (λ journal. receipt ≡ receipt_of limits journal seat.pass call) limits seat (call ∷ []) after

-- and of any batch
abbrev pub IsBatchSubmitted : Limits → SeatView → List Call → BatchReceipt → SeatView → Type 0
IsBatchSubmitted limits seat calls receipt after =
    IsSubmittedAs (λ journal. TellsBatch limits journal seat.pass calls receipt) limits seat calls after

-- whether it was the pass's turn, at some legal journal
abbrev pub WasTurn : Limits → Turn → Bool → Type 0
WasTurn limits pass was = (journal : List Event) × IsLegal limits journal × (is_turn journal pass ≡ was)

-- calls that are no batch are refused so; else, at some legal journal, it was the pass's turn where memory was wanted, and
-- was not where they came out of turn
abbrev pub IsNotSubmitted : Limits → Turn → List Call → submit.SubmitRefusal → Type 0
IsNotSubmitted limits pass calls no_submit.BadBatch = is_batch calls ≡ false
IsNotSubmitted limits pass calls no_submit.OutOfTurn = (is_batch calls ≡ true) × WasTurn limits pass false
IsNotSubmitted limits pass calls no_submit.Memory = (is_batch calls ≡ true) × WasTurn limits pass true

-- what the seat has then seen is a legal list that begins with what it had seen, and the reply is
-- the answer in its state; what it was told stays
abbrev pub IsRead : Limits → SeatView → Query → Reply → SeatView → Type 0
IsRead limits seat query reply after =
    (after ≡ seat_with (turn seat.pass.thread seat.pass.number after.pass.seen) seat.told)
    × IsPrefix seat.pass.seen after.pass.seen × IsLegal limits after.pass.seen
    × (reply ≡ query_answer (state_of limits after.pass.seen) seat.pass.thread query)

-- it is such a read, and the receipt has its reply, and how many events the seat has then seen
abbrev pub IsReadAt : Limits → SeatView → Query → ReadReceipt → SeatView → Type 0
IsReadAt limits seat query receipt after =
    IsRead limits seat query receipt.reply after
    × (receipt.length ≡ length after.pass.seen)

-- of two lists of one boot the second begins the first where the first has no fewer events, and else the first the second
abbrev pub Has : Bool → List Event → List Event → Type 0
Has has xs ys = MatchBool has (IsPrefix ys xs) (IsPrefix xs ys × (length xs < length ys))

-- the list is the longer of the two, and each of the two begins it
abbrev pub IsLonger : List Event → List Event → List Event → Type 0
IsLonger xs ys zs = ((zs ≡ xs) ⊎ (zs ≡ ys)) × IsPrefix xs zs × IsPrefix ys zs

-- what the seat has then seen, and what it was told, is the longer of that and of the note
abbrev pub IsLearnt : SeatView → List Event → SeatView → Type 0
IsLearnt seat note after =
    (after.pass.thread ≡ seat.pass.thread) × (after.pass.number ≡ seat.pass.number)
    × IsLonger seat.pass.seen note after.pass.seen × IsLonger seat.told note after.told
