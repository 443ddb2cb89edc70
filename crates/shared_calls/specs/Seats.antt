-- What a seat knows, and what calls make of it.
use mathlib.Core.List.{IsPrefix}
use Rattle.std.specs.Prelude.{ℕ, ◌≡◌, ◌<◌, ◌≤◌, Bool, MatchBool, List, [], ◌∷◌, ◌++◌, length}
use Rattle.logbook.specs.Pages.{Book}
use Rattle.kernel_rules.specs.Events.{by}
use Rattle.base.specs.declared.ranges.Limits.{Limits}
use Rattle.kernel_rules.specs.Runs.{booted, replies_to, state_after}
use Rattle.kernel_rules.specs.State.{State}
use Rattle.kernel_rules.specs.Step.{answer, query_answer}
use Rattle.kernel_rules.specs.declared.calls.Call.{Call}
use Rattle.kernel_rules.specs.declared.calls.Query.{Query}
use Rattle.kernel_rules.specs.declared.replies.Reply.{Reply}
use Rattle.shared_calls.specs.Lists.{calls_in, made}
use Rattle.shared_calls.specs.declared.rules.Made.{Made}

-- the limits of the boot, which list it is and whether it has a log, the beginning of the list that the seat has seen, and the mark of
-- its next batch
pub record SeatView : Type 0 where
  pub limits : Limits
  pub list : Book
  pub is_logged : Bool
  pub seen : List Made
  pub mark : ℕ

abbrev pub seat_with : Limits → Book → Bool → List Made → ℕ → SeatView
seat_with limits list is_logged seen mark =
    record { limits = limits; list = list; is_logged = is_logged; seen = seen; mark = mark }

-- the state that the calls of batches lead to, after a boot
abbrev pub state_of : Limits → List Made → State
state_of limits batches = state_after (booted limits) (calls_in batches)

-- a seat of a list of these limits that has seen no batch
abbrev pub IsFirst : Limits → Bool → SeatView → Type 0
IsFirst limits is_logged seat =
    (list : Book) × (mark : ℕ) × (seat ≡ seat_with limits list is_logged [] mark)

-- a seat of the same list that has seen the same
abbrev pub IsBeside : SeatView → SeatView → Type 0
IsBeside other seat = (mark : ℕ) × (seat ≡ record other { mark = mark })

-- the seat has seen no less, and its mark is as it was
abbrev pub IsLater : SeatView → SeatView → Type 0
IsLater before after =
    (after.limits ≡ before.limits) × (after.list ≡ before.list) × (after.is_logged ≡ before.is_logged)
    × IsPrefix before.seen after.seen × (after.mark ≡ before.mark)

-- the reply is the answer in the state of what the seat has then seen
abbrev pub IsRead : ℕ → SeatView → Query → Reply → SeatView → Type 0
IsRead thread before query reply after =
    IsLater before after × (reply ≡ query_answer (state_of after.limits after.seen) thread query)

-- the calls are the last batch of what the seat has then seen, with the mark that the seat had; the batches before it begin with
-- all that the seat had seen, and their state tells of the replies
abbrev pub IsSubmittedAs : (State → Type 0) → ℕ → SeatView → List Call → SeatView → Type 0
IsSubmittedAs Tells thread before calls after =
    (batches : List Made) × (mark : ℕ) × IsPrefix before.seen batches
    × (after ≡ seat_with before.limits before.list before.is_logged (batches ++ made before.mark thread calls ∷ []) mark)
    × Tells (state_of before.limits batches)

-- the same of one call: the reply is the answer in that state
abbrev pub IsSubmitted : ℕ → SeatView → Call → Reply → SeatView → Type 0
IsSubmitted thread before call reply after =
    IsSubmittedAs (λ s. reply ≡ answer s thread call) thread before (call ∷ []) after

-- and of any batch: each reply is the answer in the state that the calls before it leave
abbrev pub IsBatchSubmitted : ℕ → SeatView → List Call → List Reply → SeatView → Type 0
IsBatchSubmitted thread before calls replies after =
    IsSubmittedAs (λ s. replies ≡ replies_to s (by thread calls)) thread before calls after

-- the seat has seen no less, and whether it has seen so many batches
abbrev pub IsLearned : ℕ → SeatView → Bool → SeatView → Type 0
IsLearned count before learned after =
    IsLater before after × MatchBool learned (count ≤ length after.seen) (length after.seen < count)

-- of two lists the second begins the first where the first has no fewer batches, and else the first the second
abbrev pub Has : Bool → List Made → List Made → Type 0
Has has xs ys = MatchBool has (IsPrefix ys xs) (IsPrefix xs ys × (length xs < length ys))
