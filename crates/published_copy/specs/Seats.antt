-- Why a thread is given no seat, and what a caller of an open kernel knows of the answer.
use Rattle.std.specs.Prelude.{◌≡◌, ◌≤◌, ℕ, ◌==◌, ◌||◌, true, nat_lt, not, if◌then◌else◌}
use Rattle.std.specs.Prelude.{length, Option, Some, None}
use Rattle.base.specs.Live.{has}
use Rattle.base.specs.declared.kinds.Kind.TheVariants as kinds
use Rattle.kernel_rules.specs.History.{state_of, count, IsLegal}
use Rattle.kernel_rules.specs.State.{State, is_live_kind}
use Rattle.published_copy.specs.Books.{BookView, PlacesView, places_with}
use Rattle.published_copy.specs.Boots.{Boot}
use Rattle.published_copy.specs.Turns.{SeatView, turn, seat_with}
use Rattle.published_copy.specs.declared.refusals.SeatRefusal as seat
use Rattle.published_copy.specs.declared.refusals.SeatRefusal.TheVariants as is

-- it was given a seat, or has events; it is not a live thread of the state; or all seats were given
abbrev pub refused_at : State → ℕ → PlacesView → ℕ → Option seat.SeatRefusal
refused_at s events places thread =
    if has places.seated thread || nat_lt 0 events then Some is.SeatTaken
    else if not (is_live_kind s kinds.Thread thread) then Some is.NoThread
    else if length places.seated == places.seats then Some is.SeatsSpent
    else None

-- the same, of a book of the boot
abbrev pub seat_refused : Boot → BookView → ℕ → Option seat.SeatRefusal
seat_refused boot book thread =
    refused_at (state_of boot.limits book.journal) (count thread book.journal)
    (places_with book.seated boot.seats) thread

-- at some legal journal, which is what the seat has seen and was told, with no more threads that
-- were given seats than there are seats, nothing refuses the thread one: it is live, was given none
-- and has no event
abbrev pub IsOpened : Boot → ℕ → SeatView → Type 0
IsOpened boot thread opened =
    (book : BookView) × IsLegal boot.limits book.journal × (length book.seated ≤ boot.seats)
    × (seat_refused boot book thread ≡ None)
    × (is_live_kind (state_of boot.limits book.journal) kinds.Thread thread ≡ true)
    × (count thread book.journal ≡ 0)
    × (opened ≡ seat_with (turn thread 1 book.journal) book.journal)

-- at some legal journal, with no more threads that were given seats than there are seats, this
-- refuses the thread one
abbrev pub IsNotOpened : Boot → ℕ → seat.SeatRefusal → Type 0
IsNotOpened boot thread refusal =
    (book : BookView) × IsLegal boot.limits book.journal × (length book.seated ≤ boot.seats)
    × (seat_refused boot book thread ≡ Some refusal)
