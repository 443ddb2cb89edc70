-- The places of seat and submit refusals in the table of refusals.
use Rattle.base.specs.declared.refusals.Refusal as refusal
use Rattle.base.specs.declared.refusals.Refusal.TheVariants as is
use Rattle.published_copy.specs.declared.refusals.SeatRefusal as seat
use Rattle.published_copy.specs.declared.refusals.SeatRefusal.TheVariants as no_seat
use Rattle.published_copy.specs.declared.refusals.SubmitRefusal as submit
use Rattle.published_copy.specs.declared.refusals.SubmitRefusal.TheVariants as no_submit

-- why a seat is not opened
abbrev pub seat_refusal : seat.SeatRefusal → refusal.Refusal
seat_refusal no_seat.SeatTaken = is.SeatTaken
seat_refusal no_seat.NoThread = is.NoThread
seat_refusal no_seat.SeatsSpent = is.SeatsSpent

-- why a call is not committed
abbrev pub submit_refusal : submit.SubmitRefusal → refusal.Refusal
submit_refusal no_submit.Memory = is.Memory
submit_refusal no_submit.OutOfTurn = is.OutOfTurn
submit_refusal no_submit.BadBatch = is.BadBatch
