-- The dump of batches of the list, piece by piece.
use mathlib.Core.List.{IsPrefix}
use Rattle.std.specs.Prelude.{◌≡◌, ◌≢◌, ℕ, ◌+◌, ◌-◌, ◌*◌, ◌<◌, ◌≤◌, List, [], Option, Some, None, min, true, length, drop}
use Rattle.std.specs.Arc.{arc_value}
use Rattle.base.specs.Limits.{in_range}
use Rattle.base.specs.declared.ranges.Limits.{Limits}
use Rattle.checkpoints.specs.Checkpoint.{Checkpoint}
use Rattle.checkpoints.specs.Restorable.{is_restorable}
use Rattle.checkpoints.specs.Restored.{restored}
use Rattle.dump_text.specs.Boot.{boot_checkpoint}
use Rattle.dump_text.specs.Lists.{DumpLists}
use Rattle.dump_text.specs.Pieces.{AreLegal, FitsPiece, IsPiece, piece_at, piece_text}
use Rattle.dump_text.specs.Whole.{whole_dump}
use Rattle.dump_text.specs.declared.pieces.Piece.TheVariants as pieces
use Rattle.kernel_rules.specs.Events.{Event}
use Rattle.kernel_rules.specs.State.{State}
use Rattle.logbook.specs.Pages.{Book}
use Rattle.shared_calls.specs.Cursors.{IsPlaced}
use Rattle.shared_calls.specs.Events.{events_from, events_of, IsJournal}
use Rattle.shared_calls.specs.Seats.{SeatView, state_of}
use Rattle.shared_calls.specs.declared.rules.Made.{Made}
use Rattle.shared_calls.specs.declared.tellings.Telling.{Telling}

-- a dump: the limits of the boot, the checkpoint at which it begins, which list it is of and the beginning of that with which it ends, its
-- events, and the number of its next piece
pub record DumpView : Type 0 where
  pub limits : Limits
  pub origin : Checkpoint
  pub list : Book
  pub seen : List Made
  pub events : List Event
  pub number : ℕ

-- nothing was told of the dump of all that a seat has seen, which begins at the boot
abbrev pub dump_at : SeatView → DumpView
dump_at seat = record {
  limits = seat.limits;
  origin = boot_checkpoint seat.limits;
  list = seat.list;
  seen = seat.seen;
  events = events_of seat.limits seat.seen;
  number = 0;
}

-- nothing was told of the dump of what the list has more than a seat has seen, up to so many batches. It begins at a checkpoint of the
-- seat's state, where the numbers of threads begin anew
pub record IsDumpTo (count : ℕ) (seat : SeatView) (d : DumpView) : Type 0 where
  pub limits : d.limits ≡ seat.limits
  pub state : restored d.limits d.origin ≡ state_of seat.limits seat.seen
  pub anew : d.origin.next ≡ []
  pub list : d.list ≡ seat.list
  pub begins : IsPrefix seat.seen d.seen
  pub ends : length d.seen ≡ count
  pub events : d.events ≡ events_from (state_of seat.limits seat.seen) (drop (length seat.seen) d.seen)
  pub number : d.number ≡ 0

-- the bytes are its next piece
abbrev pub IsPieceOf : DumpView → List ℕ → Type 0
IsPieceOf d bytes = IsPiece d.limits (Some d.origin) d.events d.number bytes

-- after a piece that tells something the next one comes; after the last one there is no more, and the events are legal
abbrev pub IsDumpAfter : DumpView → List ℕ → Option DumpView → Type 0
IsDumpAfter d bytes (Some later) =
    (later ≡ record d { number = d.number + 1 }) × (piece_at (length d.events) d.number ≢ pieces.Nothing)
IsDumpAfter d bytes None = (bytes ≡ []) × AreLegal d.limits (Some d.origin) d.events

-- the limits of the kernel's boot, and the state at the checkpoint
abbrev pub limits_in : Telling → Limits
limits_in t = (arc_value t.chair.list).limits

abbrev pub state_in : Telling → State
state_in t = restored (limits_in t) t.origin

-- the events that were told, and all that are to be told
abbrev pub events_told : Telling → List Event
events_told t = events_from (state_in t) (drop t.before t.cursor.seen.log)

abbrev pub events_in : Telling → List Event
events_in t = events_from (state_in t) (drop t.before t.end.seen.log)

-- the dump
abbrev pub lists_in : Telling → DumpLists
lists_in t = whole_dump (limits_in t) (Some t.origin) (events_in t) []

-- the same as contracts see it, before the piece with this number
abbrev pub dump_in : Telling → ℕ → DumpView
dump_in t number = record {
  limits = limits_in t;
  origin = t.origin;
  list = t.end.seen.book;
  seen = t.end.seen.log;
  events = events_in t;
  number = number;
}

-- two beginnings of the list, of which the first is not before the dump's; the checkpoint can be restored, with no numbers, and the
-- journal is of the batches from there to the first
pub record IsTelling (t : Telling) : Type 0 where
  pub list : t.cursor.seen.book ≡ (arc_value t.chair.list).start.book
  pub whole : t.end.seen.book ≡ (arc_value t.chair.list).start.book
  pub placed : IsPlaced t.cursor
  pub ended : IsPlaced t.end
  pub begun : t.before ≤ t.cursor.count
  pub within : t.before ≤ t.end.count
  pub range : in_range (limits_in t) ≡ true
  pub fit : is_restorable (limits_in t) t.origin ≡ true
  pub anew : t.origin.next ≡ []
  pub journal : IsJournal (state_in t) (drop t.before t.cursor.seen.log) t.journal

-- the pieces before this number were told: the first has no events, and each other 64 or the rest
abbrev pub IsAt : Telling → ℕ → Type 0
IsAt t number = t.cursor.count ≡ t.before + min (64 * (number - 1)) (t.end.count - t.before)

-- it is the same dump
abbrev pub IsSameDump : Telling → Telling → Type 0
IsSameDump before after =
    (after.chair ≡ before.chair) × (after.origin ≡ before.origin) × (after.before ≡ before.before) × (after.end ≡ before.end)

-- its events are legal
abbrev pub AreLegalIn : Telling → Type 0
AreLegalIn t = AreLegal (limits_in t) (Some t.origin) (events_in t)

-- the piece with this number was told, and the next one may be; or it is past the last
abbrev pub IsTold : Telling → Telling → ℕ → Option (List ℕ) → Type 0
IsTold before after number (Some bytes) =
    IsTelling after × IsAt after (number + 1)
    × (bytes ≡ piece_text (lists_in before) number)
    × FitsPiece (lists_in before) (piece_at (length (events_in before)) number)
    × (piece_at (length (events_in before)) number ≢ pieces.Nothing)
    × (64 * number < before.end.count + 128)
IsTold before after number None =
    (piece_text (lists_in before) number ≡ [])
    × FitsPiece (lists_in before) (piece_at (length (events_in before)) number)
    × AreLegalIn before
