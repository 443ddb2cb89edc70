-- The text of a dump in pieces: what stands before the events, up to 64 events (or events and reads) each, and the tables.
use Rattle.std.specs.Prelude.{◌≡◌, ℕ, ◌+◌, ◌-◌, ◌*◌, ◌<◌, ◌==◌, nat_lt, List, [], ◌∷◌, ◌++◌, length, take, drop, Option, zero, suc, if◌then◌else◌}
use Rattle.std.specs.List.{flat_map, AllByRecursion}
use Rattle.base.specs.declared.ranges.Limits.{Limits}
use Rattle.call_text.specs.Text.{lines_text}
use Rattle.checkpoints.specs.Checkpoint.{Checkpoint}
use Rattle.kernel_rules.specs.Events.{Event}
use Rattle.kernel_rules.specs.History.{IsLegalFrom}
use Rattle.dump_text.specs.CheckpointLines.{start_lines}
use Rattle.dump_text.specs.Dump.{event_lines, format_of, table_lines}
use Rattle.dump_text.specs.Fits.{FitsLine, FitTables}
use Rattle.dump_text.specs.Line.{line_text, IsBootable}
use Rattle.dump_text.specs.Lists.{DumpLists, TableLists}
use Rattle.dump_text.specs.Whole.{start_with, whole_dump, CanBegin}
use Rattle.dump_text.specs.declared.lines.Line.{Line}
use Rattle.dump_text.specs.declared.lines.Line.TheVariants as lines
use Rattle.dump_text.specs.declared.pieces.Piece.{Piece}
use Rattle.dump_text.specs.declared.pieces.Piece.TheVariants as pieces

-- the lines before the events, and those after them
abbrev pub head_lines : Limits → Option Checkpoint → List Line
head_lines limits checkpoint = lines.Version (format_of checkpoint) ∷ lines.Limits limits ∷ start_lines checkpoint

abbrev pub tail_lines : TableLists → List Line
tail_lines t = table_lines t ++ lines.End ∷ []

-- what the piece with this number tells, where there are so many events
abbrev pub piece_at : ℕ → ℕ → Piece
piece_at count number =
    if number == 0 then pieces.Head
    else if nat_lt (64 * (number - 1)) count then pieces.Events (64 * (number - 1))
    else if nat_lt (64 * (number - 1)) (count + 64) then pieces.Tables
    else pieces.Nothing

-- the text of a piece of a head, of what items tell, up to 64 in a piece, and of a tail
abbrev pub part_text : {X : Type 0} → (X → List ℕ) → List ℕ → List ℕ → List X → Piece → List ℕ
part_text text head tail items pieces.Head = head
part_text text head tail items (pieces.Events from) = flat_map text (take 64 (drop from items))
part_text text head tail items pieces.Tables = tail
part_text text head tail items pieces.Nothing = []

-- its lines
abbrev pub lines_in : DumpLists → Piece → List Line
lines_in d pieces.Head = head_lines d.limits d.checkpoint
lines_in d (pieces.Events from) = flat_map event_lines (take 64 (drop from d.events))
lines_in d pieces.Tables = tail_lines d.tables
lines_in d pieces.Nothing = []

-- the text of the piece with this number; empty past the last
abbrev pub piece_text : DumpLists → ℕ → List ℕ
piece_text d number = lines_text line_text (lines_in d (piece_at (length d.events) number))

-- the values of a piece fit their words
abbrev pub FitsPiece : DumpLists → Piece → Type 0
FitsPiece d pieces.Head = AllByRecursion FitsLine (start_lines d.checkpoint)
FitsPiece d (pieces.Events from) = AllByRecursion FitsLine (flat_map event_lines (take 64 (drop from d.events)))
FitsPiece d pieces.Tables = FitTables d.tables
FitsPiece d pieces.Nothing = Unit {0}

-- the bytes are the piece with this number of the dump of events that begin there
pub record IsPiece (limits : Limits) (checkpoint : Option Checkpoint) (events : List Event) (number : ℕ) (bytes : List ℕ) : Type 0 where
  pub text : bytes ≡ piece_text (whole_dump limits checkpoint events []) number
  pub fits : FitsPiece (whole_dump limits checkpoint events []) (piece_at (length events) number)

-- the limits are in range, and the events are legal from there
pub record AreLegal (limits : Limits) (checkpoint : Option Checkpoint) (events : List Event) : Type 0 where
  pub range : IsBootable limits
  pub begin : CanBegin limits checkpoint
  pub legal : IsLegalFrom (start_with limits checkpoint) events

-- so many texts, one after another
abbrev pub joined : (ℕ → List ℕ) → ℕ → List ℕ
joined texts zero = []
joined texts (suc n) = joined texts n ++ texts n

-- they are the first pieces, and the next one is empty
pub record ArePieces (limits : Limits) (checkpoint : Option Checkpoint) (events : List Event) (texts : ℕ → List ℕ) (count : ℕ) : Type 0 where
  pub each : (number : ℕ) → number < count → IsPiece limits checkpoint events number (texts number)
  pub last : IsPiece limits checkpoint events count []
