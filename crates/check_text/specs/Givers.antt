-- Which lines give the names that they bind to which.
use Rattle.std.specs.Prelude.{List, Bool, not, ◌&&◌, ◌||◌, ◌==◌, nat_lt, if◌then◌else◌}
use Rattle.std.specs.List.{list_any}
use Rattle.std.specs.Str.{bytes_eq}
use Rattle.check_text.specs.declared.script_checks.outlines.Outline.{Outline}

-- a line between two lines is of the later one's worker, and ends a batch
abbrev pub ends_batch : Outline → Outline → Outline → Bool
ends_batch from to line =
    bytes_eq line.worker to.worker && not line.more && nat_lt from.number line.number
    && nat_lt line.number to.number

abbrev pub is_ended : List Outline → Outline → Outline → Bool
is_ended lines from to = list_any (ends_batch from to) lines

-- the batch of a line is over before a later line of its worker; a line that is of none is its own
abbrev pub is_over : List Outline → Outline → Outline → Bool
is_over lines from to =
    if from.more then is_ended lines from to else nat_lt from.number to.number

-- A line gives the name that it binds to those of later phases, and in its phase to those of its
-- own worker that come after its batch.
abbrev pub gives : List Outline → Outline → Outline → Bool
gives lines from to =
    nat_lt from.phase to.phase
    || (from.phase == to.phase && bytes_eq from.worker to.worker && is_over lines from to)

-- a line makes a category, or another object, as is asked
abbrev pub is_kind : Bool → Outline → Bool
is_kind category line = if category then line.category else not line.category
