-- What a log keeps: events, and reads among them.
use Rattle.std.specs.Prelude.{◌≡◌, ℕ, ◌+◌, nat_lt, Bool, false, List, [], ◌∷◌, if◌then◌else◌}
use Rattle.std.specs.List.{list_all, AllByRecursion}
use Rattle.call_text.specs.Text.{lines_text}
use Rattle.kernel_rules.specs.Events.{Event}
use Rattle.dump_text.specs.Dump.{event_lines}
use Rattle.dump_text.specs.Fits.{FitsLine}
use Rattle.dump_text.specs.Line.{line_text}
use Rattle.dump_text.specs.Reads.{read_line}
use Rattle.dump_text.specs.declared.tables.PlacedRead.{PlacedRead}
use Rattle.logged_kernel.specs.ReadLines.{ReadLine, line_of}
use Rattle.logged_kernel.specs.declared.entries.Entry.{Entry}
use Rattle.logged_kernel.specs.declared.entries.Entry.TheVariants as entries

-- the events
abbrev pub events_of : List Entry → List Event
events_of [] = []
events_of (entries.Event e ∷ es) = e ∷ events_of es
events_of (entries.Read r ∷ es) = events_of es

-- the text of an entry's lines
abbrev pub entry_text : Entry → List ℕ
entry_text (entries.Event e) = lines_text line_text (event_lines e)
entry_text (entries.Read r) = r.line

-- it is a read by a greater thread
abbrev pub is_later : ℕ → Entry → Bool
is_later thread (entries.Event e) = false
is_later thread (entries.Read r) = nat_lt thread r.thread

-- with a read more at the end, before the last reads where these are all by greater threads
abbrev pub among : ReadLine → List Entry → List Entry
among r [] = entries.Read r ∷ []
among r (e ∷ es) = if list_all (is_later r.thread) (e ∷ es) then entries.Read r ∷ e ∷ es else e ∷ among r es

-- the lines of the reads tell these, each at its place, which is how many events stand before it; the first has so many before it
abbrev pub Tell : ℕ → List Entry → List PlacedRead → Type 0
Tell place [] reads = reads ≡ []
Tell place (entries.Event e ∷ es) reads = Tell (place + 1) es reads
Tell place (entries.Read l ∷ es) [] = ⊥
Tell place (entries.Read l ∷ es) (r ∷ rs) =
    (r.place ≡ place) × (l ≡ line_of r.read) × FitsLine (read_line r) × Tell place es rs

-- the values of an entry's event fit their words
abbrev pub FitsEntry : Entry → Type 0
FitsEntry (entries.Event e) = AllByRecursion FitsLine (event_lines e)
FitsEntry (entries.Read r) = Unit {0}
