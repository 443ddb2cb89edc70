-- What is read of a dump.
use Rattle.std.specs.Prelude.{◌≡◌, ℕ, List, [], ◌∷◌, ◌++◌, length, Option, Some, None, IsSome, Result, Ok}
use Rattle.std.specs.Prelude.{Err}
use Rattle.base.specs.declared.levels.Level.TheVariants.{L1}
use Rattle.kernel_rules.specs.Events.{Event}
use Rattle.kernel_rules.specs.declared.histories.events.Answered.{Answered}
use Rattle.dump_text.specs.declared.places.Place.{Place}
use Rattle.dump_text.specs.declared.lines.Line.{Line}
use Rattle.dump_text.specs.declared.lines.Line.TheVariants as lines
use Rattle.dump_text.specs.Lists.{DumpLists}
use Rattle.dump_text.specs.declared.tables.Dump.{Dump}
use Rattle.dump_text.specs.declared.errors.DumpError.{DumpError}
use Rattle.dump_text.specs.declared.errors.DumpError.TheVariants as errors
use Rattle.dump_text.specs.Line.{line_text, IsLine}
use Rattle.dump_text.specs.CheckpointLines.{with_state}
use Rattle.dump_text.specs.Dump.{IsDump, DumpFaultsAt, event_of, next}

-- lines of no kind, and limits that nothing told yet
abbrev pub nothing : DumpLists
nothing = record {
  limits = record { pages = 8; device = L1; next_id = 4; next_category = 1 };
  checkpoint = None;
  events = [];
  reads = [];
  tables = record { live = []; uses = []; maps = []; labels = []; orders = [] };
}

-- with one more call of the last event
abbrev pub with_call : Answered → List Event → List Event
with_call a [] = []
with_call a (e ∷ []) = record e { calls = e.calls ++ a ∷ [] } ∷ []
with_call a (e ∷ f ∷ es) = e ∷ with_call a (f ∷ es)

-- with what one more line tells. A batch has no call before their lines come
abbrev pub added : Line → DumpLists → DumpLists
added (lines.Version f) d = d
added (lines.Limits l) d = record d { limits = l }
added (lines.State s) d = record d { checkpoint = with_state s d.checkpoint }
added (lines.Event e) d = record d { events = d.events ++ event_of e ∷ [] }
added (lines.Batch b) d = record d {
  events = d.events ++ record { thread = b.thread; number = b.number; calls = [] } ∷ [];
}
added (lines.Call a) d = record d { events = with_call a d.events }
added (lines.Read r) d =
    record d { reads = d.reads ++ record { place = length d.events; read = r } ∷ [] }
added (lines.Live id) d =
    record d { tables = record d.tables { live = d.tables.live ++ id ∷ [] } }
added (lines.Use u) d = record d { tables = record d.tables { uses = d.tables.uses ++ u ∷ [] } }
added (lines.Map s) d = record d { tables = record d.tables { maps = d.tables.maps ++ s ∷ [] } }
added (lines.Label s) d =
    record d { tables = record d.tables { labels = d.tables.labels ++ s ∷ [] } }
added (lines.Order o) d =
    record d { tables = record d.tables { orders = d.tables.orders ++ o ∷ [] } }
added lines.End d = d

-- The line that the text spells may come at the place, and was added. Or no line that may come there
-- has this spelling.
abbrev pub Takes : List ℕ → Place → DumpLists → DumpLists → Option Place → Type 0
Takes text place old new (Some later) =
    (l : Line) × IsLine l × (text ≡ line_text l) × (next place l ≡ Some later) × (new ≡ added l old)
Takes text place old new None =
    (l : Line) → IsLine l → IsSome (next place l) → text ≡ line_text l → ⊥

-- The dump that the bytes spell, or the first faulty line. Where memory ran out nothing is told.
abbrev pub ReadsDump : List ℕ → Result Dump DumpError → Type 0
ReadsDump bytes (Ok d) = IsDump bytes d
ReadsDump bytes (Err errors.Memory) = Unit {0}
ReadsDump bytes (Err (errors.Line n)) = DumpFaultsAt bytes n
