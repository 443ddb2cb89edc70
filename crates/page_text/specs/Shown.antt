-- What a page shows of a text.
use Rattle.std.specs.Global.{Vec}
use Rattle.std.specs.Prelude.{◌≡◌, ℕ, true, List, Option, Result, Ok, Err}
use Rattle.auditor.specs.Verdict.{begins}
use Rattle.base.specs.declared.ids.Category.{Category}
use Rattle.call_text.specs.declared.known_names.Named.{Named}
use Rattle.shown_dumps.specs.DotShown.{IsRed, IsNoDot}
use Rattle.shown_dumps.specs.declared.dot.faults.DotFault.{DotFault}
use Rattle.dump_text.specs.Dump.{IsDump}
use Rattle.dump_text.specs.Lists.{DumpLists}
use Rattle.page_text.specs.Page.{page_data, page_text}

-- The text is a dump whose events can begin, and this is its page, where these objects are reached.
abbrev pub PageShows : List Named → Option (ℕ × Category) → List ℕ → List ℕ → Type 0
PageShows names flow text page =
    (d : DumpLists) × IsDump text d × (begins d ≡ true)
    × ((reached : List ℕ) × IsRed flow text reached × (page ≡ page_text (page_data names text d flow reached)))

-- the page of a text, or why there is none, as there is no graph
abbrev pub IsPage : List Named → Option (ℕ × Category) → List ℕ → Result (Vec ℕ) DotFault → Type 0
IsPage names flow text (Ok told) = PageShows names flow text told.items
IsPage names flow text (Err fault) = IsNoDot flow text fault
