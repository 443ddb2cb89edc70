-- What is shown of all that was read.
use Rattle.std.proofs.Common.{◌≡◌, ℕ, List, Option, Some, None, IfSome, subst, ◌∙◌}
use Rattle.std.specs.Global.{Vec}
use Rattle.base.specs.declared.ids.Category.{Category}
use Rattle.call_text.specs.declared.known_names.Named.{Named}
use Rattle.dump_text.specs.Lists.{DumpLists}
use Rattle.dump_text.specs.Whole.{start_with}
use Rattle.dump_text.specs.declared.tables.PlacedRead.{PlacedRead}
use Rattle.kernel_rules.specs.Events.{Event}
use Rattle.kernel_rules.specs.State.{State}
use Rattle.page_text.specs.Page.{page_text, page_data, shown_data}
use Rattle.page_text.specs.Shown.{PageShows}
use Rattle.page_text.specs.Steps.{turns, steps_of}
use Rattle.page_text.specs.Told.{told_in}

pub shown_of_all : (names : List Named) (remaining : Option (List ℕ)) (flow : Option (ℕ × Category)) (read given : List ℕ) (told : Vec ℕ)
    → IfSome remaining (λ left. read ≡ left) → given ≡ read → PageShows names flow given told.items
    → IfSome remaining (λ text. PageShows names flow text told.items)
shown_of_all names None flow read given told is same shown = tt
shown_of_all names (Some left) flow read given told is same shown = subst (λ (l : List ℕ). PageShows names flow l told.items) (same ∙ is) shown

-- the page of what stands in a dump is the dump's
pub page_told : (names : List Named) (text : List ℕ) (d : DumpLists) (flow : Option (ℕ × Category)) (reached given : List ℕ) (s : State)
    (events : List Event) (reads : List PlacedRead) (told : List ℕ)
    → told ≡ page_text (shown_data names flow given (steps_of names (told_in text) s (turns events reads)))
    → given ≡ reached → s ≡ (start_with d.limits d.checkpoint).state → events ≡ d.events → reads ≡ d.reads
    → told ≡ page_text (page_data names text d flow reached)
page_told names text d flow reached given s events reads told is same begun are asked =
    is
    ∙ (λ i. page_text (shown_data names flow (same i) (steps_of names (told_in text) (begun i) (turns (are i) (asked i)))))
