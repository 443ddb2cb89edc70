-- How many events each thread has, kept beside the journal.
use Rattle.std.specs.Prelude.{◌≡◌, ℕ, suc, ◌==◌, if◌then◌else◌, List, [], ◌∷◌}
use Rattle.kernel_rules.specs.History.{count}
use Rattle.kernel_rules.specs.Events.{Event}
use Rattle.published_copy.specs.declared.tallies.Tally.{Tally}

-- where the thread stands, or how many tallies there are where it doesn't
abbrev pub place_of : ℕ → List Tally → ℕ
place_of thread [] = 0
place_of thread (t ∷ ts) = if t.thread == thread then 0 else suc (place_of thread ts)

-- how many events the tallies give the thread, none where it doesn't stand among them
abbrev pub tallied : ℕ → List Tally → ℕ
tallied thread [] = 0
tallied thread (t ∷ ts) = if t.thread == thread then t.events else tallied thread ts

-- the tallies give each thread as many events as it has
abbrev pub IsTallied : List Tally → List Event → Type 0
IsTallied tallies events = (thread : ℕ) → tallied thread tallies ≡ count thread events
