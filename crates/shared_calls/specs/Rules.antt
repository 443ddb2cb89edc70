-- What stands at a place.
use Rattle.std.specs.Prelude.{ℕ, ◌≡◌, true, List, [], ◌∷◌, ◌++◌, length}
use Rattle.kernel_rules.specs.History.{is_batch}
use Rattle.shared_calls.specs.Names.{name_of}
use Rattle.shared_calls.specs.Lists.{made}
use Rattle.shared_calls.specs.declared.rules.Entry.{Entry}
use Rattle.shared_calls.specs.declared.rules.Made.{Made}

-- the list up to it has the batch last, and as many before it as the place's number tells
abbrev pub Stands : List ℕ → Entry → Type 0
Stands tag v =
    (before : List Made) × (mark : ℕ) × (tag ≡ length before ∷ name_of v.seen.book)
    × (v.seen.log ≡ before ++ made mark v.thread (v.call ∷ v.more.items) ∷ [])

-- what stands there is the batch after these
abbrev pub IsNext : List Made → Entry → Type 0
IsNext log entry =
    (mark : ℕ) × (entry.seen.log ≡ log ++ made mark entry.thread (entry.call ∷ entry.more.items) ∷ [])
    × (is_batch (entry.call ∷ entry.more.items) ≡ true)
