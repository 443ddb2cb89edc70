-- What stands in the log, and the events that it makes.
use Rattle.std.specs.Prelude.{ℕ, ◌+◌, List, [], ◌∷◌, Option, Some, None}
use Rattle.kernel_rules.specs.Events.{Event}
use Rattle.published_copy.specs.declared.entries.Entry.{Entry}
use Rattle.published_copy.specs.declared.entries.Entry.TheVariants.{Tried, Made}

abbrev pub tried : Event → Entry
tried e = Tried e

-- the events that the entries make, where this one was tried last before them
abbrev pub made_after : Option Event → List Entry → List Event
made_after p [] = []
made_after p (Tried e ∷ es) = made_after (Some e) es
made_after None (Made ∷ es) = made_after None es
made_after (Some x) (Made ∷ es) = x ∷ made_after None es

-- the event that was tried last, and not made
abbrev pub last_after : Option Event → List Entry → Option Event
last_after p [] = p
last_after p (Tried e ∷ es) = last_after (Some e) es
last_after p (Made ∷ es) = last_after None es

-- the events that the log makes
abbrev pub made : List Entry → List Event
made log = made_after None log

-- what an entry weighs, by which one that makes is told from one that tries
abbrev pub weight_of : Entry → ℕ
weight_of (Tried e) = 2
weight_of Made = 1

-- what the log weighs
abbrev pub weight : List Entry → ℕ
weight [] = 0
weight (x ∷ es) = weight_of x + weight es
