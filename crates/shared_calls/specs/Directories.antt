-- Which slots are those of a list.
use Rattle.std.specs.Prelude.{ℕ, ◌≡◌, ◌<◌, List, length, slice_index_or}
use Rattle.logbook.specs.Pages.{Book}

-- each of these is of the list, as it tells
abbrev pub AreOf : {T : Type 0} → (T → Book) → Book → List T → Type 0
AreOf {T} book_of book all = (j : ℕ) (d : T) → j < length all → book_of (slice_index_or all j d) ≡ book
