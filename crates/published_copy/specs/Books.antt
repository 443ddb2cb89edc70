-- What a contract sees of a book.
use Rattle.std.specs.Prelude.{ℕ, List}
use Rattle.kernel_rules.specs.Events.{Event}

-- every event since the boot, the oldest first, and the threads that were given seats
pub record BookView : Type 0 where
  pub journal : List Event
  pub seated : List ℕ

-- the threads that were given seats, and how many seats there are
pub record PlacesView : Type 0 where
  pub seated : List ℕ
  pub seats : ℕ

abbrev pub places_with : List ℕ → ℕ → PlacesView
places_with seated seats = record { seated = seated; seats = seats }
