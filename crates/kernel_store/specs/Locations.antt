-- What a call names, and where an address lies, by locations.
use Rattle.std.specs.Prelude.{ℕ}
use Rattle.kernel_rules.specs.declared.calls.Entry.{Entry}
use Rattle.kernel_rules.specs.declared.places.Place.{Place}
use Rattle.kernel_store.specs.declared.names.Named.{Named}
use Rattle.kernel_store.specs.declared.places.Placed.{Placed}

-- by what a store says of locations, all that is named lies where it is told
pub record Stand {L : Type 0} (stands : L → Type 0) (n : Named L) : Type 0 where
  pub caller : stands n.caller
  pub container : stands n.container
  pub object : stands n.object

-- the entry that is named, by the ids of its locations
abbrev pub entry_of : {L : Type 0} → (L → ℕ) → Named L → Entry
entry_of id n = record { container = id n.container; object = id n.object }

-- the place that was found, by the id of its segment's location
abbrev pub place_in : {L : Type 0} → (L → ℕ) → Placed L → Place
place_in id p = record { segment = id p.segment; offset = p.offset; rights = p.rights }
