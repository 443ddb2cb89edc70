-- Look-ups in what a kernel keeps, and what an answer tells of them.
use Rattle.std.specs.Prelude.{◌≡◌, ◌-◌, List, [], ◌∷◌, Option, Some, None, option_map, nat_le, slice_get}
use Rattle.std.specs.Prelude.{if◌then◌else◌}
use Rattle.std.specs.Option.{option_and_then}
use Rattle.call_records.specs.declared.lookups.Found.{Found}
use Rattle.call_records.specs.declared.lookups.Found.TheVariants as found
use Rattle.call_records.specs.declared.lookups.Lookup.{Lookup}
use Rattle.call_records.specs.declared.lookups.Lookup.TheVariants as lookups
use Rattle.call_records.specs.declared.records.Answer.{Answer}
use Rattle.call_records.specs.declared.records.Request.{Request}
use Rattle.call_records.specs.Maybe.{map2}
use Rattle.call_records.specs.Told.{Has, IsOf, bit}
use Rattle.call_records.specs.Words.{index_at, number_at}

-- the look-ups by their numbers, from 35
abbrev pub all : List (Request → Option Lookup)
all =
    (λ r. option_map lookups.Live (number_at r 0)) ∷ (λ r. Some (lookups.Used r.object))
    ∷ (λ r. option_map (lookups.Shown r.object) (number_at r 0))
    ∷ (λ r. option_map lookups.Label (index_at r 0))
    ∷ (λ r. map2 lookups.Order (index_at r 0) (index_at r 1)) ∷ []

-- the look-up that a record asks for
abbrev pub lookup_of : Request → Option Lookup
lookup_of r =
    if nat_le 35 r.call then option_and_then (λ asks. asks r) (slice_get all (r.call - 35)) else None

-- the answer tells what is found
abbrev pub TellsFound : Found → Answer → Type 0
TellsFound found.Nothing a = Has 13 [] a × (a.len ≡ 0)
TellsFound (found.Live id) a = Has 13 (id ∷ []) a × (a.len ≡ 1)
TellsFound (found.Used pages) a = Has 13 (pages ∷ []) a × (a.len ≡ 1)
TellsFound (found.Shown segment rights) a =
    Has 13 (segment ∷ bit rights.read ∷ bit rights.write ∷ []) a × (a.len ≡ 1)
TellsFound (found.Label l) a = Has 13 [] a × IsOf l a.label × (a.len ≡ 1)
TellsFound (found.Order bits) a = Has 13 (bits ∷ []) a × (a.len ≡ 1)
