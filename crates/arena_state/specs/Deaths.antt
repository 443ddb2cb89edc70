-- What the labels, and what slots hold, are once objects are gone.
use Rattle.std.specs.Prelude.{◌≡◌, ℕ, List, [], ◌∷◌, Option, Some, None, replicate}
use Rattle.std.specs.Prelude.{slice_get, slice_set}
use Rattle.containers.specs.declared.visitor.Located.{Located}
use Rattle.label_intern.specs.declared.held.Held.{Held}
use Rattle.label_intern.specs.Owners.{release_at}
use Rattle.kernel_rules.specs.declared.objects.Mapping.{Mapping}
use Rattle.arena_state.specs.declared.holdings.Holdings.{Holdings}
use Rattle.arena_state.specs.declared.records.Record.{Record}
use Rattle.arena_state.specs.declared.records.Kept as kept
use Rattle.arena_state.specs.declared.records.Kept.TheVariants as keeps

-- the labels once a body lets go what it owns
abbrev pub released_body : List (Option Held) → kept.Kept → List (Option Held)
released_body labels (keeps.Container avoid used) = labels
released_body labels (keeps.Thread t) =
    release_at (release_at labels t.clearance.0) t.verify.0
released_body labels (keeps.Segment pages) = labels
released_body labels keeps.AddressSpace = labels
released_body labels (keeps.Gate g) = release_at labels g.clearance.0
released_body labels keeps.Device = labels

-- the labels once a record lets go what it owns
abbrev pub released : List (Option Held) → Record → List (Option Held)
released labels r = released_body (release_at labels r.label.0) r.body

-- the labels once the record of a slot lets go what it owns, if there is such a slot
abbrev pub forgotten : List (Option Held) → Option Record → List (Option Held)
forgotten labels None = labels
forgotten labels (Some r) = released labels r

-- the labels once all these died
abbrev pub after_deaths : List Record → List Located → List (Option Held) → List (Option Held)
after_deaths records [] labels = labels
after_deaths records (p ∷ ps) labels =
    after_deaths records ps (forgotten labels (slice_get records p.slot.0))

-- the bytes of slots once the body of a slot is gone: a segment's has none
abbrev pub bytes_left : kept.Kept → ℕ → List (List ℕ) → List (List ℕ)
bytes_left (keeps.Segment pages) slot segments = slice_set segments slot []
bytes_left (keeps.Container avoid used) slot segments = segments
bytes_left keeps.AddressSpace slot segments = segments
bytes_left (keeps.Thread t) slot segments = segments
bytes_left (keeps.Gate g) slot segments = segments
bytes_left keeps.Device slot segments = segments

-- the mappings of slots once the body of a slot is gone: an address space's has none
abbrev pub mappings_left : kept.Kept → ℕ → List (List (Option Mapping))
    → List (List (Option Mapping))
mappings_left keeps.AddressSpace slot mappings = slice_set mappings slot (replicate 16 None)
mappings_left (keeps.Container avoid used) slot mappings = mappings
mappings_left (keeps.Segment pages) slot mappings = mappings
mappings_left (keeps.Thread t) slot mappings = mappings
mappings_left (keeps.Gate g) slot mappings = mappings
mappings_left keeps.Device slot mappings = mappings

-- the bytes of slots once an object is gone whose record this is, if it has one
abbrev pub bytes_then : Option Record → ℕ → List (List ℕ) → List (List ℕ)
bytes_then None slot segments = segments
bytes_then (Some r) slot segments = bytes_left r.body slot segments

-- and the mappings
abbrev pub mappings_then : Option Record → ℕ → List (List (Option Mapping))
    → List (List (Option Mapping))
mappings_then None slot mappings = mappings
mappings_then (Some r) slot mappings = mappings_left r.body slot mappings

-- the holdings v are w once an object is gone
pub record IsVacated (v : Holdings) (o : Located) (w : Holdings) : Type 0 where
  pub records : w.records ≡ v.records
  pub labels : w.labels ≡ forgotten v.labels (slice_get v.records.items o.slot.0)
  pub queues : w.queues ≡ v.queues
  pub segments : w.segments ≡ bytes_then (slice_get v.records.items o.slot.0) o.slot.0 v.segments
  pub mappings : w.spaces
      ≡ mappings_then (slice_get v.records.items o.slot.0) o.slot.0 v.spaces
