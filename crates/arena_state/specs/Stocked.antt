-- What slots hold of their objects beside the records, and the state with it.
use Rattle.std.specs.Prelude.{◌≡◌, ℕ, ◌*◌, ◌<◌, Bool, true, false, ◌&&◌, length, replicate, None}
use Rattle.std.specs.Prelude.{if◌then◌else◌}
use Rattle.std.specs.Ordering.{nat_cmp}
use Rattle.std.specs.Map.{lookup}
use Rattle.std.specs.BTreeMap.{is_at}
use Rattle.base.specs.Live.{has}
use Rattle.arena_memory.specs.Segments.{bytes_in}
use Rattle.arena_memory.specs.Queues.{packets_in}
use Rattle.arena_memory.specs.Mappings.{places_at}
use Rattle.kernel_rules.specs.Sizes.{page_bytes, slot_count}
use Rattle.kernel_rules.specs.State.{State}
use Rattle.kernel_rules.specs.WellFormed.{is_whole_body}
use Rattle.kernel_rules.specs.declared.objects.Body.TheVariants as is
use Rattle.arena_state.specs.declared.records.Kept as kept
use Rattle.arena_state.specs.declared.records.Kept.TheVariants as keeps
use Rattle.arena_state.specs.declared.holdings.Holdings.{Holdings}
use Rattle.arena_state.specs.declared.pieces.Pieces.{Pieces}
use Rattle.arena_state.specs.Rows.{rows_of, row_slot}
use Rattle.arena_state.specs.Filled.{Content, filled_state}
use Rattle.arena_state.specs.Assembled.{pieces_state, record_in}

-- the slot of an id, 0 where it has none
abbrev pub slot_of : Pieces → ℕ → ℕ
slot_of p id = row_slot (lookup (is_at (nat_cmp id)) (rows_of p.places.lists p.places.slots))

-- what a slot holds
abbrev pub content_in : Holdings → ℕ → Content
content_in h slot = record {
  bytes = bytes_in h.segments slot;
  slots = places_at h.spaces slot;
  packets = packets_in h.queues slot;
}

-- what the slot of an id holds
abbrev pub content_at : Pieces → ℕ → Content
content_at p id = content_in p.holdings (slot_of p id)

-- the state that the pieces are, with what slots hold
abbrev pub whole_state : Pieces → State
whole_state p = filled_state (content_at p) (pieces_state p)

-- how many pages a body has
abbrev pub kept_pages : kept.Kept → ℕ
kept_pages (keeps.Segment pages) = pages
kept_pages (keeps.Container avoid used) = 0
kept_pages keeps.AddressSpace = 0
kept_pages (keeps.Thread t) = 0
kept_pages (keeps.Gate g) = 0
kept_pages keeps.Device = 0

-- whether a body is an address space's
abbrev pub keeps_space : kept.Kept → Bool
keeps_space keeps.AddressSpace = true
keeps_space (keeps.Container avoid used) = false
keeps_space (keeps.Segment pages) = false
keeps_space (keeps.Thread t) = false
keeps_space (keeps.Gate g) = false
keeps_space keeps.Device = false

-- how many pages the object of a slot has, 0 in a slot without one
abbrev pub pages_at : Pieces → ℕ → ℕ
pages_at p slot =
    if has p.places.slots slot
    then kept_pages (record_in p.holdings.records.items slot).body else 0

-- whether an address space has the slot
abbrev pub is_space_at : Pieces → ℕ → Bool
is_space_at p slot =
    has p.places.slots slot && keeps_space (record_in p.holdings.records.items slot).body

-- what is true of what slots hold between calls
pub record IsStocked (p : Pieces) : Type 0 where
  -- there are as many as slots
  pub segments : length p.holdings.segments ≡ p.limits.pages
  pub queues : length p.holdings.queues ≡ p.limits.pages
  pub spaces : length p.holdings.spaces ≡ p.limits.pages
  -- a segment's slot has the bytes of its pages, and no other slot any
  pub paged : (slot : ℕ) → length (bytes_in p.holdings.segments slot)
      ≡ page_bytes * pages_at p slot
  -- each slot has sixteen mappings, all empty but those of an address space
  pub sixteen : (slot : ℕ) → slot < p.limits.pages
      → length (places_at p.holdings.spaces slot) ≡ slot_count
  pub unmapped : (slot : ℕ) → slot < p.limits.pages → is_space_at p slot ≡ false
      → places_at p.holdings.spaces slot ≡ replicate slot_count None
  -- a device's packets are few and small
  pub queued : (slot : ℕ) → is_whole_body (is.Device (packets_in p.holdings.queues slot)) ≡ true
