-- What a thread's address space shows: segments by their entries, and where an address lies.
use Rattle.std.specs.Prelude.{ℕ, ◌+◌, ◌-◌, ◌*◌, ◌%◌, ◌/◌, Bool, false, not, ◌&&◌, ◌==◌, nat_le}
use Rattle.std.specs.Prelude.{nat_lt, List, [], ◌∷◌, slice_get, Option, Some, None}
use Rattle.std.specs.Prelude.{if◌then◌else◌}
use Rattle.std.specs.Option.{option_map}
use Rattle.base.specs.Live.{has}
use Rattle.base.specs.Sets.{reading}
use Rattle.base.specs.declared.sets.Rights.{Rights}
use Rattle.kernel_rules.specs.Sizes.{page_bytes}
use Rattle.kernel_rules.specs.State.{State, is_accessible, list_at, observes, flows_to}
use Rattle.kernel_rules.specs.State.{is_immutable, slots_at, thread_at, page_count}
use Rattle.kernel_rules.specs.declared.calls.Entry.{Entry}
use Rattle.kernel_rules.specs.declared.objects.Mapping.{Mapping}
use Rattle.kernel_rules.specs.declared.places.Place.{Place}

-- the entry (0, 0), which names no address space
abbrev pub names_none : Entry → Bool
names_none e = e.container == 0 && e.object == 0

-- what a slot of this number maps, where there is such a slot and it is filled
abbrev pub slot_in : Option (Option Mapping) → Option Mapping
slot_in None = None
slot_in (Some mapping) = mapping

-- what slot i of address space a maps
abbrev pub slot_at : State → ℕ → ℕ → Option Mapping
slot_at s a i = slot_in (slice_get (slots_at s a) i)

-- the mapping covers this virtual page
abbrev pub covers : ℕ → Option Mapping → Bool
covers page None = false
covers page (Some m) = nat_le m.page page && nat_lt page (m.page + m.count)

-- the place in a segment at page n of which an address lies, unless that is past the segment's end
abbrev pub place_at : State → ℕ → ℕ → ℕ × Rights → Option Place
place_at s address n shown =
    if nat_lt n (page_count s shown.0)
    then Some (record {
      segment = shown.0;
      offset = page_bytes * n + address % page_bytes;
      rights = shown.1;
    })
    else None

-- where an address lies by this mapping, which covers it, and its translation
abbrev pub place_by : State → ℕ → Option Mapping → Option (ℕ × Rights) → Option Place
place_by s address (Some m) (Some shown) =
    place_at s address (m.first + (address / page_bytes - m.page)) shown
place_by s address (Some m) None = None
place_by s address None shown = None

-- the slots of the address space that this entry names
abbrev pub slots_through : State → Option Entry → List (Option Mapping)
slots_through s None = []
slots_through s (Some e) = slots_at s e.object

-- the calling thread is t
module _ (s : State) (t : ℕ) where
  -- the entry is one now: the thread observes its live container and its object, which is listed
  abbrev pub opens : Entry → Bool
  opens e =
      is_accessible s t e.container && has (list_at s e.container) e.object
      && observes s t e.object

  -- the rights to segment o, without writing where the thread's label is not at most the segment's,
  -- or the segment is immutable
  abbrev pub usable : ℕ → Rights → Rights
  usable o rights = if flows_to s t o && not (is_immutable s o) then rights else reading rights

  -- the segment that a mapping shows, with the rights to it. It is by entry: an entry that went
  -- shows nothing
  abbrev pub through : Option Mapping → Option (ℕ × Rights)
  through None = None
  through (Some m) =
      if opens m.entry then Some (m.entry.object, usable m.entry.object m.rights) else None

  -- what slot i of the address space shows that this entry names
  abbrev pub through_space : ℕ → Option Entry → Option (ℕ × Rights)
  through_space i None = None
  through_space i (Some e) =
      if not (names_none e) && opens e then through (slot_at s e.object i) else None

  -- the entry of the thread's address space
  abbrev pub own_space : Option Entry
  own_space = option_map (λ r. r.space) (thread_at s t)

  -- what slot i of the thread's address space shows: a segment, with the rights to it
  unfoldable pub translate : ℕ → Option (ℕ × Rights)
  translate i = through_space i own_space

  -- where an address lies by these slots, of which the first is slot i
  abbrev pub place_among : ℕ → ℕ → List (Option Mapping) → Option Place
  place_among address i [] = None
  place_among address i (m ∷ ms) =
      if covers (address / page_bytes) m then place_by s address m (translate i)
      else place_among address (i + 1) ms

  -- where an address of the thread lies
  unfoldable pub place_of : ℕ → Option Place
  place_of address = place_among address 0 (slots_through s own_space)
