-- Which states can be laid out anew, and how far the tree of entries is laid.
use Rattle.std.specs.Prelude.{◌≡◌, ℕ, ◌<◌, ◌*◌, ◌==◌, nat_lt, Bool, true, false, not, ◌||◌, List, [], ◌∷◌, map, cond, length, replicate, Option, None, ◌+◌, ◌/◌, ◌≤◌, slice_set, take, sum_by}
use Rattle.std.specs.List.{list_all}
use Rattle.base.specs.Limits.{in_range}
use Rattle.base.specs.Live.{has}
use Rattle.base.specs.declared.kinds.Kind.TheVariants as kinds
use Rattle.label_intern.specs.declared.held.Held.{Held}
use Rattle.label_intern.specs.Held.{owned, owners_in, held_at}
use Rattle.label_intern.specs.Owners.{Takes}
use Rattle.kernel_rules.specs.Sizes.{page_bytes}
use Rattle.kernel_rules.specs.State.{State, listed, own_cost, is_kind_at, quota_at, use_of}
use Rattle.kernel_rules.specs.WellFormed.{is_well_formed}
use Rattle.kernel_rules.specs.declared.objects.Object.{Object}
use Rattle.kernel_rules.specs.declared.objects.Body as body
use Rattle.kernel_rules.specs.declared.objects.Body.TheVariants as is
use Rattle.arena_state.specs.declared.records.Record.{Record}
use Rattle.arena_state.specs.declared.records.Kept as kept
use Rattle.arena_state.specs.declared.holdings.Holdings.{Holdings}
use Rattle.arena_memory.specs.Segments.{all_pages}
use Rattle.arena_state.specs.Assembled.{assembled, body_of, body_use, claims, claims_in, record_in}
use Rattle.arena_state.specs.Filled.{Content, filled, filled_body}
use Rattle.arena_state.specs.Stocked.{content_in, kept_pages, keeps_space}

-- the containers among these ids have greater ids than d
abbrev pub lists_younger : State → ℕ → List ℕ → Bool
lists_younger s d ids = list_all (λ i. not (is_kind_at s kinds.Container i) || nat_lt d i) ids

-- each container is younger than the one that lists it
abbrev pub are_younger : State → Bool
are_younger s = list_all (λ e. lists_younger s e.0 (listed e.1.body)) s.objects

-- the state is well formed, no id is 0, the root's quota is the pages of the limits, which are in their range, and a container
-- is younger than the one that lists it
pub record IsHoldable (s : State) : Type 0 where
  pub formed : is_well_formed s ≡ true
  pub some : list_all (λ e. nat_lt 0 e.0) s.objects ≡ true
  pub range : in_range s.limits ≡ true
  pub root : quota_at s 1 ≡ s.limits.pages
  pub younger : are_younger s ≡ true

-- the ids of objects, each with no list
abbrev pub bare : List (ℕ × Object) → List (ℕ × List ℕ)
bare objects = map (λ e. (e.0, [])) objects

-- the root alone, and then the objects that were laid down, with no list
abbrev pub laid : List (ℕ × Object) → List (ℕ × List ℕ)
laid [] = (1, []) ∷ []
laid (e ∷ es) = bare (e ∷ es)

-- the lists, and another one of an id
abbrev pub given : List (ℕ × List ℕ) → ℕ → List ℕ → List (ℕ × List ℕ)
given lists d ids = map (λ e. (e.0, cond (d == e.0) ids e.1)) lists

-- what a slot holds of an object beside its record; sixteen empty places where it is no address space
abbrev pub held_of : body.Body → Content
held_of (is.Container avoid list) = record { bytes = []; slots = replicate 16 None; packets = [] }
held_of (is.Segment bytes) = record { bytes = bytes; slots = replicate 16 None; packets = [] }
held_of (is.AddressSpace slots) = record { bytes = []; slots = slots.slots; packets = [] }
held_of (is.Thread t) = record { bytes = []; slots = replicate 16 None; packets = [] }
held_of (is.Gate g) = record { bytes = []; slots = replicate 16 None; packets = [] }
held_of (is.Device packets) = record { bytes = []; slots = replicate 16 None; packets = packets }

-- a body of as many pages, whose slot holds nothing
abbrev pub hollow_of : body.Body → body.Body
hollow_of (is.Container avoid list) = is.Container avoid list
hollow_of (is.Segment bytes) = is.Segment (replicate (length bytes) 0)
hollow_of (is.AddressSpace slots) = is.AddressSpace (record { slots = replicate 16 None })
hollow_of (is.Thread t) = is.Thread t
hollow_of (is.Gate g) = is.Gate g
hollow_of (is.Device packets) = is.Device []

-- what is kept of a body by its kind, with what it uses: with what its slot holds and what it lists, it is the body
pub record IsKeptOf (labels : List (Option Held)) (b : body.Body) (used : ℕ) (k : kept.Kept) : Type 0 where
  pub body : filled_body (held_of b) (body_of labels k (listed b)) ≡ b
  pub hollow : body_of labels k (listed b) ≡ hollow_of b
  pub uses : body_use k ≡ used
  pub pages : length (held_of b).bytes ≡ page_bytes * kept_pages k
  pub space : keeps_space k ≡ false → (held_of b).slots ≡ replicate 16 None

-- the record of an object, in the same way
pub record IsRecordOf (labels : List (Option Held)) (x : Object) (used : ℕ) (r : Record) : Type 0 where
  pub object : filled (held_of x.body) (assembled labels r (listed x.body)) ≡ x
  pub hollow : assembled labels r (listed x.body) ≡ record x { body = hollow_of x.body }
  pub uses : body_use r.body ≡ used
  pub pages : length (held_of x.body).bytes ≡ page_bytes * kept_pages r.body
  pub space : keeps_space r.body ≡ false → (held_of x.body).slots ≡ replicate 16 None

-- what it uses is its own cost, unless it is a container
abbrev pub uses_own : body.Body → ℕ → Type 0
uses_own (is.Container avoid list) used = Unit {0}
uses_own (is.Segment bytes) used = used ≡ own_cost (is.Segment bytes)
uses_own (is.AddressSpace slots) used = used ≡ 1
uses_own (is.Thread t) used = used ≡ 1
uses_own (is.Gate g) used = used ≡ 1
uses_own (is.Device packets) used = used ≡ 2

-- the object was put into a slot that held nothing: all else stays
pub record IsPut (old new : Holdings) (slot : ℕ) (x : Object) (used : ℕ) : Type 0 where
  pub record' : Record
  pub records : new.records.items ≡ slice_set old.records.items slot record'
  pub takes : Takes old.labels new.labels (λ i. claims i record')
  pub kept : IsRecordOf new.labels x used record'
  pub owners : owned new.labels ≤ owned old.labels + 3
  pub segments : new.segments ≡ slice_set old.segments slot (held_of x.body).bytes
  pub queues : new.queues ≡ slice_set old.queues slot (held_of x.body).packets
  pub spaces : new.spaces ≡ slice_set old.spaces slot (held_of x.body).slots

-- the slot has the object
pub record Holds (s : State) (h : Holdings) (slot : ℕ) (e : ℕ × Object) : Type 0 where
  pub row : IsRecordOf h.labels e.1 (use_of s e.0) (record_in h.records.items slot)
  pub content : content_in h slot ≡ held_of e.1.body

-- the slots have the objects, in their order
abbrev pub Hold : State → Holdings → List (ℕ × Object) → List ℕ → Type 0
Hold s h [] slots = Unit {0}
Hold s h (e ∷ es) [] = ⊥
Hold s h (e ∷ es) (slot ∷ slots) = Holds s h slot e × Hold s h es slots

-- the first slots have these objects of the state, and no other slot holds anything
pub record IsFilled (s : State) (slots : List ℕ) (done : List (ℕ × Object)) (h : Holdings) : Type 0 where
  pub hold : Hold s h done slots
  pub claimed : (i : ℕ) → owners_in (held_at h.labels i) ≡ claims_in h.records.items (take (length done) slots) i
  pub blank : (slot : ℕ) → slot < s.limits.pages → has (take (length done) slots) slot ≡ false
      → content_in h slot ≡ record { bytes = []; slots = replicate 16 None; packets = [] }
  pub pages : all_pages h.segments ≡ sum_by (λ e. length (held_of e.1.body).bytes / 256) done
  pub owners : owned h.labels ≤ 3 * length done
  pub labels : length h.labels ≡ 3 * s.limits.pages + 3
  pub records : length h.records.items ≡ s.limits.pages
  pub segments : length h.segments ≡ s.limits.pages
  pub queues : length h.queues ≡ s.limits.pages
  pub spaces : length h.spaces ≡ s.limits.pages
