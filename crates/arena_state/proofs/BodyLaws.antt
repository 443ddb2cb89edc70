-- What contents an object has by its record and its slot.
use Rattle.std.proofs.Common.{◌≡◌, ℕ, ◌+◌, ◌≤◌, true, false, ◌⊎◌, inl, inr, List, [], Option, refl, ◌∙◌, ap, arith}
use Rattle.std.proofs.Common.{◌-◌, slice_range, take, drop}
use Rattle.containers.specs.Tree.{HasSlot}
use Rattle.label_intern.specs.declared.held.Held.{Held}
use Rattle.kernel_rules.specs.State.{of_object, bytes_of, bytes_at, slots_of, slots_at, packets_of, packets_at}
use Rattle.arena_memory.specs.Segments.{bytes_in}
use Rattle.arena_memory.specs.Queues.{packets_in}
use Rattle.arena_memory.specs.Mappings.{places_at}
use Rattle.arena_state.specs.declared.records.Kept as kept
use Rattle.arena_state.specs.declared.records.Kept.TheVariants as keeps
use Rattle.arena_state.specs.declared.states.ArenaState.{ArenaState}
use Rattle.arena_state.specs.Assembled.{record_in, body_of}
use Rattle.arena_state.specs.Contents.{keeps_device}
use Rattle.arena_state.specs.Filled.{Content, filled_body}
use Rattle.arena_state.specs.States.{state_of}
use Rattle.arena_state.specs.Stocked.{content_in, keeps_space}
use Rattle.arena_state.proofs.StockLaws.{object_whole}

module _ (c : Content) (labels : List (Option Held)) (l : List ℕ) where
  bytes_held : (k : kept.Kept)
      → (bytes_of (filled_body c (body_of labels k l)) ≡ c.bytes) ⊎ (bytes_of (filled_body c (body_of labels k l)) ≡ [])
  bytes_held (keeps.Container avoid used) = inr refl
  bytes_held (keeps.Segment pages) = inl refl
  bytes_held keeps.AddressSpace = inr refl
  bytes_held (keeps.Thread t) = inr refl
  bytes_held (keeps.Gate g) = inr refl
  bytes_held keeps.Device = inr refl

  slots_held : (k : kept.Kept) → keeps_space k ≡ true → slots_of (filled_body c (body_of labels k l)) ≡ c.slots
  slots_held (keeps.Container avoid used) h = absurd (cc)
  slots_held (keeps.Segment pages) h = absurd (cc)
  slots_held keeps.AddressSpace h = refl
  slots_held (keeps.Thread t) h = absurd (cc)
  slots_held (keeps.Gate g) h = absurd (cc)
  slots_held keeps.Device h = absurd (cc)

  slots_none : (k : kept.Kept) → keeps_space k ≡ false → slots_of (filled_body c (body_of labels k l)) ≡ []
  slots_none (keeps.Container avoid used) h = refl
  slots_none (keeps.Segment pages) h = refl
  slots_none keeps.AddressSpace h = absurd (cc)
  slots_none (keeps.Thread t) h = refl
  slots_none (keeps.Gate g) h = refl
  slots_none keeps.Device h = refl

  packets_held : (k : kept.Kept) → keeps_device k ≡ true → packets_of (filled_body c (body_of labels k l)) ≡ c.packets
  packets_held (keeps.Container avoid used) h = absurd (cc)
  packets_held (keeps.Segment pages) h = absurd (cc)
  packets_held keeps.AddressSpace h = absurd (cc)
  packets_held (keeps.Thread t) h = absurd (cc)
  packets_held (keeps.Gate g) h = absurd (cc)
  packets_held keeps.Device h = refl

  packets_none : (k : kept.Kept) → keeps_device k ≡ false → packets_of (filled_body c (body_of labels k l)) ≡ []
  packets_none (keeps.Container avoid used) h = refl
  packets_none (keeps.Segment pages) h = refl
  packets_none keeps.AddressSpace h = refl
  packets_none (keeps.Thread t) h = refl
  packets_none (keeps.Gate g) h = refl
  packets_none keeps.Device h = absurd (cc)

-- nothing is read of no byte
pub read_none : (xs : List ℕ) (from count : ℕ) → from + count ≤ 0 → slice_range xs from (from + count) ≡ []
read_none xs from count none =
    let width : (from + count) - from ≡ 0 = omega (arith, none) in
    ap (λ n. take n (drop from xs)) width

module _ (a : ArenaState) (id slot : ℕ) (h : HasSlot a.pieces.places id slot) where
  pub bytes_here : (bytes_at (state_of a) id ≡ bytes_in a.pieces.holdings.segments slot) ⊎ (bytes_at (state_of a) id ≡ [])
  bytes_here =
      let found = ap (of_object [] (λ x. bytes_of x.body)) (object_whole a.pieces a.sound id slot h) in
      elim (bytes_held (content_in a.pieces.holdings slot) a.pieces.holdings.labels _
      (record_in a.pieces.holdings.records.items slot).body) [
        | inl is ↦ inl (found ∙ is)
        | inr is ↦ inr (found ∙ is)
      ]

  pub slots_here : keeps_space (record_in a.pieces.holdings.records.items slot).body ≡ true
      → slots_at (state_of a) id ≡ places_at a.pieces.holdings.spaces slot
  slots_here is =
      ap (of_object [] (λ x. slots_of x.body)) (object_whole a.pieces a.sound id slot h)
      ∙ slots_held (content_in a.pieces.holdings slot) a.pieces.holdings.labels _
      (record_in a.pieces.holdings.records.items slot).body is

  pub no_slots_here : keeps_space (record_in a.pieces.holdings.records.items slot).body ≡ false
      → slots_at (state_of a) id ≡ []
  no_slots_here is =
      ap (of_object [] (λ x. slots_of x.body)) (object_whole a.pieces a.sound id slot h)
      ∙ slots_none (content_in a.pieces.holdings slot) a.pieces.holdings.labels _
      (record_in a.pieces.holdings.records.items slot).body is

  pub packets_here : keeps_device (record_in a.pieces.holdings.records.items slot).body ≡ true
      → packets_at (state_of a) id ≡ packets_in a.pieces.holdings.queues slot
  packets_here is =
      ap (of_object [] (λ x. packets_of x.body)) (object_whole a.pieces a.sound id slot h)
      ∙ packets_held (content_in a.pieces.holdings slot) a.pieces.holdings.labels _
      (record_in a.pieces.holdings.records.items slot).body is

  pub no_packets_here : keeps_device (record_in a.pieces.holdings.records.items slot).body ≡ false
      → packets_at (state_of a) id ≡ []
  no_packets_here is =
      ap (of_object [] (λ x. packets_of x.body)) (object_whole a.pieces a.sound id slot h)
      ∙ packets_none (content_in a.pieces.holdings slot) a.pieces.holdings.labels _
      (record_in a.pieces.holdings.records.items slot).body is
