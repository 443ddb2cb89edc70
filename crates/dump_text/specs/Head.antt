-- The lines of objects, by their kinds.
use Rattle.std.specs.Prelude.{◌≡◌, ℕ, ◌≤◌, ◌<◌, ◌^◌, Bool, true, false, List, [], ◌∷◌, ◌++◌, codes, decimal, length}
use Rattle.text_words.specs.declared.spoken_calls.args.ArgKind.{ArgKind}
use Rattle.text_words.specs.declared.spoken_calls.args.ArgKind.TheVariants as kinds
use Rattle.checkpoints.specs.declared.checkpoints.RawGate.{RawGate}
use Rattle.checkpoints.specs.declared.checkpoints.RawThread.{RawThread}
use Rattle.kernel_rules.specs.declared.calls.Entry.{Entry}
use Rattle.dump_text.specs.declared.heads.Common.{Common}
use Rattle.dump_text.specs.declared.heads.ContainerHead.{ContainerHead}
use Rattle.dump_text.specs.declared.heads.SegmentHead.{SegmentHead}
use Rattle.dump_text.specs.declared.heads.SpaceHead.{SpaceHead}
use Rattle.dump_text.specs.declared.heads.ThreadHead.{ThreadHead}
use Rattle.dump_text.specs.declared.heads.GateHead.{GateHead}
use Rattle.dump_text.specs.declared.heads.DeviceHead.{DeviceHead}
use Rattle.dump_text.specs.declared.heads.Head.{Head}
use Rattle.dump_text.specs.declared.heads.Head.TheVariants as heads
use Rattle.dump_text.specs.declared.state_lines.ObjectHead.{ObjectHead}
use Rattle.dump_text.specs.declared.words.Word.{Word}
use Rattle.dump_text.specs.declared.words.Word.TheVariants as words
use Rattle.dump_text.specs.Word.{words_text}
use Rattle.dump_text.specs.Allowed.{AreWords}

-- 1 for yes
abbrev pub flag_of : Bool → ℕ
flag_of true = 1
flag_of false = 0

-- an entry, its ids as plain numbers
abbrev pub plain_entry : Entry → List Word
plain_entry e = words.Wide e.container ∷ words.Wide e.object ∷ []

-- QUOTA F, and then other words
abbrev pub with_quota : Common → List Word → List Word
with_quota c more = words.Number c.quota ∷ words.Number (flag_of c.fixed) ∷ more

-- QUOTA F I LABEL, and then other words
abbrev pub with_flags : Common → Bool → List Word → List Word
with_flags c immutable more =
    with_quota c (words.Number (flag_of immutable) ∷ words.Label c.label ∷ more)

-- QUOTA F I LABEL AVOID META
abbrev pub container_words : ContainerHead → List Word
container_words h =
    with_flags h.common h.attributes.immutable
    (words.Types h.avoid ∷ words.Data h.attributes.metadata ∷ [])

-- QUOTA F I LABEL PAGES META
abbrev pub segment_words : SegmentHead → List Word
segment_words h =
    with_flags h.common h.attributes.immutable
    (words.Wide h.pages ∷ words.Data h.attributes.metadata ∷ [])

-- QUOTA F I LABEL META
abbrev pub space_words : SpaceHead → List Word
space_words h =
    with_flags h.common h.attributes.immutable (words.Data h.attributes.metadata ∷ [])

-- CLEARANCE VERIFY D A ENTRY CLOSURE
abbrev pub state_words : RawThread → List Word
state_words t =
    words.Label t.clearance ∷ words.Label t.verify
    ∷ (plain_entry t.space ++ words.Wide t.entry_point ∷ words.Wide t.closure ∷ [])

-- QUOTA F LABEL CLEARANCE VERIFY D A ENTRY CLOSURE
abbrev pub thread_words : ThreadHead → List Word
thread_words h = with_quota h.common (words.Label h.common.label ∷ state_words h.thread)

-- CLEARANCE D A ENTRY CLOSURE META
abbrev pub hand_words : RawGate → List ℕ → List Word
hand_words g metadata =
    words.Label g.clearance
    ∷ (plain_entry g.space
    ++ words.Wide g.entry_point ∷ words.Wide g.closure ∷ words.Data metadata ∷ [])

-- QUOTA F I LABEL CLEARANCE D A ENTRY CLOSURE META
abbrev pub gate_words : GateHead → List Word
gate_words h =
    with_flags h.common h.attributes.immutable (hand_words h.gate h.attributes.metadata)

-- QUOTA F LABEL META
abbrev pub device_words : DeviceHead → List Word
device_words h = with_quota h.common (words.Label h.common.label ∷ words.Data h.metadata ∷ [])

abbrev pub container_kinds : List ArgKind
container_kinds =
    kinds.Number ∷ kinds.Number ∷ kinds.Number ∷ kinds.Label ∷ kinds.Types ∷ kinds.Data ∷ []

abbrev pub segment_kinds : List ArgKind
segment_kinds =
    kinds.Number ∷ kinds.Number ∷ kinds.Number ∷ kinds.Label ∷ kinds.Wide ∷ kinds.Data ∷ []

abbrev pub space_kinds : List ArgKind
space_kinds = kinds.Number ∷ kinds.Number ∷ kinds.Number ∷ kinds.Label ∷ kinds.Data ∷ []

abbrev pub thread_kinds : List ArgKind
thread_kinds =
    kinds.Number ∷ kinds.Number ∷ kinds.Label ∷ kinds.Label ∷ kinds.Label
    ∷ kinds.Wide ∷ kinds.Wide ∷ kinds.Wide ∷ kinds.Wide ∷ []

abbrev pub gate_kinds : List ArgKind
gate_kinds =
    kinds.Number ∷ kinds.Number ∷ kinds.Number ∷ kinds.Label ∷ kinds.Label
    ∷ kinds.Wide ∷ kinds.Wide ∷ kinds.Wide ∷ kinds.Wide ∷ kinds.Data ∷ []

abbrev pub device_kinds : List ArgKind
device_kinds = kinds.Number ∷ kinds.Number ∷ kinds.Label ∷ kinds.Data ∷ []

-- 64 bytes
abbrev pub IsFull : List ℕ → Type 0
IsFull bytes = length bytes ≡ 64

-- the metadata are 64 bytes
abbrev pub IsContainerHead : ContainerHead → Type 0
IsContainerHead h = IsFull h.attributes.metadata

-- at most 16 pages
abbrev pub IsSegmentHead : SegmentHead → Type 0
IsSegmentHead h = (h.pages ≤ 16) × IsFull h.attributes.metadata

abbrev pub IsSpaceHead : SpaceHead → Type 0
IsSpaceHead h = IsFull h.attributes.metadata

abbrev pub IsGateHead : GateHead → Type 0
IsGateHead h = IsFull h.attributes.metadata

abbrev pub IsDeviceHead : DeviceHead → Type 0
IsDeviceHead h = IsFull h.metadata

-- the object's kind, and its words
abbrev pub head_text : Head → List ℕ
head_text (heads.Container h) = codes "container " ++ words_text (container_words h)
head_text (heads.Segment h) = codes "segment " ++ words_text (segment_words h)
head_text (heads.AddressSpace h) = codes "as " ++ words_text (space_words h)
head_text (heads.Thread h) = codes "thread " ++ words_text (thread_words h)
head_text (heads.Gate h) = codes "gate " ++ words_text (gate_words h)
head_text (heads.Device h) = codes "device " ++ words_text (device_words h)

-- each word is in its range
abbrev pub HasHeadWords : Head → Type 0
HasHeadWords (heads.Container h) = AreWords container_kinds (container_words h)
HasHeadWords (heads.Segment h) = AreWords segment_kinds (segment_words h)
HasHeadWords (heads.AddressSpace h) = AreWords space_kinds (space_words h)
HasHeadWords (heads.Thread h) = AreWords thread_kinds (thread_words h)
HasHeadWords (heads.Gate h) = AreWords gate_kinds (gate_words h)
HasHeadWords (heads.Device h) = AreWords device_kinds (device_words h)

-- metadata are whole, and pages few
abbrev pub IsAllowedHead : Head → Type 0
IsAllowedHead (heads.Container h) = IsContainerHead h
IsAllowedHead (heads.Segment h) = IsSegmentHead h
IsAllowedHead (heads.AddressSpace h) = IsSpaceHead h
IsAllowedHead (heads.Thread h) = Unit {0}
IsAllowedHead (heads.Gate h) = IsGateHead h
IsAllowedHead (heads.Device h) = IsDeviceHead h

-- both
abbrev pub IsHead : Head → Type 0
IsHead h = HasHeadWords h × IsAllowedHead h

-- ID, and the head
abbrev pub object_text : ObjectHead → List ℕ
object_text o = decimal o.id ++ 32 ∷ head_text o.head

-- each part is in its range
pub record IsObject (o : ObjectHead) : Type 0 where
  pub id : o.id < 2 ^ 64
  pub head : IsHead o.head
