-- What a call observes and what it modifies, where nothing refuses it.
use Rattle.std.specs.Prelude.{ℕ, ◌/◌, Bool, false, ◌&&◌, ◌==◌, nat_lt, List, [], ◌∷◌, ◌++◌}
use Rattle.std.specs.Prelude.{Option, Some, None, is_none, if◌then◌else◌}
use Rattle.base.specs.Level.{rank_of}
use Rattle.base.specs.declared.kinds.Kind.TheVariants as kinds
use Rattle.base.specs.declared.refusals.Refusal.{Refusal}
use Rattle.label_lattice.specs.Label.{level}
use Rattle.kernel_rules.specs.Sizes.{page_bytes}
use Rattle.kernel_rules.specs.State.{State, object_at, of_object, is_kind_at}
use Rattle.kernel_rules.specs.Conditions.{pages_down}
use Rattle.kernel_rules.specs.Table.{refused, query_refused}
use Rattle.kernel_rules.specs.Step.{next}
use Rattle.kernel_rules.specs.Translate.{names_none, covers, own_space, slots_through, place_of}
use Rattle.kernel_rules.specs.declared.calls.Call.{Call}
use Rattle.kernel_rules.specs.declared.calls.Call.TheVariants as call
use Rattle.kernel_rules.specs.declared.calls.Entry.{Entry}
use Rattle.kernel_rules.specs.declared.calls.Query.{Query}
use Rattle.kernel_rules.specs.declared.calls.Query.TheVariants as query
use Rattle.kernel_rules.specs.declared.objects.Mapping.{Mapping}
use Rattle.kernel_rules.specs.declared.places.Place.{Place}
use Rattle.flow_rules.specs.declared.steps.Step.{Step}
use Rattle.flow_rules.specs.declared.steps.Step.TheVariants as step

-- the container and the object of an entry
abbrev pub both_of : Entry → List ℕ
both_of e = e.container ∷ e.object ∷ []

-- the container of an address space's entry, unless it names none
abbrev pub space_container : Entry → List ℕ
space_container e = if names_none e then [] else e.container ∷ []

-- the first of these slots that covers a page
abbrev pub covering : ℕ → List (Option Mapping) → Option Mapping
covering page [] = None
covering page (m ∷ ms) = if covers page m then m else covering page ms

-- the container and the object of an entry that may not be there
abbrev pub both_if : Option Entry → List ℕ
both_if None = []
both_if (Some e) = both_of e

-- those of a mapping's entry
abbrev pub both_mapped : Option Mapping → List ℕ
both_mapped None = []
both_mapped (Some m) = both_of m.entry

-- the segment of a place
abbrev pub segment_of : Option Place → List ℕ
segment_of None = []
segment_of (Some p) = p.segment ∷ []

-- these ids, unless there is a refusal
abbrev pub unless_refused : Option Refusal → List ℕ → List ℕ
unless_refused None ids = ids
unless_refused (Some r) ids = []

-- o owns category c: its level there is star
abbrev pub owns : State → ℕ → ℕ → Bool
owns s c o = of_object false (λ x. rank_of (level x.label c) == 0) (object_at s o)

-- the calling thread is t
module _ (s : State) (t : ℕ) where
  -- what a load or a store looks at: the entry of the thread's address space and that of the mapping
  -- which covers the address
  abbrev pub on_the_way : ℕ → List ℕ
  on_the_way address =
      both_if (own_space s t)
      ++ both_mapped (covering (address / page_bytes) (slots_through s (own_space s t)))

  -- what an accepted call observes: each container that it names an object by, each object that it
  -- has to observe, and a gate that it enters
  abbrev pub sees : Call → List ℕ
  sees call.CatCreate = []
  sees (call.SelfSetLabel x) = []
  sees (call.SelfSetClearance y) = []
  sees (call.SelfSetAs e) = space_container e
  sees (call.ContainerCreate n) = n.container ∷ []
  sees (call.SegmentCreate n) = n.container ∷ []
  sees (call.SegmentCopy n) = n.source.container ∷ n.source.object ∷ n.container ∷ []
  sees (call.AsCreate n) = n.container ∷ []
  sees (call.ThreadCreate n) = n.container ∷ []
  sees (call.GateCreate n) = n.container ∷ space_container n.space
  sees (call.Link d e) = d ∷ e.container ∷ []
  sees (call.Unref e) = e.container ∷ []
  sees (call.QuotaMove e n) = e.container ∷ (if nat_lt 0 (pages_down n) then e.object ∷ [] else [])
  sees (call.SetFixed e) = both_of e
  sees (call.SetImmutable e) = both_of e
  sees (call.MetaSet e bytes) = both_of e
  sees (call.SegmentResize e pages) = both_of e
  sees (call.SegmentWrite e a bytes) = both_of e
  sees (call.AsMap e slot m) = e.container ∷ e.object ∷ m.entry.container ∷ []
  sees (call.AsUnmap e slot) = both_of e
  sees (call.Store address bytes) = on_the_way address
  sees (call.GateEnter e r q v) = both_of e
  sees (call.DevSend e bytes) = both_of e
  sees (call.DevRecv e) = both_of e

  -- what an accepted call modifies: each object that its thread has to modify, and what it makes
  abbrev pub changes : Call → List ℕ
  changes call.CatCreate = []
  changes (call.SelfSetLabel x) = []
  changes (call.SelfSetClearance y) = []
  changes (call.SelfSetAs e) = []
  changes (call.ContainerCreate n) = n.container ∷ s.next_id ∷ []
  changes (call.SegmentCreate n) = n.container ∷ s.next_id ∷ []
  changes (call.SegmentCopy n) = n.container ∷ s.next_id ∷ []
  changes (call.AsCreate n) = n.container ∷ s.next_id ∷ []
  changes (call.ThreadCreate n) = n.container ∷ s.next_id ∷ []
  changes (call.GateCreate n) = n.container ∷ s.next_id ∷ []
  changes (call.Link d e) = d ∷ []
  changes (call.Unref e) = e.container ∷ []
  changes (call.QuotaMove e n) = both_of e
  changes (call.SetFixed e) = e.object ∷ []
  changes (call.SetImmutable e) = e.object ∷ []
  changes (call.MetaSet e bytes) = e.object ∷ []
  changes (call.SegmentResize e pages) = e.object ∷ []
  changes (call.SegmentWrite e a bytes) = e.object ∷ []
  changes (call.AsMap e slot m) = e.object ∷ []
  changes (call.AsUnmap e slot) = e.object ∷ []
  changes (call.Store address bytes) = segment_of (place_of s t address)
  changes (call.GateEnter e r q v) = []
  changes (call.DevSend e bytes) = e.object ∷ []
  changes (call.DevRecv e) = e.object ∷ []

  -- what an accepted query observes; of a thread also who asks for its label
  abbrev pub reads : Query → List ℕ
  reads query.SelfGet = []
  reads (query.ObjLabel e) =
      e.container ∷ (if is_kind_at s kinds.Thread e.object then e.object ∷ [] else [])
  reads (query.ObjQuota e) = both_of e
  reads (query.ContainerList d from) = d ∷ []
  reads (query.ContainerParent d) = d ∷ []
  reads (query.SegmentLen e) = both_of e
  reads (query.SegmentRead e a n) = both_of e
  reads (query.MetaGet e) = both_of e
  reads (query.AsGet e slot) = both_of e
  reads (query.Load address n) = on_the_way address

  -- what the step observes
  abbrev pub observed : Step → List ℕ
  observed (step.Write c) = unless_refused (refused s t c) (sees c)
  observed (step.Read q) = unless_refused (query_refused s t q) (reads q)

  -- what it modifies
  abbrev pub modified : Step → List ℕ
  modified (step.Write c) = unless_refused (refused s t c) (changes c)
  modified (step.Read q) = []

  -- the call enters a gate that owns category c
  abbrev pub passes_owner : ℕ → Call → Bool
  passes_owner c (call.GateEnter e r q v) =
      is_none (refused s t (call.GateEnter e r q v)) && owns s c e.object
  passes_owner c k = false

  -- the step enters a gate that owns category c
  abbrev pub enters_owner : ℕ → Step → Bool
  enters_owner c (step.Write k) = passes_owner c k
  enters_owner c (step.Read q) = false

  -- the state after the step
  abbrev pub after : Step → State
  after (step.Write c) = next s t c
  after (step.Read q) = s
