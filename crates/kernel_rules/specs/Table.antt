-- The table of calls: for each call its conditions, and what refuses it.
--
-- A condition that holds refuses, and of those that hold the one with the least number tells why. A
-- call that no condition refuses changes the state and answers as Step says. The names of the words
-- are those of the code (kernel_store).
use Rattle.std.specs.Prelude.{ℕ, ◌+◌, nat_lt, [], ◌∷◌, ◌++◌, length, Option}
use Rattle.base.specs.Sets.{may_read, may_write}
use Rattle.base.specs.declared.kinds.Kind.TheVariants as kinds
use Rattle.base.specs.declared.refusals.Refusal.{Refusal}
use Rattle.base.specs.declared.refusals.Refusal.TheVariants.{NoEntry, CannotObserve, LabelRange}
use Rattle.base.specs.declared.refusals.Refusal.TheVariants.{ClearanceRange, LabelFull, AvoidType}
use Rattle.base.specs.declared.refusals.Refusal.TheVariants.{NoQuota, FixedQuota, NotFixed, Bounds}
use Rattle.base.specs.declared.refusals.Refusal.TheVariants.{AlreadyLinked, RootKept, NotMapped}
use Rattle.base.specs.declared.refusals.Refusal.TheVariants.{Overlap, GateDenied, DeviceFull}
use Rattle.base.specs.declared.refusals.Refusal.TheVariants.{DeviceEmpty, Spent}
use Rattle.kernel_rules.specs.Sizes.{most_pages, last_slot}
use Rattle.kernel_rules.specs.State.{State, quota_at, list_at, page_count}
use Rattle.kernel_rules.specs.Conditions.{pages_down}
use Rattle.kernel_rules.specs.Conditions as is
use Rattle.kernel_rules.specs.Rows.{Conditions, Row, row_of, refusal_of, running, at_container}
use Rattle.kernel_rules.specs.Rows.{in_container, listed_in, of_kind, not_of_kind, observed, flowing}
use Rattle.kernel_rules.specs.Rows.{modified, good_label, not_immutable, with_room, new_object}
use Rattle.kernel_rules.specs.Rows.{new_bearer, shaped, within, space_entry, mapped}
use Rattle.kernel_rules.specs.declared.calls.Call.{Call}
use Rattle.kernel_rules.specs.declared.calls.Call.TheVariants as call
use Rattle.kernel_rules.specs.declared.calls.Query.{Query}
use Rattle.kernel_rules.specs.declared.calls.Query.TheVariants as query

module _ (s : State) where
  -- the conditions of each call beside the first
  abbrev pub conditions : Call → Conditions
  conditions call.CatCreate = (LabelFull, is.LabelFull) ∷ (Spent, is.CategoriesSpent) ∷ []
  conditions (call.SelfSetLabel x) = good_label x ++ (LabelRange, is.OutOfRange x) ∷ []
  conditions (call.SelfSetClearance y) =
      good_label y ++ (ClearanceRange, is.NotClearable y) ∷ []
  conditions (call.SelfSetAs e) = space_entry e
  conditions (call.ContainerCreate n) = new_object kinds.Container n.container n.label n.quota 1
  conditions (call.SegmentCreate n) =
      new_object kinds.Segment n.container n.label n.quota (1 + n.pages)
      ++ (Bounds, is.Above n.pages most_pages) ∷ []
  conditions (call.SegmentCopy n) =
      in_container n.source ++ of_kind kinds.Segment n.source.object ++ observed n.source.object
      ++ new_object kinds.Segment n.container n.label n.quota (1 + page_count s n.source.object)
  conditions (call.AsCreate n) = new_object kinds.AddressSpace n.container n.label n.quota 1
  conditions (call.ThreadCreate n) =
      new_bearer kinds.Thread n.container n.label n.quota n.clearance
  conditions (call.GateCreate n) =
      space_entry n.space ++ new_bearer kinds.Gate n.container n.label n.quota n.clearance
  conditions (call.Link d e) =
      at_container d ++ in_container e ++ not_of_kind kinds.Container e.object ++ modified d
      ++ (LabelRange, is.AboveClearance e.object) ∷ (AvoidType, is.KindAvoided d e.object)
      ∷ with_room d (quota_at s e.object) ++ (NotFixed, is.NotFixed e.object)
      ∷ (AlreadyLinked, is.Listed d e.object) ∷ not_immutable d
  conditions (call.Unref e) =
      at_container e.container ++ (NoEntry, is.NotLinked e) ∷ (RootKept, is.Root e)
      ∷ modified e.container ++ not_immutable e.container
  conditions (call.QuotaMove e n) =
      listed_in e
      ++ (CannotObserve, is.When (nat_lt 0 (pages_down n)) (is.NotObserved e.object))
      ∷ modified e.container ++ flowing e.object ++ (LabelRange, is.AboveClearance e.object)
      ∷ (NoQuota, is.WithoutRoom e n) ∷ (FixedQuota, is.Fixed e.object)
      ∷ not_immutable e.container ++ not_immutable e.object
  conditions (call.SetFixed e) = in_container e ++ modified e.object ++ not_immutable e.object
  conditions (call.SetImmutable e) =
      in_container e ++ not_of_kind kinds.Thread e.object ++ not_of_kind kinds.Device e.object
      ++ modified e.object
  conditions (call.MetaSet e bytes) =
      in_container e ++ not_of_kind kinds.Thread e.object ++ modified e.object
      ++ not_immutable e.object
  conditions (call.SegmentResize e pages) =
      in_container e ++ of_kind kinds.Segment e.object ++ modified e.object
      ++ (NoQuota, is.Above (1 + pages) (quota_at s e.object)) ∷ not_immutable e.object
      ++ (Bounds, is.Above pages most_pages) ∷ []
  conditions (call.SegmentWrite e a bytes) =
      in_container e ++ of_kind kinds.Segment e.object ++ modified e.object
      ++ not_immutable e.object ++ shaped a (length bytes) ++ within s e.object a (length bytes)
  conditions (call.AsMap e slot m) =
      in_container e ++ in_container m.entry ++ of_kind kinds.AddressSpace e.object
      ++ of_kind kinds.Segment m.entry.object ++ modified e.object ++ not_immutable e.object
      ++ (Bounds, is.NotMapping slot m) ∷ (Overlap, is.Overlapping e.object slot m) ∷ []
  conditions (call.AsUnmap e slot) =
      in_container e ++ of_kind kinds.AddressSpace e.object ++ modified e.object
      ++ not_immutable e.object ++ (Bounds, is.Above slot last_slot)
      ∷ (NotMapped, is.SlotEmpty e.object slot) ∷ []
  conditions (call.Store address bytes) =
      shaped address (length bytes) ++ mapped address may_write
  conditions (call.GateEnter e r q v) =
      in_container e ++ of_kind kinds.Gate e.object ++ good_label r ++ good_label q
      ++ good_label v ++ (GateDenied, is.NotAdmitted e.object r q v) ∷ []
  conditions (call.DevSend e bytes) =
      in_container e ++ of_kind kinds.Device e.object ++ modified e.object
      ++ (Bounds, is.Zero (length bytes)) ∷ (DeviceFull, is.QueueFull e.object) ∷ []
  conditions (call.DevRecv e) =
      in_container e ++ of_kind kinds.Device e.object ++ modified e.object
      ++ (DeviceEmpty, is.QueueEmpty e.object) ∷ []

  -- the conditions of each query beside the first
  abbrev pub query_conditions : Query → Conditions
  query_conditions query.SelfGet = []
  query_conditions (query.ObjLabel e) =
      in_container e ++ (CannotObserve, is.NotShown e.object) ∷ []
  query_conditions (query.ObjQuota e) = in_container e ++ observed e.object
  query_conditions (query.ContainerList d from) =
      at_container d ++ (Bounds, is.Above from (length (list_at s d))) ∷ []
  query_conditions (query.ContainerParent d) = at_container d
  query_conditions (query.SegmentLen e) =
      in_container e ++ of_kind kinds.Segment e.object ++ observed e.object
  query_conditions (query.SegmentRead e a n) =
      in_container e ++ of_kind kinds.Segment e.object ++ observed e.object ++ shaped a n
      ++ within s e.object a n
  query_conditions (query.MetaGet e) =
      in_container e ++ not_of_kind kinds.Thread e.object ++ observed e.object
  query_conditions (query.AsGet e slot) =
      in_container e ++ of_kind kinds.AddressSpace e.object ++ observed e.object
      ++ (Bounds, is.Above slot last_slot) ∷ []
  query_conditions (query.Load address n) = shaped address n ++ mapped address may_read

-- the calling thread is t
module _ (s : State) (t : ℕ) where
  -- whether the first condition refuses
  abbrev pub halted : Row
  halted = row_of s t running

  -- which of a call's other conditions refuse it
  abbrev pub row : Call → Row
  row c = row_of s t (conditions s c)

  -- and which of a query's
  abbrev pub query_row : Query → Row
  query_row c = row_of s t (query_conditions s c)

  -- what refuses the call: the least number that holds among all conditions of its row
  unfoldable pub refused : Call → Option Refusal
  refused c = refusal_of (halted ++ row c)

  -- what refuses the query, in the same way
  unfoldable pub query_refused : Query → Option Refusal
  query_refused c = refusal_of (halted ++ query_row c)
