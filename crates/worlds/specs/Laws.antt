-- What holds of two worlds.
use Rattle.std.specs.Prelude.{◌≡◌, ◌⊎◌, ℕ, Bool, true, false, None, nat_le, length}
use Rattle.label_lattice.specs.Label.{LabelValue}
use Rattle.kernel_rules.specs.State.{State, object_at}
use Rattle.kernel_rules.specs.Step.{next, answer, query_answer}
use Rattle.kernel_rules.specs.Sizes.{most_bytes}
use Rattle.kernel_rules.specs.WellFormed.{is_well_formed}
use Rattle.kernel_rules.specs.declared.calls.Call.{Call}
use Rattle.kernel_rules.specs.declared.calls.Call.TheVariants as call
use Rattle.kernel_rules.specs.declared.calls.Entry.{Entry}
use Rattle.kernel_rules.specs.declared.calls.Query.{Query}
use Rattle.std.specs.Option.{option_map}
use Rattle.kernel_laws.specs.Laws.{may_lower}
use Rattle.worlds.specs.Seen.{IsSame, IsOpen, seen_at, is_within, untold}

-- the call that lets objects go
abbrev pub is_unref : Call → Bool
is_unref (call.Unref e) = true
is_unref c = false

-- after any other call of a thread that l observes neither before nor after it, l sees the same
abbrev pub HiddenStepsStay : Type 0
HiddenStepsStay =
    (l : LabelValue) (s : State) (t : ℕ) (c : Call) → is_well_formed s ≡ true → is_unref c ≡ false
    → seen_at l s t ≡ None → seen_at l (next s t c) t ≡ None → IsSame l s (next s t c)

-- so is it after any call, an unreference among them, where containers that l does not observe list nothing that
-- it observes
abbrev pub OpenHiddenStepsStay : Type 0
OpenHiddenStepsStay =
    (l : LabelValue) (s : State) (t : ℕ) (c : Call) → is_well_formed s ≡ true → IsOpen l s
    → seen_at l s t ≡ None → seen_at l (next s t c) t ≡ None → IsSame l s (next s t c)

-- and who is not observed stays so, unless it makes a category or enters a gate: the gate may own what hid it
abbrev pub StaysHidden : Type 0
StaysHidden =
    (l : LabelValue) (s : State) (t : ℕ) (c : Call) → is_well_formed s ≡ true → may_lower c ≡ false
    → seen_at l s t ≡ None → seen_at l (next s t c) t ≡ None

-- a query has one answer in two worlds of which l sees the same, and all that the asker observes
abbrev pub QueriesAnswerAlike : Type 0
QueriesAnswerAlike =
    (l : LabelValue) (s n : State) (t : ℕ) (q : Query) → is_well_formed s ≡ true → is_well_formed n ≡ true
    → IsSame l s n → is_within l s t ≡ true → query_answer n t q ≡ query_answer s t q

-- the calls that make nothing, name no category, and look at nothing that is not observed but its kind
abbrev pub is_plain : Call → Bool
is_plain (call.SelfSetAs e) = true
is_plain (call.SetFixed e) = true
is_plain (call.SetImmutable e) = true
is_plain (call.MetaSet e bytes) = true
is_plain (call.SegmentResize e pages) = true
is_plain (call.SegmentWrite e a bytes) = true
is_plain (call.AsMap e slot m) = true
is_plain (call.AsUnmap e slot) = true
is_plain (call.Store address bytes) = true
is_plain (call.DevSend e bytes) = true
is_plain (call.DevRecv e) = true
is_plain c = false

-- such a call has one answer in two worlds of which l sees the same, and all that the caller observes; and l
-- sees the same of both after it
abbrev pub StepsStayAlike : Type 0
StepsStayAlike =
    (l : LabelValue) (s n : State) (t : ℕ) (c : Call) → is_well_formed s ≡ true → is_well_formed n ≡ true
    → IsSame l s n → is_within l s t ≡ true → is_plain c ≡ true
    → (answer n t c ≡ answer s t c) × IsSame l (next s t c) (next n t c)

-- both worlds give the same id next, and the same category
pub record IsSameCount (s n : State) : Type 0 where
  pub next_id : n.next_id ≡ s.next_id
  pub next_category : n.next_category ≡ s.next_category

-- the calls that make an object or a category, or name categories
abbrev pub is_counted : Call → Bool
is_counted call.CatCreate = true
is_counted (call.SelfSetLabel x) = true
is_counted (call.SelfSetClearance y) = true
is_counted (call.ContainerCreate k) = true
is_counted (call.SegmentCreate k) = true
is_counted (call.SegmentCopy k) = true
is_counted (call.AsCreate k) = true
is_counted (call.ThreadCreate k) = true
is_counted (call.GateCreate k) = true
is_counted (call.GateEnter e r q v) = true
is_counted c = false

-- the same holds of such a call, where both worlds give the same id and category; and they do after it
abbrev pub CountedStepsStayAlike : Type 0
CountedStepsStayAlike =
    (l : LabelValue) (s n : State) (t : ℕ) (c : Call) → is_well_formed s ≡ true → is_well_formed n ≡ true
    → IsSame l s n → is_within l s t ≡ true → is_counted c ≡ true → IsSameCount s n
    → (answer n t c ≡ answer s t c) × IsSame l (next s t c) (next n t c)
    × IsSameCount (next s t c) (next n t c)

-- the call is a link or a move of quota, and what it names has the same label and flags in both
abbrev pub IsNamedAlike : State → State → Call → Type 0
IsNamedAlike s n (call.Link d e) = option_map untold (object_at n e.object) ≡ option_map untold (object_at s e.object)
IsNamedAlike s n (call.QuotaMove e k) =
    option_map untold (object_at n e.object) ≡ option_map untold (object_at s e.object)
IsNamedAlike s n c = ⊥

-- the same holds of such a call
abbrev pub NamedStepsStayAlike : Type 0
NamedStepsStayAlike =
    (l : LabelValue) (s n : State) (t : ℕ) (c : Call) → is_well_formed s ≡ true → is_well_formed n ≡ true
    → IsSame l s n → is_within l s t ≡ true → IsNamedAlike s n c
    → (answer n t c ≡ answer s t c) × IsSame l (next s t c) (next n t c)

-- the same holds of an unreference, where in both worlds containers that l does not observe list nothing that it
-- observes
abbrev pub UnrefsStayAlike : Type 0
UnrefsStayAlike =
    (l : LabelValue) (s n : State) (t : ℕ) (e : Entry) → is_well_formed s ≡ true → is_well_formed n ≡ true
    → IsSame l s n → is_within l s t ≡ true → IsOpen l s → IsOpen l n
    → (answer n t (call.Unref e) ≡ answer s t (call.Unref e))
    × IsSame l (next s t (call.Unref e)) (next n t (call.Unref e))

-- the calls that make an object or a category
abbrev pub is_maker : Call → Bool
is_maker call.CatCreate = true
is_maker (call.ContainerCreate k) = true
is_maker (call.SegmentCreate k) = true
is_maker (call.SegmentCopy k) = true
is_maker (call.AsCreate k) = true
is_maker (call.ThreadCreate k) = true
is_maker (call.GateCreate k) = true
is_maker c = false

-- no other call uses up an id or a category
abbrev pub CountsStay : Type 0
CountsStay = (s : State) (t : ℕ) (c : Call) → is_maker c ≡ false → IsSameCount s (next s t c)

-- the caller is hidden, or l observes all that it observes
abbrev pub IsGuardedBy : LabelValue → State → ℕ → Type 0
IsGuardedBy l s t = (seen_at l s t ≡ None) ⊎ (is_within l s t ≡ true)

-- a hidden caller links nothing that l observes
abbrev pub IsGuarded : LabelValue → State → Call → ℕ → Type 0
IsGuarded l s (call.Link d e) t = seen_at l s t ≡ None → seen_at l s e.object ≡ None
IsGuarded l s c t = Unit {0}

-- containers that l does not observe go on listing nothing that it observes
abbrev pub OpenStays : Type 0
OpenStays =
    (l : LabelValue) (s : State) (t : ℕ) (c : Call) → is_well_formed s ≡ true → IsOpen l s → IsGuardedBy l s t
    → IsGuarded l s c t → (seen_at l s t ≡ None → seen_at l (next s t c) t ≡ None) → IsOpen l (next s t c)

-- the call's data is what a call can carry: at most 64 bytes
abbrev pub is_sendable : Call → Bool
is_sendable (call.MetaSet e bytes) = nat_le (length bytes) most_bytes
is_sendable (call.DevSend e bytes) = nat_le (length bytes) most_bytes
is_sendable c = true

-- such a call keeps a state well formed
abbrev pub WellFormedStays : Type 0
WellFormedStays =
    (s : State) (t : ℕ) (c : Call) → is_well_formed s ≡ true → is_sendable c ≡ true
    → is_well_formed (next s t c) ≡ true
