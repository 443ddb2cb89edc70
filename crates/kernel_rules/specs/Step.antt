-- What a call changes, and what it answers.
use Rattle.std.specs.Prelude.{ℕ, ◌+◌, ◌*◌, List, [], ◌∷◌, ◌++◌, length, take, drop}
use Rattle.std.specs.Prelude.{replicate}
use Rattle.std.specs.Prelude.{slice_range, slice_set, Option, Some, None, if◌then◌else◌}
use Rattle.base.specs.Live.{has}
use Rattle.base.specs.declared.levels.Level.{Level}
use Rattle.base.specs.declared.levels.Level.TheVariants.{L3}
use Rattle.base.specs.declared.refusals.Refusal.{Refusal}
use Rattle.label_lattice.specs.Label.{LabelValue}
use Rattle.label_lattice.specs.LabelRules.{stored}
use Rattle.kernel_rules.specs.Sizes.{page_bytes, slot_count, most_told}
use Rattle.kernel_rules.specs.State.{State, object_at, of_object, live_part, bytes_at, listed}
use Rattle.kernel_rules.specs.State.{list_at, packets_at, gate_at, use_of, page_count}
use Rattle.kernel_rules.specs.Translate.{slot_at, place_of}
use Rattle.kernel_rules.specs.Conditions.{own_label, own_clearance, pages_up, pages_down}
use Rattle.kernel_rules.specs.Table.{refused, query_refused}
use Rattle.kernel_rules.specs.Changes.{changed, with_body, rebyte, reslot, requeue}
use Rattle.kernel_rules.specs.Changes.{fresh_object, owning, listing, delisting, made, joined_at}
use Rattle.kernel_rules.specs.Changes.{labelled, cleared, spaced, entered, requoted, made_fixed}
use Rattle.kernel_rules.specs.Changes.{made_immutable, noted}
use Rattle.kernel_rules.specs.Written.{written, resized}
use Rattle.kernel_rules.specs.declared.calls.Call.{Call}
use Rattle.kernel_rules.specs.declared.calls.Call.TheVariants as call
use Rattle.kernel_rules.specs.declared.calls.Entry.{Entry}
use Rattle.kernel_rules.specs.declared.calls.Query.{Query}
use Rattle.kernel_rules.specs.declared.calls.Query.TheVariants as query
use Rattle.kernel_rules.specs.declared.objects.Body as body
use Rattle.kernel_rules.specs.declared.objects.Body.TheVariants as is
use Rattle.kernel_rules.specs.declared.objects.Gate.{Gate}
use Rattle.kernel_rules.specs.declared.objects.Object.{Object}
use Rattle.kernel_rules.specs.declared.places.Place.{Place}
use Rattle.kernel_rules.specs.declared.replies.Reply.{Reply}
use Rattle.kernel_rules.specs.declared.replies.Reply.TheVariants as reply

-- the label that gives each category this level
abbrev pub uniform : Level → LabelValue
uniform level = record { default_level = level; exceptions = [] }

-- the state that a value leads to, and s where there is none
abbrev pub with_value : {X : Type 0} → State → Option X → (X → State) → State
with_value s None f = s
with_value s (Some x) f = f x

-- the thread has this label and clearance, and the next category is one more
abbrev pub owned : State → ℕ → Option LabelValue → Option LabelValue → State
owned s t (Some l) (Some c) =
    record (changed s t (owning l c)) { next_category = s.next_category + 1 }
owned s t (Some l) None = s
owned s t None c = s

-- a new object of the stored label, last in d's list
abbrev pub made_of : State → ℕ → Option LabelValue → ℕ → body.Body → State
made_of s d x q b = with_value s x (λ l. made s d (fresh_object l q b))

-- a new thread of this clearance, which has no address space
abbrev pub new_thread : LabelValue → ℕ → body.Body
new_thread c entry_point = is.Thread (record {
  clearance = c;
  verify = uniform L3;
  space = record { container = 0; object = 0 };
  entry_point = entry_point;
  closure = 0;
})

-- a new gate of this clearance
abbrev pub new_gate : LabelValue → Entry → ℕ → ℕ → body.Body
new_gate c e entry_point closure = is.Gate (record {
  clearance = c;
  space = e;
  entry_point = entry_point;
  closure = closure;
})

-- a new thread or gate of the stored label and clearance, last in d's list
abbrev pub made_bearer :
    State → ℕ → Option LabelValue → ℕ → Option LabelValue → (LabelValue → body.Body) → State
made_bearer s d x q y b = with_value s y (λ c. made_of s d x q (b c))

-- the thread entered a gate
abbrev pub through_gate :
    State → ℕ → Option LabelValue → Option LabelValue → Option LabelValue → Option Gate → State
through_gate s t r q v g =
    with_value s r (λ l. with_value s q (λ c. with_value s v (λ w. with_value s g (λ gate.
    changed s t (entered l c w gate)))))

-- bytes were written at a place, where it is there
abbrev pub stored_at : State → Option Place → List ℕ → State
stored_at s place bytes =
    with_value s place (λ p. changed s p.segment (with_body (rebyte (written p.offset bytes))))

-- the fields that the call's row names are changed, and no others
abbrev pub edit : State → ℕ → Call → State
edit s t call.CatCreate = owned s t (own_label s t) (own_clearance s t)
edit s t (call.SelfSetLabel x) = with_value s (stored x) (λ l. changed s t (labelled l))
edit s t (call.SelfSetClearance y) = with_value s (stored y) (λ c. changed s t (cleared c))
edit s t (call.SelfSetAs e) = changed s t (spaced e)
edit s t (call.ContainerCreate n) =
    made_of s n.container (stored n.label) n.quota
    (is.Container (joined_at s n.avoid n.container) [])
edit s t (call.SegmentCreate n) =
    made_of s n.container (stored n.label) n.quota (is.Segment (replicate (page_bytes * n.pages) 0))
edit s t (call.SegmentCopy n) =
    made_of s n.container (stored n.label) n.quota (is.Segment (bytes_at s n.source.object))
edit s t (call.AsCreate n) =
    made_of s n.container (stored n.label) n.quota
    (is.AddressSpace (record { slots = replicate slot_count None }))
edit s t (call.ThreadCreate n) =
    made_bearer s n.container (stored n.label) n.quota (stored n.clearance)
    (λ c. new_thread c n.entry_point)
edit s t (call.GateCreate n) =
    made_bearer s n.container (stored n.label) n.quota (stored n.clearance)
    (λ c. new_gate c n.space n.entry_point n.closure)
edit s t (call.Link d e) = changed s d (listing e.object)
edit s t (call.Unref e) = changed s e.container (delisting e.object)
edit s t (call.QuotaMove e n) = changed s e.object (requoted (pages_up n) (pages_down n))
edit s t (call.SetFixed e) = changed s e.object made_fixed
edit s t (call.SetImmutable e) = changed s e.object made_immutable
edit s t (call.MetaSet e bytes) = changed s e.object (noted bytes)
edit s t (call.SegmentResize e pages) =
    changed s e.object (with_body (rebyte (resized (page_bytes * pages))))
edit s t (call.SegmentWrite e a bytes) =
    changed s e.object (with_body (rebyte (written a bytes)))
edit s t (call.AsMap e slot m) =
    changed s e.object (with_body (reslot (λ slots. slice_set slots slot (Some m))))
edit s t (call.AsUnmap e slot) =
    changed s e.object (with_body (reslot (λ slots. slice_set slots slot None)))
edit s t (call.Store address bytes) = stored_at s (place_of s t address) bytes
edit s t (call.GateEnter e r q v) =
    through_gate s t (stored r) (stored q) (stored v) (gate_at s e.object)
edit s t (call.DevSend e bytes) =
    changed s e.object (with_body (requeue (λ packets. packets ++ bytes ∷ [])))
edit s t (call.DevRecv e) = changed s e.object (with_body (requeue (drop 1)))

-- the first packet of a queue
abbrev pub first_packet : List (List ℕ) → Reply
first_packet [] = reply.Done
first_packet (p ∷ ps) = reply.Bytes p

-- what a gate tells the thread that enters it
abbrev pub told_by : Option Gate → Reply
told_by None = reply.Done
told_by (Some gate) = reply.Entered gate.entry_point gate.closure

-- what the call answers where it is not refused
abbrev pub accepted : State → ℕ → Call → Reply
accepted s t call.CatCreate = reply.Category (record { 0 = s.next_category })
accepted s t (call.SelfSetLabel x) = reply.Done
accepted s t (call.SelfSetClearance y) = reply.Done
accepted s t (call.SelfSetAs e) = reply.Done
accepted s t (call.ContainerCreate n) = reply.Object s.next_id
accepted s t (call.SegmentCreate n) = reply.Object s.next_id
accepted s t (call.SegmentCopy n) = reply.Object s.next_id
accepted s t (call.AsCreate n) = reply.Object s.next_id
accepted s t (call.ThreadCreate n) = reply.Object s.next_id
accepted s t (call.GateCreate n) = reply.Object s.next_id
accepted s t (call.Link d e) = reply.Done
accepted s t (call.Unref e) = reply.Done
accepted s t (call.QuotaMove e n) = reply.Done
accepted s t (call.SetFixed e) = reply.Done
accepted s t (call.SetImmutable e) = reply.Done
accepted s t (call.MetaSet e bytes) = reply.Done
accepted s t (call.SegmentResize e pages) = reply.Done
accepted s t (call.SegmentWrite e a bytes) = reply.Done
accepted s t (call.AsMap e slot m) = reply.Done
accepted s t (call.AsUnmap e slot) = reply.Done
accepted s t (call.Store address bytes) = reply.Done
accepted s t (call.GateEnter e r q v) = told_by (gate_at s e.object)
accepted s t (call.DevSend e bytes) = reply.Done
accepted s t (call.DevRecv e) = first_packet (packets_at s e.object)

-- a reply, unless there is a refusal
abbrev pub or_refused : Option Refusal → Reply → Reply
or_refused None answered = answered
or_refused (Some refusal) answered = reply.Refused refusal

-- the answer to a call
unfoldable pub answer : State → ℕ → Call → Reply
answer s t c = or_refused (refused s t c) (accepted s t c)

-- what no path from the root leads to is gone
abbrev pub restricted : State → State
restricted s = record s { objects = live_part s.objects }

-- a new state, unless there is a refusal
abbrev pub or_same : Option Refusal → State → State → State
or_same None s new = new
or_same (Some refusal) s new = s

-- the state after a call: as it was where the call is refused, else the live part of the edit
unfoldable pub next : State → ℕ → Call → State
next s t c = or_same (refused s t c) s (restricted (edit s t c))

-- what a thread of this label is
abbrev pub told_of : LabelValue → body.Body → Reply
told_of l (is.Thread t) = reply.Own l t.clearance t.verify t.space t.entry_point t.closure
told_of l (is.Container avoid list) = reply.Done
told_of l (is.Segment bytes) = reply.Done
told_of l (is.AddressSpace slots) = reply.Done
told_of l (is.Gate g) = reply.Done
told_of l (is.Device packets) = reply.Done

-- the first of these objects that lists d, and d where none does, as for the root
abbrev pub lister_of : ℕ → List (ℕ × Object) → ℕ
lister_of d [] = d
lister_of d (e ∷ es) = if has (listed e.1.body) d then e.0 else lister_of d es

-- the bytes at a place
abbrev pub loaded : State → ℕ → Option Place → Reply
loaded s n None = reply.Done
loaded s n (Some p) =
    reply.Bytes (slice_range (bytes_at s p.segment) p.offset (p.offset + n))

-- what a query answers where it is not refused
abbrev pub found : State → ℕ → Query → Reply
found s t query.SelfGet = of_object reply.Done (λ x. told_of x.label x.body) (object_at s t)
found s t (query.ObjLabel e) =
    of_object reply.Done (λ x. reply.Label x.label) (object_at s e.object)
found s t (query.ObjQuota e) =
    of_object reply.Done (λ x. reply.Quota x.quota (use_of s e.object) x.fixed x.immutable)
    (object_at s e.object)
found s t (query.ContainerList d from) =
    reply.Listed (length (list_at s d)) (take most_told (drop from (list_at s d)))
found s t (query.ContainerParent d) = reply.Parent (lister_of d s.objects)
found s t (query.SegmentLen e) = reply.Pages (page_count s e.object)
found s t (query.SegmentRead e a n) =
    reply.Bytes (slice_range (bytes_at s e.object) a (a + n))
found s t (query.MetaGet e) =
    of_object reply.Done (λ x. reply.Bytes x.metadata) (object_at s e.object)
found s t (query.AsGet e slot) = reply.Mapping (slot_at s e.object slot)
found s t (query.Load address n) = loaded s n (place_of s t address)

-- the answer to a query
unfoldable pub query_answer : State → ℕ → Query → Reply
query_answer s t c = or_refused (query_refused s t c) (found s t c)
