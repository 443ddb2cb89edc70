-- A kernel's replies to write calls and to queries, and its refusals.
use Rattle.std.proofs.Common.{◌≡◌, ℕ, Bool, cond, true, false, nat_le, List, [], ◌∷◌, ◌++◌, Option, Some, None, refl}
use Rattle.std.specs.List.{list_all}
use Rattle.std.proofs.lemmas.Bool.{and_parts, leb-true}
use Rattle.base.specs.declared.refusals.Refusal.{Refusal}
use Rattle.base.specs.Refusal.{told_as}
use Rattle.label_lattice.specs.Label.{LabelValue}
use Rattle.kernel_rules.specs.State.{State, object_at, of_object, use_of, gate_at, packets_at}
use Rattle.kernel_rules.specs.Translate.{place_of}
use Rattle.kernel_rules.specs.Rows.{Row, lesser_of, refusal_of}
use Rattle.kernel_rules.specs.Table.{halted, row, refused, query_row, query_refused}
use Rattle.kernel_rules.specs.Step.{accepted, answer, told_by, first_packet, or_refused, told_of, loaded, found, query_answer}
use Rattle.kernel_rules.specs.declared.calls.Call.{Call}
use Rattle.kernel_rules.specs.declared.calls.Call.TheVariants as calls
use Rattle.kernel_rules.specs.declared.calls.Query.{Query}
use Rattle.kernel_rules.specs.declared.calls.Query.TheVariants as queries
use Rattle.kernel_rules.specs.declared.objects.Body.{Body}
use Rattle.kernel_rules.specs.declared.objects.Body.TheVariants as bodies
use Rattle.kernel_rules.specs.declared.objects.Gate.{Gate}
use Rattle.kernel_rules.specs.declared.objects.Mapping.{Mapping}
use Rattle.kernel_rules.specs.declared.objects.Object.{Object}
use Rattle.kernel_rules.specs.declared.places.Place.{Place}
use Rattle.kernel_rules.specs.declared.replies.Reply.{Reply}
use Rattle.kernel_rules.specs.declared.replies.Reply.TheVariants as replies
use Rattle.dump_text.specs.Report.{IsKernels, IsReport}
use Rattle.dump_text.specs.Fits.{FitsReply}
use Rattle.dump_text.specs.ReadReply.{IsReadReply, FitsReadReply}
use Rattle.dump_text.specs.Whole.{mapped_reply, raw_reply}

-- each condition's refusal is a kernel's
abbrev are_kernels : Row → Bool
are_kernels cs = list_all (λ c. nat_le (told_as c.0).number 25) cs

row_kernels : (s : State) (t : ℕ) (c : Call) → are_kernels (halted s t ++ row s t c) ≡ true
row_kernels s t calls.CatCreate = refl
row_kernels s t (calls.SelfSetLabel l) = refl
row_kernels s t (calls.SelfSetClearance l) = refl
row_kernels s t (calls.SelfSetAs e) = refl
row_kernels s t (calls.ContainerCreate n) = refl
row_kernels s t (calls.SegmentCreate n) = refl
row_kernels s t (calls.SegmentCopy n) = refl
row_kernels s t (calls.AsCreate n) = refl
row_kernels s t (calls.ThreadCreate n) = refl
row_kernels s t (calls.GateCreate n) = refl
row_kernels s t (calls.Link d e) = refl
row_kernels s t (calls.Unref e) = refl
row_kernels s t (calls.QuotaMove e z) = refl
row_kernels s t (calls.SetFixed e) = refl
row_kernels s t (calls.SetImmutable e) = refl
row_kernels s t (calls.MetaSet e b) = refl
row_kernels s t (calls.SegmentResize e n) = refl
row_kernels s t (calls.SegmentWrite e n b) = refl
row_kernels s t (calls.AsMap e n m) = refl
row_kernels s t (calls.AsUnmap e n) = refl
row_kernels s t (calls.Store p b) = refl
row_kernels s t (calls.GateEnter e l c v) = refl
row_kernels s t (calls.DevSend e b) = refl
row_kernels s t (calls.DevRecv e) = refl

-- a refusal that is a kernel's, where there is one
abbrev IsKernelsOrNone : Option Refusal → Type 0
IsKernelsOrNone None = Unit {0}
IsKernelsOrNone (Some r) = IsKernels r

pick_kernels : (b : Bool) (r q : Refusal) → IsKernels r → IsKernels q → IsKernels (cond b r q)
pick_kernels true r q ir iq = ir
pick_kernels false r q ir iq = iq

lesser_kernels : (r : Refusal) (o : Option Refusal) → IsKernels r → IsKernelsOrNone o → IsKernels (lesser_of r o)
lesser_kernels r None ir io = ir
lesser_kernels r (Some q) ir io = pick_kernels (nat_le (told_as r).number (told_as q).number) r q ir io

held_kernels : (b : Bool) (r : Refusal) (o : Option Refusal) → IsKernels r → IsKernelsOrNone o → IsKernelsOrNone (cond b (Some (lesser_of r o)) o)
held_kernels true r o ir io = lesser_kernels r o ir io
held_kernels false r o ir io = io

refusal_kernels : (cs : Row) → are_kernels cs ≡ true → IsKernelsOrNone (refusal_of cs)
refusal_kernels [] all = tt
refusal_kernels (c ∷ cs) all =
    let p = and_parts (nat_le (told_as c.0).number 25) (are_kernels cs) all in
    held_kernels c.1 c.0 (refusal_of cs) (leb-true (told_as c.0).number 25 p.0) (refusal_kernels cs p.1)

refused_kernels : (s : State) (t : ℕ) (c : Call) → IsKernelsOrNone (refused s t c)
unfolding refused
refused_kernels s t c = refusal_kernels (halted s t ++ row s t c) (row_kernels s t c)

-- what a write call may answer where it is not refused, whatever its numbers
abbrev IsAcceptance : Reply → Type 0
IsAcceptance replies.Done = Unit {0}
IsAcceptance (replies.Category c) = Unit {0}
IsAcceptance (replies.Object id) = Unit {0}
IsAcceptance (replies.Entered p c) = Unit {0}
IsAcceptance (replies.Bytes d) = Unit {0}
IsAcceptance r = ⊥

told_accepts : (g : Option Gate) → IsAcceptance (told_by g)
told_accepts None = tt
told_accepts (Some g) = tt

packet_accepts : (ps : List (List ℕ)) → IsAcceptance (first_packet ps)
packet_accepts [] = tt
packet_accepts (p ∷ ps) = tt

accepted_accepts : (s : State) (t : ℕ) (c : Call) → IsAcceptance (accepted s t c)
accepted_accepts s t calls.CatCreate = tt
accepted_accepts s t (calls.SelfSetLabel l) = tt
accepted_accepts s t (calls.SelfSetClearance l) = tt
accepted_accepts s t (calls.SelfSetAs e) = tt
accepted_accepts s t (calls.ContainerCreate n) = tt
accepted_accepts s t (calls.SegmentCreate n) = tt
accepted_accepts s t (calls.SegmentCopy n) = tt
accepted_accepts s t (calls.AsCreate n) = tt
accepted_accepts s t (calls.ThreadCreate n) = tt
accepted_accepts s t (calls.GateCreate n) = tt
accepted_accepts s t (calls.Link d e) = tt
accepted_accepts s t (calls.Unref e) = tt
accepted_accepts s t (calls.QuotaMove e z) = tt
accepted_accepts s t (calls.SetFixed e) = tt
accepted_accepts s t (calls.SetImmutable e) = tt
accepted_accepts s t (calls.MetaSet e b) = tt
accepted_accepts s t (calls.SegmentResize e n) = tt
accepted_accepts s t (calls.SegmentWrite e n b) = tt
accepted_accepts s t (calls.AsMap e n m) = tt
accepted_accepts s t (calls.AsUnmap e n) = tt
accepted_accepts s t (calls.Store p b) = tt
accepted_accepts s t (calls.GateEnter e l c v) = told_accepts (gate_at s e.object)
accepted_accepts s t (calls.DevSend e b) = tt
accepted_accepts s t (calls.DevRecv e) = packet_accepts (packets_at s e.object)

acceptance_report : (r : Reply) → IsAcceptance r → FitsReply r → IsReport r
acceptance_report replies.Done a fits = tt
acceptance_report (replies.Category c) a fits = fits
acceptance_report (replies.Object id) a fits = fits
acceptance_report (replies.Entered p c) a fits = fits
acceptance_report (replies.Bytes d) a fits = fits
acceptance_report (replies.Own _ _ _ _ _ _) a fits = absurd a
acceptance_report (replies.Label _) a fits = absurd a
acceptance_report (replies.Quota _ _ _ _) a fits = absurd a
acceptance_report (replies.Listed _ _) a fits = absurd a
acceptance_report (replies.Parent _) a fits = absurd a
acceptance_report (replies.Pages _) a fits = absurd a
acceptance_report (replies.Mapping _) a fits = absurd a
acceptance_report (replies.Refused _) a fits = absurd a

or_report : (o : Option Refusal) (r : Reply) → IsKernelsOrNone o → IsAcceptance r → FitsReply (or_refused o r) → IsReport (or_refused o r)
or_report None r io a fits = acceptance_report r a fits
or_report (Some q) r io a fits = io

-- an answer is a report, where it fits its words
pub answer_report : (s : State) (t : ℕ) (c : Call) → FitsReply (answer s t c) → IsReport (answer s t c)
unfolding answer
answer_report s t c fits = or_report (refused s t c) (accepted s t c) (refused_kernels s t c) (accepted_accepts s t c) fits

-- each condition's refusal of a query is a kernel's
query_kernels : (s : State) (t : ℕ) (q : Query) → are_kernels (halted s t ++ query_row s t q) ≡ true
query_kernels s t queries.SelfGet = refl
query_kernels s t (queries.ObjLabel e) = refl
query_kernels s t (queries.ObjQuota e) = refl
query_kernels s t (queries.ContainerList d n) = refl
query_kernels s t (queries.ContainerParent d) = refl
query_kernels s t (queries.SegmentLen e) = refl
query_kernels s t (queries.SegmentRead e a n) = refl
query_kernels s t (queries.MetaGet e) = refl
query_kernels s t (queries.AsGet e n) = refl
query_kernels s t (queries.Load p n) = refl

asked_kernels : (s : State) (t : ℕ) (q : Query) → IsKernelsOrNone (query_refused s t q)
unfolding query_refused
asked_kernels s t q = refusal_kernels (halted s t ++ query_row s t q) (query_kernels s t q)

-- what is no refusal is a reply, where it fits its words
IsNone : Reply → Type 0
IsNone (replies.Refused r) = ⊥
IsNone r = Unit {0}

thread_found : (l : LabelValue) (b : Body) → IsNone (told_of l b)
unfolding IsNone
thread_found l (bodies.Thread t) = tt
thread_found l (bodies.Container avoid list) = tt
thread_found l (bodies.Segment bytes) = tt
thread_found l (bodies.AddressSpace slots) = tt
thread_found l (bodies.Gate g) = tt
thread_found l (bodies.Device packets) = tt

object_found : (f : Object → Reply) → ((x : Object) → IsNone (f x)) → (o : Option Object) → IsNone (of_object replies.Done f o)
unfolding IsNone
object_found f none None = tt
object_found f none (Some x) = none x

place_found : (s : State) (n : ℕ) (p : Option Place) → IsNone (loaded s n p)
unfolding IsNone
place_found s n None = tt
place_found s n (Some p) = tt

found_none : (s : State) (t : ℕ) (q : Query) → IsNone (found s t q)
unfolding IsNone
found_none s t queries.SelfGet = object_found (λ x. told_of x.label x.body) (λ x. thread_found x.label x.body) (object_at s t)
found_none s t (queries.ObjLabel e) = object_found (λ x. replies.Label x.label) (λ x. tt) (object_at s e.object)
found_none s t (queries.ObjQuota e) = object_found (λ x. replies.Quota x.quota (use_of s e.object) x.fixed x.immutable) (λ x. tt) (object_at s e.object)
found_none s t (queries.ContainerList d n) = tt
found_none s t (queries.ContainerParent d) = tt
found_none s t (queries.SegmentLen e) = tt
found_none s t (queries.SegmentRead e a n) = tt
found_none s t (queries.MetaGet e) = object_found (λ x. replies.Bytes x.metadata) (λ x. tt) (object_at s e.object)
found_none s t (queries.AsGet e n) = tt
found_none s t (queries.Load p n) = place_found s n (place_of s t p)

mapping_reply : (m : Option Mapping) → FitsReadReply (mapped_reply m) → IsReadReply (mapped_reply m)
mapping_reply None fits = tt
mapping_reply (Some m) fits = (fits, tt)

none_reply : (r : Reply) → IsNone r → FitsReadReply (raw_reply r) → IsReadReply (raw_reply r)
unfolding IsNone
none_reply replies.Done none fits = tt
none_reply (replies.Category c) none fits = tt
none_reply (replies.Object id) none fits = tt
none_reply (replies.Entered p c) none fits = tt
none_reply (replies.Bytes d) none fits = (fits, tt)
none_reply (replies.Own l c v s p q) none fits = (fits, tt)
none_reply (replies.Label l) none fits = (fits, tt)
none_reply (replies.Quota q u f i) none fits = (fits, tt)
none_reply (replies.Listed n ids) none fits = fits
none_reply (replies.Parent id) none fits = (fits, tt)
none_reply (replies.Pages p) none fits = (fits, tt)
none_reply (replies.Mapping m) none fits = mapping_reply m fits
none_reply (replies.Refused r) none fits = absurd none

or_reply : (o : Option Refusal) (r : Reply) → IsKernelsOrNone o → IsNone r → FitsReadReply (raw_reply (or_refused o r)) → IsReadReply (raw_reply (or_refused o r))
or_reply None r io none fits = none_reply r none fits
or_reply (Some q) r io none fits = io

-- the answer of a query is a read's reply, where it fits its words
pub query_reply : (s : State) (t : ℕ) (q : Query) → FitsReadReply (raw_reply (query_answer s t q)) → IsReadReply (raw_reply (query_answer s t q))
unfolding query_answer
query_reply s t q fits = or_reply (query_refused s t q) (found s t q) (asked_kernels s t q) (found_none s t q) fits
