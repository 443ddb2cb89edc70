-- What an accepted call observes is observed, and what it modifies may be written.
use Rattle.std.proofs.Common.{◌≡◌, ℕ, Bool, true, false, cond, not, ◌&&◌, ◌||◌, ◌==◌, nat_lt, List, [], ◌∷◌, ◌++◌}
use Rattle.std.proofs.Common.{None, refl, sym, ap, subst}
use Rattle.std.specs.List.{list_all}
use Rattle.std.proofs.lemmas.Bool.{and_parts, and_from, not-false, eqb-true, eq-eqb}
use Rattle.base.specs.Live.{has}
use Rattle.base.specs.declared.kinds.Kind.TheVariants as kinds
use Rattle.label_lattice.specs.LabelRules.{both, shown}
use Rattle.kernel_rules.specs.State.{State, observes, flows_to, is_accessible, is_live_kind, is_kind_at, label_at}
use Rattle.kernel_rules.specs.Conditions.{pages_down}
use Rattle.kernel_rules.specs.Table.{halted, refused, row, query_refused, query_row}
use Rattle.kernel_rules.specs.Translate.{names_none}
use Rattle.kernel_rules.specs.declared.calls.Call.{Call}
use Rattle.kernel_rules.specs.declared.calls.Call.TheVariants as call
use Rattle.kernel_rules.specs.declared.calls.Entry.{Entry}
use Rattle.kernel_rules.specs.declared.calls.Query.{Query}
use Rattle.kernel_rules.specs.declared.calls.Query.TheVariants as query
use Rattle.kernel_rules.proofs.RowLaws.{none_hold}
use Rattle.flow_rules.specs.Touched.{sees, changes, reads, space_container}
use Rattle.flow_rules.proofs.Source.{makes}
use Rattle.flow_rules.proofs.Ways.{two, way_seen, way_flows}

-- what holds of all that stand in a list holds of one that does
pub in_all : (p : ℕ → Bool) (xs : List ℕ) (o : ℕ) → list_all p xs ≡ true → has xs o ≡ true → p o ≡ true
in_all p [] o h g = absurd (cc)
in_all p (x ∷ xs) o h g =
    let parts : (p x ≡ true) × (list_all p xs ≡ true) = and_parts (p x) (list_all p xs) h in
    elim (o == x) as (λ v. (o == x) ≡ v → (v || has xs o) ≡ true → p o ≡ true) [
      | true ↦ λ is e. subst (λ k. p k ≡ true) (sym (eqb-true o x is)) parts.0
      | false ↦ λ is e. in_all p xs o parts.1 e
    ] refl g

one : (p : ℕ → Bool) (a : ℕ) → p a ≡ true → list_all p (a ∷ []) ≡ true
one p a h = and_from (p a) true h refl

accessed : (s : State) (t d : ℕ) → not (is_accessible s t d) ≡ false → observes s t d ≡ true
accessed s t d h =
    (and_parts (is_live_kind s kinds.Container d) (observes s t d) (not-false (is_accessible s t d) h)).1

-- the container of an address space's entry that names one
spaced : (s : State) (t : ℕ) (e : Entry) → (not (names_none e) && not (is_accessible s t e.container)) ≡ false
    → list_all (observes s t) (space_container e) ≡ true
spaced s t e =
    elim (names_none e)
    as (λ v. (not v && not (is_accessible s t e.container)) ≡ false
    → list_all (observes s t) (cond v [] (e.container ∷ [])) ≡ true) [
      | true ↦ λ h. refl
      | false ↦ λ h. one (observes s t) e.container (accessed s t e.container h)
    ]

-- an object that is observed where a condition holds
if_asked : (p : ℕ → Bool) (b : Bool) (o : ℕ) → (b && not (p o)) ≡ false
    → list_all p (cond b (o ∷ []) []) ≡ true
if_asked p true o h = one p o (not-false (p o) h)
if_asked p false o h = refl

-- a call that enters a gate
abbrev pub enters : Call → Bool
enters (call.GateEnter e r q v) = true
enters c = false

-- what an accepted call observes, but a gate that it enters
pub sees_all : (s : State) (t : ℕ) (c : Call) → enters c ≡ false → refused s t c ≡ None
    → list_all (observes s t) (sees s t c) ≡ true
unfolding refused
sees_all s t call.CatCreate g h = refl
sees_all s t (call.SelfSetLabel x) g h = refl
sees_all s t (call.SelfSetClearance y) g h = refl
sees_all s t (call.SelfSetAs e) g h =
    let none = none_hold (halted s t ++ row s t (call.SelfSetAs e)) h in spaced s t e none.1.0
sees_all s t (call.ContainerCreate n) g h =
    let none = none_hold (halted s t ++ row s t (call.ContainerCreate n)) h in
    one (observes s t) n.container (accessed s t n.container none.1.0)
sees_all s t (call.SegmentCreate n) g h =
    let none = none_hold (halted s t ++ row s t (call.SegmentCreate n)) h in
    one (observes s t) n.container (accessed s t n.container none.1.0)
sees_all s t (call.SegmentCopy n) g h =
    let none = none_hold (halted s t ++ row s t (call.SegmentCopy n)) h in
    and_from _ _ (accessed s t n.source.container none.1.0)
    (two (observes s t) n.source.object n.container (not-false _ none.1.1.1.1.0)
    (accessed s t n.container none.1.1.1.1.1.0))
sees_all s t (call.AsCreate n) g h =
    let none = none_hold (halted s t ++ row s t (call.AsCreate n)) h in
    one (observes s t) n.container (accessed s t n.container none.1.0)
sees_all s t (call.ThreadCreate n) g h =
    let none = none_hold (halted s t ++ row s t (call.ThreadCreate n)) h in
    one (observes s t) n.container (accessed s t n.container none.1.0)
sees_all s t (call.GateCreate n) g h =
    let none = none_hold (halted s t ++ row s t (call.GateCreate n)) h in
    and_from _ _ (accessed s t n.container none.1.1.1.1.0) (spaced s t n.space none.1.0)
sees_all s t (call.Link d e) g h =
    let none = none_hold (halted s t ++ row s t (call.Link d e)) h in
    two (observes s t) d e.container (accessed s t d none.1.0) (accessed s t e.container none.1.1.0)
sees_all s t (call.Unref e) g h =
    let none = none_hold (halted s t ++ row s t (call.Unref e)) h in
    one (observes s t) e.container (accessed s t e.container none.1.0)
sees_all s t (call.QuotaMove e n) g h =
    let none = none_hold (halted s t ++ row s t (call.QuotaMove e n)) h in
    and_from _ _ (accessed s t e.container none.1.0)
    (if_asked (observes s t) (nat_lt 0 (pages_down n)) e.object none.1.1.1.0)
sees_all s t (call.SetFixed e) g h =
    let none = none_hold (halted s t ++ row s t (call.SetFixed e)) h in
    two (observes s t) e.container e.object (accessed s t e.container none.1.0) (not-false _ none.1.1.1.0)
sees_all s t (call.SetImmutable e) g h =
    let none = none_hold (halted s t ++ row s t (call.SetImmutable e)) h in
    two (observes s t) e.container e.object (accessed s t e.container none.1.0) (not-false _ none.1.1.1.1.1.0)
sees_all s t (call.MetaSet e bytes) g h =
    let none = none_hold (halted s t ++ row s t (call.MetaSet e bytes)) h in
    two (observes s t) e.container e.object (accessed s t e.container none.1.0) (not-false _ none.1.1.1.1.0)
sees_all s t (call.SegmentResize e pages) g h =
    let none = none_hold (halted s t ++ row s t (call.SegmentResize e pages)) h in
    two (observes s t) e.container e.object (accessed s t e.container none.1.0) (not-false _ none.1.1.1.1.0)
sees_all s t (call.SegmentWrite e a bytes) g h =
    let none = none_hold (halted s t ++ row s t (call.SegmentWrite e a bytes)) h in
    two (observes s t) e.container e.object (accessed s t e.container none.1.0) (not-false _ none.1.1.1.1.0)
sees_all s t (call.AsMap e slot m) g h =
    let none = none_hold (halted s t ++ row s t (call.AsMap e slot m)) h in
    and_from _ _ (accessed s t e.container none.1.0)
    (two (observes s t) e.object m.entry.container (not-false _ none.1.1.1.1.1.1.1.0)
    (accessed s t m.entry.container none.1.1.1.0))
sees_all s t (call.AsUnmap e slot) g h =
    let none = none_hold (halted s t ++ row s t (call.AsUnmap e slot)) h in
    two (observes s t) e.container e.object (accessed s t e.container none.1.0) (not-false _ none.1.1.1.1.0)
sees_all s t (call.Store address bytes) g h =
    let none = none_hold (halted s t ++ row s t (call.Store address bytes)) h in
    way_seen s t address none.1.1.0
sees_all s t (call.GateEnter e r q v) g h = absurd (cc)
sees_all s t (call.DevSend e bytes) g h =
    let none = none_hold (halted s t ++ row s t (call.DevSend e bytes)) h in
    two (observes s t) e.container e.object (accessed s t e.container none.1.0) (not-false _ none.1.1.1.1.0)
sees_all s t (call.DevRecv e) g h =
    let none = none_hold (halted s t ++ row s t (call.DevRecv e)) h in
    two (observes s t) e.container e.object (accessed s t e.container none.1.0) (not-false _ none.1.1.1.1.0)

-- the container of a gate that is entered
pub gate_container : (s : State) (t : ℕ) (e : Entry) (r q v : _) → refused s t (call.GateEnter e r q v) ≡ None
    → observes s t e.container ≡ true
unfolding refused
gate_container s t e r q v h =
    let none = none_hold (halted s t ++ row s t (call.GateEnter e r q v)) h in
    accessed s t e.container none.1.0

-- o is the next id, which the call gives, or the thread's label is at most o's
abbrev pub may_flow : State → ℕ → Bool → ℕ → Bool
may_flow s t gives o = (gives && (o == s.next_id)) || flows_to s t o

flows : (s : State) (t : ℕ) (gives : Bool) (o : ℕ) → flows_to s t o ≡ true → may_flow s t gives o ≡ true
flows s t gives o h =
    elim (gives && (o == s.next_id)) as (λ v. (v || flows_to s t o) ≡ true) [ true ↦ refl | false ↦ h ]

-- a new object in a container
beside : (s : State) (t d : ℕ) → not (flows_to s t d) ≡ false
    → list_all (may_flow s t true) (d ∷ s.next_id ∷ []) ≡ true
beside s t d h =
    two (may_flow s t true) d s.next_id (flows s t true d (not-false _ h))
    (ap (λ v. v || flows_to s t s.next_id) (eq-eqb s.next_id s.next_id refl))

alone : (s : State) (t o : ℕ) → not (flows_to s t o) ≡ false → list_all (may_flow s t false) (o ∷ []) ≡ true
alone s t o h = one (may_flow s t false) o (flows s t false o (not-false _ h))

weaker : (p q : ℕ → Bool) (xs : List ℕ) → ((o : ℕ) → p o ≡ true → q o ≡ true) → list_all p xs ≡ true
    → list_all q xs ≡ true
weaker p q [] imp h = refl
weaker p q (x ∷ xs) imp h =
    let parts : (p x ≡ true) × (list_all p xs ≡ true) = and_parts (p x) (list_all p xs) h in
    and_from (q x) (list_all q xs) (imp x parts.0) (weaker p q xs imp parts.1)

-- what an accepted call modifies
pub changes_all : (s : State) (t : ℕ) (c : Call) → refused s t c ≡ None
    → list_all (may_flow s t (makes c)) (changes s t c) ≡ true
unfolding refused
changes_all s t call.CatCreate h = refl
changes_all s t (call.SelfSetLabel x) h = refl
changes_all s t (call.SelfSetClearance y) h = refl
changes_all s t (call.SelfSetAs e) h = refl
changes_all s t (call.ContainerCreate n) h =
    let none = none_hold (halted s t ++ row s t (call.ContainerCreate n)) h in
    beside s t n.container none.1.1.1.0
changes_all s t (call.SegmentCreate n) h =
    let none = none_hold (halted s t ++ row s t (call.SegmentCreate n)) h in
    beside s t n.container none.1.1.1.0
changes_all s t (call.SegmentCopy n) h =
    let none = none_hold (halted s t ++ row s t (call.SegmentCopy n)) h in
    beside s t n.container none.1.1.1.1.1.1.1.0
changes_all s t (call.AsCreate n) h =
    let none = none_hold (halted s t ++ row s t (call.AsCreate n)) h in
    beside s t n.container none.1.1.1.0
changes_all s t (call.ThreadCreate n) h =
    let none = none_hold (halted s t ++ row s t (call.ThreadCreate n)) h in
    beside s t n.container none.1.1.1.0
changes_all s t (call.GateCreate n) h =
    let none = none_hold (halted s t ++ row s t (call.GateCreate n)) h in
    beside s t n.container none.1.1.1.1.1.1.0
changes_all s t (call.Link d e) h =
    let none = none_hold (halted s t ++ row s t (call.Link d e)) h in
    alone s t d none.1.1.1.1.1.1.0
changes_all s t (call.Unref e) h =
    let none = none_hold (halted s t ++ row s t (call.Unref e)) h in
    alone s t e.container none.1.1.1.1.1.0
changes_all s t (call.QuotaMove e n) h =
    let none = none_hold (halted s t ++ row s t (call.QuotaMove e n)) h in
    two (may_flow s t false) e.container e.object (flows s t false e.container (not-false _ none.1.1.1.1.1.0))
    (flows s t false e.object (not-false _ none.1.1.1.1.1.1.0))
changes_all s t (call.SetFixed e) h =
    let none = none_hold (halted s t ++ row s t (call.SetFixed e)) h in
    alone s t e.object none.1.1.1.1.0
changes_all s t (call.SetImmutable e) h =
    let none = none_hold (halted s t ++ row s t (call.SetImmutable e)) h in
    alone s t e.object none.1.1.1.1.1.1.0
changes_all s t (call.MetaSet e bytes) h =
    let none = none_hold (halted s t ++ row s t (call.MetaSet e bytes)) h in
    alone s t e.object none.1.1.1.1.1.0
changes_all s t (call.SegmentResize e pages) h =
    let none = none_hold (halted s t ++ row s t (call.SegmentResize e pages)) h in
    alone s t e.object none.1.1.1.1.1.0
changes_all s t (call.SegmentWrite e a bytes) h =
    let none = none_hold (halted s t ++ row s t (call.SegmentWrite e a bytes)) h in
    alone s t e.object none.1.1.1.1.1.0
changes_all s t (call.AsMap e slot m) h =
    let none = none_hold (halted s t ++ row s t (call.AsMap e slot m)) h in
    alone s t e.object none.1.1.1.1.1.1.1.1.0
changes_all s t (call.AsUnmap e slot) h =
    let none = none_hold (halted s t ++ row s t (call.AsUnmap e slot)) h in
    alone s t e.object none.1.1.1.1.1.0
changes_all s t (call.Store address bytes) h =
    let none = none_hold (halted s t ++ row s t (call.Store address bytes)) h in
    weaker (flows_to s t) (may_flow s t false) _ (flows s t false)
    (way_flows s t address none.1.1.0 (not-false _ none.1.1.1.0))
changes_all s t (call.GateEnter e r q v) h = refl
changes_all s t (call.DevSend e bytes) h =
    let none = none_hold (halted s t ++ row s t (call.DevSend e bytes)) h in
    alone s t e.object none.1.1.1.1.1.0
changes_all s t (call.DevRecv e) h =
    let none = none_hold (halted s t ++ row s t (call.DevRecv e)) h in
    alone s t e.object none.1.1.1.1.1.0

-- the thread observes o, or is shown its label
abbrev pub is_seen : State → ℕ → ℕ → Bool
is_seen s t o = observes s t o || both shown (label_at s o) (label_at s t)

seen : (s : State) (t o : ℕ) → observes s t o ≡ true → is_seen s t o ≡ true
seen s t o h = ap (λ v. v || both shown (label_at s o) (label_at s t)) h

pub seen_both : (s : State) (t a b : ℕ) → observes s t a ≡ true → observes s t b ≡ true
    → list_all (is_seen s t) (a ∷ b ∷ []) ≡ true
seen_both s t a b ha hb = two (is_seen s t) a b (seen s t a ha) (seen s t b hb)

-- a thread whose label is shown
labelled : (s : State) (t o : ℕ) (b : Bool) → (b && not (both shown (label_at s o) (label_at s t))) ≡ false
    → list_all (is_seen s t) (cond b (o ∷ []) []) ≡ true
labelled s t o true h =
    one (is_seen s t) o
    (elim (observes s t o) as (λ v. (v || both shown (label_at s o) (label_at s t)) ≡ true) [
      | true ↦ refl
      | false ↦ not-false _ h
    ])
labelled s t o false h = refl

-- what an accepted query observes
pub reads_all : (s : State) (t : ℕ) (q : Query) → query_refused s t q ≡ None
    → list_all (is_seen s t) (reads s t q) ≡ true
unfolding query_refused
reads_all s t query.SelfGet h = refl
reads_all s t (query.ObjLabel e) h =
    let none = none_hold (halted s t ++ query_row s t (query.ObjLabel e)) h in
    and_from _ _ (seen s t e.container (accessed s t e.container none.1.0))
    (labelled s t e.object (is_kind_at s kinds.Thread e.object) none.1.1.1.0)
reads_all s t (query.ObjQuota e) h =
    let none = none_hold (halted s t ++ query_row s t (query.ObjQuota e)) h in
    seen_both s t e.container e.object (accessed s t e.container none.1.0) (not-false _ none.1.1.1.0)
reads_all s t (query.ContainerList d from) h =
    let none = none_hold (halted s t ++ query_row s t (query.ContainerList d from)) h in
    one (is_seen s t) d (seen s t d (accessed s t d none.1.0))
reads_all s t (query.ContainerParent d) h =
    let none = none_hold (halted s t ++ query_row s t (query.ContainerParent d)) h in
    one (is_seen s t) d (seen s t d (accessed s t d none.1.0))
reads_all s t (query.SegmentLen e) h =
    let none = none_hold (halted s t ++ query_row s t (query.SegmentLen e)) h in
    seen_both s t e.container e.object (accessed s t e.container none.1.0) (not-false _ none.1.1.1.1.0)
reads_all s t (query.SegmentRead e a n) h =
    let none = none_hold (halted s t ++ query_row s t (query.SegmentRead e a n)) h in
    seen_both s t e.container e.object (accessed s t e.container none.1.0) (not-false _ none.1.1.1.1.0)
reads_all s t (query.MetaGet e) h =
    let none = none_hold (halted s t ++ query_row s t (query.MetaGet e)) h in
    seen_both s t e.container e.object (accessed s t e.container none.1.0) (not-false _ none.1.1.1.1.0)
reads_all s t (query.AsGet e slot) h =
    let none = none_hold (halted s t ++ query_row s t (query.AsGet e slot)) h in
    seen_both s t e.container e.object (accessed s t e.container none.1.0) (not-false _ none.1.1.1.1.0)
reads_all s t (query.Load address n) h =
    let none = none_hold (halted s t ++ query_row s t (query.Load address n)) h in
    weaker (observes s t) (is_seen s t) _ (seen s t) (way_seen s t address none.1.1.0)
