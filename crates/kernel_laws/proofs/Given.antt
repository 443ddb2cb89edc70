-- What ids and categories calls give: each is the next one, and then the next one is greater.
use Rattle.std.proofs.Common.{◌≡◌, ℕ, ◌+◌, ◌≤◌, ◌<◌, Bool, true, false, List, [], ◌∷◌, ◌++◌, Option, Some, None}
use Rattle.std.proofs.Common.{Less, refl, sym, ap, subst, arith, not, ◌||◌, is_none}
use Rattle.std.specs.Cmp.{nat_cmp_is}
use Rattle.std.specs.List.{flat_map, AllByRecursion}
use Rattle.std.specs.List.Sorted.{IsStrictlyIncreasing, IsStrictlySortedBy}
use Rattle.std.specs.Ordering.{nat_cmp}
use Rattle.std.proofs.lemmas.Bool.{and_parts, not-false}
use Rattle.std.proofs.lemmas.Map.Keys.{IsStrictlyIncreasing-from_sorted}
use Rattle.label_lattice.specs.Label.{LabelValue}
use Rattle.label_lattice.specs.LabelRules.{both, below, between, stored}
use Rattle.kernel_rules.specs.State.{State, object_at, of_object, label_at, clearance_at, gate_at, packets_at}
use Rattle.kernel_rules.specs.Runs.{replies_to}
use Rattle.kernel_rules.specs.Conditions.{in_range_of, own_label, own_clearance}
use Rattle.kernel_rules.specs.Table.{halted, refused, row}
use Rattle.kernel_rules.specs.Step.{answer, next, edit, accepted, restricted, owned, made_of, made_bearer, through_gate}
use Rattle.kernel_rules.specs.Step.{stored_at, with_value, told_by, first_packet}
use Rattle.kernel_rules.specs.Changes.{changed, put, owning, listing, entered}
use Rattle.kernel_rules.specs.declared.calls.Call.{Call}
use Rattle.kernel_rules.specs.declared.calls.Call.TheVariants as call
use Rattle.kernel_rules.specs.declared.objects.Body.{Body}
use Rattle.kernel_rules.specs.declared.objects.Gate.{Gate}
use Rattle.kernel_rules.specs.declared.objects.Object.{Object}
use Rattle.kernel_rules.specs.declared.places.Place.{Place}
use Rattle.kernel_rules.specs.declared.replies.Reply.{Reply}
use Rattle.kernel_rules.specs.declared.replies.Reply.TheVariants as reply
use Rattle.base.specs.declared.refusals.Refusal.{Refusal}
use Rattle.kernel_rules.proofs.RecordLaws.{next_id-changed}
use Rattle.kernel_rules.proofs.RowLaws.{none_hold}
use Rattle.kernel_rules.proofs.StepLaws.{step_refused, step_done}
use Rattle.kernel_laws.specs.Laws.{new_id, new_category}

-- the numbers rise, from n on
abbrev Above : ℕ → List ℕ → Type 0
Above n [] = Unit {0}
Above n (x ∷ xs) = (n ≤ x) × Above (x + 1) xs

-- what is below all of them
before : (x n : ℕ) (xs : List ℕ) → x < n → Above n xs → AllByRecursion (λ y. nat_cmp x y ≡ Less) xs
before x n [] less h = tt
before x n (y ∷ ys) less h =
    (sym (nat_cmp_is x y Less (omega (arith, less, h.0))), before x (y + 1) ys (omega (arith, less, h.0)) h.1)

above_sorted : (n : ℕ) (xs : List ℕ) → Above n xs → IsStrictlySortedBy nat_cmp xs
unfolding IsStrictlySortedBy
above_sorted n [] h = tt
above_sorted n (x ∷ xs) h = (before x (x + 1) xs (omega arith) h.1, above_sorted (x + 1) xs h.1)

above_rises : (n : ℕ) (xs : List ℕ) → Above n xs → IsStrictlyIncreasing xs
above_rises n xs h = IsStrictlyIncreasing-from_sorted xs (above_sorted n xs h)

-- what a reply gives stands before what is given after it, from the count of s on
abbrev After : (State → ℕ) → (Reply → List ℕ) → State → Reply → State → Type 0
After n given s r e = (xs : List ℕ) → Above (n e) xs → Above (n s) (given r ++ xs)

gives_none : (n : State → ℕ) (given : Reply → List ℕ) (s : State) (r : Reply) (e : State)
    → given r ≡ [] → n e ≡ n s → After n given s r e
gives_none n given s r e none is xs h =
    subst (λ ys. Above (n s) (ys ++ xs)) (sym none) (subst (λ m. Above m xs) is h)

gives_next : (n : State → ℕ) (given : Reply → List ℕ) (s : State) (r : Reply) (e : State)
    → given r ≡ n s ∷ [] → n e ≡ n s + 1 → After n given s r e
gives_next n given s r e one is xs h =
    subst (λ ys. Above (n s) (ys ++ xs)) (sym one) (omega arith, subst (λ m. Above m xs) is h)

-- the calls that give an id or a category
abbrev pub gives : Call → Bool
gives call.CatCreate = true
gives (call.ContainerCreate n) = true
gives (call.SegmentCreate n) = true
gives (call.SegmentCopy n) = true
gives (call.AsCreate n) = true
gives (call.ThreadCreate n) = true
gives (call.GateCreate n) = true
gives c = false

-- no change of an object touches the count
abbrev pub Steady : {X : Type 0} → (State → X) → Type 0
Steady n = (s : State) (o : ℕ) (f : Object → Object) → n (changed s o f) ≡ n s

-- a count, where a value leads to a state that has it
value_same : {X Y : Type 0} (n : State → Y) (s : State) (v : Option X) (f : X → State)
    → ((x : X) → n (f x) ≡ n s) → n (with_value s v f) ≡ n s
value_same n s None f same = refl
value_same n s (Some x) f same = same x

gate_same : {X : Type 0} (n : State → X) → Steady n → (s : State) (t : ℕ) (r q v : Option LabelValue) (g : Option Gate)
    → n (through_gate s t r q v g) ≡ n s
gate_same n same s t r q v g =
    value_same n s r _ (λ l. value_same n s q _ (λ c. value_same n s v _ (λ w. value_same n s g _ (λ gate.
    same s t (entered l c w gate)))))

store_same : {X : Type 0} (n : State → X) → Steady n → (s : State) (p : Option Place) (bytes : List ℕ)
    → n (stored_at s p bytes) ≡ n s
store_same n same s None bytes = refl
store_same n same s (Some p) bytes = same s p.segment _

pub edit_same : {X : Type 0} (n : State → X) → Steady n → (s : State) (t : ℕ) (c : Call) → gives c ≡ false
    → n (edit s t c) ≡ n s
edit_same n same s t call.CatCreate h = absurd (cc)
edit_same n same s t (call.SelfSetLabel x) h = value_same n s _ _ (λ l. same s t _)
edit_same n same s t (call.SelfSetClearance y) h = value_same n s _ _ (λ c. same s t _)
edit_same n same s t (call.SelfSetAs e) h = same s t _
edit_same n same s t (call.ContainerCreate m) h = absurd (cc)
edit_same n same s t (call.SegmentCreate m) h = absurd (cc)
edit_same n same s t (call.SegmentCopy m) h = absurd (cc)
edit_same n same s t (call.AsCreate m) h = absurd (cc)
edit_same n same s t (call.ThreadCreate m) h = absurd (cc)
edit_same n same s t (call.GateCreate m) h = absurd (cc)
edit_same n same s t (call.Link d e) h = same s d _
edit_same n same s t (call.Unref e) h = same s e.container _
edit_same n same s t (call.QuotaMove e m) h = same s e.object _
edit_same n same s t (call.SetFixed e) h = same s e.object _
edit_same n same s t (call.SetImmutable e) h = same s e.object _
edit_same n same s t (call.MetaSet e bytes) h = same s e.object _
edit_same n same s t (call.SegmentResize e pages) h = same s e.object _
edit_same n same s t (call.SegmentWrite e a bytes) h = same s e.object _
edit_same n same s t (call.AsMap e slot m) h = same s e.object _
edit_same n same s t (call.AsUnmap e slot) h = same s e.object _
edit_same n same s t (call.Store address bytes) h = store_same n same s _ bytes
edit_same n same s t (call.GateEnter e r q v) h =
    gate_same n same s t (stored r) (stored q) (stored v) (gate_at s e.object)
edit_same n same s t (call.DevSend e bytes) h = same s e.object _
edit_same n same s t (call.DevRecv e) h = same s e.object _

-- nothing is given by what the other calls answer
record Silent (given : Reply → List ℕ) : Type 0 where
  done : given reply.Done ≡ []
  bytes : (b : List ℕ) → given (reply.Bytes b) ≡ []
  entered : (p q : ℕ) → given (reply.Entered p q) ≡ []

told_silent : (given : Reply → List ℕ) → Silent given → (g : Option Gate) → given (told_by g) ≡ []
told_silent given quiet None = quiet.done
told_silent given quiet (Some g) = quiet.entered _ _

packet_silent : (given : Reply → List ℕ) → Silent given → (ps : List (List ℕ)) → given (first_packet ps) ≡ []
packet_silent given quiet [] = quiet.done
packet_silent given quiet (p ∷ ps) = quiet.bytes p

answer_silent : (given : Reply → List ℕ) → Silent given → (s : State) (t : ℕ) (c : Call) → gives c ≡ false
    → given (accepted s t c) ≡ []
answer_silent given quiet s t call.CatCreate h = absurd (cc)
answer_silent given quiet s t (call.ContainerCreate m) h = absurd (cc)
answer_silent given quiet s t (call.SegmentCreate m) h = absurd (cc)
answer_silent given quiet s t (call.SegmentCopy m) h = absurd (cc)
answer_silent given quiet s t (call.AsCreate m) h = absurd (cc)
answer_silent given quiet s t (call.ThreadCreate m) h = absurd (cc)
answer_silent given quiet s t (call.GateCreate m) h = absurd (cc)
answer_silent given quiet s t (call.GateEnter e r q v) h = told_silent given quiet (gate_at s e.object)
answer_silent given quiet s t (call.DevRecv e) h = packet_silent given quiet (packets_at s e.object)
answer_silent given quiet s t c h = quiet.done

-- what any other call gives, and leaves
others : (n : State → ℕ) (given : Reply → List ℕ) → Steady n → Silent given → (s : State) (t : ℕ) (c : Call)
    → gives c ≡ false → After n given s (accepted s t c) (edit s t c)
others n given same quiet s t c h =
    gives_none n given s (accepted s t c) (edit s t c) (answer_silent given quiet s t c h)
    (edit_same n same s t c h)

-- a call: what it gives, and leaves, where what is done where it is not refused is so
stepped : (n : State → ℕ) (given : Reply → List ℕ) → ((r : Refusal) → given (reply.Refused r) ≡ [])
    → (s : State) (t : ℕ) (c : Call)
    → (refused s t c ≡ None → After n given s (accepted s t c) (restricted (edit s t c)))
    → After n given s (answer s t c) (next s t c)
stepped n given refusing s t c done =
    elim (refused s t c)
    as (λ v. refused s t c ≡ v → After n given s (answer s t c) (next s t c)) [
      | None ↦ λ h.
          subst (λ a. After n given s a (next s t c)) (sym (step_done s t c h).0)
          (subst (λ e. After n given s (accepted s t c) e) (sym (step_done s t c h).1) (done h))
      | Some r ↦ λ h.
          subst (λ a. After n given s a (next s t c)) (sym (step_refused s t c r h).0)
          (subst (λ e. After n given s (reply.Refused r) e) (sym (step_refused s t c r h).1)
          (gives_none n given s (reply.Refused r) s (refusing r) refl))
    ] refl

-- what a list of calls gives rises, from the count of the state on
run_above : (n : State → ℕ) (given : Reply → List ℕ)
    → ((s : State) (t : ℕ) (c : Call) → After n given s (answer s t c) (next s t c))
    → (s : State) (calls : List (ℕ × Call)) → Above (n s) (flat_map given (replies_to s calls))
run_above n given step s [] = tt
run_above n given step s (c ∷ calls) =
    step s c.0 c.1 (flat_map given (replies_to (next s c.0 c.1) calls))
    (run_above n given step (next s c.0 c.1) calls)

-- a new object is made where its label is there
pub made_next : (s : State) (d : ℕ) (x : Option LabelValue) (q : ℕ) (b : Body) (a : Option LabelValue)
    → both below a x ≡ true → (made_of s d x q b).next_id ≡ s.next_id + 1
made_next s d (Some l) q b a h = ap (λ k. k + 1) (next_id-changed s d (listing s.next_id))
made_next s d None q b (Some a) h = absurd (cc)
made_next s d None q b None h = absurd (cc)

pub bearer_next : (s : State) (d : ℕ) (x : Option LabelValue) (q : ℕ) (y : Option LabelValue) (b : LabelValue → Body)
    (a : Option LabelValue) → both below a x ≡ true → both below x y ≡ true
    → (made_bearer s d x q y b).next_id ≡ s.next_id + 1
bearer_next s d x q (Some c) b a h g = made_next s d x q (b c) a h
bearer_next s d (Some l) q None b a h g = absurd (cc)
bearer_next s d None q None b a h g = absurd (cc)

pub owned_id : (s : State) (t : ℕ) (l c : Option LabelValue) → (owned s t l c).next_id ≡ s.next_id
owned_id s t None c = refl
owned_id s t (Some l) None = refl
owned_id s t (Some l) (Some c) = next_id-changed s t (owning l c)

pub in_range : (s : State) (t : ℕ) (x : Option LabelValue) → not (in_range_of s t x) ≡ false
    → both below (label_at s t) x ≡ true
in_range s t x h = (and_parts _ _ (not-false (in_range_of s t x) h)).0

silent_ids : Silent new_id
silent_ids = record { done = refl; bytes = λ b. refl; entered = λ p q. refl }

ids_done : (s : State) (t : ℕ) (c : Call) → refused s t c ≡ None
    → After (λ z. z.next_id) new_id s (accepted s t c) (edit s t c)
unfolding refused
ids_done s t call.CatCreate h =
    gives_none (λ z. z.next_id) new_id s (accepted s t call.CatCreate) (edit s t call.CatCreate) refl (owned_id s t (own_label s t) (own_clearance s t))
ids_done s t (call.ContainerCreate m) h =
    let none = none_hold (halted s t ++ row s t (call.ContainerCreate m)) h in
    gives_next (λ z. z.next_id) new_id s (accepted s t (call.ContainerCreate m)) (edit s t (call.ContainerCreate m)) refl
    (made_next s m.container (stored m.label) m.quota _ (label_at s t)
    (in_range s t (stored m.label) none.1.1.1.1.1.1.1.1.1.1.0))
ids_done s t (call.SegmentCreate m) h =
    let none = none_hold (halted s t ++ row s t (call.SegmentCreate m)) h in
    gives_next (λ z. z.next_id) new_id s (accepted s t (call.SegmentCreate m)) (edit s t (call.SegmentCreate m)) refl
    (made_next s m.container (stored m.label) m.quota _ (label_at s t)
    (in_range s t (stored m.label) none.1.1.1.1.1.1.1.1.1.1.0))
ids_done s t (call.SegmentCopy m) h =
    let none = none_hold (halted s t ++ row s t (call.SegmentCopy m)) h in
    gives_next (λ z. z.next_id) new_id s (accepted s t (call.SegmentCopy m)) (edit s t (call.SegmentCopy m)) refl
    (made_next s m.container (stored m.label) m.quota _ (label_at s t)
    (in_range s t (stored m.label) none.1.1.1.1.1.1.1.1.1.1.1.1.1.1.0))
ids_done s t (call.AsCreate m) h =
    let none = none_hold (halted s t ++ row s t (call.AsCreate m)) h in
    gives_next (λ z. z.next_id) new_id s (accepted s t (call.AsCreate m)) (edit s t (call.AsCreate m)) refl
    (made_next s m.container (stored m.label) m.quota _ (label_at s t)
    (in_range s t (stored m.label) none.1.1.1.1.1.1.1.1.1.1.0))
ids_done s t (call.ThreadCreate m) h =
    let none = none_hold (halted s t ++ row s t (call.ThreadCreate m)) h in
    let above = not-false (both below (label_at s t) (stored m.label)) none.1.1.1.1.1.1.1.1.1.1.1.0 in
    let range = not-false (between (stored m.label) (stored m.clearance) (clearance_at s t)) none.1.1.1.1.1.1.1.1.1.1.1.1.0 in
    gives_next (λ z. z.next_id) new_id s (accepted s t (call.ThreadCreate m)) (edit s t (call.ThreadCreate m)) refl
    (bearer_next s m.container (stored m.label) m.quota (stored m.clearance) _ (label_at s t) above
    (and_parts _ _ range).0)
ids_done s t (call.GateCreate m) h =
    let none = none_hold (halted s t ++ row s t (call.GateCreate m)) h in
    let above = not-false (both below (label_at s t) (stored m.label)) none.1.1.1.1.1.1.1.1.1.1.1.1.1.1.0 in
    let range = not-false (between (stored m.label) (stored m.clearance) (clearance_at s t)) none.1.1.1.1.1.1.1.1.1.1.1.1.1.1.1.0 in
    gives_next (λ z. z.next_id) new_id s (accepted s t (call.GateCreate m)) (edit s t (call.GateCreate m)) refl
    (bearer_next s m.container (stored m.label) m.quota (stored m.clearance) _ (label_at s t) above
    (and_parts _ _ range).0)
ids_done s t c h =
    elim (gives c)
    as (λ v. gives c ≡ v → After (λ z. z.next_id) new_id s (accepted s t c) (edit s t c)) [
      | true ↦ λ is. absurd (cc)
      | false ↦ λ is. others (λ z. z.next_id) new_id next_id-changed silent_ids s t c is
    ] refl

pub ids_rise : (s : State) (calls : List (ℕ × Call)) → IsStrictlyIncreasing (flat_map new_id (replies_to s calls))
ids_rise s calls =
    above_rises s.next_id (flat_map new_id (replies_to s calls))
    (run_above (λ z. z.next_id) new_id
    (λ s t c. stepped (λ z. z.next_id) new_id (λ r. refl) s t c (ids_done s t c)) s calls)

pub category-changed : (s : State) (o : ℕ) (f : Object → Object) → (changed s o f).next_category ≡ s.next_category
category-changed s o f =
    elim (object_at s o) as (λ v. (of_object s (λ x. put s o (f x)) v).next_category ≡ s.next_category) [
      | None ↦ refl
      | Some x ↦ refl
    ]

pub made_category : (s : State) (d : ℕ) (x : Option LabelValue) (q : ℕ) (b : Body)
    → (made_of s d x q b).next_category ≡ s.next_category
made_category s d (Some l) q b = category-changed s d (listing s.next_id)
made_category s d None q b = refl

pub bearer_category : (s : State) (d : ℕ) (x : Option LabelValue) (q : ℕ) (y : Option LabelValue) (b : LabelValue → Body)
    → (made_bearer s d x q y b).next_category ≡ s.next_category
bearer_category s d x q (Some c) b = made_category s d x q (b c)
bearer_category s d x q None b = refl

pub owned_next : (s : State) (t : ℕ) (l c : Option LabelValue) → (is_none l || is_none c) ≡ false
    → (owned s t l c).next_category ≡ s.next_category + 1
owned_next s t (Some l) (Some c) h = refl
owned_next s t (Some l) None h = absurd (cc)
owned_next s t None c h = absurd (cc)

silent_categories : Silent new_category
silent_categories = record { done = refl; bytes = λ b. refl; entered = λ p q. refl }

categories_done : (s : State) (t : ℕ) (c : Call) → refused s t c ≡ None
    → After (λ z. z.next_category) new_category s (accepted s t c) (edit s t c)
unfolding refused
categories_done s t call.CatCreate h =
    let none = none_hold (halted s t ++ row s t call.CatCreate) h in
    gives_next (λ z. z.next_category) new_category s (accepted s t call.CatCreate) (edit s t call.CatCreate) refl
    (owned_next s t (own_label s t) (own_clearance s t) none.1.0)
categories_done s t (call.ContainerCreate m) h =
    gives_none (λ z. z.next_category) new_category s (accepted s t (call.ContainerCreate m)) (edit s t (call.ContainerCreate m)) refl (made_category s m.container (stored m.label) m.quota _)
categories_done s t (call.SegmentCreate m) h =
    gives_none (λ z. z.next_category) new_category s (accepted s t (call.SegmentCreate m)) (edit s t (call.SegmentCreate m)) refl (made_category s m.container (stored m.label) m.quota _)
categories_done s t (call.SegmentCopy m) h =
    gives_none (λ z. z.next_category) new_category s (accepted s t (call.SegmentCopy m)) (edit s t (call.SegmentCopy m)) refl (made_category s m.container (stored m.label) m.quota _)
categories_done s t (call.AsCreate m) h =
    gives_none (λ z. z.next_category) new_category s (accepted s t (call.AsCreate m)) (edit s t (call.AsCreate m)) refl (made_category s m.container (stored m.label) m.quota _)
categories_done s t (call.ThreadCreate m) h =
    gives_none (λ z. z.next_category) new_category s (accepted s t (call.ThreadCreate m)) (edit s t (call.ThreadCreate m)) refl
    (bearer_category s m.container (stored m.label) m.quota (stored m.clearance) _)
categories_done s t (call.GateCreate m) h =
    gives_none (λ z. z.next_category) new_category s (accepted s t (call.GateCreate m)) (edit s t (call.GateCreate m)) refl
    (bearer_category s m.container (stored m.label) m.quota (stored m.clearance) _)
categories_done s t c h =
    elim (gives c)
    as (λ v. gives c ≡ v → After (λ z. z.next_category) new_category s (accepted s t c) (edit s t c)) [
      | true ↦ λ is. absurd (cc)
      | false ↦ λ is. others (λ z. z.next_category) new_category category-changed silent_categories s t c is
    ] refl

pub categories_rise : (s : State) (calls : List (ℕ × Call))
    → IsStrictlyIncreasing (flat_map new_category (replies_to s calls))
categories_rise s calls =
    above_rises s.next_category (flat_map new_category (replies_to s calls))
    (run_above (λ z. z.next_category) new_category
    (λ s t c. stepped (λ z. z.next_category) new_category (λ r. refl) s t c (categories_done s t c)) s calls)
