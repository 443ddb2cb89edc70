-- What a step's reply tells of its touch.
use Rattle.std.proofs.Common.{◌≡◌, ℕ, Bool, true, false, not, ◌&&◌, List, [], ◌∷◌, Option, Some, None, is_some, is_none}
use Rattle.std.proofs.Common.{refl, ◌∙◌, ap}
use Rattle.base.specs.declared.refusals.Refusal.{Refusal}
use Rattle.kernel_rules.specs.State.{State, object_at, of_object, gate_at, packets_at}
use Rattle.kernel_rules.specs.Step.{answer, next, accepted, or_refused, query_answer, found, told_by, first_packet, told_of, loaded}
use Rattle.kernel_rules.specs.Table.{refused, query_refused}
use Rattle.kernel_rules.specs.Translate.{place_of}
use Rattle.kernel_rules.specs.declared.calls.Call.{Call}
use Rattle.kernel_rules.specs.declared.calls.Call.TheVariants as call
use Rattle.kernel_rules.specs.declared.calls.Query.{Query}
use Rattle.kernel_rules.specs.declared.calls.Query.TheVariants as query
use Rattle.kernel_rules.specs.declared.objects.Body.{Body}
use Rattle.kernel_rules.specs.declared.objects.Body.TheVariants as is
use Rattle.kernel_rules.specs.declared.objects.Gate.{Gate}
use Rattle.kernel_rules.specs.declared.objects.Object.{Object}
use Rattle.kernel_rules.specs.declared.places.Place.{Place}
use Rattle.kernel_rules.specs.declared.replies.Reply.{Reply}
use Rattle.label_lattice.specs.Label.{LabelValue}
use Rattle.flow_rules.specs.Touched.{owns, sees, changes, reads, unless_refused, passes_owner}
use Rattle.flow_rules.specs.declared.steps.Step.TheVariants as step
use Rattle.flows.specs.Carriers.{is_owner_in, touch_at}
use Rattle.flows.specs.Looks.{asks_owner, is_refusal, unless}
use Rattle.flows.specs.declared.touches.Touch.{Touch}

told_none : (g : Option Gate) → is_refusal (told_by g) ≡ false
told_none None = refl
told_none (Some g) = refl

packet_none : (ps : List (List ℕ)) → is_refusal (first_packet ps) ≡ false
packet_none [] = refl
packet_none (p ∷ ps) = refl

accepted_none : (s : State) (t : ℕ) (c : Call) → is_refusal (accepted s t c) ≡ false
accepted_none s t (call.GateEnter e r q v) = told_none (gate_at s e.object)
accepted_none s t (call.DevRecv e) = packet_none (packets_at s e.object)
accepted_none s t c = refl

own_none : (l : LabelValue) (b : Body) → is_refusal (told_of l b) ≡ false
own_none l (is.Container avoid list) = refl
own_none l (is.Segment bytes) = refl
own_none l (is.AddressSpace slots) = refl
own_none l (is.Thread t) = refl
own_none l (is.Gate g) = refl
own_none l (is.Device packets) = refl

of_none : (v : Option Object) (d : Reply) (f : Object → Reply) → is_refusal d ≡ false
    → ((x : Object) → is_refusal (f x) ≡ false) → is_refusal (of_object d f v) ≡ false
of_none None d f h each = h
of_none (Some x) d f h each = each x

loaded_none : (s : State) (n : ℕ) (p : Option Place) → is_refusal (loaded s n p) ≡ false
loaded_none s n None = refl
loaded_none s n (Some p) = refl

found_none : (s : State) (t : ℕ) (q : Query) → is_refusal (found s t q) ≡ false
found_none s t query.SelfGet = of_none (object_at s t) _ _ refl (λ x. own_none x.label x.body)
found_none s t (query.ObjLabel e) = of_none (object_at s e.object) _ _ refl (λ x. refl)
found_none s t (query.ObjQuota e) = of_none (object_at s e.object) _ _ refl (λ x. refl)
found_none s t (query.MetaGet e) = of_none (object_at s e.object) _ _ refl (λ x. refl)
found_none s t (query.Load address n) = loaded_none s n (place_of s t address)
found_none s t q = refl

or_none : (v : Option Refusal) (r : Reply) → is_refusal r ≡ false → is_refusal (or_refused v r) ≡ is_some v
or_none None r h = h
or_none (Some x) r h = refl

pub call_refusal : (s : State) (t : ℕ) (c : Call) → is_refusal (answer s t c) ≡ is_some (refused s t c)
unfolding answer
call_refusal s t c = or_none (refused s t c) (accepted s t c) (accepted_none s t c)

pub query_refusal : (s : State) (t : ℕ) (q : Query)
    → is_refusal (query_answer s t q) ≡ is_some (query_refused s t q)
unfolding query_answer
query_refusal s t q = or_none (query_refused s t q) (found s t q) (found_none s t q)

unless_is : (v : Option Refusal) (ids : List ℕ) → unless (is_some v) ids ≡ unless_refused v ids
unless_is None ids = refl
unless_is (Some r) ids = refl

passes_is : (s : State) (t c : ℕ) (k : Call)
    → (not (is_some (refused s t k)) && asks_owner s c k) ≡ passes_owner s t c k
passes_is s t c (call.GateEnter e r q v) =
    ap (λ b. b && owns s c e.object) (not_some (refused s t (call.GateEnter e r q v)))
  where
    not_some : (v : Option Refusal) → not (is_some v) ≡ is_none v
    not_some None = refl
    not_some (Some r) = refl
passes_is s t c k = none (not (is_some (refused s t k)))
  where
    none : (b : Bool) → (b && false) ≡ false
    none true = refl
    none false = refl

-- the touch of a write call, by what was looked at before and after it
pub written_touch : (s n : State) (c t : ℕ) (k : Call) (reply : Reply) (seen changed : List ℕ)
    (outside owned refusal gate owner : Bool)
    → reply ≡ answer s t k → n ≡ next s t k → refusal ≡ is_refusal reply → owned ≡ is_owner_in s c t
    → gate ≡ asks_owner s c k → seen ≡ unless refusal (sees s t k) → changed ≡ unless refusal (changes s t k)
    → outside ≡ (not owned && not (not refusal && gate)) → owner ≡ is_owner_in n c t
    → (let touch : Touch = record {
      thread = t;
      observed = seen;
      modified = changed;
      outside = outside;
      owner = owner;
    } in touch) ≡ touch_at s c (t, step.Write k)
written_touch s n c t k reply seen changed outside owned refusal gate owner told state is own asks sees_is changes_is
    out after_is =
    let some : refusal ≡ is_some (refused s t k) = is ∙ ap is_refusal told ∙ call_refusal s t k in
    let seen_path : seen ≡ unless_refused (refused s t k) (sees s t k) =
    sees_is ∙ ap (λ b. unless b (sees s t k)) some ∙ unless_is (refused s t k) (sees s t k) in
    let changed_path : changed ≡ unless_refused (refused s t k) (changes s t k) =
    changes_is ∙ ap (λ b. unless b (changes s t k)) some ∙ unless_is (refused s t k) (changes s t k) in
    let out_path : outside ≡ (not (is_owner_in s c t) && not (passes_owner s t c k)) =
    out ∙ (λ i. not (own i) && not (not (some i) && asks i))
    ∙ ap (λ b. not (is_owner_in s c t) && not b) (passes_is s t c k) in
    let owner_path : owner ≡ is_owner_in (next s t k) c t = after_is ∙ ap (λ m. is_owner_in m c t) state in
    (λ i. record {
      thread = t;
      observed = seen_path i;
      modified = changed_path i;
      outside = out_path i;
      owner = owner_path i;
    })

-- the touch of a query
pub read_touch : (s : State) (c t : ℕ) (q : Query) (seen none : List ℕ) (refusal owner : Bool)
    → refusal ≡ is_refusal (query_answer s t q) → owner ≡ is_owner_in s c t
    → seen ≡ unless refusal (reads s t q) → none ≡ []
    → (let touch : Touch = record {
      thread = t;
      observed = seen;
      modified = none;
      outside = not owner;
      owner = owner;
    } in touch) ≡ touch_at s c (t, step.Read q)
read_touch s c t q seen none refusal owner is own reads_is none_is =
    let some : refusal ≡ is_some (query_refused s t q) = is ∙ query_refusal s t q in
    let seen_path : seen ≡ unless_refused (query_refused s t q) (reads s t q) =
    reads_is ∙ ap (λ b. unless b (reads s t q)) some ∙ unless_is (query_refused s t q) (reads s t q) in
    let out_path : not owner ≡ (not (is_owner_in s c t) && true) =
    ap not own ∙ with_true (not (is_owner_in s c t)) in
    (λ i. record {
      thread = t;
      observed = seen_path i;
      modified = none_is i;
      outside = out_path i;
      owner = own i;
    })
  where
    with_true : (b : Bool) → b ≡ (b && true)
    with_true true = refl
    with_true false = refl
