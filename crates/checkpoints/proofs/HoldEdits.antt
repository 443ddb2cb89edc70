-- Each call keeps that containers list only what they may list, from a well-formed state on.
use Rattle.std.proofs.Common.{◌≡◌, ◌≢◌, ℕ, Bool, true, false, not, cond, ◌&&◌, ◌||◌, ◌==◌, nat_lt, List, [], ◌∷◌, ◌++◌}
use Rattle.std.proofs.Common.{Option, Some, None, refl, sym, ◌∙◌, subst, ap, inl, inr, Less, Equal, Greater}
use Rattle.std.specs.List.{list_all}
use Rattle.std.specs.Map.{lookup}
use Rattle.std.specs.BTreeMap.{is_at, insert_entry}
use Rattle.std.specs.Ordering.{nat_cmp, match_ordering, is_eq}
use Rattle.std.proofs.lemmas.Bool.{both_ways, and_from, or_left, eqb-true, eq-eqb}
use Rattle.std.proofs.lemmas.Bool.{not-true, not_from_false}
use Rattle.std.proofs.lemmas.List.Folds.{list_all-map}
use Rattle.base.specs.Live.{has}
use Rattle.base.specs.Sets.{has_kind, no_kind, union}
use Rattle.base.specs.declared.sets.TypeSet.{TypeSet}
use Rattle.base.specs.declared.kinds.Kind as kind
use Rattle.base.specs.declared.kinds.Kind.TheVariants as kinds
use Rattle.label_lattice.specs.Label.{LabelValue}
use Rattle.label_lattice.specs.LabelRules.{stored}
use Rattle.kernel_rules.specs.Changes.{changed, made, listing, fresh_object, joined, joined_at, owning}
use Rattle.kernel_rules.specs.Conditions.{avoids_kind_of}
use Rattle.kernel_rules.specs.Table.{halted, refused, row}
use Rattle.kernel_rules.specs.State.{State, object_at, of_object, list_at, listed, kind_of, is_kind}
use Rattle.kernel_rules.specs.State.{is_kind_at, avoids, avoids_at, gate_at}
use Rattle.kernel_rules.specs.Step.{edit, owned, made_of, stored_at, with_value}
use Rattle.kernel_rules.specs.Step.{new_thread, new_gate}
use Rattle.kernel_rules.specs.WellFormed.{is_well_formed}
use Rattle.kernel_rules.specs.declared.calls.Call.{Call}
use Rattle.kernel_rules.specs.declared.calls.Call.TheVariants as call
use Rattle.kernel_rules.specs.declared.objects.Body as body
use Rattle.kernel_rules.specs.declared.objects.Body.TheVariants as is
use Rattle.kernel_rules.specs.declared.objects.Object.{Object}
use Rattle.kernel_rules.specs.declared.places.Place.{Place}
use Rattle.kernel_rules.proofs.GrownLaws.{recorded_old}
use Rattle.kernel_rules.proofs.ListerLaws.{unlisted_next}
use Rattle.kernel_rules.proofs.LookupLaws.{all_at, at_self}
use Rattle.kernel_rules.proofs.RecordLaws.{next_id-changed}
use Rattle.kernel_rules.proofs.RowLaws.{none_hold}
use Rattle.kernel_rules.proofs.WellFormedLaws.{soundness_of}
use Rattle.kernel_laws.proofs.Frames.{lookup_inserted}
use Rattle.checkpoints.specs.Restorable.{may_hold, avoid_of, is_within}
use Rattle.checkpoints.proofs.HoldLaws.{HoldRightly, avoid_at, value_changed}
use Rattle.checkpoints.proofs.HoldSteps.{self, bytes_hold, queue_hold, thread_hold, slots_hold}
use Rattle.checkpoints.proofs.HoldSteps.{list_avoid, hold_kept, hold_less, hold_more, listed_more}

nothing_avoided : (k : kind.Kind) → false ≡ has_kind no_kind k
nothing_avoided kinds.Container = refl
nothing_avoided kinds.Segment = refl
nothing_avoided kinds.AddressSpace = refl
nothing_avoided kinds.Thread = refl
nothing_avoided kinds.Gate = refl
nothing_avoided kinds.Device = refl

-- the test of a row says what is in the set
avoids_body : (k : kind.Kind) (b : body.Body) → avoids k b ≡ has_kind (avoid_of b) k
avoids_body k (is.Container avoid list) = refl
avoids_body k (is.Segment bytes) = nothing_avoided k
avoids_body k (is.AddressSpace slots) = nothing_avoided k
avoids_body k (is.Thread t) = nothing_avoided k
avoids_body k (is.Gate g) = nothing_avoided k
avoids_body k (is.Device packets) = nothing_avoided k

avoids_is : (s : State) (k : kind.Kind) (d : ℕ) → avoids_at s k d ≡ has_kind (avoid_at s d) k
avoids_is s k d =
    elim (object_at s d)
    as (λ v. of_object false (λ x. avoids k x.body) v ≡ has_kind (of_object no_kind (λ x. avoid_of x.body) v) k) [
      | None ↦ nothing_avoided k
      | Some x ↦ avoids_body k x.body
    ]

-- what was asked to be avoided, joined with what the container avoids, has that
wider : (a k : Bool) → (not a || (k || a)) ≡ true
wider true true = refl
wider true false = refl
wider false k = refl

within_union : (a k : TypeSet) → is_within a (union k a) ≡ true
within_union a k =
    and_from _ (not a.device || (k.device || a.device))
    (and_from _ (not a.gate || (k.gate || a.gate))
    (and_from _ (not a.thread || (k.thread || a.thread))
    (and_from _ (not a.address_space || (k.address_space || a.address_space))
    (and_from (not a.container || (k.container || a.container)) (not a.segment || (k.segment || a.segment))
    (wider a.container k.container) (wider a.segment k.segment)) (wider a.address_space k.address_space))
    (wider a.thread k.thread)) (wider a.gate k.gate)) (wider a.device k.device)

within_joined : (k : TypeSet) (b : body.Body) → is_within (avoid_of b) (joined k b) ≡ true
within_joined k (is.Container avoid list) = within_union avoid k
within_joined k (is.Segment bytes) = refl
within_joined k (is.AddressSpace slots) = refl
within_joined k (is.Thread t) = refl
within_joined k (is.Gate g) = refl
within_joined k (is.Device packets) = refl

within_at : (s : State) (k : TypeSet) (d : ℕ) → is_within (avoid_at s d) (joined_at s k d) ≡ true
within_at s k d =
    elim (object_at s d)
    as (λ v. is_within (of_object no_kind (λ x. avoid_of x.body) v) (of_object k (λ x. joined k x.body) v) ≡ true) [
      | None ↦ refl
      | Some x ↦ within_joined k x.body
    ]

-- nothing is recorded under the next id, and no list has it
absent : (s : State) → is_well_formed s ≡ true → object_at s s.next_id ≡ None
absent s wf =
    let given : list_all (λ e. nat_lt e.0 s.next_id) s.objects ≡ true =
    sym (list_all-map (λ e. nat_lt e.0 s.next_id) (λ e. (e.0, listed e.1.body)) s.objects)
    ∙ (soundness_of s wf).given in
    elim (object_at s s.next_id) as (λ v. object_at s s.next_id ≡ v → v ≡ None) [
      | None ↦ λ is. refl
      | Some x ↦ λ is. absurd (recorded_old s s.next_id x given is refl)
    ] refl

unlisted : (s : State) (d : ℕ) → is_well_formed s ≡ true → has (list_at s d) s.next_id ≡ false
unlisted s d wf =
    let none = unlisted_next s s.objects (absent s wf) (soundness_of s wf).kept in
    elim (object_at s d)
    as (λ v. object_at s d ≡ v → has (of_object [] (λ x. listed x.body) v) s.next_id ≡ false) [
      | None ↦ λ is. refl
      | Some x ↦ λ is. not-true _ (all_at (λ q y. not (has (listed y.body) s.next_id)) s.objects d x none is)
    ] refl

inserted_here : (k : ℕ) (es : List (ℕ × Object)) (x : Object)
    → lookup (is_at (nat_cmp k)) (insert_entry nat_cmp es k x) ≡ Some x
inserted_here k [] x = ap (λ b. cond b (Some x) None) (at_self k)
inserted_here k (e ∷ es) x =
    elim (nat_cmp k e.0)
    as (λ v. nat_cmp k e.0 ≡ v
    → lookup (is_at (nat_cmp k))
    (match_ordering v ((k, x) ∷ e ∷ es) ((e.0, x) ∷ es) (e ∷ insert_entry nat_cmp es k x)) ≡ Some x) [
      | Less ↦ λ is. ap (λ b. cond b (Some x) (lookup (is_at (nat_cmp k)) (e ∷ es))) (at_self k)
      | Equal ↦ λ is.
          ap (λ b. cond b (Some x) (lookup (is_at (nat_cmp k)) es)) (ap is_eq is)
      | Greater ↦ λ is.
          ap (λ b. cond b (Some e.1) (lookup (is_at (nat_cmp k)) (insert_entry nat_cmp es k x))) (ap is_eq is)
          ∙ inserted_here k es x
    ] refl

-- a new object that its container may list
hold_made : (s : State) (d : ℕ) (x : Object) → is_well_formed s ≡ true → listed x.body ≡ []
    → may_hold (avoid_at s d) x ≡ true → HoldRightly s → HoldRightly (made s d x)
hold_made s d x wf empty may all e i h =
    let mid : State = changed s d (listing s.next_id) in
    let next : mid.next_id ≡ s.next_id = next_id-changed s d (listing s.next_id) in
    let before : HoldRightly mid =
    hold_more s d s.next_id (ap (of_object true (may_hold (avoid_at s d))) (absent s wf)) all in
    let avoid : (q : ℕ) → avoid_at mid q ≡ avoid_at s q =
    λ q. value_changed no_kind (λ z. avoid_of z.body) q s d (listing s.next_id) (λ z. list_avoid _ z.body) in
    let other : (q : ℕ) → q ≢ mid.next_id → object_at (made s d x) q ≡ object_at mid q =
    λ q old. lookup_inserted mid.next_id q mid.objects x old in
    let here : object_at (made s d x) mid.next_id ≡ Some x = inserted_here mid.next_id mid.objects x in
    elim (e == mid.next_id)
    as (λ v. (e == mid.next_id) ≡ v → of_object true (may_hold (avoid_at (made s d x) e)) (object_at (made s d x) i) ≡ true) [
      | true ↦ λ on.
          let at : object_at (made s d x) e ≡ Some x = ap (object_at (made s d x)) (eqb-true e mid.next_id on) ∙ here in
          let none : has [] i ≡ true =
          sym (ap (λ z. has (of_object [] (λ y. listed y.body) z) i) at ∙ ap (λ l. has l i) empty) ∙ h in
          let never : false ≡ true = none in
          absurd (cc)
      | false ↦ λ off.
          let at : object_at (made s d x) e ≡ object_at mid e =
          other e (λ same. both_ways (e == mid.next_id) off (eq-eqb e mid.next_id same)) in
          let lists : has (list_at mid e) i ≡ true =
          sym (ap (λ z. has (of_object [] (λ y. listed y.body) z) i) at) ∙ h in
          ap (λ z. of_object true (may_hold (of_object no_kind (λ y. avoid_of y.body) z)) (object_at (made s d x) i)) at
          ∙ elim (i == mid.next_id)
          as (λ v. (i == mid.next_id) ≡ v → of_object true (may_hold (avoid_at mid e)) (object_at (made s d x) i) ≡ true) [
            | true ↦ λ new.
                let on : i ≡ mid.next_id = eqb-true i mid.next_id new in
                let found : object_at (made s d x) i ≡ Some x = ap (object_at (made s d x)) on ∙ here in
                ap (of_object true (may_hold (avoid_at mid e))) found
                ∙ ap (λ a. may_hold a x) (avoid e)
                ∙ elim (listed_more s d s.next_id e i lists) as (λ _. may_hold (avoid_at s e) x ≡ true) [
                  | inl old ↦
                      let is : i ≡ s.next_id = on ∙ next in
                      absurd (both_ways (has (list_at s e) s.next_id) (unlisted s e wf)
                      (subst (λ j. has (list_at s e) j ≡ true) is old))
                  | inr both ↦ subst (λ q. may_hold (avoid_at s q) x ≡ true) (sym both.1) may
                ]
            | false ↦ λ old.
                ap (of_object true (may_hold (avoid_at mid e)))
                (other i (λ same. both_ways (i == mid.next_id) old (eq-eqb i mid.next_id same)))
                ∙ before e i lists
          ] refl
    ] refl

hold_value : {X : Type 0} (s : State) (v : Option X) (f : X → State) → ((x : X) → HoldRightly (f x)) → HoldRightly s
    → HoldRightly (with_value s v f)
hold_value s None f each all = all
hold_value s (Some x) f each all = each x

hold_new : (s : State) (d : ℕ) (x : Option LabelValue) (q : ℕ) (b : body.Body) → is_well_formed s ≡ true
    → listed b ≡ [] → ((l : LabelValue) → may_hold (avoid_at s d) (fresh_object l q b) ≡ true) → HoldRightly s
    → HoldRightly (made_of s d x q b)
hold_new s d x q b wf empty may all =
    hold_value s x (λ l. made s d (fresh_object l q b)) (λ l. hold_made s d (fresh_object l q b) wf empty (may l) all) all

-- an object that is no container, of a kind that is not avoided
may_plain : (s : State) (d : ℕ) (k : kind.Kind) (rest : Bool) → avoids_at s k d ≡ false
    → (not (has_kind (avoid_at s d) k) && true) ≡ true
may_plain s d k rest h =
    and_from (not (has_kind (avoid_at s d) k)) true
    (not_from_false (has_kind (avoid_at s d) k) (sym (avoids_is s k d) ∙ h)) refl

hold_owned : (s : State) (t : ℕ) (l c : Option LabelValue) → HoldRightly s → HoldRightly (owned s t l c)
hold_owned s t None c all = all
hold_owned s t (Some l) None all = all
hold_owned s t (Some l) (Some c) all = hold_kept s t (owning l c) (λ x. thread_hold _ x.body) all

hold_store : (s : State) (p : Option Place) (bytes : List ℕ) → HoldRightly s → HoldRightly (stored_at s p bytes)
hold_store s None bytes all = all
hold_store s (Some p) bytes all = hold_kept s p.segment _ (λ x. bytes_hold _ x.body) all

-- what is linked is no container, and of a kind that is not avoided
linked : (s : State) (t d o : ℕ) → is_kind_at s kinds.Container o ≡ false → avoids_kind_of s t d o ≡ false
    → of_object true (may_hold (avoid_at s d)) (object_at s o) ≡ true
linked s t d o =
    elim (object_at s o)
    as (λ v. of_object false (is_kind kinds.Container) v ≡ false
    → of_object true (λ x. avoids_at s (kind_of x.body) d) v ≡ false
    → of_object true (may_hold (avoid_at s d)) v ≡ true) [
      | None ↦ λ k a. refl
      | Some x ↦ λ k a.
          and_from (not (has_kind (avoid_at s d) (kind_of x.body))) _
          (not_from_false _ (sym (avoids_is s (kind_of x.body) d) ∙ a))
          (or_left (not (is_kind kinds.Container x)) _ (not_from_false (is_kind kinds.Container x) k))
    ]

pub edit_hold : (s : State) (t : ℕ) (c : Call) → is_well_formed s ≡ true → refused s t c ≡ None → HoldRightly s
    → HoldRightly (edit s t c)
unfolding refused
edit_hold s t call.CatCreate wf r all = hold_owned s t _ _ all
edit_hold s t (call.SelfSetLabel x) wf r all =
    hold_value s (stored x) _ (λ l. hold_kept s t _ (λ z. self z.body) all) all
edit_hold s t (call.SelfSetClearance y) wf r all =
    hold_value s (stored y) _ (λ c. hold_kept s t _ (λ z. thread_hold _ z.body) all) all
edit_hold s t (call.SelfSetAs e) wf r all = hold_kept s t _ (λ z. thread_hold _ z.body) all
edit_hold s t (call.ContainerCreate m) wf r all =
    let none = none_hold (halted s t ++ row s t (call.ContainerCreate m)) r in
    hold_new s m.container (stored m.label) m.quota _ wf refl
    (λ l. and_from (not (has_kind (avoid_at s m.container) kinds.Container)) (is_within (avoid_at s m.container) _)
    (not_from_false _ (sym (avoids_is s kinds.Container m.container) ∙ none.1.1.1.1.0))
    (within_at s m.avoid m.container)) all
edit_hold s t (call.SegmentCreate m) wf r all =
    let none = none_hold (halted s t ++ row s t (call.SegmentCreate m)) r in
    hold_new s m.container (stored m.label) m.quota _ wf refl
    (λ l. may_plain s m.container kinds.Segment true none.1.1.1.1.0) all
edit_hold s t (call.SegmentCopy m) wf r all =
    let none = none_hold (halted s t ++ row s t (call.SegmentCopy m)) r in
    hold_new s m.container (stored m.label) m.quota _ wf refl
    (λ l. may_plain s m.container kinds.Segment true none.1.1.1.1.1.1.1.1.0) all
edit_hold s t (call.AsCreate m) wf r all =
    let none = none_hold (halted s t ++ row s t (call.AsCreate m)) r in
    hold_new s m.container (stored m.label) m.quota _ wf refl
    (λ l. may_plain s m.container kinds.AddressSpace true none.1.1.1.1.0) all
edit_hold s t (call.ThreadCreate m) wf r all =
    let none = none_hold (halted s t ++ row s t (call.ThreadCreate m)) r in
    hold_value s (stored m.clearance) _
    (λ c. hold_new s m.container (stored m.label) m.quota (new_thread c m.entry_point) wf refl
    (λ l. may_plain s m.container kinds.Thread true none.1.1.1.1.0) all) all
edit_hold s t (call.GateCreate m) wf r all =
    let none = none_hold (halted s t ++ row s t (call.GateCreate m)) r in
    hold_value s (stored m.clearance) _
    (λ c. hold_new s m.container (stored m.label) m.quota (new_gate c m.space m.entry_point m.closure) wf refl
    (λ l. may_plain s m.container kinds.Gate true none.1.1.1.1.1.1.1.0) all) all
edit_hold s t (call.Link d e) wf r all =
    let none = none_hold (halted s t ++ row s t (call.Link d e)) r in
    hold_more s d e.object (linked s t d e.object none.1.1.1.1.0 none.1.1.1.1.1.1.1.1.0) all
edit_hold s t (call.Unref e) wf r all = hold_less s e.container e.object all
edit_hold s t (call.QuotaMove e m) wf r all = hold_kept s e.object _ (λ z. self z.body) all
edit_hold s t (call.SetFixed e) wf r all = hold_kept s e.object _ (λ z. self z.body) all
edit_hold s t (call.SetImmutable e) wf r all = hold_kept s e.object _ (λ z. self z.body) all
edit_hold s t (call.MetaSet e bytes) wf r all = hold_kept s e.object _ (λ z. self z.body) all
edit_hold s t (call.SegmentResize e pages) wf r all = hold_kept s e.object _ (λ z. bytes_hold _ z.body) all
edit_hold s t (call.SegmentWrite e a bytes) wf r all = hold_kept s e.object _ (λ z. bytes_hold _ z.body) all
edit_hold s t (call.AsMap e slot m) wf r all = hold_kept s e.object _ (λ z. slots_hold _ z.body) all
edit_hold s t (call.AsUnmap e slot) wf r all = hold_kept s e.object _ (λ z. slots_hold _ z.body) all
edit_hold s t (call.Store address bytes) wf r all = hold_store s _ bytes all
edit_hold s t (call.GateEnter e x y z) wf r all =
    hold_value s (stored x) _ (λ l. hold_value s (stored y) _ (λ c. hold_value s (stored z) _ (λ w.
    hold_value s (gate_at s e.object) _ (λ gate. hold_kept s t _ (λ q. thread_hold _ q.body) all) all) all) all) all
edit_hold s t (call.DevSend e bytes) wf r all = hold_kept s e.object _ (λ z. queue_hold _ z.body) all
edit_hold s t (call.DevRecv e) wf r all = hold_kept s e.object _ (λ z. queue_hold _ z.body) all
