-- Each call leaves the root a container of its quota.
use Rattle.std.proofs.Common.{◌≡◌, ℕ, ◌+◌, ◌<◌, ◌≤◌, true, false, cond, ◌&&◌, ◌==◌, List, [], ◌∷◌, ◌++◌}
use Rattle.std.proofs.Common.{Option, Some, None, refl, sym, subst, ap, arith, sum_by}
use Rattle.std.specs.Map.{lookup}
use Rattle.std.specs.BTreeMap.{is_at}
use Rattle.std.specs.Ordering.{nat_cmp}
use Rattle.std.proofs.lemmas.Bool.{not-false, ltb-true, eqb-true}
use Rattle.std.proofs.lemmas.List.Sums.{sum_by-cons}
use Rattle.base.specs.Live.{has}
use Rattle.base.specs.declared.ranges.Limits.{Limits}
use Rattle.label_lattice.specs.Label.{LabelValue}
use Rattle.label_lattice.specs.LabelRules.{stored}
use Rattle.kernel_rules.specs.Changes.{changed, made, fresh_object, owning}
use Rattle.kernel_rules.specs.Table.{halted, refused, row}
use Rattle.kernel_rules.specs.State.{State, object_at, of_object, list_at, listed, kind_of, kind_number, lists_of}
use Rattle.kernel_rules.specs.State.{gate_at}
use Rattle.kernel_rules.specs.Step.{edit, owned, made_of, stored_at, with_value}
use Rattle.kernel_rules.specs.Step.{new_thread, new_gate}
use Rattle.kernel_rules.specs.WellFormed.{is_well_formed, listers, is_kept}
use Rattle.kernel_rules.specs.declared.calls.Call.{Call}
use Rattle.kernel_rules.specs.declared.calls.Call.TheVariants as call
use Rattle.kernel_rules.specs.declared.objects.Body as body
use Rattle.kernel_rules.specs.declared.objects.Object.{Object}
use Rattle.kernel_rules.specs.declared.places.Place.{Place}
use Rattle.kernel_rules.proofs.ListerLaws.{kept_parts}
use Rattle.kernel_rules.proofs.LookupLaws.{all_at}
use Rattle.kernel_rules.proofs.RowLaws.{none_hold}
use Rattle.kernel_rules.proofs.WellFormedLaws.{soundness_of}
use Rattle.checkpoints.specs.Restorable.{is_root, has_root}
use Rattle.checkpoints.proofs.HoldSteps.{bytes_hold, queue_hold, thread_hold, slots_hold, list_kind}
use Rattle.checkpoints.proofs.RootLaws.{test_changed, test_made}

-- a list that has an id counts
counted : (es : List (ℕ × Object)) (d o : ℕ)
    → has (of_object [] (λ x. listed x.body) (lookup (is_at (nat_cmp d)) es)) o ≡ true
    → 1 ≤ sum_by (λ e. cond (has e.1 o) 1 0) (lists_of es)
counted [] d o h = absurd (cc)
counted (e ∷ es) d o h =
    subst (λ n. 1 ≤ n) (sym (sum_by-cons (λ e. cond (has e.1 o) 1 0) (e.0, listed e.1.body) (lists_of es)))
    (elim (is_at (nat_cmp d) e.0)
    as (λ v. has (of_object [] (λ x. listed x.body) (cond v (Some e.1) (lookup (is_at (nat_cmp d)) es))) o ≡ true
    → 1 ≤ cond (has (listed e.1.body) o) 1 0 + sum_by (λ e. cond (has e.1 o) 1 0) (lists_of es)) [
      | true ↦ λ g. first (cond (has (listed e.1.body) o) 1 0) _ (ap (λ b. cond b 1 0) g)
      | false ↦ λ g. rest (cond (has (listed e.1.body) o) 1 0) _ (counted es d o g)
    ] h)
  where
    first : (a b : ℕ) → a ≡ 1 → 1 ≤ a + b
    first a b h = omega (arith, h)

    rest : (a b : ℕ) → 1 ≤ b → 1 ≤ a + b
    rest a b h = omega (arith, h)

-- no list has the root
pub root_unlisted : (s : State) (d : ℕ) (x : Object) → is_well_formed s ≡ true → object_at s 1 ≡ Some x
    → has (list_at s d) 1 ≡ true → ⊥
root_unlisted s d x wf is h =
    let kept = kept_parts s 1 x (all_at (λ q y. is_kept s q y) s.objects 1 x (soundness_of s wf).kept is) in
    let none : listers s 1 ≡ 0 = eqb-true (listers s 1) 0 kept.rightly in
    let some : 1 ≤ listers s 1 = counted s.objects d 1 h in
    absurd (omega (arith, none, some))

module _ (limits : Limits) where
  abbrev pub Same : State → State → Type 0
  Same s n = has_root limits n ≡ has_root limits s

  kept : (s : State) (o : ℕ) (f : Object → Object) → ((x : Object) → kind_of (f x).body ≡ kind_of x.body)
      → ((x : Object) → (f x).quota ≡ x.quota) → Same s (changed s o f)
  kept s o f kind quota =
      test_changed (is_root limits) 1 s o f
      (λ x is on. λ i. (kind_number (kind x i) == 0) && (quota x i == limits.pages))

  value : {X : Type 0} (s : State) (v : Option X) (f : X → State) → ((x : X) → Same s (f x)) → Same s (with_value s v f)
  value s None f each = refl
  value s (Some x) f each = each x

  new : (s : State) (d : ℕ) (x : Option LabelValue) (q : ℕ) (b : body.Body) → is_well_formed s ≡ true
      → Same s (made_of s d x q b)
  new s d x q b wf =
      value s x (λ l. made s d (fresh_object l q b))
      (λ l. test_made (is_root limits) 1 s d (fresh_object l q b)
      (λ on. let more : 3 < s.next_id = ltb-true 3 s.next_id (soundness_of s wf).begun in absurd (omega (arith, more, on)))
      (λ z i. (kind_number (list_kind (λ ids. ids ++ s.next_id ∷ []) z.body i) == 0) && (z.quota == limits.pages)))

  owned_same : (s : State) (t : ℕ) (l c : Option LabelValue) → Same s (owned s t l c)
  owned_same s t None c = refl
  owned_same s t (Some l) None = refl
  owned_same s t (Some l) (Some c) = kept s t (owning l c) (λ x. (thread_hold _ x.body).kind) (λ x. refl)

  store_same : (s : State) (p : Option Place) (bytes : List ℕ) → Same s (stored_at s p bytes)
  store_same s None bytes = refl
  store_same s (Some p) bytes = kept s p.segment _ (λ x. (bytes_hold _ x.body).kind) (λ x. refl)

  pub edit_root : (s : State) (t : ℕ) (c : Call) → is_well_formed s ≡ true → refused s t c ≡ None
      → Same s (edit s t c)
  unfolding refused
  edit_root s t call.CatCreate wf r = owned_same s t _ _
  edit_root s t (call.SelfSetLabel x) wf r = value s (stored x) _ (λ l. kept s t _ (λ z. refl) (λ z. refl))
  edit_root s t (call.SelfSetClearance y) wf r =
      value s (stored y) _ (λ c. kept s t _ (λ z. (thread_hold _ z.body).kind) (λ z. refl))
  edit_root s t (call.SelfSetAs e) wf r = kept s t _ (λ z. (thread_hold _ z.body).kind) (λ z. refl)
  edit_root s t (call.ContainerCreate m) wf r = new s m.container _ m.quota _ wf
  edit_root s t (call.SegmentCreate m) wf r = new s m.container _ m.quota _ wf
  edit_root s t (call.SegmentCopy m) wf r = new s m.container _ m.quota _ wf
  edit_root s t (call.AsCreate m) wf r = new s m.container _ m.quota _ wf
  edit_root s t (call.ThreadCreate m) wf r =
      value s (stored m.clearance) _ (λ c. new s m.container (stored m.label) m.quota (new_thread c m.entry_point) wf)
  edit_root s t (call.GateCreate m) wf r =
      value s (stored m.clearance) _
      (λ c. new s m.container (stored m.label) m.quota (new_gate c m.space m.entry_point m.closure) wf)
  edit_root s t (call.Link d e) wf r = kept s d _ (λ z. list_kind _ z.body) (λ z. refl)
  edit_root s t (call.Unref e) wf r = kept s e.container _ (λ z. list_kind _ z.body) (λ z. refl)
  edit_root s t (call.QuotaMove e m) wf r =
      let none = none_hold (halted s t ++ row s t (call.QuotaMove e m)) r in
      test_changed (is_root limits) 1 s e.object _
      (λ x is on. absurd (root_unlisted s e.container x wf (subst (λ o. object_at s o ≡ Some x) on is)
      (subst (λ o. has (list_at s e.container) o ≡ true) on (not-false _ none.1.1.0))))
  edit_root s t (call.SetFixed e) wf r = kept s e.object _ (λ z. refl) (λ z. refl)
  edit_root s t (call.SetImmutable e) wf r = kept s e.object _ (λ z. refl) (λ z. refl)
  edit_root s t (call.MetaSet e bytes) wf r = kept s e.object _ (λ z. refl) (λ z. refl)
  edit_root s t (call.SegmentResize e pages) wf r = kept s e.object _ (λ z. (bytes_hold _ z.body).kind) (λ z. refl)
  edit_root s t (call.SegmentWrite e a bytes) wf r = kept s e.object _ (λ z. (bytes_hold _ z.body).kind) (λ z. refl)
  edit_root s t (call.AsMap e slot m) wf r = kept s e.object _ (λ z. (slots_hold _ z.body).kind) (λ z. refl)
  edit_root s t (call.AsUnmap e slot) wf r = kept s e.object _ (λ z. (slots_hold _ z.body).kind) (λ z. refl)
  edit_root s t (call.Store address bytes) wf r = store_same s _ bytes
  edit_root s t (call.GateEnter e x y z) wf r =
      value s (stored x) _ (λ l. value s (stored y) _ (λ c. value s (stored z) _ (λ w.
      value s (gate_at s e.object) _ (λ gate. kept s t _ (λ q. (thread_hold _ q.body).kind) (λ q. refl)))))
  edit_root s t (call.DevSend e bytes) wf r = kept s e.object _ (λ z. (queue_hold _ z.body).kind) (λ z. refl)
  edit_root s t (call.DevRecv e) wf r = kept s e.object _ (λ z. (queue_hold _ z.body).kind) (λ z. refl)
