-- A state with one object more, listed last in a container: what is read off it.
use Rattle.std.proofs.Common.{◌≡◌, ◌≢◌, ℕ, ◌+◌, ◌<◌, true, false, cond, ◌&&◌, nat_lt, List, []}
use Rattle.std.proofs.Common.{◌∷◌, ◌++◌, Option, Some, None, is_some, sum_by, refl, sym, ◌∙◌, ap}
use Rattle.std.proofs.Common.{subst, arith, zero-add}
use Rattle.std.specs.List.{list_all}
use Rattle.std.specs.Ordering.{nat_cmp}
use Rattle.std.specs.Map.{lookup, set_value}
use Rattle.std.specs.BTreeMap.{is_at}
use Rattle.std.proofs.lemmas.Bool.{and_parts, and_from, both_ways, ltb-true}
use Rattle.std.proofs.lemmas.List.Folds.{list_all-append, list_all-map}
use Rattle.std.proofs.lemmas.List.Sums.{sum_by-append, sum_by-cons}
use Rattle.base.specs.declared.kinds.Kind.TheVariants as kinds
use Rattle.kernel_rules.specs.State.{State, object_at, of_object, is_kind, listed, own_cost, use_of}
use Rattle.kernel_rules.specs.State.{quota_at, cost_at}
use Rattle.kernel_rules.specs.Changes.{put, listing, with_new, made}
use Rattle.kernel_rules.specs.WellFormed.{ids_rise}
use Rattle.kernel_rules.specs.declared.objects.Object.{Object}
use Rattle.kernel_rules.proofs.GrowLaws.{absent-set_value}
use Rattle.kernel_rules.proofs.KeptLaws.{all_keys-put}
use Rattle.kernel_rules.proofs.LookupLaws.{all_at, at_self, lookup_put, lookup_last, lookup_new}
use Rattle.kernel_rules.proofs.LookupLaws.{insert_last}
use Rattle.kernel_rules.proofs.RecordLaws.{same_id}
use Rattle.kernel_rules.proofs.WellFormedLaws.{Soundness}
use Rattle.kernel_rules.proofs.ListingLaws.{IsContainerAt, listed-listing, cost-listing}

pub rise-append : (k : ℕ) (x : Object) (es : List (ℕ × Object)) → ids_rise es ≡ true
    → list_all (λ e. nat_lt e.0 k) es ≡ true → ids_rise (es ++ (k, x) ∷ []) ≡ true
rise-append k x [] r h = refl
rise-append k x (e ∷ es) r h =
    let rise : (list_all (λ f. nat_lt e.0 f.0) es ≡ true) × (ids_rise es ≡ true) =
    and_parts (list_all (λ f. nat_lt e.0 f.0) es) (ids_rise es) r in
    let less : (nat_lt e.0 k ≡ true) × (list_all (λ e. nat_lt e.0 k) es ≡ true) =
    and_parts (nat_lt e.0 k) (list_all (λ e. nat_lt e.0 k) es) h in
    and_from (list_all (λ f. nat_lt e.0 f.0) (es ++ (k, x) ∷ [])) (ids_rise (es ++ (k, x) ∷ []))
    (list_all-append (λ f. nat_lt e.0 f.0) es ((k, x) ∷ [])
    ∙ and_from (list_all (λ f. nat_lt e.0 f.0) es) (nat_lt e.0 k && true) rise.0
    (and_from (nat_lt e.0 k) true less.0 refl))
    (rise-append k x es rise.1 less.1)

-- the state with x as its last record, listed last in d, whose object was y
abbrev pub grown : State → ℕ → Object → Object → State
grown s d y x = record s {
  objects = set_value (is_at (nat_cmp d)) s.objects (listing s.next_id y) ++ (s.next_id, x) ∷ [];
  next_id = s.next_id + 1;
}

-- where it is made: y is the container d's object, and the next id has no record
pub record Making (s : State) (d : ℕ) (y : Object) : Type 0 where
  pub found : object_at s d ≡ Some y
  pub kind : is_kind kinds.Container y ≡ true
  pub given : list_all (λ e. nat_lt e.0 s.next_id) s.objects ≡ true
  pub absent : object_at s s.next_id ≡ None

-- what was not given yet has no record
not_given : (k : ℕ) (es : List (ℕ × Object)) → list_all (λ e. nat_lt e.0 k) es ≡ true
    → lookup (is_at (nat_cmp k)) es ≡ None
not_given k [] h = refl
not_given k (e ∷ es) h =
    let both : (nat_lt e.0 k ≡ true) × (list_all (λ e. nat_lt e.0 k) es ≡ true) =
    and_parts (nat_lt e.0 k) (list_all (λ e. nat_lt e.0 k) es) h in
    elim (is_at (nat_cmp k) e.0)
    as (λ v. is_at (nat_cmp k) e.0 ≡ v → cond v (Some e.1) (lookup (is_at (nat_cmp k)) es) ≡ None) [
      | true ↦ λ is.
          let same : k ≡ e.0 = same_id k e.0 is in
          let less : e.0 < k = ltb-true e.0 k both.0 in
          absurd (omega arith)
      | false ↦ λ is. not_given k es both.1
    ] refl

pub making_from : (s : State) (d : ℕ) (at : IsContainerAt s d) → Soundness s → Making s d at.object
making_from s d at h =
    let given : list_all (λ e. nat_lt e.0 s.next_id) s.objects ≡ true =
    sym (list_all-map (λ e. nat_lt e.0 s.next_id) (λ e. (e.0, listed e.1.body)) s.objects) ∙ h.given in
    record { found = at.found; kind = at.kind; given = given; absent = not_given s.next_id s.objects given }

pub made_is : (s : State) (d : ℕ) (y x : Object) → Making s d y → made s d x ≡ grown s d y x
made_is s d y x m =
    ap (λ v. with_new (of_object s (λ z. put s d (listing s.next_id z)) v) x) m.found
    ∙ (λ i. record s {
      objects = insert_last s.next_id (set_value (is_at (nat_cmp d)) s.objects (listing s.next_id y)) x
          (all_keys-put (λ k. nat_lt k s.next_id) d s.objects (listing s.next_id y) ∙ m.given) i;
      next_id = s.next_id + 1;
    })

-- a recorded id is not the next one
pub recorded_old : (s : State) (q : ℕ) (z : Object) → list_all (λ e. nat_lt e.0 s.next_id) s.objects ≡ true
    → object_at s q ≡ Some z → q ≢ s.next_id
recorded_old s q z given found e =
    let less : q < s.next_id =
    ltb-true q s.next_id (all_at (λ k y. nat_lt k s.next_id) s.objects q z given found) in
    absurd (omega arith)

some_old : (s : State) (q : ℕ) → list_all (λ e. nat_lt e.0 s.next_id) s.objects ≡ true
    → is_some (object_at s q) ≡ true → q ≢ s.next_id
some_old s q given some = elim (object_at s q) as (λ v. object_at s q ≡ v → is_some v ≡ true → q ≢ s.next_id) [
  | None ↦ λ is h. absurd (both_ways false refl h)
  | Some z ↦ λ is h. recorded_old s q z given is
] refl some

-- looking up in the grown state
pub grown_other : (s : State) (d : ℕ) (y x : Object) → Making s d y → (q : ℕ) → q ≢ s.next_id
    → object_at (grown s d y x) q ≡ cond (is_at (nat_cmp q) d) (Some (listing s.next_id y)) (object_at s q)
grown_other s d y x m q other =
    lookup_last s.next_id q (set_value (is_at (nat_cmp d)) s.objects (listing s.next_id y)) x other
    ∙ lookup_put d q s.objects y (listing s.next_id y) m.found

pub grown_new : (s : State) (d : ℕ) (y x : Object) → Making s d y → object_at (grown s d y x) s.next_id ≡ Some x
grown_new s d y x m = lookup_new s.next_id (set_value (is_at (nat_cmp d)) s.objects (listing s.next_id y)) x
    (absent-set_value d s.next_id s.objects (listing s.next_id y) m.absent)

-- what is read off an object other than the new one, and is the same of d's
grown_at : {X : Type 0} (e : X) (g : Object → X) (s : State) (d : ℕ) (y x : Object) → Making s d y
    → g (listing s.next_id y) ≡ g y → (q : ℕ) → q ≢ s.next_id
    → of_object e g (object_at (grown s d y x) q) ≡ of_object e g (object_at s q)
grown_at e g s d y x m same q other = ap (of_object e g) (grown_other s d y x m q other) ∙
    elim (is_at (nat_cmp q) d)
    as (λ v. is_at (nat_cmp q) d ≡ v → of_object e g (cond v (Some (listing s.next_id y)) (object_at s q))
    ≡ of_object e g (object_at s q)) [
      | true ↦ λ is.
          let on : q ≡ d = same_id q d is in
          same ∙ sym (ap (of_object e g) (subst (λ k. object_at s k ≡ Some y) (sym on) m.found))
      | false ↦ λ is. refl
    ] refl

some_of : (v : Option Object) → is_some v ≡ of_object false (λ x. true) v
some_of None = refl
some_of (Some x) = refl

pub all_some : (s : State) (d : ℕ) (y x : Object) → Making s d y → (ids : List ℕ)
    → list_all (λ i. is_some (object_at s i)) ids ≡ true
    → list_all (λ i. is_some (object_at (grown s d y x) i)) ids ≡ true
all_some s d y x m [] h = refl
all_some s d y x m (i ∷ ids) h =
    let both : (is_some (object_at s i) ≡ true) × (list_all (λ i. is_some (object_at s i)) ids ≡ true) =
    and_parts (is_some (object_at s i)) (list_all (λ i. is_some (object_at s i)) ids) h in
    and_from (is_some (object_at (grown s d y x) i)) (list_all (λ i. is_some (object_at (grown s d y x) i)) ids)
    (some_of (object_at (grown s d y x) i)
    ∙ grown_at false (λ z. true) s d y x m refl i (some_old s i m.given both.0)
    ∙ sym (some_of (object_at s i)) ∙ both.0)
    (all_some s d y x m ids both.1)

quotas : (s : State) (d : ℕ) (y x : Object) → Making s d y → (ids : List ℕ)
    → list_all (λ i. is_some (object_at s i)) ids ≡ true
    → sum_by (quota_at (grown s d y x)) ids ≡ sum_by (quota_at s) ids
quotas s d y x m [] h = refl
quotas s d y x m (i ∷ ids) h =
    let both : (is_some (object_at s i) ≡ true) × (list_all (λ i. is_some (object_at s i)) ids ≡ true) =
    and_parts (is_some (object_at s i)) (list_all (λ i. is_some (object_at s i)) ids) h in
    sum_by-cons (quota_at (grown s d y x)) i ids
    ∙ (λ k. grown_at 0 (λ z. z.quota) s d y x m refl i (some_old s i m.given both.0) k
    + quotas s d y x m ids both.1 k)
    ∙ sym (sum_by-cons (quota_at s) i ids)

-- what an object uses: one that is neither d nor new uses what it did, d uses the new quota more
pub use_other : (s : State) (d : ℕ) (y x : Object) → Making s d y → (q : ℕ) (z : Object) → object_at s q ≡ Some z
    → is_at (nat_cmp q) d ≡ false → list_all (λ i. is_some (object_at s i)) (listed z.body) ≡ true
    → use_of (grown s d y x) q ≡ use_of s q
use_other s d y x m q z found far recorded =
    let other : q ≢ s.next_id = recorded_old s q z m.given found in
    let at : object_at (grown s d y x) q ≡ object_at s q =
    grown_other s d y x m q other ∙ ap (λ b. cond b (Some (listing s.next_id y)) (object_at s q)) far in
    (λ i. of_object 0 (λ w. own_cost w.body) (at i)
    + sum_by (quota_at (grown s d y x)) (of_object [] (λ w. listed w.body) (at i)))
    ∙ (λ i. cost_at s q + sum_by (quota_at (grown s d y x)) (of_object [] (λ w. listed w.body) (found i)))
    ∙ ap (λ n. cost_at s q + n) (quotas s d y x m (listed z.body) recorded)
    ∙ (λ i. cost_at s q + sum_by (quota_at s) (of_object [] (λ w. listed w.body) (sym found i)))

pub use_here : (s : State) (d : ℕ) (y x : Object) → Making s d y
    → list_all (λ i. is_some (object_at s i)) (listed y.body) ≡ true
    → use_of (grown s d y x) d ≡ use_of s d + x.quota
use_here s d y x m recorded =
    let other : d ≢ s.next_id = recorded_old s d y m.given m.found in
    let at : object_at (grown s d y x) d ≡ Some (listing s.next_id y) =
    grown_other s d y x m d other ∙ here d in
    let list : listed (listing s.next_id y).body ≡ listed y.body ++ s.next_id ∷ [] =
    listed-listing y s.next_id m.kind in
    let before : use_of s d ≡ own_cost y.body + sum_by (quota_at s) (listed y.body)
    = (λ i. of_object 0 (λ w. own_cost w.body) (m.found i)
    + sum_by (quota_at s) (of_object [] (λ w. listed w.body) (m.found i))) in
    let after : use_of (grown s d y x) d ≡ own_cost y.body + (sum_by (quota_at s) (listed y.body) + x.quota)
    = (λ i. of_object 0 (λ w. own_cost w.body) (at i)
    + sum_by (quota_at (grown s d y x)) (of_object [] (λ w. listed w.body) (at i)))
    ∙ (λ i. cost-listing y s.next_id i + sum_by (quota_at (grown s d y x)) (list i))
    ∙ ap (λ n. own_cost y.body + n)
    (sum_by-append (quota_at (grown s d y x)) (listed y.body) (s.next_id ∷ [])
    ∙ (λ i. quotas s d y x m (listed y.body) recorded i
    + (zero-add (quota_at (grown s d y x) s.next_id)
    ∙ ap (of_object 0 (λ w. w.quota)) (grown_new s d y x m)) i)) in
    after ∙ regroup (own_cost y.body) (sum_by (quota_at s) (listed y.body)) x.quota
    ∙ ap (λ n. n + x.quota) (sym before)
  where
    here : (d : ℕ)
        → cond (is_at (nat_cmp d) d) (Some (listing s.next_id y)) (object_at s d) ≡ Some (listing s.next_id y)
    here d = ap (λ b. cond b (Some (listing s.next_id y)) (object_at s d)) (at_self d)

    regroup : (a b c : ℕ) → a + (b + c) ≡ (a + b) + c
    regroup a b c = omega arith

pub use_new : (s : State) (d : ℕ) (y x : Object) → Making s d y → listed x.body ≡ []
    → use_of (grown s d y x) s.next_id ≡ own_cost x.body
use_new s d y x m empty =
    (λ i. of_object 0 (λ w. own_cost w.body) (grown_new s d y x m i)
    + sum_by (quota_at (grown s d y x)) (of_object [] (λ w. listed w.body) (grown_new s d y x m i)))
    ∙ (λ i. own_cost x.body + sum_by (quota_at (grown s d y x)) (empty i))
    ∙ none (own_cost x.body)
  where
    none : (n : ℕ) → n + 0 ≡ n
    none n = omega arith
