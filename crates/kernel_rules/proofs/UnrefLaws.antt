-- An id that is taken out of a container's list, and the objects that are gone with it.
use Rattle.std.proofs.Common.{◌≡◌, ℕ, ◌+◌, ◌≤◌, Bool, true, false, cond, not, ◌&&◌, ◌||◌, ◌==◌, nat_lt}
use Rattle.std.proofs.Common.{List, [], ◌∷◌, Option, Some, None, is_some, sum_by, refl, sym, ◌∙◌, ap, subst}
use Rattle.std.proofs.Common.{arith, length, nat_le}
use Rattle.std.specs.List.{list_all}
use Rattle.std.specs.Ordering.{nat_cmp}
use Rattle.std.specs.Map.{lookup, set_value}
use Rattle.std.specs.BTreeMap.{is_at}
use Rattle.std.proofs.lemmas.Bool.{and_parts, and_from, both_ways}
use Rattle.std.proofs.lemmas.List.Sums.{sum_by-cons}
use Rattle.base.specs.Live.{has}
use Rattle.base.specs.declared.kinds.Kind.TheVariants as kinds
use Rattle.base.proofs.LiveLaw.{or_right}
use Rattle.kernel_rules.specs.Changes.{put, changed, relist, delisting, without}
use Rattle.kernel_rules.specs.State.{State, object_at, of_object, is_kind, listed, lists_of, list_at}
use Rattle.kernel_rules.specs.State.{use_of, quota_at, cost_at, own_cost}
use Rattle.kernel_rules.specs.Step.{restricted}
use Rattle.kernel_rules.specs.WellFormed.{is_well_formed, is_kept, is_distinct, is_whole, is_whole_body}
use Rattle.kernel_rules.specs.WellFormed.{is_stored, listers}
use Rattle.kernel_rules.specs.declared.objects.Object.{Object}
use Rattle.kernel_rules.specs.declared.objects.Body as body
use Rattle.kernel_rules.specs.declared.objects.Body.TheVariants as is
use Rattle.kernel_rules.proofs.CountLaws.{once, counts}
use Rattle.kernel_rules.proofs.GrowLaws.{all-set_value}
use Rattle.kernel_rules.proofs.KeptLaws.{at_put, some_put, rise-put}
use Rattle.kernel_rules.proofs.ListerLaws.{IsKept, kept_parts}
use Rattle.kernel_rules.proofs.LookupLaws.{all_at, lookup_put}
use Rattle.kernel_rules.proofs.LooseLaws.{IsLoose, IsKeptLoosely, at_most_fewer, rest, rest_is, rest_sound}
use Rattle.kernel_rules.proofs.QuotaLaws.{use_within}
use Rattle.kernel_rules.proofs.RecordLaws.{same_id, restricted_live}
use Rattle.kernel_rules.proofs.WellFormedLaws.{Soundness, soundness_of, well_formed_from}

-- the list of a container without an id
listed-delisting : (x : Object) (o : ℕ) → listed (delisting o x).body ≡ without o (listed x.body)
listed-delisting x o = body_listed x.body
  where
    body_listed : (y : body.Body) → listed (relist (without o) y) ≡ without o (listed y)
    body_listed (is.Container avoid list) = refl
    body_listed (is.Segment bytes) = refl
    body_listed (is.AddressSpace slots) = refl
    body_listed (is.Thread t) = refl
    body_listed (is.Gate g) = refl
    body_listed (is.Device packets) = refl

cost-delisting : (x : Object) (o : ℕ) → own_cost (delisting o x).body ≡ own_cost x.body
cost-delisting x o = body_cost x.body
  where
    body_cost : (y : body.Body) → own_cost (relist (without o) y) ≡ own_cost y
    body_cost (is.Container avoid list) = refl
    body_cost (is.Segment bytes) = refl
    body_cost (is.AddressSpace slots) = refl
    body_cost (is.Thread t) = refl
    body_cost (is.Gate g) = refl
    body_cost (is.Device packets) = refl

whole-delisting : (x : Object) (o : ℕ) → is_whole (delisting o x) ≡ is_whole x
whole-delisting x o = ap (λ b. is_stored x.label && length x.metadata == 64 && b) (body_whole x.body)
  where
    body_whole : (y : body.Body) → is_whole_body (relist (without o) y) ≡ is_whole_body y
    body_whole (is.Container avoid list) = refl
    body_whole (is.Segment bytes) = refl
    body_whole (is.AddressSpace slots) = refl
    body_whole (is.Thread t) = refl
    body_whole (is.Gate g) = refl
    body_whole (is.Device packets) = refl

kind-delisting : (x : Object) (o : ℕ) → is_kind kinds.Container (delisting o x) ≡ is_kind kinds.Container x
kind-delisting x o = body_kind x.body
  where
    body_kind : (y : body.Body)
        → is_kind kinds.Container (record x { body = relist (without o) y })
        ≡ is_kind kinds.Container (record x { body = y })
    body_kind (is.Container avoid list) = refl
    body_kind (is.Segment bytes) = refl
    body_kind (is.AddressSpace slots) = refl
    body_kind (is.Thread t) = refl
    body_kind (is.Gate g) = refl
    body_kind (is.Device packets) = refl

-- a list without an id has no others, and no id twice
has-without : (o b : ℕ) (ids : List ℕ) → has (without o ids) b ≡ true → has ids b ≡ true
has-without o b [] h = h
has-without o b (i ∷ ids) h =
    elim (not (o == i)) as (λ v. has (cond v (i ∷ without o ids) (without o ids)) b ≡ true
    → has (i ∷ ids) b ≡ true) [
      | true ↦ λ l. wider (b == i) (has (without o ids) b) (has ids b) (has-without o b ids) l
      | false ↦ λ l. or_right (b == i) (has ids b) (has-without o b ids l)
    ] h
  where
    wider : (a p q : Bool) → (p ≡ true → q ≡ true) → (a || p) ≡ true → (a || q) ≡ true
    wider true p q w h = refl
    wider false p q w h = w h

not_has : (a b : Bool) → (a ≡ true → b ≡ true) → not b ≡ true → not a ≡ true
not_has false b w h = refl
not_has true true w h = h
not_has true false w h = absurd (both_ways false refl (w refl))

distinct-without : (o : ℕ) (ids : List ℕ) → is_distinct ids ≡ true → is_distinct (without o ids) ≡ true
distinct-without o [] h = refl
distinct-without o (i ∷ ids) h =
    let both : (not (has ids i) ≡ true) × (is_distinct ids ≡ true) =
    and_parts (not (has ids i)) (is_distinct ids) h in
    elim (not (o == i)) as (λ v. is_distinct (cond v (i ∷ without o ids) (without o ids)) ≡ true) [
      | true ↦ and_from (not (has (without o ids) i)) (is_distinct (without o ids))
          (not_has (has (without o ids) i) (has ids i) (has-without o i ids) both.0)
          (distinct-without o ids both.1)
      | false ↦ distinct-without o ids both.1
    ]

all-without : (p : ℕ → Bool) (o : ℕ) (ids : List ℕ) → list_all p ids ≡ true → list_all p (without o ids) ≡ true
all-without p o [] h = refl
all-without p o (i ∷ ids) h =
    let both : (p i ≡ true) × (list_all p ids ≡ true) = and_parts (p i) (list_all p ids) h in
    elim (not (o == i)) as (λ v. list_all p (cond v (i ∷ without o ids) (without o ids)) ≡ true) [
      | true ↦ and_from (p i) (list_all p (without o ids)) both.0 (all-without p o ids both.1)
      | false ↦ all-without p o ids both.1
    ]

sum-without : (f : ℕ → ℕ) (o : ℕ) (ids : List ℕ) → sum_by f (without o ids) ≤ sum_by f ids
sum-without f o [] = omega arith
sum-without f o (i ∷ ids) =
    let rest = sum-without f o ids in
    let old = sum_by-cons f i ids in
    elim (not (o == i))
    as (λ v. sum_by f (cond v (i ∷ without o ids) (without o ids)) ≤ sum_by f (i ∷ ids)) [
      | true ↦
          let new = sum_by-cons f i (without o ids) in
          let all : sum_by f (i ∷ without o ids) ≤ sum_by f (i ∷ ids) = omega arith in
          all
      | false ↦ omega arith
    ]

once_le : (a b : Bool) → (a ≡ true → b ≡ true) → once a ≤ once b
once_le false b w = omega arith
once_le true true w = omega arith
once_le true false w = absurd (both_ways false refl (w refl))

-- no more lists have an id
count_less : (d o q : ℕ) (es : List (ℕ × Object)) (y : Object) → lookup (is_at (nat_cmp d)) es ≡ Some y
    → sum_by (counts q) (lists_of (set_value (is_at (nat_cmp d)) es (delisting o y)))
    ≤ sum_by (counts q) (lists_of es)
count_less d o q [] y found = omega arith
count_less d o q (e ∷ es) y found =
    elim (is_at (nat_cmp d) e.0) as (λ v. cond v (Some e.1) (lookup (is_at (nat_cmp d)) es) ≡ Some y
    → sum_by (counts q)
    (lists_of (cond v ((e.0, delisting o y) ∷ es) (e ∷ set_value (is_at (nat_cmp d)) es (delisting o y))))
    ≤ sum_by (counts q) (lists_of (e ∷ es))) [
      | true ↦ λ f.
          let is_y : e.1 ≡ y = cc in
          let fewer : once (has (listed (delisting o y).body) q) ≤ once (has (listed e.1.body) q) =
          once_le (has (listed (delisting o y).body) q) (has (listed e.1.body) q)
          (λ h. subst (λ (z : Object). has (listed z.body) q ≡ true) (sym is_y)
          (has-without o q (listed y.body) (subst (λ l. has l q ≡ true) (listed-delisting y o) h))) in
          let old = sum_by-cons (counts q) (e.0, listed e.1.body) (lists_of es) in
          let new = sum_by-cons (counts q) (e.0, listed (delisting o y).body) (lists_of es) in
          let all : sum_by (counts q) (lists_of ((e.0, delisting o y) ∷ es))
          ≤ sum_by (counts q) (lists_of (e ∷ es)) = omega arith in
          all
      | false ↦ λ f.
          let rest = count_less d o q es y f in
          let old = sum_by-cons (counts q) (e.0, listed e.1.body) (lists_of es) in
          let new = sum_by-cons (counts q) (e.0, listed e.1.body)
          (lists_of (set_value (is_at (nat_cmp d)) es (delisting o y))) in
          let all : sum_by (counts q) (lists_of (e ∷ set_value (is_at (nat_cmp d)) es (delisting o y)))
          ≤ sum_by (counts q) (lists_of (e ∷ es)) = omega arith in
          all
    ] found

-- the state with o out of d's list, whose object was y
abbrev pub delisted : State → ℕ → ℕ → Object → State
delisted s d o y = put s d (delisting o y)

module _ (s : State) (d o : ℕ) (y : Object) (found : object_at s d ≡ Some y) (h : Soundness s) where
  recorded : (ids : List ℕ) → list_all (λ i. is_some (object_at (delisted s d o y) i)) ids
      ≡ list_all (λ i. is_some (object_at s i)) ids
  recorded ids = λ j. list_all (λ i. some_put s d i y (delisting o y) found j) ids

  list_less : (q : ℕ) → sum_by (quota_at s) (list_at (delisted s d o y) q) ≤ sum_by (quota_at s) (list_at s q)
  list_less q =
      subst (λ v. sum_by (quota_at s) (of_object [] (λ w. listed w.body) v)
      ≤ sum_by (quota_at s) (list_at s q)) (sym (lookup_put d q s.objects y (delisting o y) found))
      (elim (is_at (nat_cmp q) d)
      as (λ v. is_at (nat_cmp q) d ≡ v
      → sum_by (quota_at s)
      (of_object [] (λ w. listed w.body) (cond v (Some (delisting o y)) (object_at s q)))
      ≤ sum_by (quota_at s) (list_at s q)) [
        | true ↦ λ near.
            let on : q ≡ d = same_id q d near in
            let old : list_at s q ≡ listed y.body =
            ap (of_object [] (λ w. listed w.body)) (subst (λ k. object_at s k ≡ Some y) (sym on) found) in
            subst (λ l. sum_by (quota_at s) (listed (delisting o y).body) ≤ sum_by (quota_at s) l) (sym old)
            (subst (λ l. sum_by (quota_at s) l ≤ sum_by (quota_at s) (listed y.body))
            (sym (listed-delisting y o)) (sum-without (quota_at s) o (listed y.body)))
        | false ↦ λ far. same (sum_by (quota_at s) (list_at s q))
      ] refl)
    where
      same : (n : ℕ) → n ≤ n
      same n = omega arith

  use_less : (q : ℕ) → use_of (delisted s d o y) q ≤ use_of s q
  use_less q =
      let cost : cost_at (delisted s d o y) q ≡ cost_at s q =
      at_put 0 (λ w. own_cost w.body) s d q y (delisting o y) found (cost-delisting y o) in
      let new : use_of (delisted s d o y) q
      ≡ cost_at s q + sum_by (quota_at s) (list_at (delisted s d o y) q)
      = (λ i. cost i + sum_by (λ k. at_put 0 (λ w. w.quota) s d k y (delisting o y) found refl i)
      (list_at (delisted s d o y) q)) in
      joined (use_of (delisted s d o y) q) (cost_at s q)
      (sum_by (quota_at s) (list_at (delisted s d o y) q)) (sum_by (quota_at s) (list_at s q)) new (list_less q)
    where
      joined : (a c e f : ℕ) → a ≡ c + e → e ≤ f → a ≤ c + f
      joined a c e f p q = omega arith

  loose_here : IsKeptLoosely (delisted s d o y) d (delisting o y)
  loose_here =
      let k : IsKept s d y = kept_parts s d y (all_at (λ q z. is_kept s q z) s.objects d y h.kept found) in
      let list = listed-delisting y o in
      let less = use_less d in
      let old : use_of s d ≤ y.quota = use_within s d y found h in
      let within : use_of (delisted s d o y) d ≤ y.quota = omega arith in
      record {
        distinct = ap is_distinct list ∙ distinct-without o (listed y.body) k.distinct;
        recorded = recorded (listed (delisting o y).body)
            ∙ ap (list_all (λ i. is_some (object_at s i))) list
            ∙ all-without (λ i. is_some (object_at s i)) o (listed y.body) k.recorded;
        within = within;
        few = (λ i. cond (d == 1) (listers (delisted s d o y) d == 0)
            (cond (kind-delisting y o i) (nat_le (listers (delisted s d o y) d) 1)
            (nat_le (listers (delisted s d o y) d) 1 || y.fixed)))
            ∙ at_most_fewer (listers (delisted s d o y) d) (listers s d) d y k.rightly
            (count_less d o d s.objects y found);
        whole = whole-delisting y o ∙ k.whole;
      }

  loose_other : (q : ℕ) (w : Object) → object_at s q ≡ Some w → IsKeptLoosely (delisted s d o y) q w
  loose_other q w at =
      let k : IsKept s q w = kept_parts s q w (all_at (λ q z. is_kept s q z) s.objects q w h.kept at) in
      let less = use_less q in
      let old : use_of s q ≤ w.quota = use_within s q w at h in
      let within : use_of (delisted s d o y) q ≤ w.quota = omega arith in
      record {
        distinct = k.distinct;
        recorded = recorded (listed w.body) ∙ k.recorded;
        within = within;
        few = at_most_fewer (listers (delisted s d o y) q) (listers s q) q w k.rightly
            (count_less d o q s.objects y found);
        whole = k.whole;
      }

  pub delisted_loose : IsLoose (delisted s d o y)
  delisted_loose = record {
    begun = h.begun;
    given = all-set_value (λ q. nat_lt q s.next_id) d s.objects (delisting o y) ∙ h.given;
    rise = rise-put d s.objects (delisting o y) ∙ h.rise;
    kept = λ q w at.
        let there : cond (is_at (nat_cmp q) d) (Some (delisting o y)) (object_at s q) ≡ Some w =
        sym (lookup_put d q s.objects y (delisting o y) found) ∙ at in
        elim (is_at (nat_cmp q) d)
        as (λ v. is_at (nat_cmp q) d ≡ v → cond v (Some (delisting o y)) (object_at s q) ≡ Some w
        → IsKeptLoosely (delisted s d o y) q w) [
          | true ↦ λ near f.
              let on : q ≡ d = same_id q d near in
              let is_y : delisting o y ≡ w = cc in
              subst (λ p. IsKeptLoosely (delisted s d o y) p w) (sym on)
              (subst (λ (v : Object). IsKeptLoosely (delisted s d o y) d v) is_y loose_here)
          | false ↦ λ far f. loose_other q w f
        ] refl there;
  }

-- an id taken out of a list, and what is live then
pub unref_well_formed : (s : State) (d o : ℕ) → is_well_formed s ≡ true
    → is_well_formed (restricted (changed s d (delisting o))) ≡ true
unref_well_formed s d o h = at_object (object_at s d) refl
  where
    at_object : (v : Option Object) → object_at s d ≡ v
        → is_well_formed (restricted (of_object s (λ x. put s d (delisting o x)) v)) ≡ true
    at_object None is = ap is_well_formed (restricted_live s (soundness_of s h).live) ∙ h
    at_object (Some y) is =
        ap is_well_formed (rest_is (delisted s d o y))
        ∙ well_formed_from (rest (delisted s d o y))
        (rest_sound (delisted s d o y) (delisted_loose s d o y is (soundness_of s h)))
