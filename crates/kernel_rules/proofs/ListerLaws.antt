-- How many lists have an id, and what a kept object is, before and after a new object.
use Rattle.std.proofs.Common.{◌≡◌, ◌≢◌, ℕ, ◌+◌, Bool, true, false, cond, not, ◌&&◌, nat_le, List}
use Rattle.std.proofs.Common.{[], ◌∷◌, ◌++◌, Some, None, is_some, sum_by, refl, sym, ◌∙◌, ap, arith}
use Rattle.std.specs.List.{list_all}
use Rattle.std.specs.Ordering.{nat_cmp}
use Rattle.std.specs.Map.{lookup, set_value}
use Rattle.std.specs.BTreeMap.{is_at}
use Rattle.std.proofs.lemmas.Bool.{and_parts, and_from}
use Rattle.std.proofs.lemmas.List.Sums.{sum_by-append, sum_by-cons}
use Rattle.base.specs.Live.{has}
use Rattle.base.specs.declared.kinds.Kind.TheVariants as kinds
use Rattle.kernel_rules.specs.State.{State, object_at, is_kind, listed, lists_of, use_of}
use Rattle.kernel_rules.specs.Changes.{listing}
use Rattle.kernel_rules.specs.WellFormed.{is_kept, is_whole, is_distinct, is_listed_rightly, listers}
use Rattle.kernel_rules.specs.declared.objects.Object.{Object}
use Rattle.kernel_rules.proofs.ListingLaws.{listed-listing, has_new, has-append_other, not_listed}
use Rattle.kernel_rules.proofs.GrownLaws.{grown}

-- whether an entry's list has o, as a number
abbrev counts : ℕ → ℕ × List ℕ → ℕ
counts o e = cond (has e.1 o) 1 0

-- how many lists have an id other than the new one
pub count_put : (d k o : ℕ) (es : List (ℕ × Object)) (y : Object) → o ≢ k → lookup (is_at (nat_cmp d)) es ≡ Some y
    → is_kind kinds.Container y ≡ true
    → sum_by (counts o) (lists_of (set_value (is_at (nat_cmp d)) es (listing k y)))
    ≡ sum_by (counts o) (lists_of es)
count_put d k o [] y other found kind = absurd (cc)
count_put d k o (e ∷ es) y other found kind =
    elim (is_at (nat_cmp d) e.0) as (λ v. cond v (Some e.1) (lookup (is_at (nat_cmp d)) es) ≡ Some y
    → sum_by (counts o)
    (lists_of (cond v ((e.0, listing k y) ∷ es) (e ∷ set_value (is_at (nat_cmp d)) es (listing k y))))
    ≡ sum_by (counts o) (lists_of (e ∷ es))) [
      | true ↦ λ f.
          let is_y : e.1 ≡ y = cc in
          sum_by-cons (counts o) (e.0, listed (listing k y).body) (lists_of es)
          ∙ ap (λ b. cond b 1 0 + sum_by (counts o) (lists_of es))
          (ap (λ l. has l o) (listed-listing y k kind) ∙ has-append_other (listed y.body) k o other
          ∙ ap (λ (z : Object). has (listed z.body) o) (sym is_y))
          ∙ sym (sum_by-cons (counts o) (e.0, listed e.1.body) (lists_of es))
      | false ↦ λ f.
          sum_by-cons (counts o) (e.0, listed e.1.body)
          (lists_of (set_value (is_at (nat_cmp d)) es (listing k y)))
          ∙ ap (λ n. cond (has (listed e.1.body) o) 1 0 + n) (count_put d k o es y other f kind)
          ∙ sym (sum_by-cons (counts o) (e.0, listed e.1.body) (lists_of es))
    ] found

-- no list has the new id
count_none : (k : ℕ) (es : List (ℕ × Object)) → list_all (λ e. not (has (listed e.1.body) k)) es ≡ true
    → sum_by (counts k) (lists_of es) ≡ 0
count_none k [] h = refl
count_none k (e ∷ es) h =
    let both : (not (has (listed e.1.body) k) ≡ true)
    × (list_all (λ e. not (has (listed e.1.body) k)) es ≡ true) =
    and_parts (not (has (listed e.1.body) k)) (list_all (λ e. not (has (listed e.1.body) k)) es) h
    in
    sum_by-cons (counts k) (e.0, listed e.1.body) (lists_of es)
    ∙ (λ i. cond (not_true (has (listed e.1.body) k) both.0 i) 1 0 + count_none k es both.1 i)
  where
    not_true : (b : Bool) → not b ≡ true → b ≡ false
    not_true true h = sym h
    not_true false h = refl

-- the one list that has the new id is d's
pub count_new : (d k : ℕ) (es : List (ℕ × Object)) (y : Object) → lookup (is_at (nat_cmp d)) es ≡ Some y
    → is_kind kinds.Container y ≡ true → list_all (λ e. not (has (listed e.1.body) k)) es ≡ true
    → sum_by (counts k) (lists_of (set_value (is_at (nat_cmp d)) es (listing k y))) ≡ 1
count_new d k [] y found kind h = absurd (cc)
count_new d k (e ∷ es) y found kind h =
    let both : (not (has (listed e.1.body) k) ≡ true)
    × (list_all (λ e. not (has (listed e.1.body) k)) es ≡ true) =
    and_parts (not (has (listed e.1.body) k)) (list_all (λ e. not (has (listed e.1.body) k)) es) h
    in
    elim (is_at (nat_cmp d) e.0) as (λ v. cond v (Some e.1) (lookup (is_at (nat_cmp d)) es) ≡ Some y
    → sum_by (counts k)
    (lists_of (cond v ((e.0, listing k y) ∷ es) (e ∷ set_value (is_at (nat_cmp d)) es (listing k y)))) ≡ 1) [
      | true ↦ λ f.
          sum_by-cons (counts k) (e.0, listed (listing k y).body) (lists_of es)
          ∙ (λ i. cond (has_new y k kind i) 1 0 + count_none k es both.1 i)
      | false ↦ λ f.
          sum_by-cons (counts k) (e.0, listed e.1.body)
          (lists_of (set_value (is_at (nat_cmp d)) es (listing k y)))
          ∙ (λ i. cond (not_true (has (listed e.1.body) k) both.0 i) 1 0 + count_new d k es y f kind both.1 i)
    ] found
  where
    not_true : (b : Bool) → not b ≡ true → b ≡ false
    not_true true h = sym h
    not_true false h = refl

-- each of the parts of what is kept
pub record IsKept (s : State) (o : ℕ) (x : Object) : Type 0 where
  pub distinct : is_distinct (listed x.body) ≡ true
  pub recorded : list_all (λ i. is_some (object_at s i)) (listed x.body) ≡ true
  pub within : nat_le (use_of s o) x.quota ≡ true
  pub rightly : is_listed_rightly (listers s o) o x ≡ true
  pub whole : is_whole x ≡ true

pub kept_parts : (s : State) (o : ℕ) (x : Object) → is_kept s o x ≡ true → IsKept s o x
kept_parts s o x h =
    let last : ((is_distinct (listed x.body) && list_all (λ i. is_some (object_at s i)) (listed x.body)
    && nat_le (use_of s o) x.quota && is_listed_rightly (listers s o) o x) ≡ true) × (is_whole x ≡ true)
    = and_parts (is_distinct (listed x.body) && list_all (λ i. is_some (object_at s i)) (listed x.body)
    && nat_le (use_of s o) x.quota && is_listed_rightly (listers s o) o x) (is_whole x) h in
    let third : ((is_distinct (listed x.body) && list_all (λ i. is_some (object_at s i)) (listed x.body)
    && nat_le (use_of s o) x.quota) ≡ true) × (is_listed_rightly (listers s o) o x ≡ true)
    = and_parts (is_distinct (listed x.body) && list_all (λ i. is_some (object_at s i)) (listed x.body)
    && nat_le (use_of s o) x.quota) (is_listed_rightly (listers s o) o x) last.0 in
    let second : ((is_distinct (listed x.body) && list_all (λ i. is_some (object_at s i)) (listed x.body))
    ≡ true) × (nat_le (use_of s o) x.quota ≡ true)
    = and_parts (is_distinct (listed x.body) && list_all (λ i. is_some (object_at s i)) (listed x.body))
    (nat_le (use_of s o) x.quota) third.0 in
    let first : (is_distinct (listed x.body) ≡ true)
    × (list_all (λ i. is_some (object_at s i)) (listed x.body) ≡ true)
    = and_parts (is_distinct (listed x.body)) (list_all (λ i. is_some (object_at s i)) (listed x.body)) second.0
    in
    record { distinct = first.0; recorded = first.1; within = second.1; rightly = third.1; whole = last.1 }

pub kept_from : (s : State) (o : ℕ) (x : Object) → IsKept s o x → is_kept s o x ≡ true
kept_from s o x k =
    and_from (is_distinct (listed x.body) && list_all (λ i. is_some (object_at s i)) (listed x.body)
    && nat_le (use_of s o) x.quota && is_listed_rightly (listers s o) o x) (is_whole x)
    (and_from (is_distinct (listed x.body) && list_all (λ i. is_some (object_at s i)) (listed x.body)
    && nat_le (use_of s o) x.quota) (is_listed_rightly (listers s o) o x)
    (and_from (is_distinct (listed x.body) && list_all (λ i. is_some (object_at s i)) (listed x.body))
    (nat_le (use_of s o) x.quota)
    (and_from (is_distinct (listed x.body)) (list_all (λ i. is_some (object_at s i)) (listed x.body)) k.distinct
    k.recorded) k.within) k.rightly)
    k.whole

-- no list of a well-formed state has the next id
pub unlisted_next : (s : State) (es : List (ℕ × Object)) → object_at s s.next_id ≡ None
    → list_all (λ e. is_kept s e.0 e.1) es ≡ true
    → list_all (λ e. not (has (listed e.1.body) s.next_id)) es ≡ true
unlisted_next s [] absent h = refl
unlisted_next s (e ∷ es) absent h =
    let both : (is_kept s e.0 e.1 ≡ true) × (list_all (λ e. is_kept s e.0 e.1) es ≡ true) =
    and_parts (is_kept s e.0 e.1) (list_all (λ e. is_kept s e.0 e.1) es) h in
    and_from (not (has (listed e.1.body) s.next_id)) (list_all (λ e. not (has (listed e.1.body) s.next_id)) es)
    (ap not (not_listed s s.next_id (listed e.1.body) absent (kept_parts s e.0 e.1 both.0).recorded))
    (unlisted_next s es absent both.1)

lists-append : (k : ℕ) (x : Object) (es : List (ℕ × Object))
    → lists_of (es ++ (k, x) ∷ []) ≡ lists_of es ++ (k, listed x.body) ∷ []
lists-append k x [] = refl
lists-append k x (e ∷ es) = ap (λ l. (e.0, listed e.1.body) ∷ l) (lists-append k x es)

pub listers_of : (s : State) (d : ℕ) (y x : Object) → listed x.body ≡ [] → (o : ℕ)
    → listers (grown s d y x) o
    ≡ sum_by (counts o) (lists_of (set_value (is_at (nat_cmp d)) s.objects (listing s.next_id y)))
listers_of s d y x empty o =
    ap (sum_by (counts o))
    (lists-append s.next_id x (set_value (is_at (nat_cmp d)) s.objects (listing s.next_id y)))
    ∙ sum_by-append (counts o) (lists_of (set_value (is_at (nat_cmp d)) s.objects (listing s.next_id y)))
    ((s.next_id, listed x.body) ∷ [])
    ∙ ap (λ l. sum_by (counts o) (lists_of (set_value (is_at (nat_cmp d)) s.objects (listing s.next_id y)))
    + sum_by (counts o) ((s.next_id, l) ∷ [])) empty
    ∙ none (sum_by (counts o) (lists_of (set_value (is_at (nat_cmp d)) s.objects (listing s.next_id y))))
  where
    none : (n : ℕ) → n + 0 ≡ n
    none n = omega arith
