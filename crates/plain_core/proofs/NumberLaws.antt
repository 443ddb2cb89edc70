-- The numbers of the next events.
use Rattle.std.proofs.Common.{◌≡◌, ℕ, ◌+◌, ◌<◌, ◌≤◌, ◌==◌, ◌&&◌, Bool, true, false, cond, nat_lt, nat_cmp}
use Rattle.std.proofs.Common.{List, [], ◌∷◌, ◌++◌, length, take, map, slice_index_or, Option, Some, refl, sym, ◌∙◌, ap, arith}
use Rattle.std.proofs.Common.{Less, Equal, Greater}
use Rattle.std.specs.List.{list_all, AllByRecursion}
use Rattle.std.specs.List.Sorted.{IsStrictlySortedBy}
use Rattle.std.specs.Map.{lookup, keys_of}
use Rattle.std.specs.Option.{unwrap_or}
use Rattle.std.specs.Ordering.{match_ordering}
use Rattle.std.specs.BTreeMap.{is_at, insert_entry}
use Rattle.std.proofs.lemmas.Bool.{and_parts, and_from, eqb-true}
use Rattle.std.proofs.lemmas.List.Folds.{list_all_more}
use Rattle.std.proofs.lemmas.List.{take_more, length-take-le}
use Rattle.std.proofs.lemmas.Map.Keys.{sorted_head, sorted_tail}
use Rattle.kernel_rules.specs.Events.{Event}
use Rattle.kernel_rules.specs.History.{count}
use Rattle.kernel_rules.proofs.HistoryLaws.{count-snoc, count_within}
use Rattle.kernel_rules.proofs.LookupLaws.{at_is}
use Rattle.checkpoints.specs.Restorable.{threads_rise}
use Rattle.checkpoints.specs.declared.checkpoints.NextNumber.{NextNumber}
use Rattle.checkpoints.specs.Starts.{number_of}

-- what holds of each entry holds of each once one is put in
pub all_inserted : (test : ℕ × ℕ → Bool) (es : List (ℕ × ℕ)) (k v : ℕ) → list_all test es ≡ true
    → test (k, v) ≡ true → ((e : ℕ × ℕ) → test e ≡ true → test (e.0, v) ≡ true)
    → list_all test (insert_entry nat_cmp es k v) ≡ true
all_inserted test [] k v h new again = and_from (test (k, v)) true new refl
all_inserted test (e ∷ es) k v h new again =
    let parts = and_parts (test e) (list_all test es) h in
    elim (nat_cmp k e.0)
    as (λ o. list_all test (match_ordering o ((k, v) ∷ e ∷ es) ((e.0, v) ∷ es) (e ∷ insert_entry nat_cmp es k v)) ≡ true) [
      | Less ↦ and_from (test (k, v)) (list_all test (e ∷ es)) new h
      | Equal ↦ and_from (test (e.0, v)) (list_all test es) (again e parts.0) parts.1
      | Greater ↦ and_from (test e) _ parts.0 (all_inserted test es k v parts.1 new again)
    ]

-- one event more of its thread
numbered_more : (es : List Event) (i : ℕ) (e : Event) (t old here v : ℕ) → i < length es
    → e ≡ slice_index_or es i e → old ≡ count t (take i es) + 1 → here ≡ count e.thread (take i es) + 1 → v ≡ here + 1
    → cond (is_at (nat_cmp e.thread) t) v old ≡ count t (take (i + 1) es) + 1
numbered_more es i e t old here v within is before at_thread next =
    let more : count t (take (i + 1) es) ≡ count t (take i es) + cond (e.thread == t) 1 0
    = ap (count t) (take_more es i e within ∙ ap (λ (z : Event). take i es ++ z ∷ []) (sym is)) ∙ count-snoc t (take i es) e in
    ap (λ b. cond b v old) (at_is e.thread t)
    ∙ elim (e.thread == t) as (λ b. (e.thread == t) ≡ b → cond b v old ≡ count t (take i es) + cond b 1 0 + 1) [
      | true ↦ λ on.
          let same : e.thread ≡ t = eqb-true e.thread t on in
          last v here (count e.thread (take i es)) (count t (take i es)) next at_thread
          (ap (λ j. count j (take i es)) same)
      | false ↦ λ off. before ∙ plain (count t (take i es))
    ] refl
    ∙ ap (λ n. n + 1) (sym more)
  where
    last : (v here n m : ℕ) → v ≡ here + 1 → here ≡ n + 1 → n ≡ m → v ≡ m + 1 + 1
    last v here n m a b c = omega arith

    plain : (n : ℕ) → n + 1 ≡ n + 0 + 1
    plain n = omega arith

-- and so says the map
pub mapped_more : (es : List Event) (i : ℕ) (e : Event) (t : ℕ) (o : Option ℕ) (here v : ℕ) → i < length es
    → e ≡ slice_index_or es i e → unwrap_or o 1 ≡ count t (take i es) + 1 → here ≡ count e.thread (take i es) + 1
    → v ≡ here + 1
    → unwrap_or (cond (is_at (nat_cmp e.thread) t) (Some v) o) 1 ≡ count t (take (i + 1) es) + 1
mapped_more es i e t o here v within is before at_thread next =
    inside (is_at (nat_cmp e.thread) t) v o
    ∙ numbered_more es i e t (unwrap_or o 1) here v within is before at_thread next
  where
    inside : (b : Bool) (v : ℕ) (o : Option ℕ) → unwrap_or (cond b (Some v) o) 1 ≡ cond b v (unwrap_or o 1)
    inside true v o = refl
    inside false v o = refl

-- a thread's number after some of the events
pub number_within : (t : ℕ) (es : List Event) (i n : ℕ) → n ≡ count t (take i es) + 1 → i < length es → n ≤ length es
number_within t es i n is within =
    omega (arith, is, count_within t (take i es), length-take-le i es (omega (arith, within)))

-- what holds of the threads up to the next place
pub threads_before : (test : ℕ → Bool) (es : List Event) (i : ℕ) (e : Event) → i < length es
    → e ≡ slice_index_or es i e
    → list_all (λ (e : Event). test e.thread) (take (i + 1) es) ≡ true
    → (list_all (λ (e : Event). test e.thread) (take i es) ≡ true) × (test e.thread ≡ true)
threads_before test es i e within is h =
    let parts = and_parts (list_all (λ (e : Event). test e.thread) (take i es)) (test (slice_index_or es i e).thread)
    (sym (list_all_more (λ (e : Event). test e.thread) es i e within) ∙ h) in
    (parts.0, ap (λ (f : Event). test f.thread) is ∙ parts.1)

pub number_is : (ns : List NextNumber) (t : ℕ)
    → number_of ns t ≡ unwrap_or (lookup (is_at (nat_cmp t)) (map {B = ℕ × ℕ} (λ (n : NextNumber). (n.thread, n.number)) ns)) 1
number_is [] t = refl
number_is (n ∷ ns) t =
    ap (cond (t == n.thread) n.number) (number_is ns t)
    ∙ (λ i. cond (sym (at_is t n.thread) i) n.number
    (unwrap_or (lookup (is_at (nat_cmp t)) (map {B = ℕ × ℕ} (λ (n : NextNumber). (n.thread, n.number)) ns)) 1))
    ∙ inside (is_at (nat_cmp t) n.thread) n.number
    (lookup (is_at (nat_cmp t)) (map {B = ℕ × ℕ} (λ (n : NextNumber). (n.thread, n.number)) ns))
  where
    inside : (b : Bool) (v : ℕ) (o : Option ℕ) → cond b v (unwrap_or o 1) ≡ unwrap_or (cond b (Some v) o) 1
    inside true v o = refl
    inside false v o = refl

pub all_are : (test : ℕ × ℕ → Bool) (ns : List NextNumber)
    → list_all test (map {B = ℕ × ℕ} (λ (n : NextNumber). (n.thread, n.number)) ns)
    ≡ list_all (λ (n : NextNumber). test (n.thread, n.number)) ns
all_are test [] = refl
all_are test (n ∷ ns) = ap (λ b. test (n.thread, n.number) && b) (all_are test ns)

less_is : (a b : ℕ) → nat_cmp a b ≡ Less → nat_lt a b ≡ true
less_is a b h =
    elim (nat_lt a b) as (λ v. nat_lt a b ≡ v → cond v Less (cond (a == b) Equal Greater) ≡ Less → v ≡ true) [
      | true ↦ λ is g. refl
      | false ↦ λ is g. elim (a == b) as (λ v. cond v Equal Greater ≡ Less → false ≡ true) [
        | true ↦ λ k. absurd (cc)
        | false ↦ λ k. absurd (cc)
      ] g
    ] refl h

above_from : (a : ℕ) (ns : List NextNumber)
    → AllByRecursion (λ y. nat_cmp a y ≡ Less) (keys_of (map {B = ℕ × ℕ} (λ (n : NextNumber). (n.thread, n.number)) ns))
    → list_all (λ (m : NextNumber). nat_lt a m.thread) ns ≡ true
above_from a [] h = refl
above_from a (n ∷ ns) h = and_from (nat_lt a n.thread) _ (less_is a n.thread h.0) (above_from a ns h.1)

pub rise_from : (ns : List NextNumber)
    → IsStrictlySortedBy nat_cmp (keys_of (map {B = ℕ × ℕ} (λ (n : NextNumber). (n.thread, n.number)) ns))
    → threads_rise ns ≡ true
rise_from [] h = refl
rise_from (n ∷ ns) h =
    and_from (list_all (λ (m : NextNumber). nat_lt n.thread m.thread) ns) (threads_rise ns)
    (above_from n.thread ns (sorted_head nat_cmp n.thread _ h)) (rise_from ns (sorted_tail nat_cmp n.thread _ h))

-- where nothing is left, all is there
pub all_left : {X : Type 0} (xs ys zs : List X) → xs ++ ys ≡ zs → ys ≡ [] → xs ≡ zs
all_left xs ys zs all none = sym (plain xs) ∙ ap (λ t. xs ++ t) (sym none) ∙ all
  where
    plain : {X : Type 0} (xs : List X) → xs ++ [] ≡ xs
    plain [] = refl
    plain (x ∷ xs) = ap (λ t. x ∷ t) (plain xs)
