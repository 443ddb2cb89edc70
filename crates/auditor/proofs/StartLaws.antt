-- The numbers of threads' last events, and those of their next ones.
use Rattle.std.proofs.Common.{◌≡◌, ℕ, ◌+◌, ◌-◌, ◌≤◌, ◌<◌, ◌==◌, Bool, true, false, if◌then◌else◌, nat_lt, nat_le}
use Rattle.std.proofs.Common.{List, [], ◌∷◌, ◌++◌, Some, refl, sym, ap, ◌∙◌, subst, arith}
use Rattle.std.specs.BTreeMap.{BTreeMap, get, Updates}
use Rattle.std.specs.List.{list_all}
use Rattle.std.specs.Option.{unwrap_or}
use Rattle.std.specs.Ordering.{nat_cmp}
use Rattle.std.proofs.lemmas.Bool.{and_parts, both_ways, eqb-true, eq-eqb, ltb-true, leb-true}
use Rattle.checkpoints.specs.Restorable.{threads_rise}
use Rattle.checkpoints.specs.Starts.{number_of}
use Rattle.checkpoints.specs.declared.checkpoints.NextNumber.{NextNumber}
use Rattle.auditor.proofs.CountLaws.{not_at}

-- what holds of all holds of one in the middle
pub all_mid : (p : NextNumber → Bool) (ns rest : List NextNumber) (n : NextNumber) → list_all p (ns ++ n ∷ rest) ≡ true → p n ≡ true
all_mid p [] rest n h = (and_parts (p n) (list_all p rest) h).0
all_mid p (m ∷ ns) rest n h = all_mid p ns rest n (and_parts (p m) (list_all p (ns ++ n ∷ rest)) h).1

-- the number of a thread where one more is written, of a thread above all others
number-snoc : (ns rest : List NextNumber) (n : NextNumber) (t : ℕ) → threads_rise (ns ++ n ∷ rest) ≡ true
    → number_of (ns ++ n ∷ []) t ≡ (if t == n.thread then n.number else number_of ns t)
number-snoc [] rest n t rise = refl
number-snoc (m ∷ ns) rest n t rise =
    let parts = and_parts (list_all (λ k. nat_lt m.thread k.thread) (ns ++ n ∷ rest)) (threads_rise (ns ++ n ∷ rest)) rise in
    let less : m.thread < n.thread = ltb-true m.thread n.thread (all_mid (λ k. nat_lt m.thread k.thread) ns rest n parts.0) in
    let rec = number-snoc ns rest n t parts.1 in
    elim (t == m.thread) as (λ v. (t == m.thread) ≡ v
    → (if v then m.number else number_of (ns ++ n ∷ []) t)
    ≡ (if t == n.thread then n.number else (if v then m.number else number_of ns t))) [
      | true ↦ λ is.
          let same : t ≡ m.thread = eqb-true t m.thread is in
          apart same less (t == n.thread) refl
      | false ↦ λ is. rec
    ] refl
  where
    apart : t ≡ m.thread → m.thread < n.thread → (v : Bool) → (t == n.thread) ≡ v
        → m.number ≡ (if v then n.number else m.number)
    apart same less false is = refl
    apart same less true is = let on : t ≡ n.thread = eqb-true t n.thread is in absurd (omega arith)

-- one number more is kept
pub numbered_more : (ns rest : List NextNumber) (n : NextNumber) (old new : BTreeMap ℕ ℕ) (key : ℕ)
    → threads_rise (ns ++ n ∷ rest) ≡ true → nat_le 2 n.number ≡ true → key ≡ n.thread
    → ((t : ℕ) → unwrap_or (get nat_cmp old t) 0 + 1 ≡ number_of ns t)
    → Updates nat_cmp old new key (Some (n.number - 1))
    → (t : ℕ) → unwrap_or (get nat_cmp new t) 0 + 1 ≡ number_of (ns ++ n ∷ []) t
numbered_more ns rest n old new key rise later key_is was at t =
    let updates : Updates nat_cmp old new n.thread (Some (n.number - 1))
    = subst (λ (k : ℕ). Updates nat_cmp old new k (Some (n.number - 1))) key_is at in
    elim (n.thread == t) as (λ v. (n.thread == t) ≡ v → unwrap_or (get nat_cmp new t) 0 + 1 ≡ number_of (ns ++ n ∷ []) t) [
      | true ↦ λ is.
          let same : n.thread ≡ t = eqb-true n.thread t is in
          let back : (t == n.thread) ≡ true = eq-eqb t n.thread (sym same) in
          subst (λ (k : ℕ). unwrap_or (get nat_cmp new k) 0 + 1 ≡ n.number) same
          (ap (λ o. unwrap_or o 0 + 1) updates.1 ∙ whole n.number (leb-true 2 n.number later))
          ∙ sym (number-snoc ns rest n t rise ∙ ap (λ v. if v then n.number else number_of ns t) back)
      | false ↦ λ is.
          ap (λ o. unwrap_or o 0 + 1) (updates.2 t (not_at n.thread t is)) ∙ was t
          ∙ sym (number-snoc ns rest n t rise ∙ ap (λ v. if v then n.number else number_of ns t) (other t is))
    ] refl
  where
    whole : (k : ℕ) → 2 ≤ k → (k - 1) + 1 ≡ k
    whole k h = omega arith

    other : (t : ℕ) → (n.thread == t) ≡ false → (t == n.thread) ≡ false
    other t is = elim (t == n.thread) as (λ v. (t == n.thread) ≡ v → v ≡ false) [
      | true ↦ λ at. absurd (both_ways (n.thread == t) is (eq-eqb n.thread t (sym (eqb-true t n.thread at))))
      | false ↦ λ at. refl
    ] refl
