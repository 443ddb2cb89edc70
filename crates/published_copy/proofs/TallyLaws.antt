-- Finding a thread among the tallies, and giving it another count.
use Rattle.std.proofs.Common.{◌≡◌, ℕ, suc, ◌+◌, ◌<◌, true, false, ◌==◌, if◌then◌else◌}
use Rattle.std.proofs.Common.{List, [], ◌∷◌, ◌++◌, length, drop, get_or, set, Some, None}
use Rattle.std.proofs.Common.{refl, sym, ap, ◌∙◌, arith, slice_get}
use Rattle.std.proofs.lemmas.List.{at_drop_more}
use Rattle.std.proofs.Common.{add-zero}
use Rattle.std.proofs.lemmas.Bool.Decides.{nat_tests}
use Rattle.published_copy.specs.declared.tallies.Tally.{Tally}
use Rattle.kernel_rules.specs.History.{count}
use Rattle.kernel_rules.specs.Events.{Event}
use Rattle.kernel_rules.proofs.HistoryLaws.{count-snoc}
use Rattle.published_copy.specs.Tallies.{place_of, tallied, IsTallied}

-- the thread is next
pub place-hit : (thread : ℕ) (ts : List Tally) (i : ℕ) (d : Tally) → i < length ts
    → ((get_or ts i d).thread == thread) ≡ true → place_of thread (drop i ts) ≡ 0
place-hit thread ts i d less same =
    at_drop_more (place_of thread) ts i d less
    ∙ ap (λ v. if v then 0 else suc (place_of thread (drop (i + 1) ts))) same

-- another thread is next
pub place-miss : (thread : ℕ) (ts : List Tally) (i : ℕ) (d : Tally) → i < length ts
    → ((get_or ts i d).thread == thread) ≡ false
    → place_of thread (drop i ts) ≡ suc (place_of thread (drop (i + 1) ts))
place-miss thread ts i d less other =
    at_drop_more (place_of thread) ts i d less
    ∙ ap (λ v. if v then 0 else suc (place_of thread (drop (i + 1) ts))) other

-- what stands in the thread's place is its tally
pub tallied-found : (thread : ℕ) (ts : List Tally) (t : Tally) → slice_get ts (place_of thread ts) ≡ Some t
    → tallied thread ts ≡ t.events
tallied-found thread [] t found = absurd (cc)
tallied-found thread (x ∷ xs) t found =
    elim (x.thread == thread)
    as (λ v. slice_get (x ∷ xs) (if v then 0 else suc (place_of thread xs)) ≡ Some t
    → (if v then x.events else tallied thread xs) ≡ t.events) [
      | true ↦ λ f. let same : x ≡ t = cc in ap (λ (y : Tally). y.events) same
      | false ↦ λ f. tallied-found thread xs t f
    ] found

-- a thread that has no place has no tally
pub tallied-missing : (thread : ℕ) (ts : List Tally) → slice_get ts (place_of thread ts) ≡ None
    → tallied thread ts ≡ 0
tallied-missing thread [] none = refl
tallied-missing thread (x ∷ xs) none =
    elim (x.thread == thread)
    as (λ v. slice_get (x ∷ xs) (if v then 0 else suc (place_of thread xs)) ≡ None
    → (if v then x.events else tallied thread xs) ≡ 0) [
      | true ↦ λ f. absurd (cc)
      | false ↦ λ f. tallied-missing thread xs f
    ] none

-- a thread that has no place is given a tally, and other threads keep theirs
pub tallied-new : (thread other n : ℕ) (ts : List Tally) → place_of thread ts ≡ length ts
    → tallied other (ts ++ record { thread = thread; events = n } ∷ [])
    ≡ (if thread == other then n else tallied other ts)
tallied-new thread other n [] none = refl
tallied-new thread other n (x ∷ xs) none =
    elim (x.thread == thread)
    as (λ v. (x.thread == thread) ≡ v → (if v then 0 else suc (place_of thread xs)) ≡ suc (length xs)
    → tallied other (x ∷ xs ++ record { thread = thread; events = n } ∷ [])
    ≡ (if thread == other then n else tallied other (x ∷ xs))) [
      | true ↦ λ is p. absurd (omega (arith, p))
      | false ↦ λ is p.
          elim (x.thread == other)
          as (λ w. (x.thread == other) ≡ w
          → (if w then x.events else tallied other (xs ++ record { thread = thread; events = n } ∷ []))
          ≡ (if thread == other then n else (if w then x.events else tallied other xs))) [
            | true ↦ λ at.
                let apart : (thread == other) ≡ false = grind (arith, nat_tests) in
                sym (ap (λ b. if b then n else x.events) apart)
            | false ↦ λ at. tallied-new thread other n xs (omega (arith, p))
          ] refl
    ] refl none

-- the tally of a thread hides a later one of the same thread
set-first : (thread mine other n events rest : ℕ) → mine ≡ thread
    → (if thread == other then n else rest)
    ≡ (if thread == other then n else (if mine == other then events else rest))
set-first thread mine other n events rest same =
    elim (thread == other)
    as (λ v. (thread == other) ≡ v
    → (if v then n else rest) ≡ (if v then n else (if mine == other then events else rest))) [
      | true ↦ λ is. refl
      | false ↦ λ is.
          let apart : (mine == other) ≡ false = ap (λ k. k == other) same ∙ is in
          sym (ap (λ b. if b then events else rest) apart)
    ] refl

-- a thread's tally is given another count, and other threads keep theirs
pub tallied-set : (thread other n : ℕ) (ts : List Tally) → place_of thread ts < length ts
    → tallied other (set ts (place_of thread ts) (record { thread = thread; events = n }))
    ≡ (if thread == other then n else tallied other ts)
tallied-set thread other n [] less = absurd (omega (arith, less))
tallied-set thread other n (x ∷ xs) less =
    elim (x.thread == thread)
    as (λ v. (x.thread == thread) ≡ v → (if v then 0 else suc (place_of thread xs)) < suc (length xs)
    → tallied other
    (set (x ∷ xs) (if v then 0 else suc (place_of thread xs)) (record { thread = thread; events = n }))
    ≡ (if thread == other then n else tallied other (x ∷ xs))) [
      | true ↦ λ is p.
          let same : x.thread ≡ thread = grind (arith, nat_tests) in
          set-first thread x.thread other n x.events (tallied other xs) same
      | false ↦ λ is p.
          elim (x.thread == other)
          as (λ w. (x.thread == other) ≡ w
          → (if w then x.events else tallied other (set xs (place_of thread xs) (record { thread = thread; events = n })))
          ≡ (if thread == other then n else (if w then x.events else tallied other xs))) [
            | true ↦ λ at.
                let apart : (thread == other) ≡ false = grind (arith, nat_tests) in
                sym (ap (λ b. if b then n else x.events) apart)
            | false ↦ λ at. tallied-set thread other n xs (omega (arith, p))
          ] refl
    ] refl less

-- the thread of one event more is given that event's number, and the tallies are right again
pub tallied-more : (old new : List Tally) (events : List Event) (e : Event) → IsTallied old events
    → ((other : ℕ) → tallied other new ≡ (if e.thread == other then e.number else tallied other old))
    → e.number ≡ count e.thread events + 1 → IsTallied new (events ++ e ∷ [])
tallied-more old new events e right given number other =
    given other
    ∙ (elim (e.thread == other)
    as (λ v. (e.thread == other) ≡ v
    → (if v then e.number else tallied other old) ≡ count other events + (if v then 1 else 0)) [
      | true ↦ λ is.
          let at : e.thread ≡ other = grind (arith, nat_tests) in
          number ∙ ap (λ t. count t events + 1) at
      | false ↦ λ is. right other ∙ sym (add-zero (count other events))
    ] refl
    ∙ sym (count-snoc other events e))
