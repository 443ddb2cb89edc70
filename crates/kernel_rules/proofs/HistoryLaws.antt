-- Lists of events with one event more.
use Rattle.std.proofs.Common.{◌≡◌, ℕ, ◌+◌, ◌≤◌, Bool, true, false, ◌⊎◌, ◌==◌, ◌&&◌, nat_le, if◌then◌else◌, length}
use Rattle.std.proofs.Common.{List, [], ◌∷◌, ◌++◌, refl, sym, ap, ◌∙◌, subst, inl, inr, arith, zero-add}
use Rattle.std.proofs.lemmas.List.{append-nil, append_assoc}
use Rattle.base.specs.declared.ranges.Limits.{Limits}
use Rattle.kernel_rules.specs.State.{State}
use Rattle.kernel_rules.specs.Runs.{booted, state_after}
use Rattle.kernel_rules.specs.declared.calls.Call.{Call}
use Rattle.kernel_rules.specs.Events.{Event, calls_in, by}
use Rattle.kernel_rules.specs.History.{answered, calls_of, state_from, state_of, count, is_batch, Start, boot_start, FollowsFrom, Follows, IsLegalFrom, IsLegal}
use Rattle.kernel_rules.proofs.BatchLaws.{answered_calls, answered_length, state_after-append}

calls_of-snoc : (events : List Event) (e : Event) → calls_of (events ++ e ∷ []) ≡ calls_of events ++ by e.thread (calls_in e)
calls_of-snoc [] e = append-nil (by e.thread (calls_in e))
calls_of-snoc (x ∷ xs) e =
    ap (λ l. by x.thread (calls_in x) ++ l) (calls_of-snoc xs e)
    ∙ sym (append_assoc (by x.thread (calls_in x)) (calls_of xs) (by e.thread (calls_in e)))

-- the state after one event more is that after its calls
pub state_from-snoc : (s : State) (events : List Event) (e : Event)
    → state_from s (events ++ e ∷ []) ≡ state_after (state_from s events) (by e.thread (calls_in e))
state_from-snoc s events e =
    ap (state_after s) (calls_of-snoc events e) ∙ state_after-append s (calls_of events) (by e.thread (calls_in e))

pub state_of-snoc : (limits : Limits) (events : List Event) (e : Event)
    → state_of limits (events ++ e ∷ []) ≡ state_after (state_of limits events) (by e.thread (calls_in e))
state_of-snoc limits events e = state_from-snoc (booted limits) events e

-- what stands in a list with one more at its end is that one, or stands in the list
snoc_split : (log before after : List Event) (x e : Event) → log ++ x ∷ [] ≡ before ++ e ∷ after
    → ((log ≡ before) × (x ≡ e)) ⊎ ((rest : List Event) × (log ≡ before ++ e ∷ rest))
snoc_split [] [] after x e is = inl (refl, cc is)
snoc_split [] (b ∷ []) after x e is = absurd (cc is)
snoc_split [] (b ∷ c ∷ bs) after x e is = absurd (cc is)
snoc_split (l ∷ ls) [] after x e is =
    let same : l ≡ e = cc is in inr (ls, ap (λ z. z ∷ ls) same)
snoc_split (l ∷ ls) (b ∷ bs) after x e is =
    let heads : l ≡ b = cc is in
    let tails : ls ++ x ∷ [] ≡ bs ++ e ∷ after = cc is in
    elim (snoc_split ls bs after x e tails)
    as (λ _. ((l ∷ ls ≡ b ∷ bs) × (x ≡ e)) ⊎ ((rest : List Event) × (l ∷ ls ≡ (b ∷ bs) ++ e ∷ rest))) [
      | inl p ↦ inl (cc (heads, p.0), p.1)
      | inr p ↦ inr (p.0, cc (heads, p.1))
    ]

legal-none : (start : Start) → IsLegalFrom start []
legal-none start [] after e is = absurd (cc is)
legal-none start (b ∷ bs) after e is = absurd (cc is)

-- a list of no event is legal
pub legal_none_from : (start : Start) (events : List Event) → events ≡ [] → IsLegalFrom start events
legal_none_from start events none =
    subst (λ (l : List Event). IsLegalFrom start l) (sym none) (legal-none start)

pub legal_none : (limits : Limits) (events : List Event) → events ≡ [] → IsLegal limits events
legal_none limits events none = legal_none_from (boot_start limits) events none

-- a legal list with one event more that may follow it is legal
pub legal-snoc_from : (start : Start) (events : List Event) (x : Event) → IsLegalFrom start events
    → FollowsFrom start events x → IsLegalFrom start (events ++ x ∷ [])
legal-snoc_from start events x legal follows before after e is =
    elim (snoc_split events before after x e is) as (λ _. FollowsFrom start before e) [
      | inl p ↦ subst (λ (z : List Event × Event). FollowsFrom start z.0 z.1) (λ i. (p.0 i, p.1 i)) follows
      | inr p ↦ legal before p.0 e p.1
    ]

pub legal-snoc : (limits : Limits) (events : List Event) (x : Event) → IsLegal limits events
    → Follows limits events x → IsLegal limits (events ++ x ∷ [])
legal-snoc limits events x legal follows = legal-snoc_from (boot_start limits) events x legal follows

-- a batch of a thread's next number that is answered in the state of the events may follow them
pub answered_follows : (limits : Limits) (events : List Event) (thread number : ℕ) (calls : List Call)
    → is_batch calls ≡ true → number ≡ count thread events + 1
    → Follows limits events (record { thread = thread; number = number; calls = answered (state_of limits events) thread calls })
answered_follows limits events thread number calls size is = record {
  size = ap (λ n. nat_le 1 n && nat_le n 16) (answered_length (state_of limits events) thread calls) ∙ size;
  number = is;
  replies = ap (answered (state_of limits events) thread) (sym (answered_calls (state_of limits events) thread calls));
}

pub count-append : (thread : ℕ) (xs ys : List Event)
    → count thread (xs ++ ys) ≡ count thread xs + count thread ys
count-append thread [] ys = sym (zero-add (count thread ys))
count-append thread (x ∷ xs) ys = omega (arith, count-append thread xs ys)

-- one event more is one more for its thread, and none for another
pub count-snoc : (thread : ℕ) (events : List Event) (e : Event)
    → count thread (events ++ e ∷ []) ≡ count thread events + (if e.thread == thread then 1 else 0)
count-snoc thread events e = omega (arith, count-append thread events (e ∷ []))

one-within : (b : Bool) → (if b then 1 else 0) ≤ 1
one-within true = omega arith
one-within false = omega arith

-- no thread has more events than there are
pub count_within : (thread : ℕ) (events : List Event) → count thread events ≤ length events
count_within thread [] = omega arith
count_within thread (x ∷ xs) = omega (arith, one-within (x.thread == thread), count_within thread xs)
