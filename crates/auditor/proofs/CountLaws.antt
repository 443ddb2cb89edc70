-- Counting the events of threads in a map.
use Rattle.std.proofs.Common.{◌≡◌, ℕ, ◌+◌, true, false, ◌==◌, if◌then◌else◌, map}
use Rattle.std.proofs.Common.{List, [], ◌∷◌, ◌++◌, Some, refl, sym, ap, ◌∙◌, subst, arith}
use Rattle.std.specs.BTreeMap.{BTreeMap, get, is_at, Updates}
use Rattle.std.specs.Option.{unwrap_or}
use Rattle.std.specs.Ordering.{nat_cmp}
use Rattle.std.proofs.lemmas.Bool.{eqb-true, eq-eqb}
use Rattle.std.proofs.lemmas.List.{map_push}
use Rattle.kernel_rules.proofs.HistoryLaws.{count-snoc, state_from-snoc}
use Rattle.kernel_rules.proofs.RecordLaws.{same_id}
use Rattle.kernel_rules.proofs.BatchLaws.{answered_calls, answered-snoc, by-snoc, state_after-snoc}
use Rattle.kernel_rules.specs.Events.{Event, calls_in, by, told}
use Rattle.kernel_rules.specs.History.{Start, answered, state_from, count}
use Rattle.kernel_rules.specs.declared.histories.events.Answered.{Answered}
use Rattle.kernel_rules.specs.Runs.{state_after}
use Rattle.kernel_rules.specs.State.{State}
use Rattle.kernel_rules.specs.Step.{answer, next}
use Rattle.kernel_rules.specs.declared.calls.Call.{Call}
use Rattle.kernel_rules.specs.declared.replies.Reply.{Reply}
use Rattle.plain_core.specs.Kernel.{kernel_state}
use Rattle.auditor.specs.Replay.{true_event, IsCounted, IsReplay, Takes}
use Rattle.auditor.specs.declared.replays.Replay.{Replay}

pub not_at : (t q : ℕ) → (t == q) ≡ false → is_at (nat_cmp t) q ≡ false
not_at t q differ =
    elim (is_at (nat_cmp t) q) as (λ v. is_at (nat_cmp t) q ≡ v → v ≡ false) [
      | true ↦ λ h.
          let yes : (t == q) ≡ true = eq-eqb t q (same_id t q h) in
          let clash : true ≡ false = sym yes ∙ differ in
          absurd (cc clash)
      | false ↦ λ h. refl
    ] refl

counted_more : (start : Start) (old new : BTreeMap ℕ ℕ) (events : List Event) (e : Event) (n : ℕ)
    → IsCounted start old events → n ≡ count e.thread events + start.first e.thread
    → Updates nat_cmp old new e.thread (Some n) → IsCounted start new (events ++ e ∷ [])
counted_more start old new events e n counted n_is updates q =
    let told : unwrap_or (get nat_cmp new q) 0 + 1
    ≡ (count q events + (if e.thread == q then 1 else 0)) + start.first q =
    elim (e.thread == q) as (λ b. (e.thread == q) ≡ b
    → unwrap_or (get nat_cmp new q) 0 + 1 ≡ (count q events + (if b then 1 else 0)) + start.first q) [
      | true ↦ λ is.
          subst (λ t. unwrap_or (get nat_cmp new t) 0 + 1 ≡ (count t events + 1) + start.first t)
          (eqb-true e.thread q is)
          (ap (λ o. unwrap_or o 0 + 1) updates.1 ∙ one_more n (count e.thread events) (start.first e.thread) n_is)
      | false ↦ λ is.
          ap (λ o. unwrap_or o 0 + 1) (updates.2 q (not_at e.thread q is)) ∙ counted q
          ∙ none_more (count q events) (start.first q)
    ] refl in
    told ∙ ap (λ k. k + start.first q) (sym (count-snoc q events e))
  where
    one_more : (n a b : ℕ) → n ≡ a + b → n + 1 ≡ (a + 1) + b
    one_more n a b h = omega arith

    none_more : (a b : ℕ) → a + b ≡ (a + 0) + b
    none_more a b = omega arith

-- after one event more the kernel is in the state of the events, and they are counted
pub replay_more : (start : Start) (old new : Replay) (e : Event) (key n : ℕ) → IsReplay start old
    → key ≡ e.thread → n ≡ unwrap_or (get nat_cmp old.counts e.thread) 0 + 1
    → Updates nat_cmp old.counts new.counts key (Some n)
    → kernel_state new.kernel ≡ state_after (kernel_state old.kernel) (by e.thread (calls_in e))
    → new.events.items ≡ old.events.items ++ true_event start old.events.items e ∷ []
    → Takes start old e new
replay_more start old new e key n was key_is n_is updates stepped events_are =
    let x = true_event start old.events.items e in
    let at : Updates nat_cmp old.counts new.counts e.thread (Some n) =
    subst (λ (k : ℕ). Updates nat_cmp old.counts new.counts k (Some n)) key_is updates in
    let there : kernel_state new.kernel ≡ state_from start.state (old.events.items ++ x ∷ []) =
    stepped ∙ ap (λ s. state_after s (by e.thread (calls_in e))) was.state
    ∙ ap (λ (cs : List Call). state_after (state_from start.state old.events.items) (by e.thread cs))
    (sym (answered_calls (state_from start.state old.events.items) e.thread (calls_in e)))
    ∙ sym (state_from-snoc start.state old.events.items x) in
    record {
      replay = record {
        state = there ∙ ap (state_from start.state) (sym events_are);
        counted = subst (λ (l : List Event). IsCounted start new.counts l) (sym events_are)
            (counted_more start old.counts new.counts old.events.items x n was.counted
            (n_is ∙ was.counted e.thread) at);
      };
      event = events_are;
    }

-- an event with the next number and the kernel's answers is true
pub true_is : (start : Start) (r : Replay) (e : Event) (n : ℕ) (made : List Answered) → IsReplay start r
    → n ≡ unwrap_or (get nat_cmp r.counts e.thread) 0 + 1
    → made ≡ answered (kernel_state r.kernel) e.thread (calls_in e)
    → record { thread = e.thread; number = n; calls = made } ≡ true_event start r.events.items e
true_is start r e n made is n_is made_is = λ i. record {
  thread = e.thread;
  number = (n_is ∙ is.counted e.thread) i;
  calls = (made_is ∙ ap (λ s. answered s e.thread (calls_in e)) is.state) i;
}

-- the first calls were made from a state, with these answers
pub record IsMade (old now : State) (thread : ℕ) (calls made : List Answered) : Type 0 where
  pub state : now ≡ state_after old (by thread (map (λ a. a.call) calls))
  pub answers : made ≡ answered old thread (map (λ a. a.call) calls)

-- one call more
pub made_more : (old now later : State) (thread : ℕ) (calls more made : List Answered) (a : Answered) (r : Reply)
    → more ≡ calls ++ a ∷ [] → IsMade old now thread calls made → r ≡ answer now thread a.call
    → later ≡ next now thread a.call → IsMade old later thread more (made ++ told a.call r ∷ [])
made_more old now later thread calls more made a r more_is h reply state =
    let cs = map (λ (x : Answered). x.call) calls in
    let all : map (λ (x : Answered). x.call) more ≡ cs ++ a.call ∷ [] =
    ap (map (λ (x : Answered). x.call)) more_is ∙ map_push (λ (x : Answered). x.call) calls a in
    record {
      state = state ∙ ap (λ s. next s thread a.call) h.state ∙ sym (state_after-snoc old (by thread cs) (thread, a.call))
          ∙ ap (state_after old) (sym (ap (by thread) all ∙ by-snoc thread cs a.call));
      answers = (λ i. h.answers i ++ told a.call ((reply ∙ ap (λ s. answer s thread a.call) h.state) i) ∷ [])
          ∙ sym (answered-snoc old thread cs a.call) ∙ ap (answered old thread) (sym all);
    }
