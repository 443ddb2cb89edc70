-- The state after events, and what writes it down.
use Rattle.std.proofs.Common.{◌≡◌, ℕ, ◌+◌, ◌<◌, ◌≤◌, ◌&&◌, true, nat_lt, nat_le, List, [], ◌∷◌, ◌++◌, length, take, map}
use Rattle.std.proofs.Common.{slice_index_or, refl, sym, ◌∙◌, ap, subst}
use Rattle.std.specs.List.{list_all}
use Rattle.std.proofs.lemmas.Bool.{and_parts, and_from, leb-true}
use Rattle.std.proofs.lemmas.List.{take_more}
use Rattle.base.specs.Limits.{in_range, spent}
use Rattle.base.specs.declared.ranges.Limits.{Limits}
use Rattle.kernel_rules.specs.Runs.{booted, state_after}
use Rattle.kernel_rules.specs.State.{State}
use Rattle.kernel_rules.specs.Step.{next}
use Rattle.kernel_rules.specs.WellFormed.{is_well_formed}
use Rattle.kernel_rules.specs.declared.calls.Call.{Call}
use Rattle.kernel_rules.specs.Events.{Event, by, calls_in}
use Rattle.kernel_rules.specs.History.{calls_of, state_of}
use Rattle.kernel_rules.specs.declared.histories.events.Answered.{Answered}
use Rattle.kernel_rules.proofs.BatchLaws.{by-snoc, state_after-snoc}
use Rattle.kernel_rules.proofs.HistoryLaws.{state_of-snoc}
use Rattle.kernel_rules.specs.declared.objects.Object.{Object}
use Rattle.checkpoints.specs.Reached.{IsSound}
use Rattle.checkpoints.specs.Restorable.{is_restorable, has_slots, filled_in, threads_rise}
use Rattle.checkpoints.specs.Restored.{restored, object_of}
use Rattle.checkpoints.specs.Checkpoint.{Checkpoint}
use Rattle.checkpoints.specs.declared.checkpoints.Recorded.{Recorded}
use Rattle.checkpoints.proofs.LimitsLaws.{run_limits}
use Rattle.checkpoints.proofs.SoundLaws.{sound_next, restorable_whole}

-- the first category is from 1
pub first_category : (l : Limits) → in_range l ≡ true → 1 ≤ l.next_category
first_category l h =
    let a = and_parts _ (nat_le l.next_category spent) h in
    leb-true 1 l.next_category (and_parts _ (nat_le 1 l.next_category) a.0).1

calls_snoc : (xs : List Answered) (a : Answered) → map (λ x. x.call) (xs ++ a ∷ []) ≡ map (λ x. x.call) xs ++ a.call ∷ []
calls_snoc [] a = refl
calls_snoc (x ∷ xs) a = ap (λ l. x.call ∷ l) (calls_snoc xs a)

-- one call more of a batch
pub made_more : (t : ℕ) (xs : List Answered) (i : ℕ) (a : Answered) (old s n : State) → i < length xs
    → a ≡ slice_index_or xs i a → s ≡ state_after old (by t (map (λ x. x.call) (take i xs))) → n ≡ next s t a.call
    → n ≡ state_after old (by t (map (λ x. x.call) (take (i + 1) xs)))
made_more t xs i a old s n within is before step =
    let before_calls : List Call = map (λ x. x.call) (take i xs) in
    step
    ∙ ap (λ z. next z t a.call) before
    ∙ sym (state_after-snoc old (by t before_calls) (t, a.call))
    ∙ ap (state_after old) (sym (by-snoc t before_calls a.call))
    ∙ ap (λ l. state_after old (by t l)) (sym (calls_snoc (take i xs) a))
    ∙ ap (λ (l : List Answered). state_after old (by t (map (λ x. x.call) l))) (sym more)
  where
    more : take (i + 1) xs ≡ take i xs ++ a ∷ []
    more = take_more xs i a within ∙ ap (λ (z : Answered). take i xs ++ z ∷ []) (sym is)

-- one event more
pub played_more : (l : Limits) (es : List Event) (i : ℕ) (e : Event) (s n : State) → i < length es
    → e ≡ slice_index_or es i e → s ≡ state_of l (take i es) → n ≡ state_after s (by e.thread (calls_in e))
    → n ≡ state_of l (take (i + 1) es)
played_more l es i e s n within is before step =
    step
    ∙ ap (λ z. state_after z (by e.thread (calls_in e))) before
    ∙ sym (state_of-snoc l (take i es) e)
    ∙ ap (state_of l) (sym more)
  where
    more : take (i + 1) es ≡ take i es ++ e ∷ []
    more = take_more es i e within ∙ ap (λ (z : Event). take i es ++ z ∷ []) (sym is)

pub sound_more : (l : Limits) (t : ℕ) (c : Call) (s n : State) → in_range l ≡ true → is_well_formed s ≡ true
    → is_well_formed n ≡ true → n ≡ next s t c → IsSound l s → IsSound l n
sound_more l t c s n range wf after step h =
    subst (λ (z : State). IsSound l z) (sym step)
    (sound_next l s t c (first_category l range) wf (ap is_well_formed (sym step) ∙ after) h)

-- the limits are those of the boot
played_limits : (l : Limits) (es : List Event) (s : State) → s ≡ state_of l es → s.limits ≡ l
played_limits l es s is = ap (λ (z : State). z.limits) is ∙ run_limits (booted l) (calls_of es)

-- what writes down the state of the events, with its own limits, does so with those of the boot
pub written_state : (l : Limits) (es : List Event) (s : State) (c : Checkpoint) → s ≡ state_of l es
    → restored s.limits c ≡ s → restored l c ≡ s
written_state l es s c is written = ap (λ (m : Limits). restored m c) (sym (played_limits l es s is)) ∙ written

both_tests : (es : List Recorded)
    → list_all (λ (e : ℕ × Object). nat_lt 0 e.0) (map (λ e. (e.id, object_of e.object)) es) ≡ true
    → list_all (λ (e : Recorded). has_slots (filled_in e.object.body)) es ≡ true
    → list_all (λ e. nat_lt 0 e.id && has_slots (filled_in e.object.body)) es ≡ true
both_tests [] ids slots = refl
both_tests (e ∷ es) ids slots =
    let i = and_parts (nat_lt 0 e.id) _ ids in
    let s = and_parts (has_slots (filled_in e.object.body)) _ slots in
    and_from (nat_lt 0 e.id && has_slots (filled_in e.object.body)) _
    (and_from (nat_lt 0 e.id) (has_slots (filled_in e.object.body)) i.0 s.0) (both_tests es i.1 s.1)

-- what writes down a sound state can be restored
pub written_restorable : (l : Limits) (c : Checkpoint) (s : State) → restored l c ≡ s
    → is_well_formed s ≡ true → IsSound l s
    → list_all (λ (e : Recorded). has_slots (filled_in e.object.body)) c.objects ≡ true
    → threads_rise c.next ≡ true → list_all (λ n. nat_le 2 n.number) c.next ≡ true
    → list_all (λ n. nat_lt n.thread c.next_id) c.next ≡ true → is_restorable l c ≡ true
written_restorable l c s is wf sound slots rise later threads =
    let sound' : IsSound l (restored l c) = subst (λ (z : State). IsSound l z) (sym is) sound in
    (restorable_whole l c).1 (record {
      well_formed = ap is_well_formed is ∙ wf;
      sound = sound';
      ordered = and_from (list_all (λ e. nat_lt 0 e.id && has_slots (filled_in e.object.body)) c.objects
          && threads_rise c.next) _
          (and_from (list_all (λ e. nat_lt 0 e.id && has_slots (filled_in e.object.body)) c.objects) _
          (both_tests c.objects sound'.ids slots) rise) later;
      threads = threads;
    })
