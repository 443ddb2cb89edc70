-- A journal without the events of hidden threads.
use Rattle.std.proofs.Common.{◌≡◌, ℕ, ◌+◌, true, false, List, [], ◌∷◌, ◌++◌, map, length}
use Rattle.std.proofs.Common.{cond, refl, sym, ◌∙◌, subst, arith}
use Rattle.std.proofs.lemmas.List.{append_assoc}
use Rattle.label_lattice.specs.Label.{LabelValue}
use Rattle.kernel_rules.specs.Events.{Event, by, calls_in}
use Rattle.kernel_rules.specs.History.{Start, IsLegalFrom, answered, calls_of, state_from}
use Rattle.kernel_rules.proofs.HistoryLaws.{state_from-snoc}
use Rattle.kernel_rules.proofs.BatchLaws.{state_after-append}
use Rattle.kernel_rules.specs.State.{State}
use Rattle.kernel_rules.specs.Runs.{state_after}
use Rattle.kernel_rules.specs.Step.{next}
use Rattle.kernel_rules.specs.WellFormed.{is_well_formed}
use Rattle.kernel_rules.specs.declared.calls.Call.{Call}
use Rattle.worlds.specs.Seen.{IsSame}
use Rattle.worlds.specs.TwoRuns.{ArePermitted, InBoth, InFirst, Move}
use Rattle.worlds.specs.Journals.{after_event, is_hidden_event, left, hidden_count, moves_of, AreAnswered}
use Rattle.worlds.specs.Journals.{JournalsTellNothing, LengthsTellHidden}
use Rattle.worlds.proofs.Together.{hidden, agreed_alike, first_on}
use Rattle.worlds.proofs.Unseen.{same_refl}
use Rattle.worlds.proofs.Wholeness.{well_formed_stays}

-- the two worlds before the rest of the moves
record Stand (l : LabelValue) (s n : State) (ms : List Move) : Type 0 where
  sound : is_well_formed s ≡ true
  sound_too : is_well_formed n ≡ true
  same : IsSame l s n
  permitted : ArePermitted l s n ms

hidden_calls : (l : LabelValue) (s n : State) (t : ℕ) (cs : List Call) (ms : List Move)
    → Stand l s n (map (InFirst t) cs ++ ms) → Stand l (state_after s (by t cs)) n ms
hidden_calls l s n t [] ms h = h
hidden_calls l s n t (c ∷ cs) ms h =
    hidden_calls l (next s t c) n t cs ms (record {
      sound = well_formed_stays s t c h.sound h.permitted.0;
      sound_too = h.sound_too;
      same = first_on l s n (next s t c) h.same (hidden l s t c h.sound h.permitted.1);
      permitted = h.permitted.2;
    })

calls_in_both : (l : LabelValue) (s n : State) (t : ℕ) (cs : List Call) (ms : List Move)
    → Stand l s n (map (InBoth t) cs ++ ms)
    → (answered n t cs ≡ answered s t cs) × Stand l (state_after s (by t cs)) (state_after n (by t cs)) ms
calls_in_both l s n t [] ms h = (refl, h)
calls_in_both l s n t (c ∷ cs) ms h =
    let both = agreed_alike l s n t c h.sound h.sound_too h.same h.permitted.1.0 h.permitted.1.1 in
    let rest = calls_in_both l (next s t c) (next n t c) t cs ms (record {
      sound = well_formed_stays s t c h.sound h.permitted.0;
      sound_too = well_formed_stays n t c h.sound_too h.permitted.0;
      same = both.1;
      permitted = h.permitted.2;
    }) in
    ((λ i. (record { call = c; reply = both.0 i }) ∷ rest.0 i), rest.1)

-- an event and what comes after it
whole : (s : State) (e : Event) (es : List Event) → state_from (after_event s e) es ≡ state_from s (e ∷ es)
whole s e es = sym (state_after-append s (by e.thread (calls_in e)) (calls_of es))

-- these of the events are answered in the second world, and l sees the same of both at the end
abbrev Purged : LabelValue → State → State → List Event → List Event → Type 0
Purged l s n es some = AreAnswered n some × IsSame l (state_from s es) (state_from n some)

purged : (l : LabelValue) (s n : State) (es : List Event) → Stand l s n (moves_of l s es) → AreAnswered s es
    → Purged l s n es (left l s es)
purged l s n [] h told = (tt, h.same)
purged l s n (e ∷ es) h told =
    elim (is_hidden_event l s e)
    as (λ b. is_hidden_event l s e ≡ b
    → Stand l s n (map (λ c. cond b (InFirst e.thread c) (InBoth e.thread c)) (calls_in e) ++ moves_of l (after_event s e) es)
    → Purged l s n (e ∷ es) (cond b (left l (after_event s e) es) (e ∷ left l (after_event s e) es))) [
      | true ↦ λ is stand.
          let rest = purged l (after_event s e) n es
          (hidden_calls l s n e.thread (calls_in e) (moves_of l (after_event s e) es) stand) told.1 in
          (rest.0, subst (λ (m : State). IsSame l m (state_from n (left l (after_event s e) es))) (whole s e es) rest.1)
      | false ↦ λ is stand.
          let both = calls_in_both l s n e.thread (calls_in e) (moves_of l (after_event s e) es) stand in
          let rest = purged l (after_event s e) (after_event n e) es both.1 told.1 in (
            (told.0 ∙ sym both.0, rest.0),
            subst (λ (m : State). IsSame l m (state_from n (e ∷ left l (after_event s e) es))) (whole s e es)
                (subst (λ (m : State). IsSame l (state_from (after_event s e) es) m)
                (whole n e (left l (after_event s e) es)) rest.1),
          )
    ] refl h

-- the replies of a legal journal, from each event on
told_from : (start : Start) (events : List Event) → IsLegalFrom start events → (before es : List Event)
    → events ≡ before ++ es → AreAnswered (state_from start.state before) es
told_from start events legal before [] is = tt
told_from start events legal before (e ∷ es) is = (
  (legal before es e is).replies,
  subst (λ (m : State). AreAnswered m es) (state_from-snoc start.state before e)
      (told_from start events legal (before ++ e ∷ []) es (is ∙ sym (append_assoc before (e ∷ []) es))),
)

pub journals_tell_nothing : JournalsTellNothing
journals_tell_nothing l start events sound legal permitted =
    purged l start.state start.state events (record {
      sound = sound;
      sound_too = sound;
      same = same_refl l start.state;
      permitted = permitted;
    }) (told_from start events legal [] events refl)

pub lengths_tell_hidden : LengthsTellHidden
lengths_tell_hidden l s [] = refl
lengths_tell_hidden l s (e ∷ es) =
    let rest : length es ≡ length (left l (after_event s e) es) + hidden_count l (after_event s e) es =
    lengths_tell_hidden l (after_event s e) es in
    elim (is_hidden_event l s e)
    as (λ b. length (e ∷ es) ≡ length (cond b (left l (after_event s e) es) (e ∷ left l (after_event s e) es))
    + (cond b 1 0 + hidden_count l (after_event s e) es)) [ true ↦ omega arith | false ↦ omega arith ]
