-- What carriers reach is what flows reach.
use Rattle.std.proofs.Common.{◌≡◌, ℕ, suc, ◌≤◌, ◌+◌, ◌-◌, true}
use Rattle.std.proofs.Common.{List, [], ◌∷◌, Some, None, sym, ◌∙◌, ap, subst, arith, ◌⊎◌, inl, inr, slice_get}
use Rattle.std.proofs.lemmas.Bool.{both_ways}
use Rattle.base.specs.Live.{has}
use Rattle.kernel_rules.specs.State.{State}
use Rattle.kernel_rules.specs.WellFormed.{is_well_formed}
use Rattle.flow_rules.specs.Touched.{observed, after}
use Rattle.flow_rules.specs.Flows.{HandOver, Flows, before, after_event}
use Rattle.flow_rules.specs.Flows.{Hands, LeadsFrom}
use Rattle.flow_rules.specs.Flows.Way.{Observing}
use Rattle.flow_rules.specs.declared.steps.Step.{Step}
use Rattle.flow_rules.proofs.Sound.{Sound, sound_boot, sound_from, either}
use Rattle.flows.specs.Carriers.{touch_at, touches, reached, starts, all_placed, handed, carriers_after}
use Rattle.std.proofs.Common.{IsTrue, ◌↔◌}
use Rattle.base.specs.Limits.{in_range}
use Rattle.base.specs.declared.ranges.Limits.{Limits}
use Rattle.kernel_rules.specs.Runs.{booted}
use Rattle.flows.specs.declared.touches.Touch.{Touch}
use Rattle.flows.proofs.Lists.{all_placed_old, all_placed_new, all_placed_from}
use Rattle.flows.proofs.Carrying.{next_carriers, arrivals, carriers, reached_in, taken_in}
use Rattle.flows.proofs.Arriving.{reached_flows}
use Rattle.flows.proofs.Staying.{flows_reached}

module _ (s : State) (events : List (ℕ × Step)) (c o : ℕ) (sound : Sound s) where
  -- the rest of the events stands at its places
  abbrev IsRest : ℕ → List (ℕ × Step) → Type 0
  IsRest k rest = (i : ℕ) → slice_get rest i ≡ slice_get events (k + i)

  rest_first : (k : ℕ) (e : ℕ × Step) (es : List (ℕ × Step)) → IsRest k (e ∷ es) → slice_get events k ≡ Some e
  rest_first k e es here =
      let at : k ≡ k + 0 = omega arith in ap (slice_get events) at ∙ sym (here 0)

  rest_more : (k : ℕ) (e : ℕ × Step) (es : List (ℕ × Step)) → IsRest k (e ∷ es) → IsRest (suc k) es
  rest_more k e es here i =
      let at : k + suc i ≡ suc k + i = omega arith in here (suc i) ∙ ap (slice_get events) at

  -- what is left after one event
  one_on : (k : ℕ) (e : ℕ × Step) (es : List (ℕ × Step)) (found : List ℕ) → slice_get events k ≡ Some e
      → reached o (carriers s events c o sound (suc k)) found (touches (before s events (suc k)) c es)
      ≡ reached o (carriers_after (taken_in s events c o sound k e) (touch_at (before s events k) c e)) found
      (touches (after (before s events k) e.0 e.1) c es)
  one_on k e es found at =
      ap (λ v. reached o (next_carriers s events c o sound (before s events k) (carriers s events c o sound k) v) found
      (touches (after_event (before s events k) v) c es)) at

  given_at : (k : ℕ) (e : ℕ × Step) (p : ℕ) → slice_get events k ≡ Some e
      → has (reached_in s events c o sound k) p ≡ has (handed (taken_in s events c o sound k e) (touch_at (before s events k) c e)) p
  given_at k e p at = ap (λ v. has (arrivals s events c o sound (before s events k) (carriers s events c o sound k) v) p) at

  -- what is reached in the rest was found before, or is reached in one of its events
  fold_from : (k p : ℕ) (found : List ℕ) (rest : List (ℕ × Step)) → IsRest k rest
      → has (reached o (carriers s events c o sound k) found (touches (before s events k) c rest)) p ≡ true
      → (has found p ≡ true) ⊎ ((j : ℕ) × (has (reached_in s events c o sound j) p ≡ true))
  fold_from k p found [] here h = inl h
  fold_from k p found (e ∷ es) here h =
      let at : slice_get events k ≡ Some e = rest_first k e es here in
      let new : List ℕ = handed (taken_in s events c o sound k e) (touch_at (before s events k) c e) in
      elim (fold_from (suc k) p (all_placed found new) es (rest_more k e es here)
      (ap (λ ids. has ids p) (one_on k e es (all_placed found new) at) ∙ h)) [
        | inr later ↦ inr later
        | inl now ↦ elim (all_placed_from found new p now) [
          | inl old ↦ inl old
          | inr given ↦ inr (k, given_at k e p at ∙ given)
        ]
      ]

  fold_found : (k p : ℕ) (found : List ℕ) (rest : List (ℕ × Step)) → IsRest k rest → has found p ≡ true
      → has (reached o (carriers s events c o sound k) found (touches (before s events k) c rest)) p ≡ true
  fold_found k p found [] here h = h
  fold_found k p found (e ∷ es) here h =
      let at : slice_get events k ≡ Some e = rest_first k e es here in
      let new : List ℕ = handed (taken_in s events c o sound k e) (touch_at (before s events k) c e) in
      ap (λ ids. has ids p) (sym (one_on k e es (all_placed found new) at))
      ∙ fold_found (suc k) p (all_placed found new) es (rest_more k e es here) (all_placed_old found new p h)

  fold_reached : (k j p : ℕ) (found : List ℕ) (rest : List (ℕ × Step)) → IsRest k rest → k ≤ j
      → has (reached_in s events c o sound j) p ≡ true
      → has (reached o (carriers s events c o sound k) found (touches (before s events k) c rest)) p ≡ true
  fold_reached k j p found [] here le h =
      let none : slice_get events j ≡ None =
      (let at : k + (j - k) ≡ j = omega arith in
      ap (slice_get events) (sym at) ∙ sym (here (j - k))) in
      absurd (both_ways (has (reached_in s events c o sound j) p)
      (ap (λ v. has (arrivals s events c o sound (before s events j) (carriers s events c o sound j) v) p) none) h)
  fold_reached k j p found (e ∷ es) here le h =
      let at : slice_get events k ≡ Some e = rest_first k e es here in
      let new : List ℕ = handed (taken_in s events c o sound k e) (touch_at (before s events k) c e) in
      ap (λ ids. has ids p) (sym (one_on k e es (all_placed found new) at))
      ∙ either j k
      (λ is.
      let given : has new p ≡ true = sym (given_at k e p at) ∙ ap (λ i. has (reached_in s events c o sound i) p) (sym is) ∙ h in
      fold_found (suc k) p (all_placed found new) es (rest_more k e es here) (all_placed_new found new p given))
      (λ other. fold_reached (suc k) j p (all_placed found new) es (rest_more k e es here) (omega arith) h)

  -- the object that a flow begins with is observed
  first_seen : (h : HandOver) (hs : List HandOver) → LeadsFrom s events c o h hs
      → (k : ℕ) × (e : ℕ × Step) × (slice_get events k ≡ Some e)
      × (has (observed (before s events k) e.0 e.1) o ≡ true)
  first_seen h [] leads =
      let hands : Hands (before s events h.event) leads.0.0 Observing h.from h.to =
      subst (λ w. Hands (before s events h.event) leads.0.0 w h.from h.to) leads.1 leads.0.2 in (
        h.event,
        leads.0.0,
        leads.0.1,
        ap (has (observed (before s events h.event) leads.0.0.0 leads.0.0.1)) (sym leads.2) ∙ hands.1,
      )
  first_seen h (g ∷ gs) leads = first_seen g gs leads.2

  starts_old : (k : ℕ) (found : List ℕ) (ts : List Touch) → has found o ≡ true → has (starts found ts) o ≡ true
  starts_old k found [] h = h
  starts_old k found (t ∷ ts) h = starts_old k (all_placed found t.observed) ts (all_placed_old found t.observed o h)

  starts_new : (k j : ℕ) (found : List ℕ) (rest : List (ℕ × Step)) (e : ℕ × Step) → IsRest k rest → k ≤ j
      → slice_get events j ≡ Some e → has (observed (before s events j) e.0 e.1) o ≡ true
      → has (starts found (touches (before s events k) c rest)) o ≡ true
  starts_new k j found [] e here le at h =
      let none : slice_get events j ≡ None =
      (let sum : k + (j - k) ≡ j = omega arith in
      ap (slice_get events) (sym sum) ∙ sym (here (j - k))) in
      absurd (cc)
  starts_new k j found (f ∷ fs) e here le at h =
      let first : slice_get events k ≡ Some f = rest_first k f fs here in
      let new : List ℕ = observed (before s events k) f.0 f.1 in
      either j k
      (λ is.
      let same : Some e ≡ Some f = sym at ∙ ap (slice_get events) is ∙ first in
      let one : e ≡ f = cc in
      starts_old k (all_placed found new) (touches (after (before s events k) f.0 f.1) c fs)
      (all_placed_new found new o
      (subst (λ (g : ℕ × Step). has (observed (before s events k) g.0 g.1) o ≡ true) one
      (subst (λ i. has (observed (before s events i) e.0 e.1) o ≡ true) is h))))
      (λ other.
      ap (λ v. has (starts (all_placed found new) (touches (after_event (before s events k) v) c fs)) o) (sym first)
      ∙ starts_new (suc k) j (all_placed found new) fs e (rest_more k f fs here) (omega arith) at h)

  all_here : IsRest 0 events
  all_here i = let at : i ≡ 0 + i = omega arith in ap (slice_get events) at

  exact_run : (p : ℕ) → IsTrue (has (reached o [] [] (touches s c events)) p) ↔ Flows s events c o p
  exact_run p = (
    λ h. elim (fold_from 0 p [] events all_here h) [
      | inl never ↦ absurd (cc)
      | inr found ↦ reached_flows s events c o sound found.0 p found.1
    ],
    λ flow.
        fold_reached 0 flow.0.event p [] events all_here (omega arith)
        (flows_reached s events c o sound p flow.0 flow.1 flow.2),
  )

-- what is reached from an object that is never observed is nothing
pub exact_starts : (limits : Limits) (events : List (ℕ × Step)) (c o p : ℕ) → in_range limits ≡ true
    → Flows (booted limits) events c o p → has (starts [] (touches (booted limits) c events)) o ≡ true
exact_starts limits events c o p range flow =
    let sound : Sound (booted limits) = sound_boot limits range in
    let seen = first_seen (booted limits) events c o sound flow.0 flow.1 flow.2.leads in
    starts_new (booted limits) events c o sound 0 seen.0 [] events seen.1
    (all_here (booted limits) events c o sound) (omega arith) seen.2 seen.3

-- the same, from any well-formed state
pub exact_from : (s : State) (events : List (ℕ × Step)) (c o p : ℕ) → is_well_formed s ≡ true
    → IsTrue (has (reached o [] [] (touches s c events)) p) ↔ Flows s events c o p
exact_from s events c o p formed = exact_run s events c o (sound_from s formed) p

pub exact : (limits : Limits) (events : List (ℕ × Step)) (c o p : ℕ) → in_range limits ≡ true
    → IsTrue (has (reached o [] [] (touches (booted limits) c events)) p)
    ↔ Flows (booted limits) events c o p
exact limits events c o p range = exact_run (booted limits) events c o (sound_boot limits range) p
