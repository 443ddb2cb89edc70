-- The carriers before each event: none of them owns the category.
use Rattle.std.proofs.Common.{◌≡◌, ℕ, zero, suc, Bool, true, false, ◌&&◌, ◌==◌}
use Rattle.std.proofs.Common.{List, [], Option, Some, None, refl, sym, ◌∙◌, ap, subst, inl, inr, slice_get}
use Rattle.base.specs.Live.{has}
use Rattle.kernel_rules.specs.State.{State}
use Rattle.flow_rules.specs.Touched.{observed, enters_owner, after}
use Rattle.flow_rules.specs.Flows.{before, after_event}
use Rattle.flow_rules.specs.declared.steps.Step.{Step}
use Rattle.flow_rules.proofs.Sound.{Sound, sound_run, either}
use Rattle.flow_rules.proofs.Keeping.{AtLeast, owner, step_keeps}
use Rattle.flow_rules.proofs.Sights.{written_then}
use Rattle.flow_rules.proofs.Owners.{keeps_other, observer}
use Rattle.flows.specs.Carriers.{touch_at, takers, handed, carriers_after}
use Rattle.flows.proofs.Lists.{Met, met_by}
use Rattle.flows.proofs.Taking.{not-both, both-not, taker_from, handed_from, after_from}

module _ (s : State) (events : List (ℕ × Step)) (c o : ℕ) (sound : Sound s) where
  -- the carriers after an event that may not be there
  abbrev pub next_carriers : State → List ℕ → Option (ℕ × Step) → List ℕ
  next_carriers n cs None = cs
  next_carriers n cs (Some e) = carriers_after (takers o cs (touch_at n c e)) (touch_at n c e)

  -- what it reaches
  abbrev pub arrivals : State → List ℕ → Option (ℕ × Step) → List ℕ
  arrivals n cs None = []
  arrivals n cs (Some e) = handed (takers o cs (touch_at n c e)) (touch_at n c e)

  -- the carriers before event k
  abbrev pub carriers : ℕ → List ℕ
  carriers zero = []
  carriers (suc k) = next_carriers (before s events k) (carriers k) (slice_get events k)

  -- what event k reaches
  abbrev pub reached_in : ℕ → List ℕ
  reached_in k = arrivals (before s events k) (carriers k) (slice_get events k)

  -- the carriers once the thread of event k has observed
  abbrev pub taken_in : ℕ → ℕ × Step → List ℕ
  taken_in k e = takers o (carriers k) (touch_at (before s events k) c e)

  -- an event of thread t in which it neither owns the category nor enters a gate that does
  abbrev pub IsOut : ℕ → ℕ × Step → Type 0
  IsOut k e =
      (owner (before s events k) c e.0 ≡ false) × (enters_owner (before s events k) e.0 c e.1 ≡ false)

  pub is_out : (k : ℕ) (e : ℕ × Step) → (touch_at (before s events k) c e).outside ≡ true → IsOut k e
  is_out k e h = not-both (owner (before s events k) c e.0) (enters_owner (before s events k) e.0 c e.1) h

  pub out_is : (k : ℕ) (e : ℕ × Step) → IsOut k e → (touch_at (before s events k) c e).outside ≡ true
  out_is k e h = both-not (owner (before s events k) c e.0) (enters_owner (before s events k) e.0 c e.1) h.0 h.1

  pub false_and : (a b : Bool) → b ≡ false → (a && b) ≡ false
  false_and true b h = h
  false_and false b h = refl

  -- no carrier owns the category
  module _ (k : ℕ) (e : ℕ × Step)
      (prior : (x : ℕ) → has (carriers k) x ≡ true → AtLeast 1 (before s events k) c x) where
    pub taken_high : (x : ℕ) → has (taken_in k e) x ≡ true → AtLeast 1 (before s events k) c x
    taken_high x h = elim (taker_from o (carriers k) (touch_at (before s events k) c e) x h) [
      | inl old ↦ prior x old
      | inr new ↦
          let m : Met o (carriers k) (observed (before s events k) e.0 e.1) =
          met_by o (carriers k) (observed (before s events k) e.0 e.1) new.2 in
          subst (λ y. AtLeast 1 (before s events k) c y) (sym new.0)
          (observer (before s events k) e.0 c m.met e.1 (sound_run s events k sound) (is_out k e new.1).0 m.among)
    ]

    handed_high : (x : ℕ) → has (handed (taken_in k e) (touch_at (before s events k) c e)) x ≡ true
        → AtLeast 1 (after (before s events k) e.0 e.1) c x
    handed_high x h =
        let parts = handed_from (taken_in k e) (touch_at (before s events k) c e) x h in
        written_then 1 (before s events k) e.0 c x e.1 (sound_run s events k sound) (taken_high e.0 parts.1) parts.2

    after_high : (x : ℕ)
        → has (carriers_after (taken_in k e) (touch_at (before s events k) c e)) x ≡ true
        → AtLeast 1 (after (before s events k) e.0 e.1) c x
    after_high x h =
        let n : State = before s events k in
        let parts = after_from (taken_in k e) (touch_at (before s events k) c e) x h in
        elim parts.0 [
          | inr given ↦ handed_high x given
          | inl old ↦ either x e.0
              (λ is. elim parts.1 [
                | inl other ↦ absurd (other is)
                | inr stays ↦
                    let out = is_out k e stays.0 in
                    step_keeps 1 n e.0 c x e.1 (sound_run s events k sound) (taken_high x old)
                    (ap (owner n c) is ∙ out.0) (ap (owner (after n e.0 e.1) c) is ∙ stays.1)
                    (false_and (x == e.0) (enters_owner n e.0 c e.1) out.1)
              ])
              (λ other. keeps_other 1 n e.0 c x e.1 (sound_run s events k sound) (taken_high x old) other)
        ]

  pub carriers_high : (k x : ℕ) → has (carriers k) x ≡ true → AtLeast 1 (before s events k) c x
  carriers_high zero x h = absurd (cc)
  carriers_high (suc k) x h =
      elim (slice_get events k)
      as (λ v. has (next_carriers (before s events k) (carriers k) v) x ≡ true
      → AtLeast 1 (after_event (before s events k) v) c x) [
        | None ↦ λ g. carriers_high k x g
        | Some e ↦ λ g. after_high k e (carriers_high k) x g
      ] h
