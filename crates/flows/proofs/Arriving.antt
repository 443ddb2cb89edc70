-- Each carrier came by hand-overs, and what an event reaches is the end of a flow.
use Rattle.std.proofs.Common.{◌≡◌, ◌≢◌, ℕ, zero, suc, ◌≤◌, ◌<◌, Bool, true, false, ◌&&◌, ◌==◌}
use Rattle.std.proofs.Common.{List, [], ◌∷◌, Option, Some, None, refl, sym, ◌∙◌, ap, subst, arith, inl, inr, slice_get}
use Rattle.std.proofs.lemmas.Bool.{eqb-true}
use Rattle.base.specs.Live.{has}
use Rattle.kernel_rules.specs.State.{State}
use Rattle.flow_rules.specs.Touched.{observed, enters_owner}
use Rattle.flow_rules.specs.Flows.{Way, HandOver, Flows, before, is_owner, passes, enters_in}
use Rattle.flow_rules.specs.Flows.{StaysOutside, LeadsFrom, IsInTime}
use Rattle.flow_rules.specs.Flows.Way.{Observing, Modifying}
use Rattle.flow_rules.specs.declared.steps.Step.{Step}
use Rattle.flow_rules.proofs.Sound.{Sound, sound_run, either}
use Rattle.flow_rules.proofs.Keeping.{AtLeast, owner}
use Rattle.flow_rules.proofs.Owners.{not_owner, written_outside}
use Rattle.flows.specs.Carriers.{touch_at, handed, carriers_after}
use Rattle.flows.proofs.Lists.{Met, met_by}
use Rattle.flows.proofs.Taking.{taker_from, handed_from, after_from}
use Rattle.flows.proofs.Carrying.{next_carriers, arrivals, carriers, reached_in, taken_in, IsOut, is_out, false_and, taken_high, carriers_high}

module _ (s : State) (events : List (ℕ × Step)) (c o : ℕ) (sound : Sound s) where
  -- hand-overs that came to x, which may hand on until event k
  record Carrying (k x : ℕ) : Type 0 where
    last : HandOver
    others : List HandOver
    leads : LeadsFrom s events c o last others
    to : last.to ≡ x
    in_time : IsInTime last.way last.event k
    outside : StaysOutside s events c x last.event k

  -- the same, before event k, of which nothing is known
  record Carried (k x : ℕ) : Type 0 where
    last : HandOver
    others : List HandOver
    leads : LeadsFrom s events c o last others
    to : last.to ≡ x
    in_time : last.event < k
    outside : (j : ℕ) → last.event ≤ j → j < k → (is_owner s events c x j ≡ false) × (passes s events c x j ≡ false)

  earlier : (w : Way) (i j : ℕ) → i < j → IsInTime w i j
  earlier Observing i j h = omega arith
  earlier Modifying i j h = h

  later : (w : Way) (i j : ℕ) → IsInTime w i j → i ≤ j
  later Observing i j h = h
  later Modifying i j h = omega arith

  -- in event k, if x stays outside there
  carries : (k x : ℕ) → Carried k x → is_owner s events c x k ≡ false → passes s events c x k ≡ false
      → Carrying k x
  carries k x h off past = record {
    last = h.last;
    others = h.others;
    leads = h.leads;
    to = h.to;
    in_time = earlier h.last.way h.last.event k h.in_time;
    outside = λ j low high.
        either j k (λ is. (ap (is_owner s events c x) is ∙ off, ap (passes s events c x) is ∙ past))
        (λ other. h.outside j low (omega arith));
  }

  -- and after it
  carried : (k x : ℕ) → Carrying k x → Carried (suc k) x
  carried k x h = record {
    last = h.last;
    others = h.others;
    leads = h.leads;
    to = h.to;
    in_time = (let le : h.last.event ≤ k = later h.last.way h.last.event k h.in_time in omega arith);
    outside = λ j low high. h.outside j low (omega arith);
  }

  -- whether x enters a gate in an event that is known
  pub passes_at : (k x : ℕ) (e : ℕ × Step) → slice_get events k ≡ Some e
      → passes s events c x k ≡ ((x == e.0) && enters_owner (before s events k) e.0 c e.1)
  passes_at k x e at = ap (enters_in (before s events k) c x) at

  passes_out : (k x : ℕ) (e : ℕ × Step) → slice_get events k ≡ Some e
      → enters_owner (before s events k) e.0 c e.1 ≡ false → passes s events c x k ≡ false
  passes_out k x e at h =
      passes_at k x e at ∙ false_and s events c o sound (x == e.0) (enters_owner (before s events k) e.0 c e.1) h

  passes_other : (k x : ℕ) (e : ℕ × Step) → slice_get events k ≡ Some e → x ≢ e.0
      → passes s events c x k ≡ false
  passes_other k x e at other =
      passes_at k x e at
      ∙ ap (λ b. b && enters_owner (before s events k) e.0 c e.1) (apart (x == e.0) (λ h. other (eqb-true x e.0 h)))
    where
      apart : (b : Bool) → (b ≡ true → ⊥) → b ≡ false
      apart true h = absurd (h refl)
      apart false h = refl

  -- each carrier came by hand-overs
  module _ (k : ℕ) (e : ℕ × Step) (at : slice_get events k ≡ Some e)
      (prior : (x : ℕ) → has (carriers s events c o sound k) x ≡ true → Carried k x) where
    -- who met one
    observing : IsOut s events c o sound k e → Met o (carriers s events c o sound k) (observed (before s events k) e.0 e.1) → Carrying k e.0
    observing out m =
        elim m.is as (λ _. Carrying k e.0) [
          | inl start ↦ record {
            last = record { event = k; way = Observing; from = m.met; to = e.0 };
            others = [];
            leads = ((e, at, (refl, m.among)), refl, start);
            to = refl;
            in_time = omega arith;
            outside = λ j low high.
                let is : j ≡ k = omega arith in (
                  ap (is_owner s events c e.0) is ∙ out.0,
                  ap (passes s events c e.0) is ∙ passes_out k e.0 e at out.1,
                );
          }
          | inr one ↦
              let from : Carrying k m.met =
              carries k m.met (prior m.met one)
              (not_owner (before s events k) c m.met (carriers_high s events c o sound k m.met one)) (passes_out k m.met e at out.1) in
              record {
                last = record { event = k; way = Observing; from = m.met; to = e.0 };
                others = from.last ∷ from.others;
                leads = (
                  (e, at, (refl, m.among)),
                  record { joined = sym from.to; in_time = from.in_time; outside = from.outside },
                  from.leads,
                );
                to = refl;
                in_time = omega arith;
                outside = λ j low high.
                    let is : j ≡ k = omega arith in (
                      ap (is_owner s events c e.0) is ∙ out.0,
                      ap (passes s events c e.0) is ∙ passes_out k e.0 e at out.1,
                    );
              }
        ]

    taken_carries : IsOut s events c o sound k e → (x : ℕ) → has (taken_in s events c o sound k e) x ≡ true → Carrying k x
    taken_carries out x h = elim (taker_from o (carriers s events c o sound k) (touch_at (before s events k) c e) x h) [
      | inl old ↦
          carries k x (prior x old) (not_owner (before s events k) c x (carriers_high s events c o sound k x old))
          (passes_out k x e at out.1)
      | inr new ↦
          subst (λ y. Carrying k y) (sym new.0)
          (observing out (met_by o (carriers s events c o sound k) (observed (before s events k) e.0 e.1) new.2))
    ]

    -- what is reached is the end of a flow
    ends_flow : (x : ℕ) → has (handed (taken_in s events c o sound k e) (touch_at (before s events k) c e)) x ≡ true
        → Flows s events c o x
    ends_flow x h =
        let parts = handed_from (taken_in s events c o sound k e) (touch_at (before s events k) c e) x h in
        let out = is_out s events c o sound k e parts.0 in
        let from : Carrying k e.0 = taken_carries out e.0 parts.1 in (
          record { event = k; way = Modifying; from = e.0; to = x },
          from.last ∷ from.others,
          record {
            leads = (
              (e, at, (refl, parts.2)),
              record { joined = sym from.to; in_time = from.in_time; outside = from.outside },
              from.leads,
            );
            last = refl;
            arrives = refl;
          },
        )

    handed_carried : (x : ℕ) → has (handed (taken_in s events c o sound k e) (touch_at (before s events k) c e)) x ≡ true
        → Carried (suc k) x
    unfolding ends_flow
    handed_carried x h =
        let parts = handed_from (taken_in s events c o sound k e) (touch_at (before s events k) c e) x h in
        let out = is_out s events c o sound k e parts.0 in
        let f = ends_flow x h in
        let high : AtLeast 1 (before s events k) c e.0 = taken_high s events c o sound k e (carriers_high s events c o sound k) e.0 parts.1 in
        let off : owner (before s events k) c x ≡ false =
        written_outside (before s events k) e.0 c x e.1 (sound_run s events k sound) high parts.2 in
        record {
          last = f.0;
          others = f.1;
          leads = f.2.leads;
          to = refl;
          in_time = omega arith;
          outside = λ j low below.
              let is : j ≡ k = omega arith in (
                ap (is_owner s events c x) is ∙ off,
                ap (passes s events c x) is ∙ passes_out k x e at out.1,
              );
        }

    after_carried : (x : ℕ)
        → has (carriers_after (taken_in s events c o sound k e) (touch_at (before s events k) c e)) x ≡ true → Carried (suc k) x
    after_carried x h =
        let parts = after_from (taken_in s events c o sound k e) (touch_at (before s events k) c e) x h in
        elim parts.0 [
          | inr given ↦ handed_carried x given
          | inl old ↦ elim parts.1 [
            | inr stays ↦ carried k x (taken_carries (is_out s events c o sound k e stays.0) x old)
            | inl other ↦ elim (taker_from o (carriers s events c o sound k) (touch_at (before s events k) c e) x old) [
              | inl one ↦
                  let past : passes s events c x k ≡ false = passes_other k x e at other in
                  carried k x
                  (carries k x (prior x one) (not_owner (before s events k) c x (carriers_high s events c o sound k x one)) past)
              | inr new ↦ absurd (other new.0)
            ]
          ]
        ]

  carriers_carried : (k x : ℕ) → has (carriers s events c o sound k) x ≡ true → Carried k x
  carriers_carried zero x h = absurd (cc)
  carriers_carried (suc k) x h = by_event (carriers_carried k) (slice_get events k) refl h
    where
      by_event : ((y : ℕ) → has (carriers s events c o sound k) y ≡ true → Carried k y) → (v : Option (ℕ × Step)) → slice_get events k ≡ v
          → has (next_carriers s events c o sound (before s events k) (carriers s events c o sound k) v) x ≡ true → Carried (suc k) x
      by_event prior None is g =
          carried k x (carries k x (prior x g)
          (not_owner (before s events k) c x (carriers_high s events c o sound k x g)) (ap (enters_in (before s events k) c x) is))
      by_event prior (Some e) is g = after_carried k e is prior x g

  -- what an event reaches is the end of a flow
  pub reached_flows : (k x : ℕ) → has (reached_in s events c o sound k) x ≡ true → Flows s events c o x
  reached_flows k x h = by_event (slice_get events k) refl h
    where
      by_event : (v : Option (ℕ × Step)) → slice_get events k ≡ v
          → has (arrivals s events c o sound (before s events k) (carriers s events c o sound k) v) x ≡ true → Flows s events c o x
      by_event None is g = absurd (cc)
      by_event (Some e) is g = ends_flow k e is (carriers_carried k) x g
