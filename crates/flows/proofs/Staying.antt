-- Where hand-overs come to is a carrier, and where a flow ends is reached.
use Rattle.std.proofs.Common.{◌≡◌, ℕ, zero, suc, ◌<◌, ◌+◌, ◌-◌, true, false, ◌&&◌}
use Rattle.std.proofs.Common.{List, [], ◌∷◌, Option, Some, None, refl, sym, ◌∙◌, ap, subst, arith, ◌⊎◌, inl, inr, slice_get}
use Rattle.std.proofs.lemmas.Bool.{eq-eqb}
use Rattle.base.specs.Live.{has}
use Rattle.kernel_rules.specs.State.{State}
use Rattle.flow_rules.specs.Touched.{observed, enters_owner, after}
use Rattle.flow_rules.specs.Flows.{Way, HandOver, IsFlow, before, after_event, is_owner, passes, enters_in}
use Rattle.flow_rules.specs.Flows.{StaysOutside, Hands, LeadsFrom, IsInTime}
use Rattle.flow_rules.specs.Flows.Way.{Observing, Modifying}
use Rattle.flow_rules.specs.declared.steps.Step.{Step}
use Rattle.flow_rules.proofs.Sound.{Sound, either}
use Rattle.flow_rules.proofs.Keeping.{owner}
use Rattle.flows.specs.Carriers.{touch_at, meets, handed}
use Rattle.flows.specs.declared.touches.Touch.{Touch}
use Rattle.flows.proofs.Lists.{all_old, all_new}
use Rattle.flows.proofs.Lists.{meets_by}
use Rattle.flows.proofs.Taking.{taker_old, taker_new, handed_from, handed_new, after_kept}
use Rattle.flows.proofs.Carrying.{next_carriers, arrivals, carriers, reached_in, taken_in, IsOut, out_is}
use Rattle.flows.proofs.Arriving.{passes_at}

module _ (s : State) (events : List (ℕ × Step)) (c o : ℕ) (sound : Sound s) where
  -- a carrier that stays outside stays a carrier
  stays_on : (k x : ℕ) → has (carriers s events c o sound k) x ≡ true → is_owner s events c x k ≡ false
      → is_owner s events c x (suc k) ≡ false → passes s events c x k ≡ false → has (carriers s events c o sound (suc k)) x ≡ true
  stays_on k x h off off_then past =
      elim (slice_get events k)
      as (λ v. slice_get events k ≡ v → owner (after_event (before s events k) v) c x ≡ false
      → enters_in (before s events k) c x v ≡ false
      → has (next_carriers s events c o sound (before s events k) (carriers s events c o sound k) v) x ≡ true) [
        | None ↦ λ is then_off out. h
        | Some e ↦ λ is then_off out.
            let t : Touch = touch_at (before s events k) c e in
            after_kept (taken_in s events c o sound k e) t x
            (all_old (taken_in s events c o sound k e) (handed (taken_in s events c o sound k e) t) x (taker_old o (carriers s events c o sound k) t x h))
            (λ same. (
              out_is s events c o sound k e (ap (owner (before s events k) c) (sym same) ∙ off, only_enters x e same out),
              ap (owner (after (before s events k) e.0 e.1) c) (sym same) ∙ then_off,
            ))
      ] refl off_then past
    where
      only_enters : (x : ℕ) (e : ℕ × Step) → x ≡ e.0 → enters_in (before s events k) c x (Some e) ≡ false
          → enters_owner (before s events k) e.0 c e.1 ≡ false
      only_enters x e same out =
          subst (λ b. (b && enters_owner (before s events k) e.0 c e.1) ≡ false) (eq-eqb x e.0 same) out

  stays_until : (d k x : ℕ) → has (carriers s events c o sound k) x ≡ true → StaysOutside s events c x k (k + d)
      → has (carriers s events c o sound (k + d)) x ≡ true
  stays_until zero k x h outside =
      subst (λ j. has (carriers s events c o sound j) x ≡ true) (let e : k ≡ k + 0 = omega arith in e) h
  stays_until (suc d) k x h outside =
      let here = outside k (omega arith) (omega arith) in
      let then_is = outside (suc k) (omega arith) (omega arith) in
      subst (λ j. has (carriers s events c o sound j) x ≡ true) (let e : suc k + d ≡ k + suc d = omega arith in e)
      (stays_until d (suc k) x (stays_on k x h here.0 then_is.0 here.1)
      (λ j low high. outside j (omega arith) (omega arith)))

  -- what a hand-over in event i to x gives: who observed is among the takers, unless it owns the
  -- category or enters a gate that does; what was modified is reached
  record TakenAt (i x : ℕ) : Type 0 where
    caller : (e : ℕ × Step) → slice_get events i ≡ Some e → x ≡ e.0
    takes : (e : ℕ × Step) → slice_get events i ≡ Some e → IsOut s events c o sound i e → has (taken_in s events c o sound i e) e.0 ≡ true

  record GivenAt (i x : ℕ) : Type 0 where
    event : ℕ × Step
    is_event : slice_get events i ≡ Some event
    given : has (handed (taken_in s events c o sound i event) (touch_at (before s events i) c event)) x ≡ true

  abbrev Came : Way → ℕ → ℕ → Type 0
  Came Observing i x = (e : ℕ × Step) × (slice_get events i ≡ Some e) × TakenAt i x
  Came Modifying i x = GivenAt i x

  -- who came in event i and stays outside is a carrier after it
  came_next : (w : Way) (i x : ℕ) → Came w i x → is_owner s events c x i ≡ false
      → is_owner s events c x (suc i) ≡ false → passes s events c x i ≡ false → has (carriers s events c o sound (suc i)) x ≡ true
  came_next Observing i x came off off_then past =
      let e : ℕ × Step = came.0 in
      let t : Touch = touch_at (before s events i) c e in
      let same : x ≡ e.0 = came.2.caller e came.1 in
      let out : IsOut s events c o sound i e = (
        ap (owner (before s events i) c) (sym same) ∙ off,
        subst (λ b. (b && enters_owner (before s events i) e.0 c e.1) ≡ false) (eq-eqb x e.0 same)
            (sym (passes_at s events c o sound i x e came.1) ∙ past),
      ) in
      subst (λ v. has (next_carriers s events c o sound (before s events i) (carriers s events c o sound i) v) x ≡ true) (sym came.1)
      (after_kept (taken_in s events c o sound i e) t x
      (all_old (taken_in s events c o sound i e) (handed (taken_in s events c o sound i e) t) x
      (ap (has (taken_in s events c o sound i e)) same ∙ came.2.takes e came.1 out))
      (λ again. (
        out_is s events c o sound i e out,
        ap (owner (after (before s events i) e.0 e.1) c) (sym same)
            ∙ subst (λ v. owner (after_event (before s events i) v) c x ≡ false) came.1 off_then,
      )))
  came_next Modifying i x came off off_then past =
      let e : ℕ × Step = came.event in
      let t : Touch = touch_at (before s events i) c e in
      let parts = handed_from (taken_in s events c o sound i e) t x came.given in
      subst (λ v. has (next_carriers s events c o sound (before s events i) (carriers s events c o sound i) v) x ≡ true) (sym came.is_event)
      (after_kept (taken_in s events c o sound i e) t x (all_new (taken_in s events c o sound i e) (handed (taken_in s events c o sound i e) t) x came.given)
      (λ same. (
        parts.0,
        ap (owner (after (before s events i) e.0 e.1) c) (sym same)
            ∙ subst (λ v. owner (after_event (before s events i) v) c x ≡ false) came.is_event off_then,
      )))

  came_later : (w : Way) (i j x : ℕ) → i < j → Came w i x → StaysOutside s events c x i j
      → has (carriers s events c o sound j) x ≡ true
  came_later w i j x less came outside =
      let here = outside i (omega arith) (omega arith) in
      let then_is = outside (suc i) (omega arith) (omega arith) in
      let next : has (carriers s events c o sound (suc i)) x ≡ true = came_next w i x came here.0 then_is.0 here.1 in
      let at : suc i + (j - suc i) ≡ j = omega arith in
      subst (λ k. has (carriers s events c o sound k) x ≡ true) at
      (stays_until (j - suc i) (suc i) x next (λ k low high. outside k (omega arith) (omega arith)))

  -- a carrier, or the object itself, that is observed
  observed_taken : (j y t : ℕ) (e : ℕ × Step) → slice_get events j ≡ Some e
      → Hands (before s events j) e Observing y t → (y ≡ o) ⊎ (has (carriers s events c o sound j) y ≡ true) → Came Observing j t
  observed_taken j y t e at hands is = (
    e,
    at,
    record {
      caller = λ f here. hands.0 ∙ ap (λ z. z.0) (same_event (slice_get events j) e f at here);
      takes = λ f here out.
          let one : e ≡ f = same_event (slice_get events j) e f at here in
          taker_new o (carriers s events c o sound j) (touch_at (before s events j) c f) (out_is s events c o sound j f out)
          (subst (λ (g : ℕ × Step). meets o (carriers s events c o sound j) (observed (before s events j) g.0 g.1) ≡ true) one
          (meets_by o (carriers s events c o sound j) (observed (before s events j) e.0 e.1) y hands.1 is));
    },
  )
    where
      same_event : (v : Option (ℕ × Step)) (e f : ℕ × Step) → v ≡ Some e → v ≡ Some f → e ≡ f
      same_event v e f a b = let is : Some e ≡ Some f = sym a ∙ b in cc

  -- a thread among the takers that modifies
  modified_given : (j t y : ℕ) (e : ℕ × Step) → slice_get events j ≡ Some e
      → Hands (before s events j) e Modifying t y → IsOut s events c o sound j e → has (taken_in s events c o sound j e) e.0 ≡ true → GivenAt j y
  modified_given j t y e at hands out takes = record {
    event = e;
    is_event = at;
    given =
        handed_new (taken_in s events c o sound j e) (touch_at (before s events j) c e) y (out_is s events c o sound j e out) takes hands.1;
  }

  -- who stays outside in its own event
  own_out : (j t : ℕ) (e : ℕ × Step) → slice_get events j ≡ Some e → t ≡ e.0
      → is_owner s events c t j ≡ false → passes s events c t j ≡ false → IsOut s events c o sound j e
  own_out j t e at same off past = (
    ap (owner (before s events j) c) (sym same) ∙ off,
    subst (λ b. (b && enters_owner (before s events j) e.0 c e.1) ≡ false) (eq-eqb t e.0 same)
        (sym (passes_at s events c o sound j t e at) ∙ past),
  )

  -- one hand-over more
  goes_on : (gw hw : Way) (i j a b : ℕ) (e : ℕ × Step) → slice_get events j ≡ Some e
      → Hands (before s events j) e hw a b → IsInTime gw i j → StaysOutside s events c a i j
      → Came gw i a → Came hw j b
  goes_on Observing Observing i j a b e at hands time outside came =
      either i j
      (λ is.
      let here : Came Observing j a = subst (λ k. Came Observing k a) is came in
      subst (λ u. Came Observing j u) (here.2.caller e at ∙ sym hands.0) here)
      (λ apart. observed_taken j a b e at hands (inr (came_later Observing i j a (omega arith) came outside)))
  goes_on Modifying Observing i j a b e at hands time outside came =
      observed_taken j a b e at hands (inr (came_later Modifying i j a time came outside))
  goes_on Observing Modifying i j a b e at hands time outside came =
      let last = outside j time (omega arith) in
      let out : IsOut s events c o sound j e = own_out j a e at hands.0 last.0 last.1 in
      either i j
      (λ is.
      let here : Came Observing j a = subst (λ k. Came Observing k a) is came in
      modified_given j a b e at hands out (here.2.takes e at out))
      (λ apart.
      modified_given j a b e at hands out
      (taker_old o (carriers s events c o sound j) (touch_at (before s events j) c e) e.0
      (ap (has (carriers s events c o sound j)) (sym hands.0) ∙ came_later Observing i j a (omega arith) came outside)))
  goes_on Modifying Modifying i j a b e at hands time outside came =
      let last = outside j (omega arith) (omega arith) in
      let out : IsOut s events c o sound j e = own_out j a e at hands.0 last.0 last.1 in
      modified_given j a b e at hands out
      (taker_old o (carriers s events c o sound j) (touch_at (before s events j) c e) e.0
      (ap (has (carriers s events c o sound j)) (sym hands.0) ∙ came_later Modifying i j a time came outside))

  comes : (h : HandOver) (hs : List HandOver) → LeadsFrom s events c o h hs → Came h.way h.event h.to
  comes h [] leads =
      subst (λ w. Came w h.event h.to) (sym leads.1)
      (observed_taken h.event h.from h.to leads.0.0 leads.0.1
      (subst (λ w. Hands (before s events h.event) leads.0.0 w h.from h.to) leads.1 leads.0.2) (inl leads.2))
  comes h (g ∷ gs) leads =
      let f = leads.1 in
      goes_on g.way h.way g.event h.event h.from h.to leads.0.0 leads.0.1 leads.0.2 f.in_time f.outside
      (subst (λ x. Came g.way g.event x) (sym f.joined) (comes g gs leads.2))

  -- the end of a flow is reached in its last event
  pub flows_reached : (x : ℕ) (h : HandOver) (hs : List HandOver) → IsFlow s events c o x h hs
      → has (reached_in s events c o sound h.event) x ≡ true
  flows_reached x h hs flow =
      let came : GivenAt h.event h.to = subst (λ w. Came w h.event h.to) flow.last (comes h hs flow.leads) in
      subst (λ v. has (arrivals s events c o sound (before s events h.event) (carriers s events c o sound h.event) v) x ≡ true) (sym came.is_event)
      (ap (has (handed (taken_in s events c o sound h.event came.event) (touch_at (before s events h.event) c came.event)))
      (sym flow.arrives) ∙ came.given)
