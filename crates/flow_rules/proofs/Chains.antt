-- Along the hand-overs of a flow the level never falls.
use Rattle.std.proofs.Common.{◌≡◌, ℕ, zero, suc, ◌≤◌, ◌<◌, ◌+◌, ◌-◌, true, false, ◌&&◌, List, [], ◌∷◌}
use Rattle.std.proofs.Common.{Option, Some, None, refl, sym, ◌∙◌, ap, subst, arith, slice_get}
use Rattle.std.specs.Option.{option_map}
use Rattle.std.proofs.lemmas.Bool.{eq-eqb}
use Rattle.base.specs.Level.{rank_of}
use Rattle.base.specs.Live.{has}
use Rattle.label_lattice.specs.Label.{LabelValue, level}
use Rattle.kernel_rules.specs.State.{State, object_at, label_at}
use Rattle.kernel_rules.specs.WellFormed.{is_well_formed}
use Rattle.kernel_rules.specs.declared.objects.Object.{Object}
use Rattle.flow_rules.specs.Touched.{observed, modified, enters_owner, after}
use Rattle.flow_rules.specs.Flows.{Way, HandOver, IsFlow, before, first_event, after_event, is_owner, passes, enters_in}
use Rattle.flow_rules.specs.Flows.{StaysOutside, Hands, LeadsFrom, IsInTime}
use Rattle.flow_rules.specs.Flows.Way.{Observing, Modifying}
use Rattle.flow_rules.specs.declared.steps.Step.{Step}
use Rattle.flow_rules.proofs.Levels.{rank}
use Rattle.flow_rules.proofs.Sound.{Sound, sound_from, sound_run, either}
use Rattle.flow_rules.proofs.Keeping.{AtLeast, owner, step_keeps}
use Rattle.flow_rules.proofs.Sights.{seen_now, seen_then, written_then, modifies_outside, enters_gate}

module _ (r : ℕ) (s : State) (events : List (ℕ × Step)) (c : ℕ) (sound : Sound s) where
  -- one event more
  event_keeps : (k x : ℕ) → AtLeast r (before s events k) c x → is_owner s events c x k ≡ false
      → is_owner s events c x (suc k) ≡ false → passes s events c x k ≡ false
      → AtLeast r (before s events (suc k)) c x
  event_keeps k x least off off_then outside =
      elim (slice_get events k)
      as (λ v. slice_get events k ≡ v → owner (after_event (before s events k) v) c x ≡ false
      → enters_in (before s events k) c x v ≡ false → AtLeast r (after_event (before s events k) v) c x) [
        | None ↦ λ is then_off past. least
        | Some e ↦ λ is then_off past.
            step_keeps r (before s events k) e.0 c x e.1 (sound_run s events k sound) least off then_off past
      ] refl off_then outside

  -- and many, in which x stays outside
  keeps_on : (d k x : ℕ) → AtLeast r (before s events k) c x → StaysOutside s events c x k (k + d)
      → AtLeast r (before s events (k + d)) c x
  keeps_on zero k x least outside =
      subst (λ j. AtLeast r (before s events j) c x) (let e : k ≡ k + 0 = omega arith in e) least
  keeps_on (suc d) k x least outside =
      let here = outside k (omega arith) (omega arith) in
      let then_is = outside (suc k) (omega arith) (omega arith) in
      let next : AtLeast r (before s events (suc k)) c x = event_keeps k x least here.0 then_is.0 here.1 in
      let more : suc k + d ≡ k + suc d = omega arith in
      subst (λ j. AtLeast r (before s events j) c x) more
      (keeps_on d (suc k) x next (λ j low high. outside j (omega arith) (omega arith)))

  keeps_until : (k j x : ℕ) → k ≤ j → AtLeast r (before s events k) c x → StaysOutside s events c x k j
      → AtLeast r (before s events j) c x
  keeps_until k j x le least outside =
      let at : k + (j - k) ≡ j = omega arith in
      subst (λ i. AtLeast r (before s events i) c x) at
      (keeps_on (j - k) k x least (λ i low high. outside i low (omega arith)))

  -- what a thread has that observed in event i: the level from the next event on, and in the same
  -- event unless that enters a gate
  record Took (i t : ℕ) : Type 0 where
    caller : (e : ℕ × Step) → slice_get events i ≡ Some e → t ≡ e.0
    now : (e : ℕ × Step) → slice_get events i ≡ Some e → enters_gate e.1 ≡ false
        → is_owner s events c t i ≡ false → AtLeast r (before s events i) c t
    later : is_owner s events c t i ≡ false → is_owner s events c t (suc i) ≡ false
        → passes s events c t i ≡ false → AtLeast r (before s events (suc i)) c t

  Reached : Way → ℕ → ℕ → Type 0
  Reached Observing i t = Took i t
  Reached Modifying i o = AtLeast r (before s events (suc i)) c o

  -- from there to a later event
  reached_later : (w : Way) (i j x : ℕ) → i < j → Reached w i x → StaysOutside s events c x i j
      → AtLeast r (before s events j) c x
  unfolding Reached
  reached_later Observing i j x less took outside =
      let here = outside i (omega arith) (omega arith) in
      let then_is = outside (suc i) (omega arith) (omega arith) in
      keeps_until (suc i) j x (omega arith) (took.later here.0 then_is.0 here.1)
      (λ k low high. outside k (omega arith) high)
  reached_later Modifying i j x less least outside =
      keeps_until (suc i) j x (omega arith) least (λ k low high. outside k (omega arith) high)

  same_event : (v : Option (ℕ × Step)) (e f : ℕ × Step) → v ≡ Some e → v ≡ Some f → e ≡ f
  same_event v e f a b = let is : Some e ≡ Some f = sym a ∙ b in cc

  -- a thread that observes what has the level
  takes : (i o t : ℕ) (e : ℕ × Step) → slice_get events i ≡ Some e → t ≡ e.0
      → has (observed (before s events i) e.0 e.1) o ≡ true
      → ((x : Object) → object_at (before s events i) o ≡ Some x → r ≤ rank x.label c) → Took i t
  takes i o t e at caller seen high = record {
    caller = λ f here. caller ∙ ap (λ z. z.0) (same_event (slice_get events i) e f at here);
    now = λ f here gate off.
        subst (λ u. AtLeast r (before s events i) c u) (sym caller)
        (seen_now r (before s events i) e.0 c o e.1 (sound_run s events i sound)
        (subst (λ (z : ℕ × Step). enters_gate z.1 ≡ false) (same_event (slice_get events i) f e here at) gate)
        (subst (λ u. is_owner s events c u i ≡ false) caller off) seen high);
    later = λ off off_then past.
        subst (λ v. AtLeast r (after_event (before s events i) v) c t) (sym at)
        (subst (λ u. AtLeast r (after (before s events i) e.0 e.1) c u) (sym caller)
        (seen_then r (before s events i) e.0 c o e.1 (sound_run s events i sound)
        (subst (λ u. is_owner s events c u i ≡ false) caller off)
        (subst (λ u. owner (after (before s events i) e.0 e.1) c u ≡ false) caller
        (subst (λ v. owner (after_event (before s events i) v) c t ≡ false) at off_then))
        (subst (λ b. (b && enters_owner (before s events i) e.0 c e.1) ≡ false) (eq-eqb t e.0 caller)
        (subst (λ v. enters_in (before s events i) c t v ≡ false) at past)) seen high));
  }

  -- a thread that has the level in an event in which it modifies
  gives : (i t p : ℕ) (e : ℕ × Step) → slice_get events i ≡ Some e → t ≡ e.0
      → has (modified (before s events i) e.0 e.1) p ≡ true → AtLeast r (before s events i) c t
      → AtLeast r (before s events (suc i)) c p
  gives i t p e at caller written least =
      subst (λ v. AtLeast r (after_event (before s events i) v) c p) (sym at)
      (written_then r (before s events i) e.0 c p e.1 (sound_run s events i sound)
      (subst (λ u. AtLeast r (before s events i) c u) caller least) written)

  -- one hand-over more
  onward : (gw hw : Way) (i j a b : ℕ) (e : ℕ × Step) → slice_get events j ≡ Some e
      → Hands (before s events j) e hw a b → IsInTime gw i j → StaysOutside s events c a i j
      → Reached gw i a → Reached hw j b
  unfolding Reached
  onward Observing Observing i j a b e at hands time outside took =
      either i j
      (λ is.
      let here : Took j a = subst (λ k. Took k a) is took in
      subst (λ u. Took j u) (here.caller e at ∙ sym hands.0) here)
      (λ apart. takes j a b e at hands.0 hands.1
      (reached_later Observing i j a (omega arith) took outside).high)
  onward Modifying Observing i j a b e at hands time outside least =
      takes j a b e at hands.0 hands.1 (reached_later Modifying i j a time least outside).high
  onward Observing Modifying i j a b e at hands time outside took =
      either i j
      (λ is.
      let here : Took j a = subst (λ k. Took k a) is took in
      gives j a b e at hands.0 hands.1
      (here.now e at (modifies_outside (before s events j) e.0 b e.1 hands.1) (outside j (omega arith) (omega arith)).0))
      (λ apart. gives j a b e at hands.0 hands.1 (reached_later Observing i j a (omega arith) took outside))
  onward Modifying Modifying i j a b e at hands time outside least =
      gives j a b e at hands.0 hands.1 (reached_later Modifying i j a time least outside)

  -- what the hand-overs come to has the level that they began with
  reach : (o : ℕ) (h : HandOver) (hs : List HandOver) → LeadsFrom s events c o h hs
      → ((x : Object) → object_at (before s events (first_event h hs)) o ≡ Some x → r ≤ rank x.label c)
      → Reached h.way h.event h.to
  unfolding Reached
  reach o h [] leads high =
      let e = leads.0.0 in
      let hands : Hands (before s events h.event) e Observing h.from h.to =
      subst (λ w. Hands (before s events h.event) e w h.from h.to) leads.1 leads.0.2 in
      subst (λ w. Reached w h.event h.to) (sym leads.1)
      (takes h.event h.from h.to e leads.0.1 hands.0 hands.1
      (λ x at. high x (ap (object_at (before s events h.event)) (sym leads.2) ∙ at)))
  reach o h (g ∷ gs) leads high =
      let f = leads.1 in
      onward g.way h.way g.event h.event h.from h.to leads.0.0 leads.0.1 leads.0.2 f.in_time f.outside
      (subst (λ x. Reached g.way g.event x) (sym f.joined) (reach o g gs leads.2 high))

  -- the last hand-over of a flow
  arrive : (o p : ℕ) (h : HandOver) (hs : List HandOver) → IsFlow s events c o p h hs
      → ((x : Object) → object_at (before s events (first_event h hs)) o ≡ Some x → r ≤ rank x.label c)
      → AtLeast r (before s events (suc h.event)) c p
  unfolding Reached
  arrive o p h hs flow high =
      subst (λ x. AtLeast r (before s events (suc h.event)) c x) flow.arrives
      (subst (λ w. Reached w h.event h.to) flow.last (reach o h hs flow.leads high))

-- who has a label
labelled : (v : Option Object) (l : LabelValue) → option_map (λ x. x.label) v ≡ Some l
    → (x : Object) × (v ≡ Some x) × (x.label ≡ l)
labelled None l h = absurd (cc)
labelled (Some x) l h = (x, refl, cc)

pub levels_rise_lem : (s : State) (events : List (ℕ × Step)) (c o p : ℕ) (h : HandOver) (hs : List HandOver)
    → is_well_formed s ≡ true → IsFlow s events c o p h hs → (x y : LabelValue)
    → label_at (before s events (first_event h hs)) o ≡ Some x
    → label_at (before s events (suc h.event)) p ≡ Some y
    → rank_of (level x c) ≤ rank_of (level y c)
levels_rise_lem s events c o p h hs formed flow x y first last =
    let there = labelled (object_at (before s events (suc h.event)) p) y last in
    let least : AtLeast (rank x c) (before s events (suc h.event)) c p =
    arrive (rank x c) s events c (sound_from s formed) o p h hs flow
    (λ z at.
    let same : Some z.label ≡ Some x = ap (option_map (λ w. w.label)) (sym at) ∙ first in
    let is : z.label ≡ x = cc in
    subst (λ (l : LabelValue). rank x c ≤ rank l c) (sym is) (omega arith)) in
    subst (λ (l : LabelValue). rank x c ≤ rank l c) there.2 (least.high there.0 there.1)
