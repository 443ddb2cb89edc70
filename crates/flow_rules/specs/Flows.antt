-- Flows outside a category: lists of hand-overs from an object to a thread that observes it, from
-- that thread to what it modifies, and so on.
--
-- Events are counted from 0; each is a thread and its step. In all that follows s is the state before
-- the first of them, and c the category.
use Rattle.std.specs.Prelude.{◌≡◌, ℕ, zero, suc, ◌<◌, ◌≤◌, Bool, true, false, ◌&&◌, ◌==◌, List, []}
use Rattle.std.specs.Prelude.{◌∷◌, slice_get, Option, Some, None}
use Rattle.base.specs.Live.{has}
use Rattle.base.specs.declared.kinds.Kind.TheVariants as kinds
use Rattle.kernel_rules.specs.State.{State, is_kind_at}
use Rattle.flow_rules.specs.Touched.{owns, observed, modified, enters_owner, after}
use Rattle.flow_rules.specs.declared.steps.Step.{Step}

-- an object hands to the thread that observes it, or a thread hands to what it modifies
pub data Way : Type 0 where
  Observing : Way
  Modifying : Way

-- in this event one object or thread hands to another
pub record HandOver : Type 0 where
  pub event : ℕ
  pub way : Way
  pub from : ℕ
  pub to : ℕ

-- the state after an event that may not be there
abbrev pub after_event : State → Option (ℕ × Step) → State
after_event s None = s
after_event s (Some e) = after s e.0 e.1

-- thread t of the event enters a gate that owns the category
abbrev pub enters_in : State → ℕ → ℕ → Option (ℕ × Step) → Bool
enters_in s c t None = false
enters_in s c t (Some e) = (t == e.0) && enters_owner s e.0 c e.1

-- in an event of thread t what it observes hands to t, and t hands to what it modifies
abbrev pub Hands : State → ℕ × Step → Way → ℕ → ℕ → Type 0
Hands s e Observing o t = (t ≡ e.0) × (has (observed s e.0 e.1) o ≡ true)
Hands s e Modifying t o = (t ≡ e.0) × (has (modified s e.0 e.1) o ≡ true)

-- who observed hands on in the same event or a later one, and what was modified in a later one
abbrev pub IsInTime : Way → ℕ → ℕ → Type 0
IsInTime Observing i j = i ≤ j
IsInTime Modifying i j = i < j

module _ (s : State) (events : List (ℕ × Step)) where
  -- the state before event k
  abbrev pub before : ℕ → State
  before zero = s
  before (suc k) = after_event (before k) (slice_get events k)

  -- x is a thread that owns the category before event k
  abbrev pub is_owner : ℕ → ℕ → ℕ → Bool
  is_owner c x k = is_kind_at (before k) kinds.Thread x && owns (before k) c x

  -- thread x enters a gate that owns the category in event k
  abbrev pub passes : ℕ → ℕ → ℕ → Bool
  passes c x k = enters_in (before k) c x (slice_get events k)

  -- from the state before event i to that before event j x is no thread that owns the category, and
  -- in events i to j it enters no gate that owns it
  abbrev pub StaysOutside : ℕ → ℕ → ℕ → ℕ → Type 0
  StaysOutside c x i j =
      (k : ℕ) → i ≤ k → k ≤ j → (is_owner c x k ≡ false) × (passes c x k ≡ false)

  -- the hand-over is one of its event
  abbrev pub IsHandOver : HandOver → Type 0
  IsHandOver h =
      (e : ℕ × Step) × (slice_get events h.event ≡ Some e)
      × Hands (before h.event) e h.way h.from h.to

  -- h begins where g ended, in time, and who is in the middle stays outside until then
  pub record Follows (c : ℕ) (g h : HandOver) : Type 0 where
    pub joined : h.from ≡ g.to
    pub in_time : IsInTime g.way g.event h.event
    pub outside : StaysOutside c h.from g.event h.event

  -- the hand-overs, the last of them first, lead from object o outside the category
  abbrev pub LeadsFrom : ℕ → ℕ → HandOver → List HandOver → Type 0
  LeadsFrom c o h [] = IsHandOver h × (h.way ≡ Observing) × (h.from ≡ o)
  LeadsFrom c o h (g ∷ gs) = IsHandOver h × Follows c g h × LeadsFrom c o g gs

  -- a flow from object o to object p outside the category: such hand-overs, the last of which is that
  -- of a thread to p, which it modifies
  pub record IsFlow (c o p : ℕ) (h : HandOver) (hs : List HandOver) : Type 0 where
    pub leads : LeadsFrom c o h hs
    pub last : h.way ≡ Modifying
    pub arrives : h.to ≡ p

  -- there is a flow from o to p outside the category
  abbrev pub Flows : ℕ → ℕ → ℕ → Type 0
  Flows c o p = (h : HandOver) × (hs : List HandOver) × IsFlow c o p h hs

-- the event of the first hand-over
abbrev pub first_event : HandOver → List HandOver → ℕ
first_event h [] = h.event
first_event h (g ∷ gs) = first_event g gs
