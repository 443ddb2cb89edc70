-- Which objects flows from one object reach, by carriers: a list of ids that have what the object
-- handed on, and may hand it on, which grows and shrinks event by event.
use Rattle.std.specs.Prelude.{ℕ, Bool, not, ◌&&◌, ◌||◌, ◌==◌, List, [], ◌∷◌, ◌++◌}
use Rattle.std.specs.Prelude.{if◌then◌else◌, nat_lt, map}
use Rattle.std.specs.List.{list_any}
use Rattle.base.specs.Live.{has}
use Rattle.base.specs.declared.kinds.Kind.TheVariants as kinds
use Rattle.kernel_rules.specs.Changes.{without}
use Rattle.kernel_rules.specs.State.{State, is_kind_at}
use Rattle.flow_rules.specs.Touched.{owns, observed, modified, enters_owner, after}
use Rattle.flow_rules.specs.declared.steps.Step.{Step}
use Rattle.flows.specs.declared.touches.Touch.{Touch}

-- t is a thread that owns category c
abbrev pub is_owner_in : State → ℕ → ℕ → Bool
is_owner_in s c t = is_kind_at s kinds.Thread t && owns s c t

-- what an event does in a state to flows outside a category
abbrev pub touch_at : State → ℕ → ℕ × Step → Touch
touch_at s c e = record {
  thread = e.0;
  observed = observed s e.0 e.1;
  modified = modified s e.0 e.1;
  outside = not (is_owner_in s c e.0) && not (enters_owner s e.0 c e.1);
  owner = is_owner_in (after s e.0 e.1) c e.0;
}

-- and what these events do, one after another
abbrev pub touches : State → ℕ → List (ℕ × Step) → List Touch
touches s c [] = []
touches s c (e ∷ es) = touch_at s c e ∷ touches (after s e.0 e.1) c es

-- the list with an id at its end, unless it has it
abbrev pub added : List ℕ → ℕ → List ℕ
added ids o = if has ids o then ids else ids ++ o ∷ []

-- with all of these
abbrev pub all_added : List ℕ → List ℕ → List ℕ
all_added ids [] = ids
all_added ids (o ∷ os) = all_added (added ids o) os

-- the rising list with an id at its place, unless it has it
abbrev pub placed : ℕ → List ℕ → List ℕ
placed o [] = o ∷ []
placed o (i ∷ ids) =
    if nat_lt i o then i ∷ placed o ids else if i == o then i ∷ ids else o ∷ i ∷ ids

-- with all of these
abbrev pub all_placed : List ℕ → List ℕ → List ℕ
all_placed ids [] = ids
all_placed ids (o ∷ os) = all_placed (placed o ids) os

-- one of these is the object, or a carrier
abbrev pub meets : ℕ → List ℕ → List ℕ → Bool
meets o carriers ids = list_any (λ x. x == o || has carriers x) ids

-- the carriers once the thread of an event has observed
abbrev pub takers : ℕ → List ℕ → Touch → List ℕ
takers o carriers t =
    if t.outside && meets o carriers t.observed then added carriers t.thread else carriers

-- what is reached in an event, where these are the carriers by then
abbrev pub handed : List ℕ → Touch → List ℕ
handed taken t = if t.outside && has taken t.thread then t.modified else []

-- the carriers after an event, where these are the carriers once its thread has observed
abbrev pub carriers_after : List ℕ → Touch → List ℕ
carriers_after taken t =
    if t.outside && not t.owner then all_added taken (handed taken t)
    else without t.thread (all_added taken (handed taken t))

-- what these events reach, rising, and what was reached before
abbrev pub reached : ℕ → List ℕ → List ℕ → List Touch → List ℕ
reached o carriers found [] = found
reached o carriers found (t ∷ ts) =
    reached o (carriers_after (takers o carriers t) t)
    (all_placed found (handed (takers o carriers t) t)) ts

-- what these events observe, rising, and what was observed before
abbrev pub starts : List ℕ → List Touch → List ℕ
starts found [] = found
starts found (t ∷ ts) = starts (all_placed found t.observed) ts

-- an object with each of these
abbrev pub paired : ℕ → List ℕ → List (ℕ × ℕ)
paired o ids = map (λ p. (o, p)) ids

-- each of these objects with each that the events reach from it
abbrev pub pairs_of : List Touch → List ℕ → List (ℕ × ℕ)
pairs_of ts [] = []
pairs_of ts (o ∷ os) = paired o (reached o [] [] ts) ++ pairs_of ts os
