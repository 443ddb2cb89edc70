-- What a visitor is handed.
use Rattle.std.specs.Prelude.{◌≡◌, ◌⊎◌, ℕ, ◌+◌, true, not, ◌&&◌, List, [], ◌∷◌, map, slice_index}
use Rattle.std.specs.Prelude.{sum_by, Contains}
use Rattle.std.proofs.Common.{inl, inr}
use Rattle.containers.specs.declared.visitor.Located.{Located}
use Rattle.base.specs.Live.{has, links}
use Rattle.containers.specs.Tree.{Tree, HasSlot, ids_in}
use Rattle.containers.specs.Sweep.{IsOnce}

-- the place of a slot under its name
abbrev pub place_of : List ℕ → ℕ → Located
place_of names slot = record { id = slice_index names slot; slot = record { 0 = slot } }

-- pairs of slots under their names
abbrev pub named : List ℕ → List (ℕ × ℕ) → List (Located × Located)
named names ps = map (λ p. (place_of names p.0, place_of names p.1)) ps

-- slots under their names
abbrev pub named_one : List ℕ → List ℕ → List Located
named_one names os = map (λ o. place_of names o) os

-- what a visitor is handed: a link, as a container and an object, or an object
abbrev pub Event : Type 0
Event = (Located × Located) ⊎ Located

-- the links among what was handed
abbrev pub links_in : List Event → List (Located × Located)
links_in [] = []
links_in (inl p ∷ es) = p ∷ links_in es
links_in (inr p ∷ es) = links_in es

-- the objects among what was handed
abbrev pub objects_in : List Event → List Located
objects_in [] = []
objects_in (inl p ∷ es) = objects_in es
objects_in (inr p ∷ es) = p ∷ objects_in es

module _ {V : Type 0} (link : V → Located → Located → V → Type 0)
    (object : V → Located → V → Type 0) where
  -- what one call of the visitor gives
  abbrev pub Step : V → Event → V → Type 0
  Step v (inl p) w = link v p.0 p.1 w
  Step v (inr p) w = object v p w

  -- the visitor v is the visitor w once it was handed these, in this order
  abbrev pub Follows : V → List Event → V → Type 0
  Follows v [] w = v ≡ w
  Follows v (e ∷ es) w = (u : V) × Step v e u × Follows u es w

  -- the visitor was handed these links and these objects, and nothing else
  pub record IsTold (old new : V)
      (links : List (Located × Located)) (objects : List Located) : Type 0 where
    pub events : List Event
    pub links_are : links_in events ≡ links
    pub objects_are : objects_in events ≡ objects
    pub follows : Follows old events new

-- the ids of links that went
abbrev pub link_ids : List (Located × Located) → List (ℕ × ℕ)
link_ids went = map (λ p. (p.0.id, p.1.id)) went

-- the ids of objects that went
abbrev pub object_ids : List Located → List ℕ
object_ids dead = map (λ p. p.id) dead

-- a link is among those that went
abbrev pub Went : List (Located × Located) → Located → Located → Type 0
Went went a b = Contains {X = Located × Located} went (a, b)

-- each link and each object of the old tree that the new one lacks, once, each with the slot that
-- it had, and nothing else
pub record IsHanded {T : Type 0} (old new : Tree T)
    (went : List (Located × Located)) (dead : List Located) : Type 0 where
  pub links_was : (a b : Located) → Went went a b → links old.lists a.id b.id ≡ true
  pub links_gone : (a b : Located) → Went went a b → links new.lists a.id b.id ≡ true → ⊥
  pub links_all : (a b : ℕ) → links old.lists a b ≡ true
      → (links new.lists a b ≡ true) ⊎ Contains {X = ℕ × ℕ} (link_ids went) (a, b)
  pub links_once : IsOnce (link_ids went)
  pub links_slots : (a b : Located) → Went went a b
      → HasSlot old a.id a.slot.0 × HasSlot old b.id b.slot.0
  pub objects_was : (p : Located) → Contains dead p → has (ids_in old.lists) p.id ≡ true
  pub objects_gone : (p : Located) → Contains dead p → has (ids_in new.lists) p.id ≡ true → ⊥
  pub objects_all : (i : ℕ) → has (ids_in old.lists) i ≡ true
      → (has (ids_in new.lists) i ≡ true) ⊎ Contains (object_ids dead) i
  pub objects_once : IsOnce (object_ids dead)
  pub objects_slots : (p : Located) → Contains dead p → HasSlot old p.id p.slot.0

-- who is dead was there and isn't; and by any weight of slots, those of the old tree weigh what
-- those of the new one and of the dead weigh
pub record IsLost {T : Type 0} (old new : Tree T) (dead : List Located) : Type 0 where
  pub died : (i : ℕ) → has (object_ids dead) i
      ≡ (has (ids_in old.lists) i && not (has (ids_in new.lists) i))
  pub weighed : (f : ℕ → ℕ) → sum_by f old.slots
      ≡ sum_by f new.slots + sum_by (λ p. f p.slot.0) dead
