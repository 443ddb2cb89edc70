-- What the sweep of an unreference keeps. No public clause cites this module.
use Rattle.std.specs.Prelude.{◌≡◌, ◌≢◌, ℕ, ◌<◌, ◌⊎◌, List, [], ◌∷◌, length, Contains}
use Rattle.std.specs.Prelude.{slice_index_or, sum_by}
use Rattle.containers.specs.Lists.{Lists, family_at, cells_at}
use Rattle.containers.specs.Cells.{IsDropped, IsSound, IsRecorded, IsDying, Lists', IsLink, Stands}

-- no element comes twice
abbrev pub IsOnce : {X : Type 0} → List X → Type 0
IsOnce {X} xs = (i j : ℕ) (d : X) → i < j → j < length xs
    → slice_index_or xs i d ≢ slice_index_or xs j d

-- each after the first is listed by the one before
abbrev pub IsPath : (ℕ → ℕ → Type 0) → ℕ → List ℕ → ℕ → Type 0
IsPath lists a [] b = a ≡ b
IsPath lists a (x ∷ xs) b = lists a x × IsPath lists x xs b

-- a path leads there from the root
abbrev pub IsReached : (ℕ → ℕ → Type 0) → ℕ → ℕ → Type 0
IsReached lists root o = (path : List ℕ) × IsPath lists root path o

-- so far: which links and slots went since the start
pub record IsSweeping (size root : ℕ) (start now : List Lists)
    (links : List (ℕ × ℕ)) (objects : List ℕ) : Type 0 where
  pub sound : IsSound size root now
  pub total : sum_by length (family_at now 0).lists ≡ sum_by length (family_at start 0).lists
  -- the entries of one that is recorded and not dying are as they were
  pub unchanged : (d : ℕ) → IsRecorded size root now d → (IsDying size now d → ⊥)
      → cells_at now 0 d ≡ cells_at start 0 d
  pub was_named : (o c : ℕ) → o < size → Stands now 1 o c → Stands start 1 o c
  pub was_held : (d c : ℕ) → d < size → Stands now 0 d c → Stands start 0 d c
  pub links_was : (d o : ℕ) → Contains links (d, o) → Lists' size start d o
  pub links_gone : (d o : ℕ) → Contains links (d, o) → Lists' size now d o → ⊥
  pub links_all : (d o : ℕ) → Lists' size start d o → Lists' size now d o ⊎ Contains links (d, o)
  pub links_once : IsOnce links
  pub objects_was : (o : ℕ) → Contains objects o → IsRecorded size root start o
  pub objects_gone : (o : ℕ) → Contains objects o → IsRecorded size root now o → ⊥
  pub objects_all : (o : ℕ) → IsRecorded size root start o
      → IsRecorded size root now o ⊎ Contains objects o
  pub objects_once : IsOnce objects

-- at the end: what is recorded is what a path leads to from the root
pub record IsSwept (size root : ℕ) (start now : List Lists)
    (links : List (ℕ × ℕ)) (objects : List ℕ) : Type 0 where
  pub sweeping : IsSweeping size root start now links objects
  pub none_dying : (o : ℕ) → IsDying size now o → ⊥
  pub live : (o : ℕ) → IsRecorded size root now o → IsReached (Lists' size start) root o
  pub all_live : (o : ℕ) → IsReached (Lists' size start) root o → IsRecorded size root now o

-- by some measure of slots, as serial numbers, who lists something is after those that list it
abbrev pub IsTree : ℕ → List Lists → (ℕ → ℕ) → Type 0
IsTree size r rank = (d o x : ℕ) → Lists' size r d o → Lists' size r o x → rank d < rank o

-- no slot lists another twice
abbrev pub IsSimple : ℕ → List Lists → Type 0
IsSimple size r = (d o b c : ℕ) → IsLink size r d o b → IsLink size r d o c → b ≡ c

-- one link went, and then what no path leads to without it
pub record IsCut (size root : ℕ) (old new : List Lists) (container object : ℕ)
    (links : List (ℕ × ℕ)) (objects : List ℕ) : Type 0 where
  pub between : List Lists
  pub cell : ℕ
  pub link : IsLink size old container object cell
  pub dropped : IsDropped size old between object cell
  -- no other link went before the sweep, and this one did
  pub without : (d o : ℕ) → Lists' size between d o → Lists' size old d o
  pub were : (d o c : ℕ) → IsLink size between d o c → IsLink size old d o c
  pub gone : Lists' size between container object → ⊥
  pub others : (d o c : ℕ) → c ≢ cell → IsLink size old d o c → IsLink size between d o c
  pub recorded_between : (o : ℕ) → IsRecorded size root old o → IsRecorded size root between o
  pub recorded_before : (o : ℕ) → IsRecorded size root between o → IsRecorded size root old o
  pub total : sum_by length (family_at between 0).lists ≡ sum_by length (family_at old 0).lists
  pub swept : IsSwept size root between new links objects
