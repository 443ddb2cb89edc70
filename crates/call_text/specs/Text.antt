-- Texts of lines, each ended by a byte 10, in an order that a state allows.
use Rattle.std.specs.Prelude.{◌≡◌, ◌+◌, ℕ, List, [], ◌∷◌, ◌++◌, length, Option, Some, None, IsSome}
use Rattle.std.specs.Prelude.{Bool, true, false}
use Rattle.std.specs.List.{AllByRecursion, flat_map}

-- the state after these lines, None where one may not stand there
abbrev pub run : {S V : Type 0} → (S → V → Option S) → Option S → List V → Option S
run next None vs = None
run next (Some s) [] = Some s
run next (Some s) (v ∷ vs) = run next (next s v) vs

-- a line with its end
abbrev pub line : {V : Type 0} → (V → List ℕ) → V → List ℕ
line text v = text v ++ 10 ∷ []

-- the lines, one after another
abbrev pub lines_text : {V : Type 0} → (V → List ℕ) → List V → List ℕ
lines_text text vs = flat_map (line text) vs

-- the bytes are these lines, and they may stand so, and end there
pub record Spells {S V : Type 0} (text : V → List ℕ) (Fits : V → Type 0) (next : S → V → Option S)
    (ends : S → Bool) (start : S) (bytes : List ℕ) (vs : List V) : Type 0 where
  pub fit : AllByRecursion Fits vs
  pub state : S
  pub ran : run next (Some start) vs ≡ Some state
  pub ended : ends state ≡ true
  pub bytes_are : bytes ≡ lines_text text vs

-- Line n is the first at which the bytes stop being the beginning of a text. The n - 1 lines
-- before it are the beginning of one, which comes to this state, and no line that may stand after them
-- begins the rest. Where nothing comes after them they aren't a whole text.
pub record StopsAt {S V : Type 0} (text : V → List ℕ) (Fits : V → Type 0) (next : S → V → Option S)
    (ends : S → Bool) (start : S) (bytes : List ℕ) (n : ℕ) (state : S) (rest : List ℕ) : Type 0 where
  pub before : List V
  pub fit : AllByRecursion Fits before
  pub ran : run next (Some start) before ≡ Some state
  pub bytes_are : bytes ≡ lines_text text before ++ rest
  pub number : n ≡ length before + 1
  pub no_more : (v : V) (more : List ℕ) → Fits v → IsSome (next state v)
      → rest ≡ text v ++ 10 ∷ more → ⊥
  pub not_whole : rest ≡ [] → ends state ≡ false

-- the same, whatever the state and the rest
abbrev pub FaultsAt : {S V : Type 0} → (V → List ℕ) → (V → Type 0) → (S → V → Option S) → (S → Bool)
    → S → List ℕ → ℕ → Type 0
FaultsAt {S} text Fits next ends start bytes n =
    (state : S) × ((rest : List ℕ) × StopsAt text Fits next ends start bytes n state rest)
