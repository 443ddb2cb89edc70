-- Which ids are live: those that a path of entries leads to from the root. A list of (id, list of
-- ids) says what each id lists.
use Rattle.std.specs.Prelude.{◌≡◌, ◌↔◌, ℕ, zero, suc, Bool, true, IsTrue, ◌&&◌, ◌==◌, List}
use Rattle.std.specs.Prelude.{[], ◌∷◌, length, if◌then◌else◌}
use Rattle.std.specs.List.{list_any, list_all, flat_map}

-- whether an id stands in a list
abbrev pub has : List ℕ → ℕ → Bool
has ids o = list_any (λ i. o == i) ids

-- whether b stands in a's list
abbrev pub links : List (ℕ × List ℕ) → ℕ → ℕ → Bool
links lists a b = list_any (λ e. (a == e.0) && has e.1 b) lists

-- the ids lead from a to o, each later one standing in the list of the one before
abbrev pub Leads : List (ℕ × List ℕ) → ℕ → List ℕ → ℕ → Type 0
Leads lists a [] o = a ≡ o
Leads lists a (b ∷ path) o = (links lists a b ≡ true) × Leads lists b path o

-- a path leads to o from the root
abbrev pub IsLive : List (ℕ × List ℕ) → ℕ → Type 0
IsLive lists o = (path : List ℕ) × Leads lists 1 path o

-- the root, and what these ids list
abbrev pub one_further : List (ℕ × List ℕ) → List ℕ → List ℕ
one_further lists ids = 1 ∷ flat_map (λ e. if has ids e.0 then e.1 else []) lists

-- what paths of at most n entries lead to
abbrev pub reached : ℕ → List (ℕ × List ℕ) → List ℕ
reached zero lists = 1 ∷ []
reached (suc n) lists = one_further lists (reached n lists)

-- whether o is live: no path needs more entries than there are lists
unfoldable pub is_live : List (ℕ × List ℕ) → ℕ → Bool
is_live lists o = has (reached (suc (length lists)) lists) o

-- whether each id that has a list is live
abbrev pub are_live : List (ℕ × List ℕ) → Bool
are_live lists = list_all (λ e. is_live lists e.0) lists

-- the test says live exactly where a path leads
abbrev pub LiveByPath : Type 0
LiveByPath = (lists : List (ℕ × List ℕ)) (o : ℕ) → IsTrue (is_live lists o) ↔ IsLive lists o
