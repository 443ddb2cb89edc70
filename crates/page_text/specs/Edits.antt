-- What makes the lines of one tree of those of another.
use Rattle.std.specs.Prelude.{ℕ, ◌+◌, Bool, List, [], ◌∷◌, ◌++◌, take, drop, Option, Some, None, if◌then◌else◌, zero, suc}
use Rattle.std.specs.List.{list_any}
use Rattle.std.specs.Option.{option_map}
use Rattle.std.specs.Str.{bytes_eq}

-- so many lines stay, so many after them go, and these come in their place
pub record Edit : Type 0 where
  pub keep : ℕ
  pub gone : ℕ
  pub put : List (List ℕ)

-- whether a line is among lines
abbrev pub has_line : List (List ℕ) → List ℕ → Bool
has_line lines line = list_any (λ l. bytes_eq l line) lines

-- how many lines stand before a line
abbrev pub place_in : List (List ℕ) → List ℕ → Option ℕ
place_in [] line = None
place_in (x ∷ xs) line = if bytes_eq x line then Some 0 else option_map (λ n. n + 1) (place_in xs line)

-- what goes for a new line: the first of the old ones, where it does not come later
abbrev pub gone_for : List (List ℕ) → List (List ℕ) → ℕ
gone_for [] later = 0
gone_for (x ∷ xs) later = if has_line later x then 0 else 1

-- A new line that stands among the old ones stays, and those before it go. Any other one is put. So of the edits, how many lines
-- stay before the next one, and which old lines are left then.
abbrev pub edits_for : ℕ → List (List ℕ) → List ℕ → List (List ℕ) → Option ℕ → List Edit
edits_for kept old line later (Some zero) = []
edits_for kept old line later (Some (suc n)) = record { keep = kept; gone = suc n; put = [] } ∷ []
edits_for kept old line later None = record { keep = kept; gone = gone_for old later; put = line ∷ [] } ∷ []

abbrev pub kept_after : ℕ → Option ℕ → ℕ
kept_after kept (Some zero) = kept + 1
kept_after kept (Some (suc n)) = 1
kept_after kept None = 0

abbrev pub old_after : List (List ℕ) → List (List ℕ) → Option ℕ → List (List ℕ)
old_after old later (Some n) = drop (n + 1) old
old_after old later None = drop (gone_for old later) old

-- the edits that make new lines of old ones, after so many that stay
abbrev pub edits : ℕ → List (List ℕ) → List (List ℕ) → List Edit
edits kept old [] = record { keep = kept; gone = 0; put = [] } ∷ []
edits kept old (y ∷ ys) =
    edits_for kept old y ys (place_in old y)
    ++ edits (kept_after kept (place_in old y)) (old_after old ys (place_in old y)) ys

-- lines after edits: what no edit keeps goes
abbrev pub patched : List (List ℕ) → List Edit → List (List ℕ)
patched old [] = []
patched old (e ∷ es) = take e.keep old ++ (e.put ++ patched (drop (e.keep + e.gone) old) es)

-- trees, each of which edits make of the one before it
abbrev pub patched_all : List (List ℕ) → List (List Edit) → List (List (List ℕ))
patched_all old [] = []
patched_all old (es ∷ more) = patched old es ∷ patched_all (patched old es) more
