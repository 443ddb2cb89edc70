-- A short list of pairs in two arrays, after a change.
use Rattle.std.proofs.Common.{◌≡◌, ℕ, suc, ◌+◌, ◌-◌, ◌<◌, ◌≤◌, Bool, List, [], ◌∷◌, ◌++◌, length, take, drop, ◌||◌, ◌&&◌}
use Rattle.std.proofs.Common.{replicate, map, sym, ap, refl, ◌∙◌, arith, append_assoc, length-append}
use Rattle.std.proofs.Common.{get_or, drop-cons}
use Rattle.std.specs.List.{list_any, list_all}
use Rattle.std.specs.List.{copy_within, insert, remove}
use Rattle.std.proofs.lemmas.List.{length-map, length-set, map-append, map-set, set-append_left, take-append-drop}
use Rattle.std.proofs.lemmas.List.{length-take-le, length-drop}
use Rattle.label_lattice.proofs.ArrayLemmas.{set-moved_up, set-moved_down}
use Rattle.std.proofs.lemmas.List.Edits.{length-insert, length-remove}
use Rattle.std.proofs.Math.ListN.{set}
use Rattle.std.proofs.Math.Seq.{set-append_seam}
use Rattle.base.specs.declared.ids.Category.{Category}
use Rattle.base.specs.declared.levels.Level.{Level}
use Rattle.label_lattice.specs.declared.pairings.Pair.{Pair}
use Rattle.label_lattice.specs.Columns.{filler, column, categories_of, levels_of}
use Rattle.label_lattice.specs.Pairs.{paired, items_of, IsFilled}

-- two columns of the items hold the items
take-paired : (xs : List Pair) (cs : List Category) (ls : List Level)
    → take (length xs) (paired (map (λ p. p.category) xs ++ cs) (map (λ p. p.level) xs ++ ls)) ≡ xs
take-paired [] cs ls = refl
take-paired (x ∷ xs) cs ls = ap (λ (r : List Pair). x ∷ r) (take-paired xs cs ls)

pub items_of-columns : (n len : ℕ) (xs : List Pair) → length xs ≡ len
    → items_of len (categories_of n xs) (levels_of n xs) ≡ xs
items_of-columns n len xs e =
    rw (← e) (take-paired xs (replicate (n - length xs) filler.category)
    (replicate (n - length xs) filler.level))

-- and are what an array of that length has
pub IsFilled-columns : (n len : ℕ) (xs : List Pair) → length xs ≡ len → len ≤ n
    → IsFilled n len (categories_of n xs) (levels_of n xs)
IsFilled-columns n len xs e few =
    let same = items_of-columns n len xs e in
    record {
      few = few;
      within = ap length same ∙ e;
      categories = ap (categories_of n) same;
      levels = ap (levels_of n) same;
    }

-- a write just past the items adds one
pub set-column : {A : Type 0} (part : Pair → A) (n : ℕ) (xs : List Pair) (p : Pair) → length xs < n
    → set (column part n xs) (length xs) (part p) ≡ column part n (xs ++ p ∷ [])
set-column part n xs p room =
    let more : n - length xs ≡ suc (n - length (xs ++ p ∷ [])) = rw length-append (omega arith) in
    let rest = replicate (n - length (xs ++ p ∷ [])) (part filler) in
    let seam = set-append_seam (map part xs) (part filler) rest (part p) in
    let seam' = rw (length-map xs part) at seam in
    rw more
    (seam' ∙ sym (append_assoc (map part xs) (part p ∷ []) rest)
    ∙ ap (λ r. r ++ rest) (sym (map-append part xs (p ∷ []))))

module _ (n len : ℕ) (cs : List Category) (ls : List Level) (p : Pair) (filled : IsFilled n len cs ls) (room : len < n) where
  abbrev pub items : List Pair
  items = items_of len cs ls

  more : length (items ++ p ∷ []) ≡ len + 1
  more = length-append items (p ∷ []) ∙ ap (λ k. k + 1) filled.within

  categories : set cs len p.category ≡ categories_of n (items ++ p ∷ [])
  categories =
      rw (filled.categories, filled.within) at (set-column (λ q. q.category) n items p (rw filled.within room))

  levels : set ls len p.level ≡ levels_of n (items ++ p ∷ [])
  levels =
      rw (filled.levels, filled.within) at (set-column (λ q. q.level) n items p (rw filled.within room))

  -- after a write just past the items
  pub items_of-push : items_of (len + 1) (set cs len p.category) (set ls len p.level) ≡ items ++ p ∷ []
  items_of-push = rw (categories, levels) (items_of-columns n (len + 1) (items ++ p ∷ []) more)

  pub IsFilled-push : IsFilled n (len + 1) (set cs len p.category) (set ls len p.level)
  IsFilled-push = rw (categories, levels) (IsFilled-columns n (len + 1) (items ++ p ∷ []) more (omega (arith, room)))

module _ {A : Type 0} (part : Pair → A) (n : ℕ) (xs : List Pair) (i : ℕ) (p : Pair) where
  -- another pair at a place
  pub column-set : i < length xs → set (column part n xs) i (part p) ≡ column part n (set xs i p)
  column-set within =
      let rest = replicate (n - length xs) (part filler) in
      rw (length-set xs i p, map-set part xs i p)
      (set-append_left (map part xs) rest i (part p) (rw (length-map xs part) within))

  -- one more at a place
  pub column-insert : i ≤ length xs → length xs < n
      → set (copy_within (column part n xs) i (length xs) (i + 1)) i (part p)
      ≡ column part n (insert xs i p)
  column-insert within room =
      let b : List Pair = take i xs in
      let c : List Pair = drop i xs in
      let rest : List A = replicate (n - length (insert xs i p)) (part filler) in
      let more : n - length xs ≡ suc (n - length (insert xs i p)) =
      omega (arith, length-insert xs i p within, room) in
      let before : length (map part b) ≡ i = length-map b part ∙ length-take-le i xs within in
      let behind : length (map part c) ≡ length xs - i = length-map c part ∙ length-drop i xs in
      let parted : map part xs ≡ map part b ++ map part c =
      ap (map part) (sym (take-append-drop i xs)) ∙ map-append part b c in
      let cells : column part n xs ≡ map part b ++ (map part c ++ part filler ∷ rest) =
      rw (more, parted) (append_assoc (map part b) (map part c) (part filler ∷ rest)) in
      let moved = set-moved_up (map part b) (map part c) rest (part filler) (part p) in
      (rw (before, behind, ← cells) at moved)
      ∙ sym (append_assoc (map part b) (part p ∷ map part c) rest)
      ∙ ap (λ r. r ++ rest) (sym (map-append part b (p ∷ c)))

  -- one less at a place
  pub column-remove : i < length xs → length xs ≤ n
      → set (copy_within (column part n xs) (i + 1) (length xs) i) (length xs - 1) (part filler)
      ≡ column part n (remove xs i)
  column-remove within few =
      let b : List Pair = take i xs in
      let c : List Pair = drop (suc i) xs in
      let y : Pair = get_or xs i filler in
      let rest : List A = replicate (n - length xs) (part filler) in
      let less : n - length (remove xs i) ≡ suc (n - length xs) =
      omega (arith, length-remove xs i within, few) in
      let before : length (map part b) ≡ i =
      length-map b part ∙ length-take-le i xs (omega (arith, within)) in
      let behind : length (map part c) ≡ length xs - (i + 1) =
      length-map c part ∙ length-drop (suc i) xs ∙ omega arith in
      let last : i + (length xs - (i + 1)) ≡ length xs - 1 = omega (arith, within) in
      let parts : xs ≡ b ++ y ∷ c =
      sym (take-append-drop i xs) ∙ ap (λ r. b ++ r) (drop-cons xs i filler within) in
      let parted : map part xs ≡ map part b ++ part y ∷ map part c =
      ap (map part) parts ∙ map-append part b (y ∷ c) in
      let cells : column part n xs ≡ map part b ++ (part y ∷ (map part c ++ rest)) =
      rw parted (append_assoc (map part b) (part y ∷ map part c) rest) in
      let moved = set-moved_down (map part b) (map part c) rest (part y) (part filler) in
      rw (← last)
      ((rw (before, behind, ← cells) at moved)
      ∙ sym (append_assoc (map part b) (map part c) (part filler ∷ rest))
      ∙ rw (less, map-append part b c) refl)

-- arrays that hold the columns of items
pub IsFilled-by : (n len : ℕ) (xs : List Pair) (cs : List Category) (ls : List Level)
    → cs ≡ categories_of n xs → ls ≡ levels_of n xs → length xs ≡ len → len ≤ n
    → IsFilled n len cs ls
IsFilled-by n len xs cs ls ec el e few = rw (ec, el) (IsFilled-columns n len xs e few)

pub items_of-by : (n len : ℕ) (xs : List Pair) (cs : List Category) (ls : List Level)
    → cs ≡ categories_of n xs → ls ≡ levels_of n xs → length xs ≡ len → items_of len cs ls ≡ xs
items_of-by n len xs cs ls ec el e = rw (ec, el) (items_of-columns n len xs e)

-- a test of a part of each
pub list_any-map : {A B : Type 0} (f : A → B) (test : B → Bool) (xs : List A)
    → list_any test (map f xs) ≡ list_any (λ x. test (f x)) xs
list_any-map f test [] = refl
list_any-map f test (x ∷ xs) = ap (λ r. test (f x) || r) (list_any-map f test xs)

pub list_all-map : {A B : Type 0} (f : A → B) (test : B → Bool) (xs : List A)
    → list_all test (map f xs) ≡ list_all (λ x. test (f x)) xs
list_all-map f test [] = refl
list_all-map f test (x ∷ xs) = ap (λ r. test (f x) && r) (list_all-map f test xs)
