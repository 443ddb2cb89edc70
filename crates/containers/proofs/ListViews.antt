-- What is read off lists that lie in the nodes.
use Rattle.std.proofs.Common.{◌≡◌, ℕ, suc, ◌+◌, ◌-◌, ◌<◌, ◌≤◌, inl, inr, Some, None, List, [], ◌∷◌, map, length, get_or, take, drop, refl, sym, ap, ap₂, ◌∙◌, subst, arith, length-drop, get_or-drop}
use Rattle.std.specs.Prelude.{All, slice_get}
use Rattle.std.proofs.lemmas.Bool.{cases_lt}
use Rattle.std.proofs.lemmas.List.{get_or-map, get_or_past, length-map}
use Rattle.std.proofs.lemmas.List.Elements.{All-head, All-tail, All-drop}
use Rattle.std.proofs.lemmas.Option.{slice_get-get_or, slice_get_past}
use Rattle.containers.specs.Lists.{Lists, StandsAt}
use Rattle.containers.specs.Chain.{Segment, IsLaidOut, IsSound, lists_from}
use Rattle.containers.proofs.Segments.{segment_back, segment_split, segment_walk}

-- the node after the start is the first of the list, where it is a cell
pub step_some : (next prev : List ℕ) (cells a b : ℕ) (xs : List ℕ) → cells ≤ b → Segment next prev a xs b → get_or next a 0 < cells → slice_get xs 0 ≡ Some (get_or next a 0)
step_some next prev cells a b [] le s lt = absurd (omega (arith, s.ahead))
step_some next prev cells a b (x ∷ xs) le s lt = ap (λ (i : ℕ). Some i) (sym s.0.ahead)

pub step_none : (next prev : List ℕ) (cells a b : ℕ) (xs : List ℕ) → All (λ c. c < cells) xs → Segment next prev a xs b → cells ≤ get_or next a 0 → slice_get xs 0 ≡ None
step_none next prev cells a b [] p s le = refl
step_none next prev cells a b (x ∷ xs) p s le = absurd (omega (arith, s.0.ahead, All-head (λ c. c < cells) x xs p))

-- the node before the end is the last of the list
pub end_some : (next prev : List ℕ) (a b x : ℕ) (xs : List ℕ) → Segment next prev a (x ∷ xs) b → slice_get (x ∷ xs) (length xs) ≡ Some (get_or prev b 0)
end_some next prev a b x [] s = ap (λ (i : ℕ). Some i) (sym s.1.back)
end_some next prev a b x (y ∷ ys) s = end_some next prev x b y ys s.1

-- where it is a cell, and else the list is empty
pub last_of : (next prev : List ℕ) (cells a b : ℕ) (xs : List ℕ) → cells ≤ a → Segment next prev a xs b → get_or prev b 0 < cells → slice_get xs (length xs - 1) ≡ Some (get_or prev b 0)
last_of next prev cells a b [] le s lt = absurd (omega (arith, s.back))
last_of next prev cells a b (x ∷ xs) le s lt =
    let at : length (x ∷ xs) - 1 ≡ length xs = omega arith in
    ap (slice_get (x ∷ xs)) at ∙ end_some next prev a b x xs s

pub no_last : (next prev : List ℕ) (cells a b : ℕ) (xs : List ℕ) → All (λ c. c < cells) xs → Segment next prev a xs b → cells ≤ get_or prev b 0 → slice_get xs (length xs - 1) ≡ None
no_last next prev cells a b [] p s le = refl
no_last next prev cells a b (x ∷ xs) p s le =
    absurd (omega (arith, segment_back next prev (λ c. c < cells) x b xs (All-head (λ c. c < cells) x xs p) (All-tail (λ c. c < cells) x xs p) s.1))

-- the first after a cut
pub slice_get_after : (xs : List ℕ) (k : ℕ) → slice_get (drop (suc k) xs) 0 ≡ slice_get xs (k + 1)
slice_get_after xs k = elim (cases_lt (k + 1) (length xs)) [
  | inl lt ↦ slice_get-get_or (drop (suc k) xs) 0 0 (omega (arith, length-drop (suc k) xs)) ∙ ap (λ (i : ℕ). Some i) (get_or-drop (suc k) xs 0 0 ∙ ap (λ (i : ℕ). get_or xs i 0) (omega arith)) ∙ sym (slice_get-get_or xs (k + 1) 0 lt)
  | inr le ↦ slice_get_past (drop (suc k) xs) 0 (omega (arith, length-drop (suc k) xs)) ∙ sym (slice_get_past xs (k + 1) le)
]

-- lists that lie from a sentinel on
pub lists_from_is : (next prev : List ℕ) (lists : List (List ℕ)) (node : ℕ) → ((head : ℕ) → head < length lists → Segment next prev (node + head) (get_or lists head []) (node + head)) → lists_from next node (map length lists) ≡ lists
lists_from_is next prev [] node s = refl
lists_from_is next prev (xs ∷ lists) node s =
    let here : node + 0 ≡ node = omega arith in
    let first = segment_walk next prev node node xs (subst (λ (i : ℕ). Segment next prev i xs i) here (s 0 (omega arith))) in
    let rest = lists_from_is next prev lists (node + 1) (λ head lt.
    let there : node + suc head ≡ node + 1 + head = omega arith in
    subst (λ (i : ℕ). Segment next prev i (get_or lists head []) i) there (s (suc head) (omega arith))) in
    ap₂ (λ (ys : List ℕ) (yss : List (List ℕ)). ys ∷ yss) first rest

-- no cell stands in a list past the last
pub head_below : (lists : List (List ℕ)) (head place cell : ℕ) → StandsAt (get_or lists head []) place cell → head < length lists
head_below lists head place cell at = elim (cases_lt head (length lists)) [
  | inl lt ↦ lt
  | inr le ↦ absurd (omega (arith, at.within, ap length (get_or_past lists head [] le)))
]

module _ (cells : ℕ) (next prev heads lens : List ℕ) (lists : List (List ℕ)) (lay : IsLaidOut cells next prev heads lens lists) where
  -- the view is these lists
  pub lists_are : lists_from next cells lens ≡ lists
  lists_are = ap (lists_from next cells) lay.counted ∙ lists_from_is next prev lists cells (λ head lt. (lay.rings head lt).linked)

  pub len_is : (head : ℕ) → head < length lists → get_or lens head 0 ≡ length (get_or lists head [])
  len_is head lt = ap (λ (ns : List ℕ). get_or ns head 0) lay.counted ∙ get_or-map length lists head [] 0 lt

  pub lens_len : length lens ≡ length lists
  lens_len = ap length lay.counted ∙ length-map lists length

  -- of a cell in a list
  pub head_is : (head place cell : ℕ) → StandsAt (get_or lists head []) place cell → get_or heads cell 0 ≡ head
  head_is head place cell at =
      let ring = lay.rings head (head_below lists head place cell at) in
      ap (λ (i : ℕ). get_or heads i 0) (sym at.is) ∙ ring.owned place 0 at.within

  pub cell_below : (head place cell : ℕ) → StandsAt (get_or lists head []) place cell → cell < cells
  cell_below head place cell at =
      let ring = lay.rings head (head_below lists head place cell at) in
      subst (λ (i : ℕ). i < cells) at.is (ring.in_range place 0 at.within)

  pub first_some : (head n : ℕ) → head < length lists → n ≡ get_or next (cells + head) 0 → n < cells → Some n ≡ slice_get (get_or lists head []) 0
  first_some head n lt e small = sym (step_some next prev cells (cells + head) (cells + head) _ (omega arith) (lay.rings head lt).linked (omega arith) ∙ ap (λ (i : ℕ). Some i) (sym e))

  pub first_none : (head n : ℕ) → head < length lists → n ≡ get_or next (cells + head) 0 → cells ≤ n → None ≡ slice_get (get_or lists head []) 0
  first_none head n lt e large = sym (step_none next prev cells (cells + head) (cells + head) _ (lay.rings head lt).in_range (lay.rings head lt).linked (omega arith))

  pub last_some : (head n : ℕ) → head < length lists → n ≡ get_or prev (cells + head) 0 → n < cells → (let xs = get_or lists head [] in Some n ≡ slice_get xs (length xs - 1))
  last_some head n lt e small = sym (last_of next prev cells (cells + head) (cells + head) _ (omega arith) (lay.rings head lt).linked (omega arith) ∙ ap (λ (i : ℕ). Some i) (sym e))

  pub last_none : (head n : ℕ) → head < length lists → n ≡ get_or prev (cells + head) 0 → cells ≤ n → (let xs = get_or lists head [] in None ≡ slice_get xs (length xs - 1))
  last_none head n lt e large = sym (no_last next prev cells (cells + head) (cells + head) _ (lay.rings head lt).in_range (lay.rings head lt).linked (omega arith))

  -- from a cell to the end of its ring
  pub rest_from : (head place cell : ℕ) → StandsAt (get_or lists head []) place cell → Segment next prev cell (drop (suc place) (get_or lists head [])) (cells + head)
  rest_from head place cell at =
      let ring = lay.rings head (head_below lists head place cell at) in
      subst (λ (i : ℕ). Segment next prev i (drop (suc place) (get_or lists head [])) (cells + head)) at.is (segment_split next prev _ _ _ place at.within ring.linked).1

  -- from the start of its ring to a cell
  pub part_to : (head place cell : ℕ) → StandsAt (get_or lists head []) place cell → Segment next prev (cells + head) (take place (get_or lists head [])) cell
  part_to head place cell at =
      let ring = lay.rings head (head_below lists head place cell at) in
      subst (λ (i : ℕ). Segment next prev (cells + head) (take place (get_or lists head [])) i) at.is (segment_split next prev _ _ _ place at.within ring.linked).0

  pub next_some : (head place cell n : ℕ) → StandsAt (get_or lists head []) place cell → n ≡ get_or next cell 0 → n < cells → Some n ≡ slice_get (get_or lists head []) (place + 1)
  next_some head place cell n at e small =
      sym (sym (slice_get_after _ place) ∙ step_some next prev cells cell (cells + head) _ (omega arith) (rest_from head place cell at) (omega arith) ∙ ap (λ (i : ℕ). Some i) (sym e))

  pub next_none : (head place cell n : ℕ) → StandsAt (get_or lists head []) place cell → n ≡ get_or next cell 0 → cells ≤ n → None ≡ slice_get (get_or lists head []) (place + 1)
  next_none head place cell n at e large =
      let ring = lay.rings head (head_below lists head place cell at) in
      sym (sym (slice_get_after _ place) ∙ step_none next prev cells cell (cells + head) _ (All-drop (λ c. c < cells) (suc place) _ ring.in_range) (rest_from head place cell at) (omega arith))

-- the invariant, at the lists of the view
pub laid_out : (cells : ℕ) (next prev heads lens : List ℕ) (v : Lists) → IsSound cells next prev heads lens → (let r : Lists = record { cells = cells; lists = lists_from next cells lens } in r ≡ v) → IsLaidOut cells next prev heads lens v.lists
laid_out cells next prev heads lens v s e =
    let same : s.lists ≡ v.lists = sym (lists_are cells next prev heads lens s.lists s.lay) ∙ ap (λ (r : Lists). r.lists) e in
    subst (λ (ls : List (List ℕ)). IsLaidOut cells next prev heads lens ls) same s.lay

-- the view of nodes in which these lists lie
pub view_of : (cells : ℕ) (next prev heads lens : List ℕ) (lists : List (List ℕ)) (v : Lists) → IsLaidOut cells next prev heads lens lists → cells ≡ v.cells → (let r : Lists = record { cells = cells; lists = lists_from next cells lens } in let w : Lists = record v { lists = lists } in r ≡ w)
view_of cells next prev heads lens lists v lay e =
    let make : ℕ → List (List ℕ) → Lists = λ n ls. record { cells = n; lists = ls } in
    ap₂ make e (lists_are cells next prev heads lens lists lay)
