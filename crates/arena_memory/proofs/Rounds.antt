-- Pages that go or come one by one.
use Rattle.std.proofs.Common.{◌≡◌, ◌≢◌, ℕ, ◌+◌, ◌-◌, ◌<◌, ◌≤◌, min, List, [], ◌∷◌, ◌++◌, length, set, take, replicate, sym, ap, ◌∙◌, arith, length-append, length-set}
use Rattle.std.proofs.lemmas.List.{set-set, set-get_or, length-take, take-take, take_min, take_all, take_more, get_or-set_same, get_or-set_other, append_assoc, append-nil, replicate_more}
use Rattle.std.proofs.lemmas.List.Sums.{sum_by-set}
use Rattle.arena_memory.specs.Pages.{pages_at, page_at, page_total}

module _ (v0 : List (List (List ℕ))) (slot : ℕ) (lt : slot < length v0) where
  pub row_of : (v : List (List (List ℕ))) (ps : List (List ℕ)) → v ≡ set v0 slot ps → pages_at v slot ≡ ps
  row_of v ps is = ap (λ (w : List (List (List ℕ))). pages_at w slot) is ∙ get_or-set_same v0 slot ps [] lt

  pub length_of : (v : List (List (List ℕ))) (ps : List (List ℕ)) → v ≡ set v0 slot ps → length v ≡ length v0
  length_of v ps is = ap (λ (w : List (List (List ℕ))). length w) is ∙ length-set v0 slot ps

  -- how many pages there are after a slot got others
  pub total_of : (v : List (List (List ℕ))) (ps : List (List ℕ)) → v ≡ set v0 slot ps → page_total v + length (pages_at v0 slot) ≡ page_total v0 + length ps
  total_of v ps is = omega (arith, ap (λ (w : List (List (List ℕ))). page_total w) is, sum_by-set length v0 slot ps [] lt)

  -- a change on a change of the same slot
  again : (v v' : List (List (List ℕ))) (ps qs : List (List ℕ)) → v ≡ set v0 slot ps → v' ≡ set v slot qs → v' ≡ set v0 slot qs
  again v v' ps qs is is' = is' ∙ ap (λ (w : List (List (List ℕ))). set w slot qs) is ∙ set-set v0 slot ps qs

  -- the last page went
  module _ (v v' : List (List (List ℕ))) (is : v ≡ set v0 slot (take (length (pages_at v slot)) (pages_at v0 slot))) (is' : v' ≡ set v slot (take (length (pages_at v slot) - 1) (pages_at v slot))) where
    fewer : v' ≡ set v0 slot (take (length (pages_at v slot) - 1) (pages_at v0 slot))
    fewer =
        let n = length (pages_at v slot) in
        let ps = pages_at v0 slot in
        let row = row_of v (take n ps) is in
        again v v' (take n ps) (take (n - 1) (pages_at v slot)) is is' ∙ ap (λ (qs : List (List ℕ)). set v0 slot (take (n - 1) qs)) row ∙ ap (λ (qs : List (List ℕ)). set v0 slot qs) (take-take (n - 1) n ps (omega arith))

    pub no_more : length (pages_at v slot) ≤ length (pages_at v0 slot)
    no_more = omega (arith, ap length (row_of v _ is), length-take (length (pages_at v slot)) (pages_at v0 slot))

    pub shrunk_length : length (pages_at v' slot) ≡ length (pages_at v slot) - 1
    shrunk_length =
        let n = length (pages_at v slot) in
        let ps = pages_at v0 slot in
        omega (arith, ap length (row_of v' _ fewer), length-take (n - 1) ps, ap length (row_of v (take n ps) is), length-take n ps)

    pub shrunk : v' ≡ set v0 slot (take (length (pages_at v' slot)) (pages_at v0 slot))
    shrunk = fewer ∙ ap (λ (n : ℕ). set v0 slot (take n (pages_at v0 slot))) (sym shrunk_length)

  -- at the start
  pub unshrunk : v0 ≡ set v0 slot (take (length (pages_at v0 slot)) (pages_at v0 slot))
  unshrunk = sym (ap (λ (ps : List (List ℕ)). set v0 slot ps) (take_all (length (pages_at v0 slot)) (pages_at v0 slot) (omega arith)) ∙ set-get_or v0 slot [])

  -- no more pages than were wanted are left
  pub shrunk_all : (v : List (List (List ℕ))) (pages : ℕ) → v ≡ set v0 slot (take (length (pages_at v slot)) (pages_at v0 slot)) → min pages (length (pages_at v0 slot)) ≤ length (pages_at v slot) → length (pages_at v slot) ≤ pages
      → v ≡ set v0 slot (take pages (pages_at v0 slot))
  shrunk_all v pages is least most =
      let n = length (pages_at v slot) in
      let ps = pages_at v0 slot in
      let count : n ≡ min pages (length ps) = omega (arith, least, most, ap length (row_of v (take n ps) is), length-take n ps) in
      is ∙ ap (λ (m : ℕ). set v0 slot (take m ps)) count ∙ ap (λ (qs : List (List ℕ)). set v0 slot qs) (take_min pages ps)

  -- one page more of the same
  module _ (page : List ℕ) (v v' : List (List (List ℕ))) (is : v ≡ set v0 slot (pages_at v0 slot ++ replicate (length (pages_at v slot) - length (pages_at v0 slot)) page)) (is' : v' ≡ set v slot (pages_at v slot ++ page ∷ [])) where
    row : pages_at v slot ≡ pages_at v0 slot ++ replicate (length (pages_at v slot) - length (pages_at v0 slot)) page
    row = row_of v _ is

    pub no_fewer : length (pages_at v0 slot) ≤ length (pages_at v slot)
    no_fewer = omega (arith, ap length row, length-append (pages_at v0 slot) (replicate (length (pages_at v slot) - length (pages_at v0 slot)) page))

    grown_row : pages_at v' slot ≡ pages_at v slot ++ page ∷ []
    grown_row = ap (λ (w : List (List (List ℕ))). pages_at w slot) is' ∙ get_or-set_same v slot (pages_at v slot ++ page ∷ []) [] (omega (arith, lt, length_of v _ is))

    pub grown_length : length (pages_at v' slot) ≡ length (pages_at v slot) + 1
    grown_length = ap length grown_row ∙ length-append (pages_at v slot) (page ∷ [])

    pub grown : v' ≡ set v0 slot (pages_at v0 slot ++ replicate (length (pages_at v' slot) - length (pages_at v0 slot)) page)
    grown =
        let ps = pages_at v0 slot in
        let m = length (pages_at v slot) - length ps in
        let count : m + 1 ≡ length (pages_at v' slot) - length ps = omega (arith, grown_length, no_fewer) in
        again v v' _ (pages_at v slot ++ page ∷ []) is is'
        ∙ ap (λ (qs : List (List ℕ)). set v0 slot (qs ++ page ∷ [])) row
        ∙ ap (λ (qs : List (List ℕ)). set v0 slot qs) (append_assoc ps (replicate m page) (page ∷ []) ∙ ap (λ (qs : List (List ℕ)). ps ++ qs) (replicate_more m page))
        ∙ ap (λ (n : ℕ). set v0 slot (ps ++ replicate n page)) count

  pub ungrown : (page : List ℕ) → v0 ≡ set v0 slot (pages_at v0 slot ++ replicate (length (pages_at v0 slot) - length (pages_at v0 slot)) page)
  ungrown page =
      let ps = pages_at v0 slot in
      let none : length ps - length ps ≡ 0 = omega arith in
      sym (ap (λ (n : ℕ). set v0 slot (ps ++ replicate n page)) none ∙ ap (λ (qs : List (List ℕ)). set v0 slot qs) (append-nil ps) ∙ set-get_or v0 slot [])

  -- one page more of another slot
  module _ (from place : ℕ) (v v' : List (List (List ℕ))) (page : List ℕ) (is : v ≡ set v0 slot (take place (pages_at v0 from))) (less : place < length (pages_at v0 from)) (page_is : page ≡ page_at v0 from place) (is' : v' ≡ set v slot (pages_at v slot ++ page ∷ [])) where
    pub copied : v' ≡ set v0 slot (take (place + 1) (pages_at v0 from))
    copied =
        let ps = pages_at v0 from in
        again v v' (take place ps) (pages_at v slot ++ page ∷ []) is is'
        ∙ ap (λ (qs : List (List ℕ)). set v0 slot (qs ++ page ∷ [])) (row_of v _ is)
        ∙ ap (λ (p : List ℕ). set v0 slot (take place ps ++ p ∷ [])) page_is
        ∙ ap (λ (qs : List (List ℕ)). set v0 slot qs) (sym (take_more ps place [] less))

  -- another slot stays
  pub other_row : (v : List (List (List ℕ))) (ps : List (List ℕ)) (from : ℕ) → from ≢ slot → v ≡ set v0 slot ps → pages_at v from ≡ pages_at v0 from
  other_row v ps from ne is = ap (λ (w : List (List (List ℕ))). pages_at w from) is ∙ get_or-set_other v0 slot from ps [] ne

  -- a slot with pages is none without
  pub is_other : (from : ℕ) → pages_at v0 slot ≡ [] → 0 < length (pages_at v0 from) → from ≢ slot
  is_other from blank some e = omega (arith, some, ap length (ap (λ (i : ℕ). pages_at v0 i) e ∙ blank))

  pub uncopied : (from : ℕ) → pages_at v0 slot ≡ [] → v0 ≡ set v0 slot (take 0 (pages_at v0 from))
  uncopied from blank = sym (ap (λ (qs : List (List ℕ)). set v0 slot qs) (sym blank) ∙ set-get_or v0 slot [])

  pub copied_all : (v : List (List (List ℕ))) (from place : ℕ) → v ≡ set v0 slot (take place (pages_at v0 from)) → length (pages_at v0 from) ≤ place → v ≡ set v0 slot (pages_at v0 from)
  copied_all v from place is le = is ∙ ap (λ (qs : List (List ℕ)). set v0 slot qs) (take_all place (pages_at v0 from) le)
