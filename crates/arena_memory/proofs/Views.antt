-- What is seen of the pages when frames and tables change.
use Rattle.std.proofs.Common.{◌≡◌, ◌≢◌, ℕ, zero, suc, ◌<◌, inl, inr, List, [], ◌∷◌, ◌++◌, map, length, get_or, set, take, refl, sym, ap, ◌∙◌, arith, length-append, length-set}
use Rattle.std.proofs.lemmas.Bool.{cases_eq}
use Rattle.std.proofs.lemmas.List.{same_lists, get_or-map, length-map, map-set, map_push, take-map, set-set, set_at, get_or_default, get_or_push, get_or-set_same as set_same, get_or-set_other as set_other}
use Rattle.arena_memory.specs.Pages.{pages_from, pages_at, IsApart}

-- the pages of a slot are those in its frames
pub pages_at_is : (frames : List (List ℕ)) (tables : List (List ℕ)) (slot : ℕ) → pages_at (map (pages_from frames) tables) slot ≡ pages_from frames (get_or tables slot [])
pages_at_is frames [] slot = refl
pages_at_is frames (t ∷ ts) zero = refl
pages_at_is frames (t ∷ ts) (suc slot) = pages_at_is frames ts slot

-- a page is in its frame
pub page_in : (frames : List (List ℕ)) (t : List ℕ) (place : ℕ) → place < length t → get_or (pages_from frames t) place [] ≡ get_or frames (get_or t place 0) []
page_in frames t place lt = get_or-map (λ frame. get_or frames frame []) t place 0 [] lt

pub length-pages : (frames : List (List ℕ)) (t : List ℕ) → length (pages_from frames t) ≡ length t
length-pages frames t = length-map t (λ frame. get_or frames frame [])

module _ (frames : List (List ℕ)) (f : ℕ) (page : List ℕ) (within : f < length frames) where
  -- a frame that is written is seen where it stands
  pub pages_written : (t : List ℕ) (place : ℕ) → place < length t → get_or t place 0 ≡ f → ((k : ℕ) → k < length t → get_or t k 0 ≡ f → k ≡ place) → pages_from (set frames f page) t ≡ set (pages_from frames t) place page
  pages_written t place lt here once = same_lists _ _ (length-pages (set frames f page) t ∙ sym (length-pages frames t) ∙ sym (length-set (pages_from frames t) place page)) (λ k d h.
      let less : k < length t = omega (arith, h, length-pages (set frames f page) t) in
      get_or_default (pages_from (set frames f page) t) k d [] h ∙ page_in (set frames f page) t k less ∙ elim (cases_eq k place) [
        | inl e ↦ ap (λ (i : ℕ). get_or (set frames f page) i []) (ap (λ (i : ℕ). get_or t i 0) e ∙ here) ∙ set_same frames f page [] within
            ∙ sym (ap (λ (i : ℕ). get_or (set (pages_from frames t) place page) i d) e ∙ set_same (pages_from frames t) place page d (omega (arith, length-pages frames t)))
        | inr apart ↦ set_other frames f (get_or t k 0) page [] (λ e. apart (once k less e)) ∙ sym (page_in frames t k less)
            ∙ get_or_default (pages_from frames t) k [] d (omega (arith, length-pages frames t)) ∙ sym (set_other (pages_from frames t) place k page d apart)
      ])

  -- and nowhere else
  pub pages_kept : (t : List ℕ) → ((k : ℕ) → k < length t → get_or t k 0 ≢ f) → pages_from (set frames f page) t ≡ pages_from frames t
  pages_kept t apart = same_lists _ _ (length-pages (set frames f page) t ∙ sym (length-pages frames t)) (λ k d h.
      let less : k < length t = omega (arith, h, length-pages (set frames f page) t) in
      get_or_default (pages_from (set frames f page) t) k d [] h ∙ page_in (set frames f page) t k less ∙ set_other frames f (get_or t k 0) page [] (apart k less) ∙ sym (page_in frames t k less)
      ∙ get_or_default (pages_from frames t) k [] d (omega (arith, length-pages frames t)))

  -- where no frame stands in two places, one page alone is written
  pub view_written : (free : List ℕ) (tables : List (List ℕ)) (slot place : ℕ) → IsApart (free ∷ tables) → slot < length tables → place < length (get_or tables slot []) → f ≡ get_or (get_or tables slot []) place 0
      → map (pages_from (set frames f page)) tables ≡ set (map (pages_from frames) tables) slot (set (pages_from frames (get_or tables slot [])) place page)
  view_written free tables slot place apart ls lp is =
      let after = set (pages_from frames (get_or tables slot [])) place page in
      same_lists _ _ (length-map tables (pages_from (set frames f page)) ∙ sym (length-map tables (pages_from frames)) ∙ sym (length-set (map (pages_from frames) tables) slot after)) (λ s d h.
      let less : s < length tables = omega (arith, h, length-map tables (pages_from (set frames f page))) in
      get_or-map (pages_from (set frames f page)) tables s [] d less ∙ elim (cases_eq s slot) [
        | inl e ↦ ap (λ (i : ℕ). pages_from (set frames f page) (get_or tables i [])) e
            ∙ pages_written (get_or tables slot []) place lp (sym is) (λ k lk same. (apart (suc slot) (suc slot) k place lk lp (same ∙ is)).1)
            ∙ sym (ap (λ (i : ℕ). get_or (set (map (pages_from frames) tables) slot after) i d) e ∙ set_same (map (pages_from frames) tables) slot after d (omega (arith, length-map tables (pages_from frames))))
        | inr ne ↦ pages_kept (get_or tables s []) (λ k lk same. ne (omega (arith, (apart (suc s) (suc slot) k place lk lp (same ∙ is)).0)))
            ∙ sym (get_or-map (pages_from frames) tables s [] d less) ∙ sym (set_other (map (pages_from frames) tables) slot s after d ne)
      ])

-- what is seen after a table lost its last frames
pub view_cut : (frames : List (List ℕ)) (tables : List (List ℕ)) (slot n : ℕ) → map (pages_from frames) (set tables slot (take n (get_or tables slot []))) ≡ set (map (pages_from frames) tables) slot (take n (pages_at (map (pages_from frames) tables) slot))
view_cut frames tables slot n =
    let row = sym (take-map (λ frame. get_or frames frame []) n (get_or tables slot [])) ∙ ap (λ (ps : List (List ℕ)). take n ps) (sym (pages_at_is frames tables slot)) in
    map-set (pages_from frames) tables slot (take n (get_or tables slot [])) ∙ ap (λ (ps : List (List ℕ)). set (map (pages_from frames) tables) slot ps) row

-- what is seen after a table got a frame that was free, and the frame a page
pub view_more : (frames : List (List ℕ)) (f : ℕ) (page : List ℕ) (free : List ℕ) (tables : List (List ℕ)) (slot : ℕ) → f < length frames → slot < length tables → IsApart (free ∷ set tables slot (get_or tables slot [] ++ f ∷ []))
    → map (pages_from (set frames f page)) (set tables slot (get_or tables slot [] ++ f ∷ [])) ≡ set (map (pages_from frames) tables) slot (pages_at (map (pages_from frames) tables) slot ++ page ∷ [])
view_more frames f page free tables slot lf ls apart =
    let t = get_or tables slot [] in
    let more = set tables slot (t ++ f ∷ []) in
    let old = map (pages_from frames) tables in
    let stale = get_or frames f [] in
    let row : get_or more slot [] ≡ t ++ f ∷ [] = set_same tables slot (t ++ f ∷ []) [] ls in
    let last : f ≡ get_or (get_or more slot []) (length t) 0 = sym (ap (λ (ys : List ℕ). get_or ys (length t) 0) row ∙ get_or_push t f 0 (length t) refl) in
    let pages : pages_from frames (get_or more slot []) ≡ pages_from frames t ++ stale ∷ [] = ap (pages_from frames) row ∙ map_push (λ frame. get_or frames frame []) t f in
    let first : map (pages_from frames) more ≡ set old slot (pages_from frames t ++ stale ∷ []) = map-set (pages_from frames) tables slot (t ++ f ∷ []) ∙ ap (λ (ps : List (List ℕ)). set old slot ps) (map_push (λ frame. get_or frames frame []) t f) in
    let there : set (pages_from frames (get_or more slot [])) (length t) page ≡ pages_at old slot ++ page ∷ [] =
    ap (λ (ps : List (List ℕ)). set ps (length t) page) pages ∙ set_at (pages_from frames t) stale [] page (length t) (length-pages frames t) ∙ ap (λ (ps : List (List ℕ)). ps ++ page ∷ []) (sym (pages_at_is frames tables slot)) in
    view_written frames f page lf free more slot (length t) apart (omega (arith, length-set tables slot (t ++ f ∷ []), ls)) (omega (arith, ap length row, length-append t (f ∷ []))) last
    ∙ ap (λ (ps : List (List ℕ)). set (map (pages_from frames) more) slot ps) there
    ∙ ap (λ (v : List (List (List ℕ))). set v slot (pages_at old slot ++ page ∷ [])) first
    ∙ set-set old slot (pages_from frames t ++ stale ∷ []) (pages_at old slot ++ page ∷ [])
