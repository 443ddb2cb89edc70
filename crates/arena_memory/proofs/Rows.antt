-- What the frames that are read or written are, by what the code tells.
use Rattle.std.proofs.Common.{◌≡◌, ◌≢◌, zero, suc, replicate, get_or-set_same, ◌+◌, ◌-◌, ◌<◌, ◌≤◌, ℕ, List, [], ◌∷◌, ◌++◌, map, take, drop, get_or, set, length, refl, subst, sym, ap, ◌∙◌, arith, length-append}
use Rattle.std.proofs.lemmas.List.{get_or_read, length-map, append_assoc, drop-drop, get_or_push, length-take-le, length-drop, length-replicate, set-set}
use Rattle.kernel_rules.specs.Written.{written}
use Rattle.arena_memory.specs.Pages.{pages_from, pages_at, page_at, IsKept}
use Rattle.arena_memory.proofs.Keeps.{frame_within, kept_back, kept_given, kept_written}
use Rattle.arena_memory.proofs.Views.{pages_at_is, page_in, length-pages, view_cut, view_more, view_written}

-- what the code leaves of a page that it wrote over
pub patched : (page part part' : List ℕ) (a k : ℕ) → part' ≡ part → k ≡ length part → take a page ++ (part' ++ drop k (drop a page)) ≡ written a part page
patched page part part' a k same k_is =
    ap (λ (p : List ℕ). take a page ++ (p ++ drop k (drop a page))) same
    ∙ ap (λ (n : ℕ). take a page ++ (part ++ drop n (drop a page))) k_is
    ∙ ap (λ (rest : List ℕ). take a page ++ (part ++ rest)) (drop-drop (length part) a page)
    ∙ sym (append_assoc (take a page) part (drop (a + length part) page))

-- what is set after a beginning leaves it
take-set : (n : ℕ) (xs : List (List ℕ)) (x : List ℕ) → take n (set xs n x) ≡ take n xs
take-set zero xs x = refl
take-set (suc n) [] x = refl
take-set (suc n) (y ∷ ys) x = ap (λ (zs : List (List ℕ)). y ∷ zs) (take-set n ys x)

pub length-written : (a : ℕ) (part page : List ℕ) → a + length part ≤ length page → length (written a part page) ≡ length page
length-written a part page le =
    omega (arith, length-append (take a page ++ part) (drop (a + length part) page), length-append (take a page) part, length-take-le a page (omega arith), length-drop (a + length part) page)

module _ (frames : List (List ℕ)) (tables : List (List ℕ)) (free : List ℕ) (kept : IsKept frames tables free) (v : List (List (List ℕ))) (view : map (pages_from frames) tables ≡ v) where
  -- a slot has a table
  pub slot_within : (slot : ℕ) → slot < length v → slot < length tables
  slot_within slot lt = omega (arith, lt, ap length view, length-map tables (pages_from frames))

  row_is : (slot : ℕ) → pages_at v slot ≡ pages_from frames (get_or tables slot [])
  row_is slot = ap (λ (w : List (List (List ℕ))). pages_at w slot) (sym view) ∙ pages_at_is frames tables slot

  length-row : (slot : ℕ) → length (pages_at v slot) ≡ length (get_or tables slot [])
  length-row slot = ap length (row_is slot) ∙ length-pages frames (get_or tables slot [])

  module _ (slot : ℕ) (t : List ℕ) (ls : slot < length v) (is : t ≡ get_or tables slot t) where
    pub table_is : t ≡ get_or tables slot []
    table_is = get_or_read tables slot t (slot_within slot ls) is []

    pub length-table : length t ≡ length (pages_at v slot)
    length-table = ap length table_is ∙ sym (length-row slot)

    module _ (place f : ℕ) (lp : place < length (pages_at v slot)) (f_is : f ≡ get_or t place 0) where
      frame_is : f ≡ get_or (get_or tables slot []) place 0
      frame_is = f_is ∙ ap (λ (u : List ℕ). get_or u place 0) table_is

      in_row : place < length (get_or tables slot [])
      in_row = omega (arith, lp, length-row slot)

      pub frame_in : f < length frames
      frame_in = omega (arith, frame_is, frame_within frames tables free kept slot place in_row)

      pub page_is : get_or frames f [] ≡ page_at v slot place
      page_is = ap (λ (g : ℕ). get_or frames g []) frame_is ∙ sym (ap (λ (ps : List (List ℕ)). get_or ps place []) (row_is slot) ∙ page_in frames (get_or tables slot []) place in_row)

      -- it is not free
      pub taken : (k : ℕ) → k < length free → get_or free k 0 ≢ f
      taken k lk e = omega (arith, (kept.apart 0 (suc slot) k place lk in_row (e ∙ frame_is)).0)

      pub put_view : (page : List ℕ) → map (pages_from (set frames f page)) tables ≡ set v slot (set (pages_at v slot) place page)
      put_view page = view_written frames f page frame_in free tables slot place kept.apart (slot_within slot ls) in_row frame_is
          ∙ ap (λ (ps : List (List ℕ)). set (map (pages_from frames) tables) slot (set ps place page)) (sym (row_is slot))
          ∙ ap (λ (w : List (List (List ℕ))). set w slot (set (pages_at v slot) place page)) view

      -- a page is written over
      module _ (now : List ℕ) (now_is : now ≡ get_or frames f now) (from : ℕ) (part after : List ℕ) (after_is : after ≡ written from part now) (room : from + length part ≤ 256) where
        now_page : now ≡ get_or frames f []
        now_page = get_or_read frames f now frame_in now_is []

        pub put_kept : IsKept (set frames f after) tables free
        put_kept =
            let size = ap length now_page ∙ kept.whole f frame_in in
            kept_written frames tables free f after kept (ap length after_is ∙ length-written from part now (omega (arith, room, size)) ∙ size) taken

        pub put_after : map (pages_from (set frames f after)) tables ≡ set v slot (set (pages_at v slot) place (written from part (page_at v slot place)))
        put_after = put_view after ∙ ap (λ (p : List ℕ). set v slot (set (pages_at v slot) place p)) (after_is ∙ ap (λ (p : List ℕ). written from part p) (now_page ∙ page_is))

    -- the last frame goes back
    module _ (some : 0 < length (pages_at v slot)) (front : List ℕ) (front_is : front ≡ take (length t - 1) t) where
      front_of : front ≡ take (length (get_or tables slot []) - 1) (get_or tables slot [])
      front_of = front_is ∙ ap (λ (u : List ℕ). take (length u - 1) u) table_is

      module _ (f : ℕ) (f_is : f ≡ get_or t (length t - 1) 0) where
        -- the place of the last page
        abbrev back : ℕ
        back = length (pages_at v slot) - 1

        last_is : f ≡ get_or t back 0
        last_is = f_is ∙ ap (λ (n : ℕ). get_or t (n - 1) 0) length-table

        pub last_in : f < length frames
        last_in = frame_in back f (omega (arith, some)) last_is

        abbrev blank_page : List ℕ
        blank_page = replicate 256 0

        cleared : IsKept (set frames f blank_page) tables free
        cleared = kept_written frames tables free f blank_page kept (length-replicate {A = ℕ} 256 0) (taken back f (omega (arith, some)) last_is)

        pub popped : (free' : List ℕ) → free' ≡ free ++ f ∷ [] → IsKept (set frames f (replicate 256 0)) (set tables slot front) free'
        popped free' free_is =
            let of : f ≡ get_or (get_or tables slot []) (length (get_or tables slot []) - 1) 0 = f_is ∙ ap (λ (u : List ℕ). get_or u (length u - 1) 0) table_is in
            let free_of = free_is ∙ ap (λ (x : ℕ). free ++ x ∷ []) of in
            subst (λ (u : List ℕ). IsKept (set frames f blank_page) (set tables slot u) free') (sym front_of)
            (subst (λ (g : List ℕ). IsKept (set frames f blank_page) (set tables slot (take (length (get_or tables slot []) - 1) (get_or tables slot []))) g) (sym free_of)
            (kept_back (set frames f blank_page) tables free slot cleared (slot_within slot ls) (omega (arith, some, length-row slot))
            (ap (λ (i : ℕ). get_or (set frames f blank_page) i []) (sym of) ∙ get_or-set_same frames f blank_page [] last_in)))

        pub popped_view : map (pages_from (set frames f (replicate 256 0))) (set tables slot front) ≡ set v slot (take (length (pages_at v slot) - 1) (pages_at v slot))
        popped_view = ap (λ (u : List ℕ). map (pages_from (set frames f blank_page)) (set tables slot u)) front_of
            ∙ view_cut (set frames f blank_page) tables slot (length (get_or tables slot []) - 1)
            ∙ ap (λ (w : List (List (List ℕ))). set w slot (take (length (get_or tables slot []) - 1) (pages_at w slot))) (put_view back f (omega (arith, some)) last_is blank_page)
            ∙ ap (λ (n : ℕ). set (set v slot (set (pages_at v slot) back blank_page)) slot (take (n - 1) (pages_at (set v slot (set (pages_at v slot) back blank_page)) slot))) (sym (length-row slot))
            ∙ set-set v slot _ _
            ∙ ap (λ (ps : List (List ℕ)). set v slot (take back ps)) (get_or-set_same v slot (set (pages_at v slot) back blank_page) [] ls)
            ∙ ap (λ (ps : List (List ℕ)). set v slot ps) (take-set back (pages_at v slot) blank_page)

    -- a free frame is given
    module _ (few : length (pages_at v slot) < 16) (f : ℕ) (rest more : List ℕ) (was : free ≡ rest ++ f ∷ []) (more_is : more ≡ t ++ f ∷ []) where
      more_of : more ≡ get_or tables slot [] ++ f ∷ []
      more_of = more_is ∙ ap (λ (u : List ℕ). u ++ f ∷ []) table_is

      given : IsKept frames (set tables slot (get_or tables slot [] ++ f ∷ [])) rest
      given = kept_given frames tables free rest f slot kept was (slot_within slot ls) (omega (arith, few, length-row slot))

      -- it is not free any more
      gone : (k : ℕ) → k < length rest → get_or rest k 0 ≢ f
      gone k lk e =
          let u = get_or tables slot [] in
          let row : get_or (set tables slot (u ++ f ∷ [])) slot [] ≡ u ++ f ∷ [] = get_or-set_same tables slot (u ++ f ∷ []) [] (slot_within slot ls) in
          omega (arith, (given.apart 0 (suc slot) k (length u) lk (omega (arith, ap length row, length-append u (f ∷ []))) (e ∙ sym (ap (λ (ys : List ℕ). get_or ys (length u) 0) row ∙ get_or_push u f 0 (length u) refl))).0)

      pub pushed : (page : List ℕ) → length page ≡ 256 → IsKept (set frames f page) (set tables slot more) rest
      pushed page size = subst (λ (u : List ℕ). IsKept (set frames f page) (set tables slot u) rest) (sym more_of) (kept_written frames _ rest f page given size gone)

      pub pushed_view : (page : List ℕ) → f < length frames → map (pages_from (set frames f page)) (set tables slot more) ≡ set v slot (pages_at v slot ++ page ∷ [])
      pushed_view page lf = ap (λ (u : List ℕ). map (pages_from (set frames f page)) (set tables slot u)) more_of
          ∙ view_more frames f page rest tables slot lf (slot_within slot ls) given.apart
          ∙ ap (λ (w : List (List (List ℕ))). set w slot (pages_at w slot ++ page ∷ [])) view

-- a frame that was free is there
pub free_in : (frames : List (List ℕ)) (tables : List (List ℕ)) (free rest : List ℕ) (f : ℕ) → IsKept frames tables free → free ≡ rest ++ f ∷ [] → f < length frames
free_in frames tables free rest f kept was =
    omega (arith, kept.within 0 (length rest) (omega (arith, ap length was, length-append rest (f ∷ []))), ap (λ (ys : List ℕ). get_or ys (length rest) 0) was, get_or_push rest f 0 (length rest) refl)
