-- What a change of the nodes leaves of the lists.
use Rattle.std.proofs.Common.{◌≡◌, ◌≢◌, ℕ, suc, ◌+◌, ◌-◌, ◌<◌, ◌≤◌, inl, inr, List, [], ◌∷◌, ◌++◌, eqb, map, length, get_or, set, take, drop, sym, ap, ◌∙◌, subst, arith, length-drop, length-set, length-append, get_or-set_other, get_or-set_same}
use Rattle.std.specs.Prelude.{All, remove}
use Rattle.std.proofs.lemmas.Bool.{cases_lt, cases_eq, eqb-true, ne_eqb}
use Rattle.std.proofs.lemmas.List.{get_or_past, append-nil, map-set, get_or-drop, get_or-take, length-take-le, get_or_default}
use Rattle.std.proofs.lemmas.List.Edits.{length-remove, get_or-remove_below, get_or-remove_above}
use Rattle.std.proofs.lemmas.List.Elements.{All-head, All-drop, All-take, All-push, All-append, All-weaker, All-from_get_or, All-contains}
use Rattle.std.proofs.lemmas.Map.Steps.{length-le_from_distinct_below}
use Rattle.std.proofs.lemmas.Map.Keys.{IsDistinct-from_apart}
use Rattle.std.proofs.lemmas.Map.Views.{Contains-from_any}
use Rattle.containers.specs.Lists.{Lists, StandsAt, IsWellFormed}
use Rattle.containers.specs.Chain.{Edge, Segment, IsRing, IsLaidOut, lists_from}
use Rattle.containers.proofs.Segments.{segment_join, segment_last, segment_first, segment_back, segment_ahead, segment_same, segment_to, segment_kept}
use Rattle.containers.proofs.ListViews.{head_below, head_is, cell_below, rest_from, part_to, len_is, lists_are}

-- A cell c between two nodes goes: node `before` leads to node `after`.
module _ (next prev : List ℕ) (c before after : ℕ) (led : get_or next before 0 ≡ c) (led_back : get_or prev after 0 ≡ c) where
  -- an edge that does not touch c stays
  pub edge_without : (u v : ℕ) → u ≢ c → v ≢ c → Edge next prev u v → Edge (set next before after) (set prev after before) u v
  edge_without u v nu nv e =
      let apart : u ≢ before = λ (q : u ≡ before). nv (sym e.ahead ∙ ap (λ (i : ℕ). get_or next i 0) q ∙ led) in
      let apart_back : v ≢ after = λ (q : v ≡ after). nu (sym e.back ∙ ap (λ (i : ℕ). get_or prev i 0) q ∙ led_back) in
      record {
        ahead = get_or-set_other next before u after 0 apart ∙ e.ahead;
        back = get_or-set_other prev after v before 0 apart_back ∙ e.back;
      }

  -- a walk that does not touch c stays
  pub segment_past : (a b : ℕ) (xs : List ℕ) → a ≢ c → b ≢ c → All (λ x. x ≢ c) xs → Segment next prev a xs b → Segment (set next before after) (set prev after before) a xs b
  segment_past a b xs na nb ne = segment_kept next prev (set next before after) (set prev after before) (λ x. x ≢ c) (λ x. x ≢ c) edge_without a b xs na nb ne ne

  -- a walk to c ends at the node after it
  pub segment_short : (a : ℕ) (xs : List ℕ) → before ≡ get_or prev c 0 → before < length next → after < length prev → a ≢ c → All (λ x. x ≢ c) xs → Segment next prev a xs c → Segment (set next before after) (set prev after before) a xs after
  segment_short a xs e in_next in_prev na ne =
      let turn : (u : ℕ) → u ≢ c → Edge next prev u c → Edge (set next before after) (set prev after before) u after = λ u nu edge.
      let is : before ≡ u = e ∙ edge.back in
      record {
        ahead = ap (λ (i : ℕ). get_or (set next before after) i 0) (sym is) ∙ get_or-set_same next before after 0 in_next;
        back = get_or-set_same prev after before 0 in_prev ∙ is;
      } in
      segment_to next prev (set next before after) (set prev after before) (λ x. x ≢ c) (λ x. x ≢ c) edge_without c after turn a xs na ne ne

  -- a ring without c
  pub segment_without : (a b : ℕ) (xs ys : List ℕ) → before ≡ get_or prev c 0 → after ≡ get_or next c 0 → before < length next → after < length prev → a ≢ c → b ≢ c → All (λ x. x ≢ c) xs → All (λ x. x ≢ c) ys → Segment next prev a xs c → Segment next prev c ys b → Segment (set next before after) (set prev after before) a (xs ++ ys) b
  segment_without a b xs [] e e' in_next in_prev na nb nx ny s t =
      let end : after ≡ b = e' ∙ t.ahead in
      let short = segment_short a xs e in_next in_prev na nx s in
      subst (λ (zs : List ℕ). Segment (set next before after) (set prev after before) a zs b) (sym (append-nil xs))
      (subst (λ (i : ℕ). Segment (set next before after) (set prev after before) a xs i) end short)
  segment_without a b xs (y ∷ ys) e e' in_next in_prev na nb nx ny s t =
      let at : after ≡ y = e' ∙ t.0.ahead in
      let short = subst (λ (i : ℕ). Segment (set next before after) (set prev after before) a xs i) at (segment_short a xs e in_next in_prev na nx s) in
      let rest = segment_past y b ys (All-head (λ x. x ≢ c) y ys ny) nb (λ k d lt. ny (suc k) d (omega arith)) t.1 in
      segment_join _ _ a y b xs ys short rest

-- A cell c that no walk touches comes before node h, after the node `last` that led there.
module _ (next prev : List ℕ) (c h last : ℕ) (led : get_or next last 0 ≡ h) (led_back : get_or prev h 0 ≡ last) where
  -- an edge that touches c not, and does not lead to h, stays
  pub edge_kept : (u v : ℕ) → u ≢ c → (v ≢ c) × (v ≢ h) → Edge next prev u v → Edge (set (set next last c) c h) (set (set prev h c) c last) u v
  edge_kept u v nu nv e =
      let apart : u ≢ last = λ (q : u ≡ last). nv.1 (sym e.ahead ∙ ap (λ (i : ℕ). get_or next i 0) q ∙ led) in
      record {
        ahead = get_or-set_other (set next last c) c u h 0 nu ∙ get_or-set_other next last u c 0 apart ∙ e.ahead;
        back = get_or-set_other (set prev h c) c v last 0 nv.0 ∙ get_or-set_other prev h v c 0 nv.1 ∙ e.back;
      }

  -- another ring
  pub segment_beside : (a b : ℕ) (xs : List ℕ) → a ≢ c → b ≢ c → b ≢ h → All (λ x. x ≢ c) xs → All (λ x. x ≢ h) xs → Segment next prev a xs b → Segment (set (set next last c) c h) (set (set prev h c) c last) a xs b
  segment_beside a b xs na nb nh ne nes =
      segment_kept next prev (set (set next last c) c h) (set (set prev h c) c last) (λ x. x ≢ c) (λ x. (x ≢ c) × (x ≢ h)) edge_kept a b xs na (nb, nh) ne (λ k d lt. (ne k d lt, nes k d lt))

  -- the ring with c
  pub segment_pushed : (a : ℕ) (xs : List ℕ) → last < length next → c < length next → h < length prev → c < length prev → a ≢ c → h ≢ c → All (λ x. x ≢ c) xs → All (λ x. x ≢ h) xs → Segment next prev a xs h → Segment (set (set next last c) c h) (set (set prev h c) c last) a (xs ++ c ∷ []) h
  segment_pushed a xs last_in c_in h_in c_in_prev na nh ne nes s =
      let turn : (u : ℕ) → u ≢ c → Edge next prev u h → Edge (set (set next last c) c h) (set (set prev h c) c last) u c = λ u nu edge.
      let is : last ≡ u = sym led_back ∙ edge.back in
      let na_last : last ≢ c = λ (q : last ≡ c). nu (sym is ∙ q) in
      record {
        ahead = get_or-set_other (set next last c) c u h 0 nu ∙ ap (λ (i : ℕ). get_or (set next last c) i 0) (sym is) ∙ get_or-set_same next last c 0 last_in;
        back = get_or-set_same (set prev h c) c last 0 (omega (arith, length-set prev h c)) ∙ is;
      } in
      let to_c = segment_to next prev (set (set next last c) c h) (set (set prev h c) c last) (λ x. x ≢ c) (λ x. (x ≢ c) × (x ≢ h)) edge_kept h c turn a xs na ne (λ k d lt. (ne k d lt, nes k d lt)) s in
      let closing : Edge (set (set next last c) c h) (set (set prev h c) c last) c h = record {
        ahead = get_or-set_same (set next last c) c h 0 (omega (arith, length-set next last c));
        back = get_or-set_other (set prev h c) c h last 0 nh ∙ get_or-set_same prev h c 0 h_in;
      } in
      segment_join _ _ a c h xs [] to_c closing

-- one list of many is changed
rings_set : (cells : ℕ) (next prev heads : List ℕ) (lists : List (List ℕ)) (head : ℕ) (xs : List ℕ) → head < length lists → IsRing cells next prev heads head xs → ((other : ℕ) → other ≢ head → other < length lists → IsRing cells next prev heads other (get_or lists other [])) → (other : ℕ) → other < length (set lists head xs) → IsRing cells next prev heads other (get_or (set lists head xs) other [])
rings_set cells next prev heads lists head xs in_range own others other lt = elim (cases_eq other head) [
  | inl same ↦ subst (λ (i : ℕ). IsRing cells next prev heads i (get_or (set lists head xs) i [])) (sym same)
      (subst (λ (ys : List ℕ). IsRing cells next prev heads head ys) (sym (get_or-set_same lists head xs [] in_range)) own)
  | inr apart ↦ subst (λ (ys : List ℕ). IsRing cells next prev heads other ys) (sym (get_or-set_other lists head other xs [] apart))
      (others other apart (omega (arith, length-set lists head xs)))
]

module _ (cells : ℕ) (next prev heads lens : List ℕ) (lists : List (List ℕ)) (lay : IsLaidOut cells next prev heads lens lists) where
  -- no sentinel is a cell
  not_sentinel : (head other : ℕ) → head < length lists → All (λ x. x ≢ cells + other) (get_or lists head [])
  not_sentinel head other lt = All-weaker (λ x. x < cells) (λ x. x ≢ cells + other) (λ x below. omega arith) _ (lay.rings head lt).in_range

  -- a cell stands at one place of a list
  pub one_place : (head j k cell : ℕ) → StandsAt (get_or lists head []) j cell → StandsAt (get_or lists head []) k cell → j ≡ k
  one_place head j k cell at at' =
      let xs = get_or lists head [] in
      let not_end = not_sentinel head head (head_below lists head j cell at) in
      let same = segment_same next prev cell (cells + head) (drop (suc j) xs) (drop (suc k) xs)
      (All-drop (λ x. x ≢ cells + head) (suc j) xs not_end) (All-drop (λ x. x ≢ cells + head) (suc k) xs not_end)
      (rest_from cells next prev heads lens lists lay head j cell at) (rest_from cells next prev heads lens lists lay head k cell at') in
      omega (arith, ap length same, length-drop (suc j) xs, length-drop (suc k) xs, at.within, at'.within)

  -- and in one list
  pub one_head : (head other j k cell : ℕ) → StandsAt (get_or lists head []) j cell → StandsAt (get_or lists other []) k cell → head ≡ other
  one_head head other j k cell at at' =
      sym (head_is cells next prev heads lens lists lay head j cell at) ∙ head_is cells next prev heads lens lists lay other k cell at'

  -- so a list is no longer than there are cells
  pub length-list : (head : ℕ) → head < length lists → length (get_or lists head []) ≤ cells
  length-list head lt =
      let xs = get_or lists head [] in
      let ring = lay.rings head lt in
      length-le_from_distinct_below xs cells
      (IsDistinct-from_apart eqb xs (λ i j d less within. ne_eqb _ _ (λ (e : get_or xs i d ≡ get_or xs j d).
      let at_i : StandsAt xs i (get_or xs i d) = record { within = omega arith; is = get_or_default xs i 0 d (omega arith) } in
      let at_j : StandsAt xs j (get_or xs i d) = record { within = within; is = get_or_default xs j 0 d within ∙ sym e } in
      absurd (omega (arith, one_place head i j _ at_i at_j)))))
      (λ q found. All-contains (λ x. x < cells) xs q ring.in_range (Contains-from_any eqb-true q xs found))

  -- a cell that stands in no list is none of its cells
  not_in : (head cell : ℕ) → ((place : ℕ) → StandsAt (get_or lists head []) place cell → ⊥) → All (λ x. x ≢ cell) (get_or lists head [])
  not_in head cell free = All-from_get_or (λ x. x ≢ cell) _ 0 (λ i lt e. free i (record { within = lt; is = e }))

  module _ (head cell last n : ℕ) (last_is : last ≡ get_or prev (cells + head) 0) (n_is : n ≡ get_or lens head 0) (in_range : head < length lists) (below : cell < cells) (free : (other place : ℕ) → StandsAt (get_or lists other []) place cell → ⊥) where
    pub last_in : last < length next
    last_in =
        let ring = lay.rings head in_range in
        subst (λ (i : ℕ). i < length next) (sym last_is) (segment_back next prev (λ x. x < length next) (cells + head) (cells + head) _ (omega (arith, lay.next_len))
        (All-weaker (λ x. x < cells) (λ x. x < length next) (λ x lt. omega (arith, lay.next_len)) _ ring.in_range) ring.linked)

    -- the lists after a push
    pub pushed_laid_out : IsLaidOut cells
        (set (set next last cell) cell (cells + head))
        (set (set prev (cells + head) cell) cell last)
        (set heads cell head)
        (set lens head (n + 1))
        (set lists head (get_or lists head [] ++ cell ∷ []))
    pushed_laid_out =
        let xs = get_or lists head [] in
        let ring = lay.rings head in_range in
        let led = ap (λ (i : ℕ). get_or next i 0) last_is ∙ segment_last next prev _ _ xs ring.linked in
        let apart : cells + head ≢ cell = omega arith in
        let owner_kept = λ (other : ℕ) (lt : other < length lists). All-from_get_or (λ c. get_or (set heads cell head) c 0 ≡ other) (get_or lists other []) 0 (λ i within.
        get_or-set_other heads cell (get_or (get_or lists other []) i 0) head 0 (not_in other cell (free other) i 0 within) ∙ (lay.rings other lt).owned i 0 within) in
        record {
          next_len = length-set (set next last cell) cell (cells + head) ∙ length-set next last cell ∙ lay.next_len ∙ ap (λ (n : ℕ). cells + n) (sym (length-set lists head (xs ++ cell ∷ [])));
          prev_len = length-set (set prev (cells + head) cell) cell last ∙ length-set prev (cells + head) cell ∙ lay.prev_len ∙ ap (λ (n : ℕ). cells + n) (sym (length-set lists head (xs ++ cell ∷ [])));
          heads_len = length-set heads cell head ∙ lay.heads_len;
          counted = ap (λ (ns : List ℕ). set ns head (n + 1)) lay.counted ∙ ap (λ (m : ℕ). set (map length lists) head m) (omega (arith, n_is, len_is cells next prev heads lens lists lay head in_range, length-append xs (cell ∷ []))) ∙ sym (map-set length lists head (xs ++ cell ∷ []));
          rings = rings_set cells _ _ _ lists head (xs ++ cell ∷ []) in_range
              (record {
                linked = segment_pushed next prev cell (cells + head) last led (sym last_is) (cells + head) xs last_in (omega (arith, lay.next_len)) (omega (arith, lay.prev_len)) (omega (arith, lay.prev_len)) apart apart (not_in head cell (free head)) (not_sentinel head head in_range) ring.linked;
                in_range = All-push (λ c. c < cells) xs cell ring.in_range below;
                owned = All-push (λ c. get_or (set heads cell head) c 0 ≡ head) xs cell (owner_kept head in_range) (get_or-set_same heads cell head 0 (omega (arith, lay.heads_len)));
              })
              (λ other differs lt.
              let ring' = lay.rings other lt in
              let apart' : cells + other ≢ cell = omega arith in
              let apart_end : cells + other ≢ cells + head = omega arith in
              record {
                linked = segment_beside next prev cell (cells + head) last led (sym last_is) (cells + other) (cells + other) _ apart' apart' apart_end (not_in other cell (free other)) (not_sentinel other head lt) ring'.linked;
                in_range = ring'.in_range;
                owned = owner_kept other lt;
              });
        }

  module _ (head place cell before after n : ℕ) (before_is : before ≡ get_or prev cell 0) (after_is : after ≡ get_or next cell 0) (n_is : n ≡ get_or lens head 0) (at : StandsAt (get_or lists head []) place cell) where
    pub before_in : before < length next
    before_in =
        let lt = head_below lists head place cell at in
        let in_next = All-weaker (λ x. x < cells) (λ x. x < length next) (λ x small. omega (arith, lay.next_len)) _ (lay.rings head lt).in_range in
        subst (λ (i : ℕ). i < length next) (sym before_is) (segment_back next prev (λ x. x < length next) _ _ _ (omega (arith, lay.next_len)) (All-take (λ x. x < length next) place _ in_next) (part_to cells next prev heads lens lists lay head place cell at))

    pub after_in : after < length prev
    after_in =
        let lt = head_below lists head place cell at in
        let in_prev = All-weaker (λ x. x < cells) (λ x. x < length prev) (λ x small. omega (arith, lay.prev_len)) _ (lay.rings head lt).in_range in
        subst (λ (i : ℕ). i < length prev) (sym after_is) (segment_ahead next prev (λ x. x < length prev) _ _ _ (omega (arith, lay.prev_len)) (All-drop (λ x. x < length prev) (suc place) _ in_prev) (rest_from cells next prev heads lens lists lay head place cell at))

    -- the lists after a cell was taken out
    pub unlinked_laid_out : IsLaidOut cells
        (set next before after)
        (set prev after before)
        heads
        (set lens head (n - 1))
        (set lists head (remove (get_or lists head []) place))
    unlinked_laid_out =
        let xs = get_or lists head [] in
        let lt = head_below lists head place cell at in
        let ring = lay.rings head lt in
        let below = cell_below cells next prev heads lens lists lay head place cell at in
        let to = part_to cells next prev heads lens lists lay head place cell at in
        let rest = rest_from cells next prev heads lens lists lay head place cell at in
        let led = ap (λ (i : ℕ). get_or next i 0) before_is ∙ segment_last next prev _ _ _ to in
        let led_back = ap (λ (i : ℕ). get_or prev i 0) after_is ∙ segment_first next prev _ _ _ rest in
        let apart : cells + head ≢ cell = omega arith in
        let short = length-remove xs place at.within in
        let none_before : All (λ x. x ≢ cell) (take place xs) = All-from_get_or (λ x. x ≢ cell) (take place xs) 0 (λ i within e.
        let less : i < place = omega (arith, within, length-take-le place xs (omega (arith, at.within))) in
        absurd (omega (arith, one_place head i place cell (record { within = omega (arith, at.within); is = sym (get_or-take place xs i 0 less) ∙ e }) at))) in
        let none_after : All (λ x. x ≢ cell) (drop (suc place) xs) = All-from_get_or (λ x. x ≢ cell) (drop (suc place) xs) 0 (λ i within e.
        absurd (omega (arith, one_place head (suc place + i) place cell (record { within = omega (arith, within, length-drop (suc place) xs); is = sym (get_or-drop (suc place) xs i 0) ∙ e }) at))) in
        record {
          next_len = length-set next before after ∙ lay.next_len ∙ ap (λ (n : ℕ). cells + n) (sym (length-set lists head (remove xs place)));
          prev_len = length-set prev after before ∙ lay.prev_len ∙ ap (λ (n : ℕ). cells + n) (sym (length-set lists head (remove xs place)));
          heads_len = lay.heads_len;
          counted = ap (λ (ns : List ℕ). set ns head (n - 1)) lay.counted ∙ ap (λ (m : ℕ). set (map length lists) head m) (omega (arith, n_is, len_is cells next prev heads lens lists lay head lt, short)) ∙ sym (map-set length lists head (remove xs place));
          rings = rings_set cells _ _ _ lists head (remove xs place) lt
              (record {
                linked = segment_without next prev cell before after led led_back (cells + head) (cells + head) (take place xs) (drop (suc place) xs) before_is after_is before_in after_in
                    apart apart none_before none_after to rest;
                in_range = All-append (λ c. c < cells) _ _ (All-take (λ c. c < cells) place xs ring.in_range) (All-drop (λ c. c < cells) (suc place) xs ring.in_range);
                owned = All-append (λ c. get_or heads c 0 ≡ head) _ _ (All-take (λ c. get_or heads c 0 ≡ head) place xs ring.owned) (All-drop (λ c. get_or heads c 0 ≡ head) (suc place) xs ring.owned);
              })
              (λ other differs lt'.
              let ring' = lay.rings other lt' in
              let apart' : cells + other ≢ cell = omega arith in
              record {
                linked = segment_past next prev cell before after led led_back (cells + other) (cells + other) _ apart' apart' (not_in other cell (λ k at'. differs (one_head other head k place cell at' at))) ring'.linked;
                in_range = ring'.in_range;
                owned = ring'.owned;
              });
        }

  module _ (head place cell : ℕ) (at : StandsAt (get_or lists head []) place cell) where
    -- a cell that was taken out stands nowhere
    pub not_after_remove : (other k : ℕ) → StandsAt (get_or (set lists head (remove (get_or lists head []) place)) other []) k cell → ⊥
    not_after_remove other k found = elim (cases_eq other head) [
      | inl same ↦
          let xs = get_or lists head [] in
          let is = ap (λ (i : ℕ). get_or (set lists head (remove xs place)) i []) same ∙ get_or-set_same lists head (remove xs place) [] (head_below lists head place cell at) in
          let here = subst (λ (ys : List ℕ). StandsAt ys k cell) is found in
          let less = length-remove xs place at.within in
          elim (cases_lt k place) [
            | inl lt ↦ absurd (omega (arith, one_place head k place cell (record { within = omega (arith, here.within, at.within); is = sym (get_or-remove_below xs place 0 k lt at.within) ∙ here.is }) at))
            | inr le ↦ absurd (omega (arith, one_place head (k + 1) place cell (record { within = omega (arith, here.within, less); is = sym (get_or-remove_above xs place 0 k le at.within) ∙ here.is }) at))
          ]
      | inr apart ↦
          let here = subst (λ (ys : List ℕ). StandsAt ys k cell) (get_or-set_other lists head other (remove (get_or lists head []) place) [] apart) found in
          apart (one_head other head k place cell here at)
    ]

-- what holds of the lists of the view
pub well_formed : (cells : ℕ) (next prev heads lens : List ℕ) (v : Lists) → IsLaidOut cells next prev heads lens v.lists → cells ≡ v.cells → IsWellFormed v
well_formed cells next prev heads lens v lay e = record {
  in_range = λ head place cell at. subst (λ (n : ℕ). cell < n) e (cell_below cells next prev heads lens v.lists lay head place cell at);
  one_head = one_head cells next prev heads lens v.lists lay;
  one_place = one_place cells next prev heads lens v.lists lay;
  short = λ head. elim (cases_lt head (length v.lists)) [
    | inl lt ↦ omega (arith, e, length-list cells next prev heads lens v.lists lay head lt)
    | inr le ↦ omega (arith, ap length (get_or_past v.lists head [] le))
  ];
}

-- and so of the view of nodes in which lists lie
pub well_formed_as : (cells : ℕ) (next prev heads lens : List ℕ) (lists : List (List ℕ)) → IsLaidOut cells next prev heads lens lists → (let r : Lists = record { cells = cells; lists = lists_from next cells lens } in IsWellFormed r)
well_formed_as cells next prev heads lens lists lay =
    let v : Lists = record { cells = cells; lists = lists_from next cells lens } in
    let are = lists_are cells next prev heads lens lists lay in
    let lay' = subst (λ (ls : List (List ℕ)). IsLaidOut cells next prev heads lens ls) (sym are) lay in
    well_formed cells next prev heads lens v lay' (λ _. cells)
