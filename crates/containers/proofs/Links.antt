-- A link that is added.
use Rattle.std.proofs.Common.{◌≡◌, ◌≢◌, ℕ, suc, ◌+◌, ◌<◌, ◌⊎◌, inl, inr, Bool, cond, ◌==◌, List, [], ◌∷◌, ◌++◌, map, length, get_or, refl, sym, ap, ap₂, ◌∙◌, subst, arith, lit<}
use Rattle.std.proofs.lemmas.Bool.{cases_eq, cases_Bool, eqb-true, eq-eqb, both_ways}
use Rattle.std.proofs.lemmas.List.{map-append}
use Rattle.containers.specs.Lists.{Lists, family_at, cells_at, list_at, IsWellFormed}
use Rattle.containers.specs.Cells.{Stands, IsAdded, IsPaired, IsSound, IsRecorded, IsLink, Lists'}
use Rattle.containers.specs.Directory.{IsDirectory, IsListing}
use Rattle.std.specs.Prelude.{sum_by}
use Rattle.containers.specs.Tree.{add_lists}
use Rattle.containers.specs.View.{head_in, ids_of, lists_of, IsKept, IsDrafted}
use Rattle.containers.proofs.Moves.{one_head, zero_one, one_zero, two_cases, stands_beside, stands_beside_back}
use Rattle.containers.proofs.Directories.{directory_as, drafted_of, kept_of, listing_of, slot_at}
use Rattle.containers.specs.Sweep.{IsSimple}
use Rattle.containers.proofs.Views.{object_found}

pub map_same : (f g : ℕ → ℕ) (xs : List ℕ) → ((k : ℕ) → k < length xs → f (get_or xs k 0) ≡ g (get_or xs k 0)) → map f xs ≡ map g xs
map_same f g [] h = refl
map_same f g (x ∷ xs) h = ap₂ (λ (y : ℕ) (ys : List ℕ). y ∷ ys) (h 0 (omega arith)) (map_same f g xs (λ k lt. h (suc k) (omega arith)))

-- where each list is as it is to be
lists_same : (r r' : List Lists) (names names' ids slots : List ℕ) (d o : ℕ) → ((k : ℕ) → k < length ids → ids_of r' names' (get_or slots k 0) ≡ cond (d == get_or ids k 0) (ids_of r names (get_or slots k 0) ++ o ∷ []) (ids_of r names (get_or slots k 0))) → lists_of r' names' ids slots ≡ add_lists (lists_of r names ids slots) d o
lists_same r r' names names' [] slots d o h = refl
lists_same r r' names names' (i ∷ ids) [] d o h = refl
lists_same r r' names names' (i ∷ ids) (s ∷ slots) d o h =
    ap₂ (λ (x : List ℕ) (xs : List (ℕ × List ℕ)). (i, x) ∷ xs) (h 0 (omega arith)) (lists_same r r' names names' ids slots d o (λ k lt. h (suc k) (omega arith)))

module _ (size root : ℕ) (old new : List Lists) (names ids slots : List ℕ) (d o : ℕ) (kept : IsDrafted size root old names ids slots) (rd : IsRecorded size root old d) (o_in : o < size) (not_root : o ≢ root) (fresh : Lists' size old d o → ⊥) (l : IsAdded size old new d o) where
  p : IsPaired size old
  p = kept.sound.paired

  kept0 : (h x : ℕ) → x ≢ l.cell → Stands old 0 h x → Stands new 0 h x
  kept0 h x ne s = stands_beside_back l.between new 1 o l.cell l.second 0 h x zero_one (l.first.kept h x ne s)

  was0 : (h x : ℕ) → x ≢ l.cell → Stands new 0 h x → Stands old 0 h x
  was0 h x ne s = l.first.was h x ne (stands_beside l.between new 1 o l.cell l.second 0 h x zero_one s)

  kept1 : (h x : ℕ) → x ≢ l.cell → Stands old 1 h x → Stands new 1 h x
  kept1 h x ne s = l.second.kept h x ne (stands_beside_back old l.between 0 d l.cell l.first 1 h x one_zero s)

  was1 : (h x : ℕ) → x ≢ l.cell → Stands new 1 h x → Stands old 1 h x
  was1 h x ne s = stands_beside old l.between 0 d l.cell l.first 1 h x one_zero (l.second.was h x ne s)

  arrived0 : Stands new 0 d l.cell
  arrived0 = stands_beside_back l.between new 1 o l.cell l.second 0 d l.cell zero_one l.first.arrived

  well0 : IsWellFormed (family_at new 0)
  well0 = subst IsWellFormed (sym (l.second.beside 0 zero_one)) l.first.well

  at0 : (h x : ℕ) → x ≡ l.cell → Stands new 0 h x → h ≡ d
  at0 h x e s = one_head new 0 h d l.cell well0 (subst (λ (i : ℕ). Stands new 0 h i) e s) arrived0

  at1 : (h x : ℕ) → x ≡ l.cell → Stands new 1 h x → h ≡ o
  at1 h x e s = one_head new 1 h o l.cell l.second.well (subst (λ (i : ℕ). Stands new 1 h i) e s) l.second.arrived

  -- a cell in another list of family 0 is another
  other_cell : (h x : ℕ) → h ≢ size → Stands old 0 h x → x ≢ l.cell
  other_cell h x ne s e = ne (one_head old 0 h size l.cell (p.well 0 (lit< tt)) (subst (λ (i : ℕ). Stands old 0 h i) e s) l.was_spare)

  added_paired : IsPaired size new
  added_paired =
      let e0 : family_at new 0 ≡ family_at l.between 0 = l.second.beside 0 zero_one in
      let e1 : family_at l.between 1 ≡ family_at old 1 = l.first.beside 1 one_zero in
      record {
        families = l.second.families ∙ l.first.families ∙ p.families;
        well = two_cases (λ (g : ℕ). IsWellFormed (family_at new g)) well0 l.second.well;
        heads = two_cases (λ (g : ℕ). length (family_at new g).lists ≡ size + 2) (ap (λ (x : Lists). length x.lists) e0 ∙ l.first.heads ∙ p.heads 0 (lit< tt)) (l.second.heads ∙ ap (λ (x : Lists). length x.lists) e1 ∙ p.heads 1 (lit< tt));
        cells = two_cases (λ (g : ℕ). (family_at new g).cells ≡ size) (ap (λ (x : Lists). x.cells) e0 ∙ l.first.cells ∙ p.cells 0 (lit< tt)) (l.second.cells ∙ ap (λ (x : Lists). x.cells) e1 ∙ p.cells 1 (lit< tt));
        object_of = λ h c ne s. elim (cases_eq c l.cell) [
          | inl e ↦ (o, o_in, subst (λ (i : ℕ). Stands new 1 o i) (sym e) l.second.arrived)
          | inr apart ↦ let was = p.object_of h c ne (was0 h c apart s) in (was.0, was.1, kept1 was.0 c apart was.2)
        ];
        holder_of = λ h c ne s. elim (cases_eq c l.cell) [
          | inl e ↦ (d, (λ (x : d ≡ size). omega (arith, rd.within)), omega (arith, rd.within), subst (λ (i : ℕ). Stands new 0 d i) (sym e) arrived0)
          | inr apart ↦ let was = p.holder_of h c ne (was1 h c apart s) in (was.0, was.1, was.2, kept0 was.0 c apart was.3)
        ];
        spare = λ c s. elim (cases_eq c l.cell) [
          | inl e ↦ let same : size ≡ d = at0 size c e s in absurd (omega (arith, rd.within))
          | inr apart ↦ kept1 size c apart (p.spare c (was0 size c apart s))
        ];
      }

  pub recorded_then : (h : ℕ) → IsRecorded size root old h → IsRecorded size root new h
  recorded_then h r = elim r.reached [
    | inl e ↦ record { within = r.within; reached = inl e }
    | inr b ↦ elim (cases_eq b.0 l.cell) [
      | inl e ↦
          let same : h ≡ size = one_head old 1 h size l.cell (p.well 1 (lit< tt)) (subst (λ (i : ℕ). Stands old 1 h i) e b.1) (p.spare l.cell l.was_spare) in
          absurd (omega (arith, r.within))
      | inr ne ↦ record { within = r.within; reached = inr (b.0, kept1 h b.0 ne b.1) }
    ]
  ]

  -- what is recorded then is the object, or was recorded
  pub recorded_or : (h : ℕ) → IsRecorded size root new h → (h ≡ o) ⊎ IsRecorded size root old h
  recorded_or h r = elim r.reached [
    | inl e ↦ inr (record { within = r.within; reached = inl e })
    | inr b ↦ elim (cases_eq b.0 l.cell) [
      | inl e ↦ inl (at1 h b.0 e b.1)
      | inr ne ↦ inr (record { within = r.within; reached = inr (b.0, was1 h b.0 ne b.1) })
    ]
  ]

  -- the object is recorded then
  pub object_then : IsRecorded size root new o
  object_then = record { within = o_in; reached = inr (l.cell, l.second.arrived) }

  none_dies : (c : ℕ) → Stands new 0 (size + 1) c → ⊥
  none_dies c s = elim (cases_eq c l.cell) [
    | inl e ↦ let same : size + 1 ≡ d = at0 (size + 1) c e s in absurd (omega (arith, rd.within))
    | inr ne ↦
        let was = was0 (size + 1) c ne s in
        let of = p.object_of (size + 1) c (λ (e : size + 1 ≡ size). omega arith) was in
        kept.calm of.0 (record { cell = c; dying = was; names = of.2 })
  ]

  link_before : (x y c : ℕ) → c ≢ l.cell → IsLink size new x y c → IsLink size old x y c
  link_before x y c ne m = record { holder = m.holder; object = m.object; held = was0 x c ne m.held; names = was1 y c ne m.names }

  -- the new link is no old one
  no_old : (x y b c : ℕ) → b ≡ l.cell → c ≢ l.cell → IsLink size new x y b → IsLink size new x y c → ⊥
  no_old x y b c e ne m n =
      let before = link_before x y c ne n in
      let fromd = at0 x b e m.held in
      let too = at1 y b e m.names in
      fresh (subst (λ (i : ℕ). Lists' size old i o) fromd (subst (λ (i : ℕ). Lists' size old x i) too (record { cell = c; link = before })))

  pub added_sound : IsSound size root new
  added_sound = record {
    paired = added_paired;
    root_in = kept.sound.root_in;
    root_free = λ c s. elim (cases_eq c l.cell) [
      | inl e ↦ absurd (not_root (sym (at1 root c e s)))
      | inr ne ↦ kept.sound.root_free c (was1 root c ne s)
    ];
    holders = λ h c lt s. elim (cases_eq c l.cell) [
      | inl e ↦ subst (λ (i : ℕ). IsRecorded size root new i) (sym (at0 h c e s)) (recorded_then d rd)
      | inr ne ↦ recorded_then h (kept.sound.holders h c lt (was0 h c ne s))
    ];
    lone = λ h c b dying one two. absurd (none_dies c dying);
  }

  pub added_simple : IsSimple size new
  added_simple x y b c m n = elim (cases_eq b l.cell) [
    | inl e ↦ elim (cases_eq c l.cell) [ inl f ↦ e ∙ sym f | inr nf ↦ absurd (no_old x y b c e nf m n) ]
    | inr ne ↦ elim (cases_eq c l.cell) [ inl f ↦ absurd (no_old x y c b f ne n m) | inr nf ↦ kept.simple x y b c (link_before x y b ne m) (link_before x y c nf n) ]
  ]

  -- the invariant again, with a listing of what is recorded then
  pub drafted_as_added : (names' ids' slots' : List ℕ) → IsListing size root new names' ids' slots' → length names' ≡ size → get_or names' root 0 ≡ 1 → IsDrafted size root new names' ids' slots'
  drafted_as_added names' ids' slots' listing' names_len root_id = record {
    sound = added_sound;
    calm = λ h y. none_dies y.cell y.dying;
    simple = added_simple;
    listing = listing';
    full = ap (λ (x : Lists). sum_by length x.lists) (l.second.beside 0 zero_one) ∙ l.first.total ∙ kept.full;
    fits = kept.fits;
    names_len = names_len;
    root_id = root_id;
  }

  cells_is : cells_at new 0 d ≡ cells_at old 0 d ++ l.cell ∷ []
  cells_is = ap (λ (x : Lists). list_at x d) (l.second.beside 0 zero_one) ∙ l.first.appended

  pub cells_other : (h : ℕ) → h < size → h ≢ d → cells_at new 0 h ≡ cells_at old 0 h
  cells_other h lt ne = ap (λ (x : Lists). list_at x h) (l.second.beside 0 zero_one) ∙ l.first.same h ne (λ s. other_cell h l.cell (λ (e : h ≡ size). omega arith) s refl)

  module _ (names' : List ℕ) (agree : (h : ℕ) → IsRecorded size root old h → get_or names' h 0 ≡ get_or names h 0) where
    -- what an old cell names is as it was
    same_name : (h c : ℕ) → h < size → Stands old 0 h c → get_or names' (head_in (family_at new 1).lists c) 0 ≡ get_or names (head_in (family_at old 1).lists c) 0
    same_name h c lt s =
        let of = p.object_of h c (λ (e : h ≡ size). omega arith) s in
        let ne = other_cell h c (λ (e : h ≡ size). omega arith) s in
        ap (λ (i : ℕ). get_or names' i 0) (object_found new l.second.well of.0 c (kept1 of.0 c ne of.2))
        ∙ agree of.0 (record { within = of.1; reached = inr (c, of.2) })
        ∙ sym (ap (λ (i : ℕ). get_or names i 0) (object_found old (p.well 1 (lit< tt)) of.0 c of.2))

    same_names : (h : ℕ) → h < size → map (λ c. get_or names' (head_in (family_at new 1).lists c) 0) (cells_at old 0 h) ≡ ids_of old names h
    same_names h lt = map_same (λ c. get_or names' (head_in (family_at new 1).lists c) 0) (λ c. get_or names (head_in (family_at old 1).lists c) 0) (cells_at old 0 h)
        (λ k within. same_name h (get_or (cells_at old 0 h) k 0) lt (record { place = k; stands = record { within = within; is = refl } }))

    ids_new : ids_of new names' d ≡ ids_of old names d ++ get_or names' o 0 ∷ []
    ids_new =
        ap (λ (xs : List ℕ). map (λ c. get_or names' (head_in (family_at new 1).lists c) 0) xs) cells_is
        ∙ map-append (λ (c : ℕ). get_or names' (head_in (family_at new 1).lists c) 0) (cells_at old 0 d) (l.cell ∷ [])
        ∙ ap₂ (λ (xs : List ℕ) (x : ℕ). xs ++ x ∷ []) (same_names d rd.within) (ap (λ (i : ℕ). get_or names' i 0) (object_found new l.second.well o l.cell l.second.arrived))

    ids_other : (h : ℕ) → h < size → h ≢ d → ids_of new names' h ≡ ids_of old names h
    ids_other h lt ne = ap (λ (xs : List ℕ). map (λ c. get_or names' (head_in (family_at new 1).lists c) 0) xs) (cells_other h lt ne) ∙ same_names h lt

    pub lists_with : lists_of new names' ids slots ≡ add_lists (lists_of old names ids slots) (get_or names d 0) (get_or names' o 0)
    lists_with = lists_same old new names names' ids slots (get_or names d 0) (get_or names' o 0) (λ k lt.
        let s = get_or slots k 0 in
        let within = kept.listing.within k lt in
        elim (cases_Bool (get_or names d 0 == get_or ids k 0)) [
          | inl here ↦
              let at : s ≡ d = slot_at size root old names ids slots kept.listing k d lt rd (eqb-true (get_or names d 0) (get_or ids k 0) here) in
              ap (λ (i : ℕ). ids_of new names' i) at ∙ ids_new ∙ ap (λ (i : ℕ). ids_of old names i ++ get_or names' o 0 ∷ []) (sym at)
              ∙ sym (ap (λ (v : Bool). cond v (ids_of old names s ++ get_or names' o 0 ∷ []) (ids_of old names s)) here)
          | inr there ↦
              let ne : s ≢ d = λ (e : s ≡ d). both_ways (get_or names d 0 == get_or ids k 0) there (eq-eqb (get_or names d 0) (get_or ids k 0) (ap (λ (i : ℕ). get_or names i 0) (sym e) ∙ kept.listing.name k lt)) in
              ids_other s within ne ∙ sym (ap (λ (v : Bool). cond v (ids_of old names s ++ get_or names' o 0 ∷ []) (ids_of old names s)) there)
        ])

-- a link of a draft, to an object that is laid down
module _ (size root : ℕ) (old new : List Lists) (names ids slots : List ℕ) (d k : ℕ) (drafted : IsDrafted size root old names ids slots) (rd : IsRecorded size root old d) (in_range : k < length ids) (not_root : get_or slots k 0 ≢ root) (fresh : Lists' size old d (get_or slots k 0) → ⊥) (l : IsAdded size old new d (get_or slots k 0)) where
  within : get_or slots k 0 < size
  within = drafted.listing.within k in_range

  pub drafted_added : IsDrafted size root new names ids slots
  drafted_added = drafted_as_added size root old new names ids slots d (get_or slots k 0) drafted rd within not_root fresh l names ids slots
      (record {
        beside = drafted.listing.beside;
        rises = drafted.listing.rises;
        within = drafted.listing.within;
        name = drafted.listing.name;
        place = λ h rec. elim (recorded_or size root old new names ids slots d (get_or slots k 0) drafted rd within not_root fresh l h rec) [
          | inl e ↦ (k, in_range, sym e)
          | inr was ↦ drafted.listing.place h was
        ];
      })
      drafted.names_len drafted.root_id

  pub lists_drafted : lists_of new names ids slots ≡ add_lists (lists_of old names ids slots) (get_or names d 0) (get_or names (get_or slots k 0) 0)
  lists_drafted = lists_with size root old new names ids slots d (get_or slots k 0) drafted rd within not_root fresh l names (λ h r. refl)

-- a link to an object that was there
module _ (size root : ℕ) (old new : List Lists) (names ids slots : List ℕ) (d o : ℕ) (kept : IsKept size root old names ids slots) (rd : IsRecorded size root old d) (ro : IsRecorded size root old o) (not_root : o ≢ root) (fresh : Lists' size old d o → ⊥) (l : IsAdded size old new d o) where
  drafted : IsDrafted size root old names ids slots
  drafted = drafted_of kept

  dir : IsDirectory size root new names ids slots
  dir = directory_as size root old new names ids slots kept.directory (recorded_then size root old new names ids slots d o drafted rd ro.within not_root fresh l)
      (λ h r. elim (recorded_or size root old new names ids slots d o drafted rd ro.within not_root fresh l h r) [
        | inl e ↦ subst (λ (i : ℕ). IsRecorded size root old i) (sym e) ro
        | inr was ↦ was
      ])

  pub kept_added : IsKept size root new names ids slots
  kept_added = kept_of (drafted_as_added size root old new names ids slots d o drafted rd ro.within not_root fresh l names ids slots (listing_of dir) kept.names_len kept.root_id) dir.recorded

  pub lists_added : lists_of new names ids slots ≡ add_lists (lists_of old names ids slots) (get_or names d 0) (get_or names o 0)
  lists_added = lists_with size root old new names ids slots d o drafted rd ro.within not_root fresh l names (λ h r. refl)
