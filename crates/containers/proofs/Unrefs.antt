-- What is left after a link went, in ids.
use Rattle.std.proofs.Common.{Option, ◌≡◌, ◌≢◌, ℕ, suc, ◌+◌, ◌-◌, ◌<◌, ◌⊎◌, inl, inr, Bool, true, false, cond, not, ◌&&◌, ◌||◌, ◌==◌, List, [], ◌∷◌, map, length, get_or, refl, sym, ap, ap₂, ◌∙◌, subst, arith, lit<}
use Rattle.std.proofs.lemmas.Bool.{or_cases, and_parts, and_from, eqb-true, eq-eqb, cases_Bool, both_ways, cases_eq}
use Rattle.std.specs.Prelude.{Contains}
use Rattle.std.proofs.lemmas.List.{get_or-map, length-map}
use Rattle.std.proofs.lemmas.List.Elements.{Contains-get_or}
use Rattle.containers.specs.Visits.{place_of, named, named_one, link_ids, object_ids, IsHanded}
use Rattle.containers.specs.Lists.{Lists}
use Rattle.base.specs.Live.{has, links, IsLive}
use Rattle.containers.specs.Tree.{Tree, HasSlot, without, cut_lists, ids_in}
use Rattle.containers.specs.View.{lists_of, IsKept}
use Rattle.containers.specs.declared.visitor.Located.{Located}
use Rattle.containers.specs.Cells.{Stands, IsSound, IsRecorded, IsLink, Lists'}
use Rattle.containers.specs.Sweep.{IsCut, IsTree, IsOnce}
use Rattle.containers.specs.Directory.{IsDirectory}
use Rattle.containers.proofs.Moves.{one_head}
use Rattle.containers.proofs.Sounds.{dropped_gone}
use Rattle.containers.proofs.Directories.{directory_as, listing_of}
use Rattle.containers.proofs.Views.{IsNamed, or_left, or_right, has_at, at_has, ids_are, slot_one, links_listed, listed_links, live_slot, slot_live, leads_as}

has_without : (o : ℕ) (xs : List ℕ) (b : ℕ) → has (without o xs) b ≡ true → (has xs b ≡ true) × (b ≢ o)
has_without o [] b h = absurd (both_ways false refl h)
has_without o (x ∷ xs) b h = elim (cases_Bool (o == x)) [
  | inl same ↦
      let r = has_without o xs b (subst (λ (v : Bool). has (cond (not v) (x ∷ without o xs) (without o xs)) b ≡ true) same h) in
      (or_right (b == x) (has xs b) r.0, r.1)
  | inr other ↦
      let h' : (b == x || has (without o xs) b) ≡ true = subst (λ (v : Bool). has (cond (not v) (x ∷ without o xs) (without o xs)) b ≡ true) other h in
      elim (or_cases (b == x) (has (without o xs) b) h') [
        | inl here ↦ (or_left (b == x) (has xs b) here, λ (e : b ≡ o). both_ways (o == x) other (eq-eqb o x (sym e ∙ eqb-true b x here)))
        | inr there ↦ let r = has_without o xs b there in (or_right (b == x) (has xs b) r.0, r.1)
      ]
]

without_has : (o : ℕ) (xs : List ℕ) (b : ℕ) → has xs b ≡ true → b ≢ o → has (without o xs) b ≡ true
without_has o [] b h ne = h
without_has o (x ∷ xs) b h ne = elim (cases_Bool (o == x)) [
  | inl same ↦
      let rest : has xs b ≡ true = elim (or_cases (b == x) (has xs b) h) [ inl here ↦ absurd (ne (eqb-true b x here ∙ sym (eqb-true o x same))) | inr there ↦ there ] in
      subst (λ (v : Bool). has (cond (not v) (x ∷ without o xs) (without o xs)) b ≡ true) (sym same) (without_has o xs b rest ne)
  | inr other ↦
      let both : (b == x || has (without o xs) b) ≡ true = elim (or_cases (b == x) (has xs b) h) [ inl here ↦ or_left (b == x) (has (without o xs) b) here | inr there ↦ or_right (b == x) (has (without o xs) b) (without_has o xs b there ne) ] in
      subst (λ (v : Bool). has (cond (not v) (x ∷ without o xs) (without o xs)) b ≡ true) (sym other) both
]

pub cut_links : (lists : List (ℕ × List ℕ)) (d o a b : ℕ) → links (cut_lists lists d o) a b ≡ true → (links lists a b ≡ true) × (a ≡ d → b ≡ o → ⊥)
cut_links [] d o a b h = absurd (both_ways false refl h)
cut_links (e ∷ es) d o a b h = elim (or_cases ((a == e.0) && has (cond (d == e.0) (without o e.1) e.1) b) (links (cut_lists es d o) a b) h) [
  | inl here ↦
      let both = and_parts (a == e.0) (has (cond (d == e.0) (without o e.1) e.1) b) here in
      elim (cases_Bool (d == e.0)) [
        | inl same ↦
            let r = has_without o e.1 b (subst (λ (v : Bool). has (cond v (without o e.1) e.1) b ≡ true) same both.1) in
            (or_left _ _ (and_from (a == e.0) (has e.1 b) both.0 r.0), λ (x : a ≡ d) (y : b ≡ o). r.1 y)
        | inr other ↦
            let r : has e.1 b ≡ true = subst (λ (v : Bool). has (cond v (without o e.1) e.1) b ≡ true) other both.1 in
            (or_left _ _ (and_from (a == e.0) (has e.1 b) both.0 r), λ (x : a ≡ d) (y : b ≡ o). both_ways (d == e.0) other (eq-eqb d e.0 (sym x ∙ eqb-true a e.0 both.0)))
      ]
  | inr there ↦ let r = cut_links es d o a b there in (or_right _ _ r.0, r.1)
]

pub links_cut : (lists : List (ℕ × List ℕ)) (d o a b : ℕ) → links lists a b ≡ true → (a ≡ d → b ≡ o → ⊥) → links (cut_lists lists d o) a b ≡ true
links_cut [] d o a b h ne = h
links_cut (e ∷ es) d o a b h ne = elim (or_cases ((a == e.0) && has e.1 b) (links es a b) h) [
  | inl here ↦
      let both = and_parts (a == e.0) (has e.1 b) here in
      elim (cases_Bool (d == e.0)) [
        | inl same ↦
            let at : a ≡ d = eqb-true a e.0 both.0 ∙ sym (eqb-true d e.0 same) in
            or_left _ _ (and_from (a == e.0) (has (cond (d == e.0) (without o e.1) e.1) b) both.0 (subst (λ (v : Bool). has (cond v (without o e.1) e.1) b ≡ true) (sym same) (without_has o e.1 b both.1 (ne at))))
        | inr other ↦ or_left _ _ (and_from (a == e.0) (has (cond (d == e.0) (without o e.1) e.1) b) both.0 (subst (λ (v : Bool). has (cond v (without o e.1) e.1) b ≡ true) (sym other) both.1))
      ]
  | inr there ↦ or_right _ _ (links_cut es d o a b there ne)
]

module _ (size root : ℕ) (old new : List Lists) (d o : ℕ) (went : List (ℕ × ℕ)) (dead : List ℕ) (cut : IsCut size root old new d o went dead) (names ids slots ids' slots' : List ℕ) (kept : IsKept size root old names ids slots) (dir' : IsDirectory size root new names ids' slots') where
  sound_between : IsSound size root cut.between
  sound_between = (dropped_gone size root old cut.between d o cut.cell kept.sound cut.link cut.dropped).1.sound

  dir_between : IsDirectory size root cut.between names ids slots
  dir_between = directory_as size root old cut.between names ids slots kept.directory cut.recorded_between cut.recorded_before

  still : (x y : ℕ) → Lists' size old x y → (x ≡ d → y ≡ o → ⊥) → Lists' size cut.between x y
  still x y l ne = record {
    cell = l.cell;
    link = cut.others x y l.cell (λ (e : l.cell ≡ cut.cell).
        ne (one_head old 0 x d cut.cell (kept.sound.paired.well 0 (lit< tt)) (subst (λ (i : ℕ). Stands old 0 x i) e l.link.held) cut.link.held)
        (one_head old 1 y o cut.cell (kept.sound.paired.well 1 (lit< tt)) (subst (λ (i : ℕ). Stands old 1 y i) e l.link.names) cut.link.names)) l.link;
  }

  holder_in : (x y : ℕ) → Lists' size old x y → IsRecorded size root old x
  holder_in x y l = kept.sound.holders x l.cell l.link.holder l.link.held

  object_in : (x y : ℕ) → Lists' size old x y → IsRecorded size root old y
  object_in x y l = record { within = l.link.object; reached = inr (l.cell, l.link.names) }

  listed : Lists' size old d o
  listed = record { cell = cut.cell; link = cut.link }

  forth : (a b : ℕ) → links (cut_lists (lists_of old names ids slots) (get_or names d 0) (get_or names o 0)) a b ≡ true → links (lists_of cut.between names ids slots) a b ≡ true
  forth a b h =
      let c = cut_links (lists_of old names ids slots) (get_or names d 0) (get_or names o 0) a b h in
      let n = listed_links size root old names ids slots kept.sound (listing_of kept.directory) a b c.0 in
      let l = still n.d n.o n.listed (λ (e : n.d ≡ d) (f : n.o ≡ o). c.1 (sym n.d_is ∙ ap (λ (i : ℕ). get_or names i 0) e) (sym n.o_is ∙ ap (λ (i : ℕ). get_or names i 0) f)) in
      subst (λ (i : ℕ). links (lists_of cut.between names ids slots) i b ≡ true) n.d_is (subst (λ (i : ℕ). links (lists_of cut.between names ids slots) (get_or names n.d 0) i ≡ true) n.o_is (links_listed size root cut.between names ids slots sound_between (listing_of dir_between) n.d n.o l))

  back : (a b : ℕ) → links (lists_of cut.between names ids slots) a b ≡ true → links (cut_lists (lists_of old names ids slots) (get_or names d 0) (get_or names o 0)) a b ≡ true
  back a b h =
      let n = listed_links size root cut.between names ids slots sound_between (listing_of dir_between) a b h in
      let l = cut.without n.d n.o n.listed in
      let there = links_listed size root old names ids slots kept.sound (listing_of kept.directory) n.d n.o l in
      links_cut (lists_of old names ids slots) (get_or names d 0) (get_or names o 0) a b
      (subst (λ (i : ℕ). links (lists_of old names ids slots) i b ≡ true) n.d_is (subst (λ (i : ℕ). links (lists_of old names ids slots) (get_or names n.d 0) i ≡ true) n.o_is there))
      (λ (e : a ≡ get_or names d 0) (f : b ≡ get_or names o 0).
      let x : n.d ≡ d = slot_one size root old names ids slots kept.sound (listing_of kept.directory) n.d d (holder_in n.d n.o l) (holder_in d o listed) (n.d_is ∙ e) in
      let y : n.o ≡ o = slot_one size root old names ids slots kept.sound (listing_of kept.directory) n.o o (object_in n.d n.o l) (object_in d o listed) (n.o_is ∙ f) in
      cut.gone (subst (λ (i : ℕ). Lists' size cut.between i o) x (subst (λ (i : ℕ). Lists' size cut.between n.d i) y n.listed)))

  -- what a path leads to stays
  pub stays : (i : ℕ) → IsLive (cut_lists (lists_of old names ids slots) (get_or names d 0) (get_or names o 0)) i → has (ids_in (lists_of new names ids' slots')) i ≡ true
  stays i live =
      let s = slot_live size root cut.between names ids slots sound_between (listing_of dir_between) kept.root_id i (live.0, leads_as (cut_lists (lists_of old names ids slots) (get_or names d 0) (get_or names o 0)) (lists_of cut.between names ids slots) forth 1 live.0 i live.1) in
      let p = dir'.place s.0 (cut.swept.all_live s.0 s.1) in
      let is : get_or ids' p.0 0 ≡ i = sym (dir'.name p.0 p.1) ∙ ap (λ (k : ℕ). get_or names k 0) p.2 ∙ s.2 in
      subst (λ (xs : List ℕ). has xs i ≡ true) (sym (ids_are new names ids' slots' dir'.beside)) (has_at ids' p.0 i p.1 is)

  -- and nothing else
  pub goes : (i : ℕ) → has (ids_in (lists_of new names ids' slots')) i ≡ true → IsLive (cut_lists (lists_of old names ids slots) (get_or names d 0) (get_or names o 0)) i
  goes i h =
      let at = at_has ids' i (subst (λ (xs : List ℕ). has xs i ≡ true) (ids_are new names ids' slots' dir'.beside) h) in
      let reached = cut.swept.live (get_or slots' at.0 0) (dir'.recorded at.0 at.1) in
      let live = live_slot size root cut.between names ids slots sound_between (listing_of dir_between) kept.root_id (get_or slots' at.0 0) reached in
      let live' : IsLive (lists_of cut.between names ids slots) i = subst (λ (k : ℕ). IsLive (lists_of cut.between names ids slots) k) (dir'.name at.0 at.1 ∙ at.2) live in
      (live'.0, leads_as (lists_of cut.between names ids slots) (cut_lists (lists_of old names ids slots) (get_or names d 0) (get_or names o 0)) back 1 live'.0 i live'.1)

  -- the invariant again
  pub kept_then : IsKept size root new names ids' slots'
  kept_then = record {
    sound = cut.swept.sweeping.sound;
    calm = cut.swept.none_dying;
    simple = λ x y b c l m. kept.simple x y b c (link_before x y b l) (link_before x y c m);
    directory = dir';
    full = cut.swept.sweeping.total ∙ cut.total ∙ kept.full;
    fits = kept.fits;
    names_len = kept.names_len;
    root_id = kept.root_id;
  }
    where
      link_before : (x y c : ℕ) → IsLink size new x y c → IsLink size old x y c
      link_before x y c l = cut.were x y c (record { holder = l.holder; object = l.object; held = cut.swept.sweeping.was_held x c l.holder l.held; names = cut.swept.sweeping.was_named y c l.object l.names })

-- images of what is in a list
pub contains_map : {X Y : Type 0} (f : X → Y) (xs : List X) (x : X) → Contains xs x → Contains (map f xs) (f x)
contains_map f xs x c =
    (c.0, omega (arith, c.1, length-map xs f), get_or-map f xs c.0 x (f x) c.1 ∙ ap f c.2)

pub map_contains : {X Y : Type 0} (f : X → Y) (xs : List X) (y : Y) → Contains (map f xs) y → (x : X) × Contains xs x × (f x ≡ y)
map_contains f [] y c = absurd (omega (arith, c.1))
map_contains f (x ∷ xs) y c = elim (cases_eq c.0 0) [
  | inl e ↦ (x, (0, omega arith, refl), sym (ap (λ (k : ℕ). get_or (f x ∷ map f xs) k y) e) ∙ c.2)
  | inr ne ↦
      let j : (c.0 - 1) + 1 ≡ c.0 = omega arith in
      let c' : Contains (map f xs) y = (c.0 - 1, omega (arith, c.1, ne), ap (λ (k : ℕ). get_or (f x ∷ map f xs) k y) (up (c.0 - 1) ∙ j) ∙ c.2) in
      let r = map_contains f xs y c' in
      (r.0, (suc r.1.0, omega (arith, r.1.1), r.1.2), r.2)
]
  where
    up : (k : ℕ) → suc k ≡ k + 1
    up k = omega arith

map_of_map : {X Y Z : Type 0} (f : X → Y) (g : Y → Z) (xs : List X) → map g (map f xs) ≡ map (λ x. g (f x)) xs
map_of_map f g [] = refl
map_of_map f g (x ∷ xs) = ap (λ ys. g (f x) ∷ ys) (map_of_map f g xs)

once_map : {X Y : Type 0} (f : X → Y) (xs : List X) → ((x z : X) → Contains xs x → Contains xs z → f x ≡ f z → x ≡ z) → IsOnce xs → IsOnce (map f xs)
once_map f [] one once i j d lt within e = omega (arith, within)
once_map {X} f (x ∷ xs) one once i j d lt within e =
    let l = length-map xs f in
    let li : i < length (x ∷ xs) = omega (arith, within, lt, l) in
    let lj : j < length (x ∷ xs) = omega (arith, within, l) in
    let same = sym (get_or-map f (x ∷ xs) i x d li) ∙ e ∙ get_or-map f (x ∷ xs) j x d lj in
    once i j x lt lj (one (get_or (x ∷ xs) i x) (get_or (x ∷ xs) j x) (Contains-get_or (x ∷ xs) i x li) (Contains-get_or (x ∷ xs) j x lj) same)

once_cons : {X : Type 0} (x : X) (xs : List X) → (Contains xs x → ⊥) → IsOnce xs → IsOnce (x ∷ xs)
once_cons x xs not once i j d lt within e = elim (cases_eq i 0) [
  | inl first ↦
      let back : suc (j - 1) ≡ j = omega arith in
      let in' : j - 1 < length xs = omega arith in
      let is : get_or xs (j - 1) d ≡ x = ap (λ (k : ℕ). get_or (x ∷ xs) k d) back ∙ sym e ∙ ap (λ (k : ℕ). get_or (x ∷ xs) k d) first in
      not (subst (λ y. Contains xs y) is (Contains-get_or xs (j - 1) d in'))
  | inr later ↦
      let bi : suc (i - 1) ≡ i = omega arith in
      let bj : suc (j - 1) ≡ j = omega arith in
      let lt' : i - 1 < j - 1 = omega arith in
      let in' : j - 1 < length xs = omega arith in
      once (i - 1) (j - 1) d lt' in' (ap (λ (k : ℕ). get_or (x ∷ xs) k d) bi ∙ e ∙ sym (ap (λ (k : ℕ). get_or (x ∷ xs) k d) bj))
]

cons_cases : {X : Type 0} (x : X) (xs : List X) (y : X) → Contains (x ∷ xs) y → (x ≡ y) ⊎ Contains xs y
cons_cases x xs y c = elim (cases_eq c.0 0) [
  | inl e ↦ inl (sym (ap (λ (k : ℕ). get_or (x ∷ xs) k y) e) ∙ c.2)
  | inr ne ↦
      let back : suc (c.0 - 1) ≡ c.0 = omega arith in
      inr (c.0 - 1, omega (arith, c.1, ne), ap (λ (k : ℕ). get_or (x ∷ xs) k y) back ∙ c.2)
]

-- what the lookups of the two ids give
module _ (size root : ℕ) (r : List Lists) (names ids slots : List ℕ) (kept : IsKept size root r names ids slots) (a b : ℕ) (linked : links (lists_of r names ids slots) a b ≡ true) where
  n : IsNamed size root r names ids slots kept.sound (listing_of kept.directory) a b
  n = listed_links size root r names ids slots kept.sound (listing_of kept.directory) a b linked

  pub container_there : (k : ℕ) × (k < length ids) × (get_or ids k 0 ≡ a)
  container_there =
      let p = kept.directory.place n.d (kept.sound.holders n.d n.listed.cell n.listed.link.holder n.listed.link.held) in
      (p.0, p.1, sym (kept.directory.name p.0 p.1) ∙ ap (λ (i : ℕ). get_or names i 0) p.2 ∙ n.d_is)

  pub object_there : (k : ℕ) × (k < length ids) × (get_or ids k 0 ≡ b)
  object_there =
      let p = kept.directory.place n.o (record { within = n.listed.link.object; reached = inr (n.listed.cell, n.listed.link.names) }) in
      (p.0, p.1, sym (kept.directory.name p.0 p.1) ∙ ap (λ (i : ℕ). get_or names i 0) p.2 ∙ n.o_is)

  module _ (j k d o : ℕ) (j_in : j < length ids) (k_in : k < length ids) (j_id : get_or ids j 0 ≡ a) (k_id : get_or ids k 0 ≡ b) (j_slot : get_or slots j 0 ≡ d) (k_slot : get_or slots k 0 ≡ o) where
    d_named : get_or names d 0 ≡ a
    d_named = ap (λ (i : ℕ). get_or names i 0) (sym j_slot) ∙ kept.directory.name j j_in ∙ j_id

    o_named : get_or names o 0 ≡ b
    o_named = ap (λ (i : ℕ). get_or names i 0) (sym k_slot) ∙ kept.directory.name k k_in ∙ k_id

    pub slots_listed : Lists' size r d o
    slots_listed =
        let rd = subst (λ (i : ℕ). IsRecorded size root r i) j_slot (kept.directory.recorded j j_in) in
        let ro = subst (λ (i : ℕ). IsRecorded size root r i) k_slot (kept.directory.recorded k k_in) in
        let x : n.d ≡ d = slot_one size root r names ids slots kept.sound (listing_of kept.directory) n.d d (kept.sound.holders n.d n.listed.cell n.listed.link.holder n.listed.link.held) rd (n.d_is ∙ sym d_named) in
        let y : n.o ≡ o = slot_one size root r names ids slots kept.sound (listing_of kept.directory) n.o o (record { within = n.listed.link.object; reached = inr (n.listed.cell, n.listed.link.names) }) ro (n.o_is ∙ sym o_named) in
        subst (λ (i : ℕ). Lists' size r i o) x (subst (λ (i : ℕ). Lists' size r n.d i) y n.listed)

-- by the ids, a container comes after those that list it
pub tree_slots : (size root : ℕ) (r : List Lists) (names ids slots : List ℕ) → IsKept size root r names ids slots → ((a b c : ℕ) → links (lists_of r names ids slots) a b ≡ true → links (lists_of r names ids slots) b c ≡ true → a < b) → IsTree size r (λ s. get_or names s 0)
tree_slots size root r names ids slots kept tree d o x l m =
    tree (get_or names d 0) (get_or names o 0) (get_or names x 0) (links_listed size root r names ids slots kept.sound (listing_of kept.directory) d o l) (links_listed size root r names ids slots kept.sound (listing_of kept.directory) o x m)

-- what the visitor was handed
module _ (size root : ℕ) (old new : List Lists) (d o : ℕ) (went : List (ℕ × ℕ)) (dead : List ℕ) (cut : IsCut size root old new d o went dead) (names ids slots ids' slots' : List ℕ) (kept : IsKept size root old names ids slots) (dir' : IsDirectory size root new names ids' slots') where
  new_was : (x y : ℕ) → Lists' size new x y → Lists' size cut.between x y
  new_was x y l = record { cell = l.cell; link = record { holder = l.link.holder; object = l.link.object; held = cut.swept.sweeping.was_held x l.cell l.link.holder l.link.held; names = cut.swept.sweeping.was_named y l.cell l.link.object l.link.names } }

  all_was : (x y : ℕ) → Contains ((d, o) ∷ went) (x, y) → Lists' size old x y
  all_was x y c = elim (cons_cases (d, o) went (x, y) c) [
    | inl e ↦ subst (λ (p : ℕ × ℕ). Lists' size old p.0 p.1) e (record { cell = cut.cell; link = cut.link })
    | inr t ↦ cut.without x y (cut.swept.sweeping.links_was x y t)
  ]

  all_gone : (x y : ℕ) → Contains ((d, o) ∷ went) (x, y) → Lists' size new x y → ⊥
  all_gone x y c l = elim (cons_cases (d, o) went (x, y) c) [
    | inl e ↦ cut.gone (subst (λ (p : ℕ × ℕ). Lists' size cut.between p.0 p.1) (sym e) (new_was x y l))
    | inr t ↦ cut.swept.sweeping.links_gone x y t l
  ]

  all_all : (x y : ℕ) → Lists' size old x y → Lists' size new x y ⊎ Contains ((d, o) ∷ went) (x, y)
  all_all x y l = elim (cases_eq x d) [
    | inl e ↦ elim (cases_eq y o) [
      | inl f ↦ inr (subst (λ (i : ℕ). Contains ((d, o) ∷ went) (i, y)) (sym e) (subst (λ (i : ℕ). Contains ((d, o) ∷ went) (d, i)) (sym f) (0, omega arith, refl)))
      | inr nf ↦ rest x y (still size root old new d o went dead cut names ids slots ids' slots' kept dir' x y l (λ (_ : x ≡ d) (f : y ≡ o). nf f))
    ]
    | inr ne ↦ rest x y (still size root old new d o went dead cut names ids slots ids' slots' kept dir' x y l (λ (e : x ≡ d) (_ : y ≡ o). ne e))
  ]
    where
      rest : (u v : ℕ) → Lists' size cut.between u v → Lists' size new u v ⊎ Contains ((d, o) ∷ went) (u, v)
      rest u v m = elim (cut.swept.sweeping.links_all u v m) [
        | inl yet ↦ inl yet
        | inr t ↦ inr (suc t.0, omega (arith, t.1), t.2)
      ]

  in_old : (x y : ℕ) → Lists' size old x y → IsRecorded size root old x × IsRecorded size root old y
  in_old x y l = (kept.sound.holders x l.cell l.link.holder l.link.held, record { within = l.link.object; reached = inr (l.cell, l.link.names) })

  slot_of : (i : ℕ) → has (ids_in (lists_of old names ids slots)) i ≡ true → (s : ℕ) × IsRecorded size root old s × (get_or names s 0 ≡ i)
  slot_of i h =
      let at = at_has ids i (subst (λ (xs : List ℕ). has xs i ≡ true) (ids_are old names ids slots kept.directory.beside) h) in
      (get_or slots at.0 0, kept.directory.recorded at.0 at.1, kept.directory.name at.0 at.1 ∙ at.2)

  slot_new : (i : ℕ) → has (ids_in (lists_of new names ids' slots')) i ≡ true → (s : ℕ) × IsRecorded size root new s × (get_or names s 0 ≡ i)
  slot_new i h =
      let at = at_has ids' i (subst (λ (xs : List ℕ). has xs i ≡ true) (ids_are new names ids' slots' dir'.beside) h) in
      (get_or slots' at.0 0, dir'.recorded at.0 at.1, dir'.name at.0 at.1 ∙ at.2)

  has_id : (r : List Lists) (is ss : List ℕ) → IsDirectory size root r names is ss → (s : ℕ) → IsRecorded size root r s → has (ids_in (lists_of r names is ss)) (get_or names s 0) ≡ true
  has_id r is ss dir s rec =
      let p = dir.place s rec in
      subst (λ (xs : List ℕ). has xs (get_or names s 0) ≡ true) (sym (ids_are r names is ss dir.beside)) (has_at is p.0 (get_or names s 0) p.1 (sym (dir.name p.0 p.1) ∙ ap (λ (k : ℕ). get_or names k 0) p.2))

  before_new : (s : ℕ) → IsRecorded size root new s → IsRecorded size root old s
  before_new s rec = cut.recorded_before s (record { within = rec.within; reached = elim rec.reached [ inl e ↦ inl e | inr b ↦ inr (b.0, cut.swept.sweeping.was_named s b.0 rec.within b.1) ] })

  -- each id that is left was there
  pub was_id : (i : ℕ) → has (ids_in (lists_of new names ids' slots')) i ≡ true → has (ids_in (lists_of old names ids slots)) i ≡ true
  was_id i h =
      let s = slot_new i h in
      subst (λ (x : ℕ). has (ids_in (lists_of old names ids slots)) x ≡ true) s.2 (has_id old ids slots kept.directory s.0 (before_new s.0 s.1))

  module _ {T : Type 0} (cells cells' : List (Option T)) where
    abbrev was : Tree T
    was = record { lists = lists_of old names ids slots; slots = slots; cells = cells }

    abbrev now : Tree T
    now = record { lists = lists_of new names ids' slots'; slots = slots'; cells = cells' }

    had_slot : (s : ℕ) → IsRecorded size root old s → HasSlot was (get_or names s 0) s
    had_slot s rec =
        let p = kept.directory.place s rec in
        let same = ids_are old names ids slots kept.directory.beside in
        record {
          place = p.0;
          within = omega (arith, p.1, ap length same);
          id_is = ap (λ (xs : List ℕ). get_or xs p.0 0) same ∙ sym (kept.directory.name p.0 p.1) ∙ ap (λ (i : ℕ). get_or names i 0) p.2;
          slot_is = p.2;
        }

    pub handed : IsHanded was now (named names ((d, o) ∷ went)) (named_one names dead)
    handed =
        let ws : List (ℕ × ℕ) = (d, o) ∷ went in
        let f : ℕ × ℕ → Located × Located = λ p. (place_of names p.0, place_of names p.1) in
        let f' : Located × Located → ℕ × ℕ = λ p. (p.0.id, p.1.id) in
        let g : ℕ → Located = λ i. place_of names i in
        let g' : Located → ℕ = λ p. p.id in
        let one = slot_one size root old names ids slots kept.sound (listing_of kept.directory) in
        record {
          links_was = λ a b c.
              let m = map_contains f ((d, o) ∷ went) (a, b) c in
              let l = links_listed size root old names ids slots kept.sound (listing_of kept.directory) m.0.0 m.0.1 (all_was m.0.0 m.0.1 m.1) in
              subst (λ (p : Located × Located). links (lists_of old names ids slots) p.0.id p.1.id ≡ true) m.2 l;
          links_gone = λ a b c h.
              let m = map_contains f ((d, o) ∷ went) (a, b) c in
              let n = listed_links size root new names ids' slots' cut.swept.sweeping.sound (listing_of dir') a.id b.id h in
              let before = in_old m.0.0 m.0.1 (all_was m.0.0 m.0.1 m.1) in
              let after = in_old n.d n.o (cut.without n.d n.o (new_was n.d n.o n.listed)) in
              let x : n.d ≡ m.0.0 = one n.d m.0.0 after.0 before.0 (n.d_is ∙ sym (ap (λ (p : Located × Located). p.0.id) m.2)) in
              let y : n.o ≡ m.0.1 = one n.o m.0.1 after.1 before.1 (n.o_is ∙ sym (ap (λ (p : Located × Located). p.1.id) m.2)) in
              all_gone m.0.0 m.0.1 m.1 (subst (λ (i : ℕ). Lists' size new i m.0.1) x (subst (λ (i : ℕ). Lists' size new n.d i) y n.listed));
          links_all = λ a b h.
              let n = listed_links size root old names ids slots kept.sound (listing_of kept.directory) a b h in
              elim (all_all n.d n.o n.listed) [
                | inl yet ↦ inl (subst (λ (i : ℕ). links (lists_of new names ids' slots') i b ≡ true) n.d_is (subst (λ (i : ℕ). links (lists_of new names ids' slots') (get_or names n.d 0) i ≡ true) n.o_is (links_listed size root new names ids' slots' cut.swept.sweeping.sound (listing_of dir') n.d n.o yet)))
                | inr c ↦ inr (subst (λ (i : ℕ). Contains {X = ℕ × ℕ} (link_ids (named names ((d, o) ∷ went))) (i, b)) n.d_is (subst (λ (i : ℕ). Contains {X = ℕ × ℕ} (link_ids (named names ((d, o) ∷ went))) (get_or names n.d 0, i)) n.o_is (contains_map f' (named names ((d, o) ∷ went)) (f (n.d, n.o)) (contains_map f ((d, o) ∷ went) (n.d, n.o) c))))
              ];
          links_once = subst (λ (xs : List (ℕ × ℕ)). IsOnce xs) (sym (map_of_map f f' ws)) (once_map (λ (p : ℕ × ℕ). f' (f p)) ws
              (λ p q cp cq e.
              let rp = in_old p.0 p.1 (all_was p.0 p.1 cp) in
              let rq = in_old q.0 q.1 (all_was q.0 q.1 cq) in
              let x : p.0 ≡ q.0 = one p.0 q.0 rp.0 rq.0 (ap (λ (z : ℕ × ℕ). z.0) e) in
              let y : p.1 ≡ q.1 = one p.1 q.1 rp.1 rq.1 (ap (λ (z : ℕ × ℕ). z.1) e) in
              ap₂ (λ (i j : ℕ). let z : ℕ × ℕ = (i, j) in z) x y)
              (once_cons (d, o) went (λ c. cut.gone (cut.swept.sweeping.links_was d o c)) cut.swept.sweeping.links_once));
          links_slots = λ a b c.
              let m = map_contains f ((d, o) ∷ went) (a, b) c in
              let r = in_old m.0.0 m.0.1 (all_was m.0.0 m.0.1 m.1) in
              subst (λ (p : Located × Located). HasSlot was p.0.id p.0.slot.0 × HasSlot was p.1.id p.1.slot.0) m.2 (had_slot m.0.0 r.0, had_slot m.0.1 r.1);
          objects_was = λ i c.
              let m = map_contains g dead i c in
              subst (λ (x : Located). has (ids_in (lists_of old names ids slots)) x.id ≡ true) m.2 (has_id old ids slots kept.directory m.0 (cut.recorded_before m.0 (cut.swept.sweeping.objects_was m.0 m.1)));
          objects_gone = λ i c h.
              let m = map_contains g dead i c in
              let s = slot_new i.id h in
              let same : s.0 ≡ m.0 = one s.0 m.0 (before_new s.0 s.1) (cut.recorded_before m.0 (cut.swept.sweeping.objects_was m.0 m.1)) (s.2 ∙ sym (ap (λ (p : Located). p.id) m.2)) in
              cut.swept.sweeping.objects_gone m.0 m.1 (subst (λ (x : ℕ). IsRecorded size root new x) same s.1);
          objects_all = λ i h.
              let s = slot_of i h in
              elim (cut.swept.sweeping.objects_all s.0 (cut.recorded_between s.0 s.1)) [
                | inl yet ↦ inl (subst (λ (x : ℕ). has (ids_in (lists_of new names ids' slots')) x ≡ true) s.2 (has_id new ids' slots' dir' s.0 yet))
                | inr c ↦ inr (subst (λ (x : ℕ). Contains (object_ids (named_one names dead)) x) s.2 (contains_map g' (named_one names dead) (g s.0) (contains_map g dead s.0 c)))
              ];
          objects_once = subst (λ (xs : List ℕ). IsOnce xs) (sym (map_of_map g g' dead)) (once_map (λ (i : ℕ). g' (g i)) dead
              (λ x z cx cz e. one x z (cut.recorded_before x (cut.swept.sweeping.objects_was x cx)) (cut.recorded_before z (cut.swept.sweeping.objects_was z cz)) e)
              cut.swept.sweeping.objects_once);
          objects_slots = λ i c.
              let m = map_contains g dead i c in
              subst (λ (x : Located). HasSlot was x.id x.slot.0) m.2 (had_slot m.0 (cut.recorded_before m.0 (cut.swept.sweeping.objects_was m.0 m.1)));
        }

    -- what is left has the slot that it had
    pub slot_kept : (id slot : ℕ) → HasSlot now id slot → IsRecorded size root new slot × HasSlot was id slot
    slot_kept id slot h =
        let same = ids_are new names ids' slots' dir'.beside in
        let within : h.place < length ids' = omega (arith, h.within, ap length same) in
        let rec = subst (λ (s : ℕ). IsRecorded size root new s) h.slot_is (dir'.recorded h.place within) in
        let name : get_or names slot 0 ≡ id = ap (λ (s : ℕ). get_or names s 0) (sym h.slot_is) ∙ dir'.name h.place within ∙ sym (ap (λ (xs : List ℕ). get_or xs h.place 0) same) ∙ h.id_is in
        (rec, subst (λ (i : ℕ). HasSlot was i slot) name (had_slot slot (before_new slot rec)))
