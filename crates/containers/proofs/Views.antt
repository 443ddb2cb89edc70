-- The lists of ids, and the links of slots.
use Rattle.std.proofs.Common.{◌≡◌, ℕ, zero, suc, ◌<◌, inl, inr, Bool, true, false, cond, ◌&&◌, ◌||◌, ◌==◌, List, [], ◌∷◌, map, length, get_or, refl, sym, ap, ◌∙◌, subst, arith, lit<}
use Rattle.std.proofs.lemmas.Bool.{or_cases, and_parts, and_from, eqb-true, eq-eqb, cases_Bool, both_ways}
use Rattle.std.proofs.lemmas.List.{get_or-map, length-map}
use Rattle.std.proofs.lemmas.List.Folds.{list_any_at}
use Rattle.containers.specs.Lists.{Lists, family_at, cells_at, IsWellFormed}
use Rattle.base.specs.Live.{has, links, Leads, IsLive}
use Rattle.containers.specs.Tree.{ids_in}
use Rattle.containers.specs.View.{head_in, ids_of, lists_of}
use Rattle.containers.specs.Cells.{Stands, IsSound, IsRecorded, Lists'}
use Rattle.containers.specs.Sweep.{IsPath, IsReached}
use Rattle.containers.specs.Directory.{IsListing}
use Rattle.containers.proofs.Moves.{one_head}
use Rattle.containers.proofs.Directories.{one_place}

pub or_left : (a b : Bool) → a ≡ true → (a || b) ≡ true
or_left true b e = refl
or_left false b e = absurd (both_ways false refl e)

pub or_right : (a b : Bool) → b ≡ true → (a || b) ≡ true
or_right true b e = refl
or_right false b e = e

pub has_at : (xs : List ℕ) (k o : ℕ) → k < length xs → get_or xs k 0 ≡ o → has xs o ≡ true
has_at xs k o lt e = list_any_at (λ i. o == i) xs k 0 lt (eq-eqb o (get_or xs k 0) (sym e))

pub at_has : (xs : List ℕ) (o : ℕ) → has xs o ≡ true → (k : ℕ) × (k < length xs) × (get_or xs k 0 ≡ o)
at_has [] o h = absurd (both_ways false refl h)
at_has (x ∷ xs) o h = elim (or_cases (o == x) (has xs o) h) [
  | inl e ↦ (0, omega arith, sym (eqb-true o x e))
  | inr t ↦ let r = at_has xs o t in (suc r.0, omega (arith, r.1), r.2)
]

-- the head in whose list a cell stands
pub head_found : (lists : List (List ℕ)) (h c : ℕ) → has (get_or lists h []) c ≡ true → ((k : ℕ) → has (get_or lists k []) c ≡ true → k ≡ h) → head_in lists c ≡ h
head_found [] h c e one = absurd (both_ways false refl e)
head_found (xs ∷ xss) zero c e one = ap (λ (b : Bool). cond b 0 (suc (head_in xss c))) e
head_found (xs ∷ xss) (suc h) c e one = elim (cases_Bool (has xs c)) [
  | inl held ↦ let bad : 0 ≡ suc h = one 0 held in absurd (omega arith)
  | inr off ↦ ap (λ (b : Bool). cond b 0 (suc (head_in xss c))) off ∙ ap suc (head_found xss h c e (λ k at. let same : suc k ≡ suc h = one (suc k) at in omega arith))
]

pub links_at : (r : List Lists) (names ids slots : List ℕ) (k a b : ℕ) → k < length ids → k < length slots → get_or ids k 0 ≡ a → has (ids_of r names (get_or slots k 0)) b ≡ true → links (lists_of r names ids slots) a b ≡ true
links_at r names [] slots k a b li ls e h = absurd (omega arith)
links_at r names (i ∷ ids) [] k a b li ls e h = absurd (omega arith)
links_at r names (i ∷ ids) (s ∷ slots) zero a b li ls e h = or_left _ _ (and_from (a == i) (has (ids_of r names s) b) (eq-eqb a i (sym e)) h)
links_at r names (i ∷ ids) (s ∷ slots) (suc k) a b li ls e h = or_right _ _ (links_at r names ids slots k a b (omega arith) (omega arith) e h)

pub at_links : (r : List Lists) (names ids slots : List ℕ) (a b : ℕ) → links (lists_of r names ids slots) a b ≡ true → (k : ℕ) × (k < length ids) × (get_or ids k 0 ≡ a) × (has (ids_of r names (get_or slots k 0)) b ≡ true)
at_links r names [] slots a b h = absurd (both_ways false refl h)
at_links r names (i ∷ ids) [] a b h = absurd (both_ways false refl h)
at_links r names (i ∷ ids) (s ∷ slots) a b h = elim (or_cases ((a == i) && has (ids_of r names s) b) (links (lists_of r names ids slots) a b) h) [
  | inl here ↦
      let both = and_parts (a == i) (has (ids_of r names s) b) here in
      (0, omega arith, sym (eqb-true a i both.0), both.1)
  | inr there ↦
      let t = at_links r names ids slots a b there in
      (suc t.0, omega (arith, t.1), t.2, t.3)
]

-- the ids of the view are those of the directory
pub ids_are : (r : List Lists) (names ids slots : List ℕ) → length ids ≡ length slots → ids_in (lists_of r names ids slots) ≡ ids
ids_are r names [] slots e = refl
ids_are r names (i ∷ ids) [] e = absurd (omega arith)
ids_are r names (i ∷ ids) (s ∷ slots) e = ap (λ (xs : List ℕ). i ∷ xs) (ids_are r names ids slots (omega arith))

-- the object that a cell names
pub object_found : (r : List Lists) → IsWellFormed (family_at r 1) → (o c : ℕ) → Stands r 1 o c → head_in (family_at r 1).lists c ≡ o
object_found r well o c s = head_found (family_at r 1).lists o c (has_at (cells_at r 1 o) s.place c s.stands.within s.stands.is) (λ k h.
    let at = at_has (cells_at r 1 k) c h in
    let t : Stands r 1 k c = record { place = at.0; stands = record { within = at.1; is = at.2 } } in
    one_head r 1 k o c well t s)

module _ (size root : ℕ) (r : List Lists) (names ids slots : List ℕ) (sound : IsSound size root r) (dir : IsListing size root r names ids slots) where
  pub object_is : (o c : ℕ) → Stands r 1 o c → head_in (family_at r 1).lists c ≡ o
  object_is o c s = object_found r (sound.paired.well 1 (lit< tt)) o c s

  -- one slot for each id
  pub slot_one : (d e : ℕ) → IsRecorded size root r d → IsRecorded size root r e → get_or names d 0 ≡ get_or names e 0 → d ≡ e
  slot_one d e rd re same =
      let p = dir.place d rd in
      let q = dir.place e re in
      let ids_same : get_or ids p.0 0 ≡ get_or ids q.0 0 = sym (dir.name p.0 p.1) ∙ ap (λ (i : ℕ). get_or names i 0) p.2 ∙ same ∙ sym (ap (λ (i : ℕ). get_or names i 0) q.2) ∙ dir.name q.0 q.1 in
      sym p.2 ∙ ap (λ (i : ℕ). get_or slots i 0) (one_place ids dir.rises p.0 q.0 p.1 q.1 ids_same) ∙ q.2

  pub links_listed : (d o : ℕ) → Lists' size r d o → links (lists_of r names ids slots) (get_or names d 0) (get_or names o 0) ≡ true
  links_listed d o l =
      let p = dir.place d (sound.holders d l.cell l.link.holder l.link.held) in
      let at = l.link.held in
      let name_is : get_or (ids_of r names d) at.place 0 ≡ get_or names o 0 =
      get_or-map (λ (c : ℕ). get_or names (head_in (family_at r 1).lists c) 0) (cells_at r 0 d) at.place 0 0 at.stands.within
      ∙ ap (λ (c : ℕ). get_or names (head_in (family_at r 1).lists c) 0) at.stands.is ∙ ap (λ (i : ℕ). get_or names i 0) (object_is o l.cell l.link.names) in
      let long = length-map (cells_at r 0 d) (λ (c : ℕ). get_or names (head_in (family_at r 1).lists c) 0) in
      let held = has_at (ids_of r names d) at.place (get_or names o 0) (omega (arith, long, at.stands.within)) name_is in
      links_at r names ids slots p.0 (get_or names d 0) (get_or names o 0) p.1 (omega (arith, p.1, dir.beside)) (sym (dir.name p.0 p.1) ∙ ap (λ (i : ℕ). get_or names i 0) p.2) (subst (λ (i : ℕ). has (ids_of r names i) (get_or names o 0) ≡ true) (sym p.2) held)

  pub record IsNamed (a b : ℕ) : Type 0 where
    pub d : ℕ
    pub o : ℕ
    pub listed : Lists' size r d o
    pub d_is : get_or names d 0 ≡ a
    pub o_is : get_or names o 0 ≡ b

  pub listed_links : (a b : ℕ) → links (lists_of r names ids slots) a b ≡ true → IsNamed a b
  listed_links a b h =
      let k = at_links r names ids slots a b h in
      let slot = get_or slots k.0 0 in
      let rec = dir.within k.0 k.1 in
      let long = length-map (cells_at r 0 slot) (λ (c : ℕ). get_or names (head_in (family_at r 1).lists c) 0) in
      let at = at_has (ids_of r names slot) b k.3 in
      let within : at.0 < length (cells_at r 0 slot) = omega (arith, at.1, long) in
      let cell = get_or (cells_at r 0 slot) at.0 0 in
      let held : Stands r 0 slot cell = record { place = at.0; stands = record { within = within; is = refl } } in
      let of = sound.paired.object_of slot cell (λ (e : slot ≡ size). omega (arith, rec)) held in
      record {
        d = slot;
        o = of.0;
        listed = record { cell = cell; link = record { holder = rec; object = of.1; held = held; names = of.2 } };
        d_is = dir.name k.0 k.1 ∙ k.2;
        o_is = sym (ap (λ (i : ℕ). get_or names i 0) (object_is of.0 cell of.2)) ∙ sym (get_or-map (λ (c : ℕ). get_or names (head_in (family_at r 1).lists c) 0) (cells_at r 0 slot) at.0 0 0 within) ∙ at.2;
      }

  -- paths of slots, and paths of ids
  leads_path : (d : ℕ) (path : List ℕ) (o : ℕ) → IsPath (Lists' size r) d path o → Leads (lists_of r names ids slots) (get_or names d 0) (map (λ i. get_or names i 0) path) (get_or names o 0)
  leads_path d [] o e = ap (λ (i : ℕ). get_or names i 0) e
  leads_path d (x ∷ xs) o s = (links_listed d x s.0, leads_path x xs o s.1)

  pub record IsFollowed (d i : ℕ) : Type 0 where
    pub o : ℕ
    pub path : List ℕ
    pub follows : IsPath (Lists' size r) d path o
    pub o_is : get_or names o 0 ≡ i

  path_leads : (path : List ℕ) (d a i : ℕ) → IsRecorded size root r d → get_or names d 0 ≡ a → Leads (lists_of r names ids slots) a path i → IsFollowed d i
  path_leads [] d a i rec e l = record { o = d; path = []; follows = refl; o_is = e ∙ l }
  path_leads (b ∷ path) d a i rec e l =
      let n = listed_links a b l.0 in
      let same : n.d ≡ d = slot_one n.d d (sound.holders n.d n.listed.cell n.listed.link.holder n.listed.link.held) rec (n.d_is ∙ sym e) in
      let next = path_leads path n.o b i (record { within = n.listed.link.object; reached = inr (n.listed.cell, n.listed.link.names) }) n.o_is l.1 in
      record { o = next.o; path = n.o ∷ next.path; follows = (subst (λ (x : ℕ). Lists' size r x n.o) same n.listed, next.follows); o_is = next.o_is }

  module _ (root_id : get_or names root 0 ≡ 1) where
    pub live_slot : (o : ℕ) → IsReached (Lists' size r) root o → IsLive (lists_of r names ids slots) (get_or names o 0)
    live_slot o p = (map (λ i. get_or names i 0) p.0, subst (λ (a : ℕ). Leads (lists_of r names ids slots) a (map (λ i. get_or names i 0) p.0) (get_or names o 0)) root_id (leads_path root p.0 o p.1))

    pub slot_live : (i : ℕ) → IsLive (lists_of r names ids slots) i → (o : ℕ) × IsReached (Lists' size r) root o × (get_or names o 0 ≡ i)
    slot_live i l =
        let f = path_leads l.0 root 1 i (record { within = sound.root_in; reached = inl refl }) root_id l.1 in
        (f.o, (f.path, f.follows), f.o_is)

-- paths where there are the same links
pub leads_as : (l m : List (ℕ × List ℕ)) → ((a b : ℕ) → links l a b ≡ true → links m a b ≡ true) → (a : ℕ) (path : List ℕ) (b : ℕ) → Leads l a path b → Leads m a path b
leads_as l m f a [] b e = e
leads_as l m f a (x ∷ xs) b s = (f a x s.0, leads_as l m f x xs b s.1)
