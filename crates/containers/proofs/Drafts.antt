-- What is laid down: objects that none lists yet, and links from those that are reached.
use Rattle.std.proofs.Common.{◌≡◌, ◌≢◌, ℕ, suc, ◌<◌, ◌⊎◌, inl, inr, true, List, [], ◌∷◌, ◌++◌, map, length, get_or, set, refl, sym, ap, ap₂, ◌∙◌, subst, arith, lit<, length-append, length-set, get_or-set_other, get_or-set_same}
use Rattle.std.specs.Prelude.{All}
use Rattle.std.proofs.lemmas.Bool.{cases_eq, cases_lt}
use Rattle.std.proofs.lemmas.List.{get_or_append_left, get_or_push}
use Rattle.containers.proofs.Kept.{Rises-push}
use Rattle.containers.specs.Lists.{Lists, family_at, cells_at}
use Rattle.base.specs.Live.{links}
use Rattle.containers.specs.Cells.{Stands, IsRecorded}
use Rattle.containers.specs.Directory.{IsListing}
use Rattle.containers.specs.View.{head_in, ids_of, lists_of, IsDrafted}
use Rattle.containers.proofs.Counts.{list_none}
use Rattle.containers.proofs.Creates.{lists_push}
use Rattle.containers.proofs.Directories.{slot_at}
use Rattle.containers.proofs.Links.{map_same}
use Rattle.containers.proofs.Views.{object_found, listed_links}

-- lists whose slots have other names
lists_named : (r : List Lists) (names names' ids slots : List ℕ) → ((k : ℕ) → k < length ids → ids_of r names' (get_or slots k 0) ≡ ids_of r names (get_or slots k 0)) → lists_of r names' ids slots ≡ lists_of r names ids slots
lists_named r names names' [] slots h = refl
lists_named r names names' (i ∷ ids) [] h = refl
lists_named r names names' (i ∷ ids) (s ∷ slots) h =
    ap₂ (λ (x : List ℕ) (xs : List (ℕ × List ℕ)). (i, x) ∷ xs) (h 0 (omega arith)) (lists_named r names names' ids slots (λ k lt. h (suc k) (omega arith)))

module _ (size root : ℕ) (r : List Lists) (names ids slots : List ℕ) (drafted : IsDrafted size root r names ids slots) where
  abbrev listing : IsListing size root r names ids slots
  listing = drafted.listing

  -- an object that is the root, or that some object lists, has a recorded slot
  pub reached_slot : (k : ℕ) → k < length ids
      → (get_or ids k 0 ≡ 1) ⊎ ((a : ℕ) × (links (lists_of r names ids slots) a (get_or ids k 0) ≡ true))
      → IsRecorded size root r (get_or slots k 0)
  reached_slot k lt reached = elim reached [
    | inl one ↦
        let at_root : IsRecorded size root r root = record { within = drafted.sound.root_in; reached = inl refl } in
        subst (λ (s : ℕ). IsRecorded size root r s)
        (sym (slot_at size root r names ids slots listing k root lt at_root (drafted.root_id ∙ sym one))) at_root
    | inr link ↦
        let n = listed_links size root r names ids slots drafted.sound listing link.0 (get_or ids k 0) link.1 in
        let rec : IsRecorded size root r n.o = record { within = n.listed.link.object; reached = inr (n.listed.cell, n.listed.link.names) } in
        subst (λ (s : ℕ). IsRecorded size root r s) (sym (slot_at size root r names ids slots listing k n.o lt rec n.o_is)) rec
  ]

  -- one more object, which none lists
  module _ (o id : ℕ) (o_in : o < size) (apart : All (λ s. s ≢ o) slots) (above : All (λ i. i < id) ids) where
    abbrev names' : List ℕ
    names' = set names o id

    was_not : IsRecorded size root r o → ⊥
    was_not rec = let p = listing.place o rec in apart p.0 0 (omega (arith, p.1, listing.beside)) p.2

    agree : (h : ℕ) → h ≢ o → get_or names' h 0 ≡ get_or names h 0
    agree h ne = get_or-set_other names o h id 0 ne

    same_ids : (h : ℕ) → h < size → ids_of r names' h ≡ ids_of r names h
    same_ids h lt = map_same (λ c. get_or names' (head_in (family_at r 1).lists c) 0) (λ c. get_or names (head_in (family_at r 1).lists c) 0) (cells_at r 0 h) (λ k within.
        let c = get_or (cells_at r 0 h) k 0 in
        let held : Stands r 0 h c = record { place = k; stands = record { within = within; is = refl } } in
        let of = drafted.sound.paired.object_of h c (λ (e : h ≡ size). omega arith) held in
        let found = object_found r (drafted.sound.paired.well 1 (lit< tt)) of.0 c of.2 in
        let rec : IsRecorded size root r of.0 = record { within = of.1; reached = inr (c, of.2) } in
        ap (λ (i : ℕ). get_or names' i 0) found
        ∙ agree of.0 (λ (e : of.0 ≡ o). was_not (subst (λ (s : ℕ). IsRecorded size root r s) e rec))
        ∙ sym (ap (λ (i : ℕ). get_or names i 0) found))

    lists_nothing : ids_of r names' o ≡ []
    lists_nothing =
        let none : cells_at r 0 o ≡ [] = list_none (cells_at r 0 o) (λ k c s. was_not (drafted.sound.holders o c o_in (record { place = k; stands = s }))) in
        ap (λ (xs : List ℕ). map (λ c. get_or names' (head_in (family_at r 1).lists c) 0) xs) none

    added_listing : IsListing size root r names' (ids ++ id ∷ []) (slots ++ o ∷ [])
    added_listing =
        let more_ids = length-append ids (id ∷ []) in
        let more_slots = length-append slots (o ∷ []) in
        record {
          beside = omega (arith, listing.beside, more_ids, more_slots);
          rises = Rises-push ids id listing.rises above;
          within = λ k lt. elim (cases_lt k (length ids)) [
            | inl le ↦ subst (λ (s : ℕ). s < size) (sym (get_or_append_left slots (o ∷ []) 0 k (omega (arith, listing.beside)))) (listing.within k le)
            | inr ge ↦ subst (λ (s : ℕ). s < size) (sym (get_or_push slots o 0 k (omega (arith, lt, more_ids, listing.beside)))) o_in
          ];
          name = λ k lt. elim (cases_lt k (length ids)) [
            | inl le ↦
                ap (λ (s : ℕ). get_or names' s 0) (get_or_append_left slots (o ∷ []) 0 k (omega (arith, listing.beside)))
                ∙ agree (get_or slots k 0) (apart k 0 (omega (arith, listing.beside))) ∙ listing.name k le ∙ sym (get_or_append_left ids (id ∷ []) 0 k le)
            | inr ge ↦
                ap (λ (s : ℕ). get_or names' s 0) (get_or_push slots o 0 k (omega (arith, lt, more_ids, listing.beside)))
                ∙ get_or-set_same names o id 0 (omega (arith, drafted.names_len)) ∙ sym (get_or_push ids id 0 k (omega (arith, lt, more_ids)))
          ];
          place = λ h rec.
              let p = listing.place h rec in
              (p.0, omega (arith, p.1, more_ids), get_or_append_left slots (o ∷ []) 0 p.0 (omega (arith, p.1, listing.beside)) ∙ p.2);
        }

    pub drafted_more : IsDrafted size root r names' (ids ++ id ∷ []) (slots ++ o ∷ [])
    drafted_more = record {
      sound = drafted.sound;
      calm = drafted.calm;
      simple = drafted.simple;
      listing = added_listing;
      full = drafted.full;
      fits = drafted.fits;
      names_len = length-set names o id ∙ drafted.names_len;
      root_id = agree root (λ (e : root ≡ o). was_not (subst (λ (s : ℕ). IsRecorded size root r s) e (record { within = drafted.sound.root_in; reached = inl refl }))) ∙ drafted.root_id;
    }

    pub lists_more : lists_of r names' (ids ++ id ∷ []) (slots ++ o ∷ []) ≡ lists_of r names ids slots ++ (id, []) ∷ []
    lists_more =
        lists_push r names' ids slots id o listing.beside
        ∙ ap₂ (λ (xs : List (ℕ × List ℕ)) (ys : List ℕ). xs ++ (id, ys) ∷ [])
        (lists_named r names names' ids slots (λ k lt. same_ids (get_or slots k 0) (listing.within k lt))) lists_nothing
