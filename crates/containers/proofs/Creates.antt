-- An object that is added, with its first link.
use Rattle.std.proofs.Common.{◌≡◌, ◌≢◌, ℕ, ◌<◌, inl, inr, List, [], ◌∷◌, ◌++◌, map, length, get_or, set, refl, sym, ap, ap₂, ◌∙◌, subst, arith, length-append, length-set, get_or-set_other, get_or-set_same}
use Rattle.std.specs.Prelude.{All}
use Rattle.std.proofs.lemmas.Bool.{cases_lt}
use Rattle.std.proofs.lemmas.List.{get_or_append_left, get_or_push}
use Rattle.containers.proofs.Kept.{Rises-push}
use Rattle.containers.specs.Lists.{Lists, family_at, cells_at}
use Rattle.containers.specs.Cells.{IsAdded, IsRecorded, Lists'}
use Rattle.containers.specs.Directory.{IsDirectory}
use Rattle.containers.specs.Tree.{add_lists}
use Rattle.containers.specs.View.{head_in, ids_of, lists_of, IsKept, IsDrafted}
use Rattle.containers.proofs.Counts.{list_none}
use Rattle.containers.proofs.Directories.{drafted_of, kept_of, listing_of}
use Rattle.containers.proofs.Links.{recorded_or, recorded_then, object_then, drafted_as_added, cells_other, lists_with, map_same}

-- one id more
pub lists_push : (r : List Lists) (names ids slots : List ℕ) (i s : ℕ) → length ids ≡ length slots → lists_of r names (ids ++ i ∷ []) (slots ++ s ∷ []) ≡ lists_of r names ids slots ++ (i, ids_of r names s) ∷ []
lists_push r names [] [] i s e = refl
lists_push r names [] (t ∷ slots) i s e = absurd (omega arith)
lists_push r names (j ∷ ids) [] i s e = absurd (omega arith)
lists_push r names (j ∷ ids) (t ∷ slots) i s e = ap (λ (xs : List (ℕ × List ℕ)). (j, ids_of r names t) ∷ xs) (lists_push r names ids slots i s (omega arith))

module _ (size root : ℕ) (old new : List Lists) (names ids slots : List ℕ) (d o id : ℕ) (kept : IsKept size root old names ids slots) (rd : IsRecorded size root old d) (o_in : o < size) (apart : All (λ s. s ≢ o) slots) (above : All (λ i. i < id) ids) (l : IsAdded size old new d o) where
  abbrev names' : List ℕ
  names' = set names o id

  was_not : IsRecorded size root old o → ⊥
  was_not r = let p = kept.directory.place o r in apart p.0 0 (omega (arith, p.1, kept.directory.beside)) p.2

  not_root : o ≢ root
  not_root e = was_not (record { within = o_in; reached = inl e })

  fresh : Lists' size old d o → ⊥
  fresh m = was_not (record { within = o_in; reached = inr (m.cell, m.link.names) })

  agree : (h : ℕ) → IsRecorded size root old h → get_or names' h 0 ≡ get_or names h 0
  agree h r = get_or-set_other names o h id 0 (λ (e : h ≡ o). was_not (subst (λ (i : ℕ). IsRecorded size root old i) e r))

  named : get_or names' o 0 ≡ id
  named = get_or-set_same names o id 0 (omega (arith, kept.names_len))

  pub created_directory : IsDirectory size root new names' (ids ++ id ∷ []) (slots ++ o ∷ [])
  created_directory =
      let dir = kept.directory in
      let more_ids = length-append ids (id ∷ []) in
      let more_slots = length-append slots (o ∷ []) in
      record {
        beside = omega (arith, dir.beside, more_ids, more_slots);
        rises = Rises-push ids id dir.rises above;
        recorded = λ k lt. elim (cases_lt k (length ids)) [
          | inl le ↦ subst (λ (s : ℕ). IsRecorded size root new s) (sym (get_or_append_left slots (o ∷ []) 0 k (omega (arith, dir.beside)))) (recorded_then size root old new names ids slots d o (drafted_of kept) rd o_in not_root fresh l (get_or slots k 0) (dir.recorded k le))
          | inr ge ↦ subst (λ (s : ℕ). IsRecorded size root new s) (sym (get_or_push slots o 0 k (omega (arith, lt, more_ids, dir.beside)))) (object_then size root old new names ids slots d o (drafted_of kept) rd o_in not_root fresh l)
        ];
        name = λ k lt. elim (cases_lt k (length ids)) [
          | inl le ↦
              ap (λ (s : ℕ). get_or names' s 0) (get_or_append_left slots (o ∷ []) 0 k (omega (arith, dir.beside)))
              ∙ agree (get_or slots k 0) (dir.recorded k le) ∙ dir.name k le ∙ sym (get_or_append_left ids (id ∷ []) 0 k le)
          | inr ge ↦
              ap (λ (s : ℕ). get_or names' s 0) (get_or_push slots o 0 k (omega (arith, lt, more_ids, dir.beside)))
              ∙ named ∙ sym (get_or_push ids id 0 k (omega (arith, lt, more_ids)))
        ];
        place = λ h rec. elim (recorded_or size root old new names ids slots d o (drafted_of kept) rd o_in not_root fresh l h rec) [
          | inl e ↦ (length ids, omega (arith, more_ids), get_or_push slots o 0 (length ids) (omega (arith, dir.beside)) ∙ sym e)
          | inr was ↦
              let p = dir.place h was in
              (p.0, omega (arith, p.1, more_ids), get_or_append_left slots (o ∷ []) 0 p.0 (omega (arith, p.1, dir.beside)) ∙ p.2)
        ];
      }

  pub kept_created : IsKept size root new names' (ids ++ id ∷ []) (slots ++ o ∷ [])
  kept_created = kept_of (drafted_as_added size root old new names ids slots d o (drafted_of kept) rd o_in not_root fresh l names' (ids ++ id ∷ []) (slots ++ o ∷ []) (listing_of created_directory)
      (length-set names o id ∙ kept.names_len) (agree root (record { within = kept.sound.root_in; reached = inl refl }) ∙ kept.root_id)) created_directory.recorded

  lists_nothing : ids_of new names' o ≡ []
  lists_nothing =
      let ne : o ≢ d = λ (e : o ≡ d). was_not (subst (λ (i : ℕ). IsRecorded size root old i) (sym e) rd) in
      let none : cells_at old 0 o ≡ [] = list_none (cells_at old 0 o) (λ k c s. was_not (kept.sound.holders o c o_in (record { place = k; stands = s }))) in
      ap (λ (xs : List ℕ). map (λ c. get_or names' (head_in (family_at new 1).lists c) 0) xs) (cells_other size root old new names ids slots d o (drafted_of kept) rd o_in not_root fresh l o o_in ne ∙ none)

  pub lists_created : lists_of new names' (ids ++ id ∷ []) (slots ++ o ∷ []) ≡ add_lists (lists_of old names ids slots) (get_or names d 0) id ++ (id, []) ∷ []
  lists_created =
      let more : List (ℕ × List ℕ) → ℕ → List (ℕ × List ℕ) = λ xs i. add_lists (lists_of old names ids slots) (get_or names d 0) i ++ xs in
      lists_push new names' ids slots id o kept.directory.beside
      ∙ ap₂ (λ (xs : List (ℕ × List ℕ)) (ys : List ℕ). xs ++ (id, ys) ∷ [])
      (lists_with size root old new names ids slots d o (drafted_of kept) rd o_in not_root fresh l names' agree ∙ ap (λ (i : ℕ). add_lists (lists_of old names ids slots) (get_or names d 0) i) named)
      lists_nothing
