-- What is left after an unreference is the live part of the lists without the link.
use Rattle.std.proofs.Common.{◌≡◌, ◌≢◌, ℕ, suc, ◌<◌, ◌≤◌, inl, inr, Bool, true, cond, ◌==◌, List, [], ◌∷◌, get_or, refl, sym, ap, ap₂, ◌∙◌, subst, arith}
use Rattle.std.specs.List.{filter}
use Rattle.std.proofs.lemmas.Bool.{or_cases, eqb-true, eq-eqb, cases_Bool, both_ways}
use Rattle.containers.specs.Objects.{Rises}
use Rattle.containers.specs.Lists.{Lists}
use Rattle.base.specs.Live.{has, is_live}
use Rattle.containers.specs.Sweep.{IsCut}
use Rattle.containers.specs.Directory.{IsDirectory}
use Rattle.containers.specs.Tree.{ids_in, list_of, cut_lists, live_part}
use Rattle.containers.specs.View.{lists_of, IsKept}
use Rattle.base.proofs.LiveLaw.{path_from_live, live_from_path}
use Rattle.containers.proofs.Views.{or_left, or_right, at_has, ids_are}
use Rattle.containers.proofs.Unrefs.{stays, goes, was_id}
use Rattle.containers.proofs.Orders.{order}

abbrev Table : Type 0
Table = List (ℕ × List ℕ)

rises_tail : (x : ℕ) (xs : List ℕ) → Rises (x ∷ xs) → Rises xs
rises_tail x xs rises i j lt within = rises (suc i) (suc j) (omega arith) (omega arith)

-- the first of rising numbers is below each other
first_below : (x : ℕ) (xs : List ℕ) (i : ℕ) → Rises (x ∷ xs) → has xs i ≡ true → x < i
first_below x xs i rises h =
    let at = at_has xs i h in
    let less : x < get_or xs at.0 0 = rises 0 (suc at.0) (omega arith) (omega (arith, at.1)) in
    omega (arith, less, at.2)

first_least : (x : ℕ) (xs : List ℕ) (i : ℕ) → Rises (x ∷ xs) → has (x ∷ xs) i ≡ true → x ≤ i
first_least x xs i rises h = elim (or_cases (i == x) (has xs i) h) [
  | inl e ↦ omega (arith, eqb-true i x e)
  | inr t ↦ omega (arith, first_below x xs i rises t)
]

-- the list of an id past the first
list_past : (e : ℕ × List ℕ) (es : Table) (i : ℕ) → i ≢ e.0 → list_of (e ∷ es) i ≡ list_of es i
list_past e es i ne = elim (cases_Bool (i == e.0)) [
  | inl same ↦ absurd (ne (eqb-true i e.0 same))
  | inr other ↦ ap (λ (v : Bool). cond v e.1 (list_of es i)) other
]

list_first : (e : ℕ × List ℕ) (es : Table) → list_of (e ∷ es) e.0 ≡ e.1
list_first e es = ap (λ (v : Bool). cond v e.1 (list_of es e.0)) (eq-eqb e.0 e.0 refl)

has_past : (x : ℕ) (xs : List ℕ) (i : ℕ) → has (x ∷ xs) i ≡ true → i ≢ x → has xs i ≡ true
has_past x xs i h ne = elim (or_cases (i == x) (has xs i) h) [ inl e ↦ absurd (ne (eqb-true i x e)) | inr t ↦ t ]

has_first : (x : ℕ) (xs : List ℕ) → has (x ∷ xs) x ≡ true
has_first x xs = or_left (x == x) (has xs x) (eq-eqb x x refl)

-- rising tables with the same lists, of which one has just the ids that pass a test
record IsPart (test : ℕ → Bool) (xs ys : Table) : Type 0 where
  rises : Rises (ids_in xs)
  rises' : Rises (ids_in ys)
  from : (i : ℕ) → has (ids_in ys) i ≡ true → has (ids_in xs) i ≡ true
  passes : (i : ℕ) → has (ids_in ys) i ≡ true → test i ≡ true
  to : (i : ℕ) → has (ids_in xs) i ≡ true → test i ≡ true → has (ids_in ys) i ≡ true
  same : (i : ℕ) → has (ids_in ys) i ≡ true → list_of ys i ≡ list_of xs i

part_is : (test : ℕ → Bool) (xs ys : Table) → IsPart test xs ys → ys ≡ filter (λ e. test e.0) xs
part_is test [] [] p = refl
part_is test [] (y ∷ ys) p = absurd (both_ways (has [] y.0) refl (p.from y.0 (has_first y.0 (ids_in ys))))
part_is test (x ∷ xs) [] p = elim (cases_Bool (test x.0)) [
  | inl passed ↦ absurd (both_ways (has [] x.0) refl (p.to x.0 (has_first x.0 (ids_in xs)) passed))
  | inr failed ↦ part_is test xs [] (record {
    rises = rises_tail x.0 (ids_in xs) p.rises;
    rises' = p.rises';
    from = λ i h. absurd (both_ways (has [] i) refl h);
    passes = λ i h. absurd (both_ways (has [] i) refl h);
    to = λ i h t. p.to i (or_right (i == x.0) (has (ids_in xs) i) h) t;
    same = λ i h. absurd (both_ways (has [] i) refl h);
  }) ∙ sym (ap (λ (v : Bool). cond v (x ∷ filter (λ e. test e.0) xs) (filter (λ e. test e.0) xs)) failed)
]
part_is test (x ∷ xs) (y ∷ ys) p = elim (cases_Bool (test x.0)) [
  | inl passed ↦
      let x_in = p.to x.0 (has_first x.0 (ids_in xs)) passed in
      let y_in = p.from y.0 (has_first y.0 (ids_in ys)) in
      let least = first_least x.0 (ids_in xs) y.0 p.rises y_in in
      let least' = first_least y.0 (ids_in ys) x.0 p.rises' x_in in
      let ids : y.0 ≡ x.0 = omega arith in
      let lists : y.1 ≡ x.1 = sym (list_first y ys) ∙ p.same y.0 (has_first y.0 (ids_in ys)) ∙ ap (λ (i : ℕ). list_of (x ∷ xs) i) ids ∙ list_first x xs in
      let rest = part_is test xs ys (record {
        rises = rises_tail x.0 (ids_in xs) p.rises;
        rises' = rises_tail y.0 (ids_in ys) p.rises';
        from = λ i h.
            let more = first_below y.0 (ids_in ys) i p.rises' h in
            has_past x.0 (ids_in xs) i (p.from i (or_right (i == y.0) (has (ids_in ys) i) h)) (λ (e : i ≡ x.0). omega arith);
        passes = λ i h. p.passes i (or_right (i == y.0) (has (ids_in ys) i) h);
        to = λ i h t.
            let more = first_below x.0 (ids_in xs) i p.rises h in
            has_past y.0 (ids_in ys) i (p.to i (or_right (i == x.0) (has (ids_in xs) i) h) t) (λ (e : i ≡ y.0). omega arith);
        same = λ i h.
            let more = first_below y.0 (ids_in ys) i p.rises' h in
            sym (list_past y ys i (λ (e : i ≡ y.0). omega arith)) ∙ p.same i (or_right (i == y.0) (has (ids_in ys) i) h) ∙ list_past x xs i (λ (e : i ≡ x.0). omega arith);
      }) in
      ap₂ (λ (e : ℕ × List ℕ) (es : Table). e ∷ es) (ap₂ (λ (i : ℕ) (is : List ℕ). let q : ℕ × List ℕ = (i, is) in q) ids lists) rest
      ∙ sym (ap (λ (v : Bool). cond v (x ∷ filter (λ e. test e.0) xs) (filter (λ e. test e.0) xs)) passed)
  | inr failed ↦
      let apart : (i : ℕ) → has (ids_in (y ∷ ys)) i ≡ true → i ≢ x.0 = λ i h e. both_ways (test x.0) failed (subst (λ (j : ℕ). test j ≡ true) e (p.passes i h)) in
      part_is test xs (y ∷ ys) (record {
        rises = rises_tail x.0 (ids_in xs) p.rises;
        rises' = p.rises';
        from = λ i h. has_past x.0 (ids_in xs) i (p.from i h) (apart i h);
        passes = p.passes;
        to = λ i h t. p.to i (or_right (i == x.0) (has (ids_in xs) i) h) t;
        same = λ i h. p.same i h ∙ list_past x xs i (apart i h);
      }) ∙ sym (ap (λ (v : Bool). cond v (x ∷ filter (λ e. test e.0) xs) (filter (λ e. test e.0) xs)) failed)
]

-- a link that goes leaves the ids
ids_cut : (lists : Table) (d o : ℕ) → ids_in (cut_lists lists d o) ≡ ids_in lists
ids_cut [] d o = refl
ids_cut (e ∷ es) d o = ap (λ (xs : List ℕ). e.0 ∷ xs) (ids_cut es d o)

module _ (size root : ℕ) (old new : List Lists) (d o : ℕ) (went : List (ℕ × ℕ)) (dead : List ℕ) (cut : IsCut size root old new d o went dead) (names ids slots ids' slots' : List ℕ) (kept : IsKept size root old names ids slots) (dir' : IsDirectory size root new names ids' slots') where
  pub lists_live : lists_of new names ids' slots' ≡ live_part (cut_lists (lists_of old names ids slots) (get_or names d 0) (get_or names o 0))
  lists_live =
      let start : Table = cut_lists (lists_of old names ids slots) (get_or names d 0) (get_or names o 0) in
      let start_ids : ids_in start ≡ ids = ids_cut (lists_of old names ids slots) (get_or names d 0) (get_or names o 0) ∙ ids_are old names ids slots kept.directory.beside in
      let end_ids = ids_are new names ids' slots' dir'.beside in
      part_is (λ i. is_live (cut_lists (lists_of old names ids slots) (get_or names d 0) (get_or names o 0)) i) start (lists_of new names ids' slots') (record {
        rises = subst (λ (xs : List ℕ). Rises xs) (sym start_ids) kept.directory.rises;
        rises' = subst (λ (xs : List ℕ). Rises xs) (sym end_ids) dir'.rises;
        from = λ i h. subst (λ (xs : List ℕ). has xs i ≡ true) (sym (ids_cut (lists_of old names ids slots) (get_or names d 0) (get_or names o 0))) (was_id size root old new d o went dead cut names ids slots ids' slots' kept dir' i h);
        passes = λ i h. live_from_path (cut_lists (lists_of old names ids slots) (get_or names d 0) (get_or names o 0)) i (goes size root old new d o went dead cut names ids slots ids' slots' kept dir' i h);
        to = λ i h t. stays size root old new d o went dead cut names ids slots ids' slots' kept dir' i (path_from_live (cut_lists (lists_of old names ids slots) (get_or names d 0) (get_or names o 0)) i t);
        same = λ i h. order size root old new d o went dead cut names ids slots ids' slots' kept dir' i h;
      })
