-- Links that are added, and links that go.
use Rattle.std.proofs.Common.{◌≡◌, ℕ, ◌<◌, ◌%◌, ◌⊎◌, inl, inr, Bool, true, false, cond, ◌&&◌, ◌==◌, List, [], ◌∷◌, ◌++◌, refl, sym, ◌∙◌, subst}
use Rattle.std.specs.List.{filter}
use Rattle.std.proofs.lemmas.Bool.{or_cases, and_parts, and_from, eqb-true, cases_Bool, both_ways}
use Rattle.std.proofs.lemmas.List.Folds.{list_any-append}
use Rattle.base.specs.Live.{has, links, is_live}
use Rattle.containers.specs.Tree.{add_lists, cut_lists, live_part}
use Rattle.containers.proofs.Unrefs.{cut_links}
use Rattle.containers.proofs.Views.{or_left, or_right}
use Rattle.containers_twin.specs.Layers.{IsLayered}

abbrev Table : Type 0
Table = List (ℕ × List ℕ)

-- what stands in a list with one more at its end stood there, or is that one
has_snoc : (xs : List ℕ) (o b : ℕ) → has (xs ++ o ∷ []) b ≡ true → (has xs b ≡ true) ⊎ (b ≡ o)
has_snoc xs o b h = elim (or_cases (has xs b) (has (o ∷ []) b) (sym (list_any-append (λ i. b == i) xs (o ∷ [])) ∙ h)) [
  | inl was ↦ inl was
  | inr new ↦ elim (or_cases (b == o) (has [] b) new) [
    | inl is ↦ inr (eqb-true b o is)
    | inr none ↦ absurd (both_ways (has [] b) refl none)
  ]
]

entry_added : (e : ℕ × List ℕ) (d o a b : ℕ) → a ≡ e.0 → has (cond (d == e.0) (e.1 ++ o ∷ []) e.1) b ≡ true → (has e.1 b ≡ true) ⊎ ((a ≡ d) × (b ≡ o))
entry_added e d o a b at h = elim (cases_Bool (d == e.0)) [
  | inl here ↦ elim (has_snoc e.1 o b (subst (λ (v : Bool). has (cond v (e.1 ++ o ∷ []) e.1) b ≡ true) here h)) [
    | inl was ↦ inl was
    | inr new ↦ inr (at ∙ sym (eqb-true d e.0 here), new)
  ]
  | inr there ↦ inl (subst (λ (v : Bool). has (cond v (e.1 ++ o ∷ []) e.1) b ≡ true) there h)
]

-- a link that is there once another is added was there, or is the other
links_added : (lists : Table) (d o a b : ℕ) → links (add_lists lists d o) a b ≡ true → (links lists a b ≡ true) ⊎ ((a ≡ d) × (b ≡ o))
links_added [] d o a b h = absurd (both_ways (links [] a b) refl h)
links_added (e ∷ es) d o a b h = elim (or_cases ((a == e.0) && has (cond (d == e.0) (e.1 ++ o ∷ []) e.1) b) (links (add_lists es d o) a b) h) [
  | inl here ↦
      let both = and_parts (a == e.0) (has (cond (d == e.0) (e.1 ++ o ∷ []) e.1) b) here in
      elim (entry_added e d o a b (eqb-true a e.0 both.0) both.1) [
        | inl was ↦ inl (or_left ((a == e.0) && has e.1 b) (links es a b) (and_from (a == e.0) (has e.1 b) both.0 was))
        | inr new ↦ inr new
      ]
  | inr there ↦ elim (links_added es d o a b there) [
    | inl was ↦ inl (or_right ((a == e.0) && has e.1 b) (links es a b) was)
    | inr new ↦ inr new
  ]
]

-- one that lists nothing adds no link
links_empty : (lists : Table) (id a b : ℕ) → links (lists ++ (id, []) ∷ []) a b ≡ true → links lists a b ≡ true
links_empty lists id a b h = elim (or_cases (links lists a b) (links ((id, []) ∷ []) a b) (sym (list_any-append (λ (e : ℕ × List ℕ). (a == e.0) && has e.1 b) lists ((id, []) ∷ [])) ∙ h)) [
  | inl was ↦ was
  | inr new ↦ elim (or_cases ((a == id) && has [] b) false new) [
    | inl one ↦ absurd (both_ways (has [] b) refl (and_parts (a == id) (has [] b) one).1)
    | inr none ↦ absurd (both_ways false refl none)
  ]
]

-- a part of the lists has no other links
links_part : (test : ℕ × List ℕ → Bool) (lists : Table) (a b : ℕ) → links (filter test lists) a b ≡ true → links lists a b ≡ true
links_part test [] a b h = h
links_part test (e ∷ es) a b h = elim (cases_Bool (test e)) [
  | inl kept ↦ elim (or_cases ((a == e.0) && has e.1 b) (links (filter test es) a b) (subst (λ (v : Bool). links (cond v (e ∷ filter test es) (filter test es)) a b ≡ true) kept h)) [
    | inl here ↦ or_left ((a == e.0) && has e.1 b) (links es a b) here
    | inr there ↦ or_right ((a == e.0) && has e.1 b) (links es a b) (links_part test es a b there)
  ]
  | inr off ↦ or_right ((a == e.0) && has e.1 b) (links es a b) (links_part test es a b (subst (λ (v : Bool). links (cond v (e ∷ filter test es) (filter test es)) a b ≡ true) off h))
]

pub layered_link : (lists : Table) (d o : ℕ) → IsLayered lists → d % 2 ≡ 1 → (o % 2 ≡ 1 → d < o) → IsLayered (add_lists lists d o)
layered_link lists d o layered odd above a b h = elim (links_added lists d o a b h) [
  | inl was ↦ layered a b was
  | inr new ↦ (subst (λ (x : ℕ). x % 2 ≡ 1) (sym new.0) odd, λ is. subst (λ (x : ℕ). x < b) (sym new.0) (subst (λ (y : ℕ). d < y) (sym new.1) (above (subst (λ (y : ℕ). y % 2 ≡ 1) new.1 is))))
]

pub layered_create : (lists : Table) (d id : ℕ) → IsLayered lists → d % 2 ≡ 1 → d < id → IsLayered (add_lists lists d id ++ (id, []) ∷ [])
layered_create lists d id layered odd above a b h = layered_link lists d id layered odd (λ _. above) a b (links_empty (add_lists lists d id) id a b h)

pub layered_unref : (lists : Table) (d o : ℕ) → IsLayered lists → IsLayered (live_part (cut_lists lists d o))
layered_unref lists d o layered a b h =
    layered a b (cut_links lists d o a b (links_part (λ e. is_live (cut_lists lists d o) e.0) (cut_lists lists d o) a b h)).0
