-- What containers list and which ids are live, as the state has it.
use Rattle.std.proofs.Common.{◌≡◌, ◌<◌, ◌≤◌, ℕ, List, [], ◌∷◌, length, get_or, Some, None, refl, sym, ◌∙◌, ap, inl, inr}
use Rattle.std.specs.Prelude.{slice_get}
use Rattle.std.proofs.lemmas.Bool.{cases_Bool, both_ways}
use Rattle.std.proofs.lemmas.Option.{slice_get-get_or, slice_get_past}
use Rattle.base.specs.Live.{has, links}
use Rattle.containers.specs.Tree.{ids_in, list_of}
use Rattle.containers.proofs.Lists.{links_of_list, list_of_links}
use Rattle.kernel_rules.specs.Scratch.{ids_of}
use Rattle.kernel_rules.specs.State.{list_at, lists_of}
use Rattle.kernel_rules.specs.declared.objects.Object.{Object}
use Rattle.arena_state.specs.declared.pieces.Pieces.{Pieces}
use Rattle.arena_state.specs.Assembled.{pieces_state}
use Rattle.arena_state.specs.Sound.{IsSound}
use Rattle.arena_state.proofs.LeftLaws.{list_of_objects}

ids_listed : (es : List (ℕ × Object)) → ids_in (lists_of es) ≡ ids_of es
ids_listed [] = refl
ids_listed (e ∷ es) = ap (λ (t : List ℕ). e.0 ∷ t) (ids_listed es)

module _ (p : Pieces) (s : IsSound p) where
  pub listed_is : (i : ℕ) → list_at (pieces_state p) i ≡ list_of p.places.lists i
  listed_is i = sym (list_of_objects (pieces_state p).objects i) ∙ ap (λ (l : List (ℕ × List ℕ)). list_of l i) s.lists

  pub links_is : (d o : ℕ) → links p.places.lists d o ≡ has (list_at (pieces_state p) d) o
  links_is d o = elim (cases_Bool (links p.places.lists d o)) as (λ _. links p.places.lists d o ≡ has (list_at (pieces_state p) d) o) [
    | inl is ↦ is ∙ sym (ap (λ (l : List ℕ). has l o) (listed_is d) ∙ list_of_links p.places.lists d o s.tree.rises is)
    | inr off ↦ elim (cases_Bool (has (list_of p.places.lists d) o)) as (λ _. links p.places.lists d o ≡ has (list_at (pieces_state p) d) o) [
      | inl held ↦ absurd (both_ways (links p.places.lists d o) off (links_of_list p.places.lists d o held))
      | inr none ↦ off ∙ sym (ap (λ (l : List ℕ). has l o) (listed_is d) ∙ none)
    ]
  ]

  pub ids_are : ids_of (pieces_state p).objects ≡ ids_in p.places.lists
  ids_are = sym (ids_listed (pieces_state p).objects) ∙ ap ids_in s.lists

  pub id_at : (k : ℕ) → k < length (ids_in p.places.lists)
      → slice_get (ids_of (pieces_state p).objects) k ≡ Some (get_or (ids_in p.places.lists) k 0)
  id_at k lt = ap (λ (xs : List ℕ). slice_get xs k) ids_are ∙ slice_get-get_or (ids_in p.places.lists) k 0 lt

  pub id_past : (k : ℕ) → length (ids_in p.places.lists) ≤ k → slice_get (ids_of (pieces_state p).objects) k ≡ None
  id_past k past = ap (λ (xs : List ℕ). slice_get xs k) ids_are ∙ slice_get_past (ids_in p.places.lists) k past
