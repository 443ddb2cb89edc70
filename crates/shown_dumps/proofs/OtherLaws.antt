-- Which objects one container alone lists.
use Rattle.std.proofs.Common.{◌≡◌, ◌≢◌, ℕ, ◌≤◌, ◌==◌, ◌&&◌, not, Bool, true, false, List, [], ◌∷◌, ◌++◌, Some, None, codes, if◌then◌else◌, refl, ap, ap₂, subst, sym, ◌∙◌, arith, inl, inr}
use Rattle.std.proofs.lemmas.Bool.{both_ways, cases_Bool, eq-eqb}
use Rattle.std.specs.List.{flat_map}
use Rattle.base.specs.Live.{has}
use Rattle.call_text.specs.ReplyWord.{value_text}
use Rattle.call_text.specs.declared.known_names.Named.{Named}
use Rattle.call_text.specs.declared.known_names.Value.TheVariants.{Object as OfObject}
use Rattle.kernel_rules.proofs.CountLaws.{counted_two, one_list}
use Rattle.kernel_rules.proofs.ListerLaws.{kept_parts}
use Rattle.kernel_rules.proofs.LookupLaws.{all_at}
use Rattle.kernel_rules.proofs.WellFormedLaws.{soundness_of}
use Rattle.kernel_rules.specs.Scratch.{ids_of}
use Rattle.kernel_rules.specs.State.{State, object_at, of_object, listed, list_at}
use Rattle.kernel_rules.specs.WellFormed.{is_well_formed, is_kept, listers}
use Rattle.kernel_rules.specs.declared.objects.Object.{Object}
use Rattle.shown_dumps.specs.Objects.{other_one, others_text}
use Rattle.shown_dumps.specs.declared.tree.places.Place.{Place}

-- what lists something is there
lister : (s : State) (c id : ℕ) → has (list_at s c) id ≡ true
    → (y : Object) × (object_at s c ≡ Some y) × (has (listed y.body) id ≡ true)
lister s c id h = elim (object_at s c)
    as (λ v. object_at s c ≡ v → has (of_object [] (λ (x : Object). listed x.body) v) id ≡ true
    → (y : Object) × (object_at s c ≡ Some y) × (has (listed y.body) id ≡ true)) [
      | None ↦ λ is e. absurd (both_ways false refl e)
      | Some y ↦ λ is e. (y, is, e)
    ] refl h

-- of two containers that list an object whose quota is not fixed, one is the other
no_other : (s : State) (id c d : ℕ) (x : Object) → is_well_formed s ≡ true → object_at s id ≡ Some x → x.fixed ≡ false
    → has (list_at s c) id ≡ true → has (list_at s d) id ≡ true → (d == c) ≡ true
no_other s id c d x sound found loose here there = elim (cases_Bool (d == c)) [
  | inl same ↦ same
  | inr other ↦
      let kept = kept_parts s id x (all_at (λ q z. is_kept s q z) s.objects id x (soundness_of s sound).kept found) in
      let one = lister s c id here in
      let two = lister s d id there in
      let few : listers s id ≤ 1 = one_list (listers s id) id x kept.rightly loose in
      let more : 2 ≤ listers s id =
      counted_two d c id s.objects two.0 one.0 (λ same. both_ways (d == c) other (eq-eqb d c same)) two.1 one.1 two.2 one.2 in
      absurd (omega arith)
]

-- so no other container is told of it
not_told : (names : List Named) (s : State) (p : Place) (x : Object) → is_well_formed s ≡ true → object_at s p.id ≡ Some x → x.fixed ≡ false
    → has (list_at s p.container) p.id ≡ true → (d : ℕ) → other_one names s p d ≡ []
not_told names s p x sound found loose here d = elim (cases_Bool (has (list_at s d) p.id)) [
  | inl there ↦
      ap₂ (λ (a b : Bool). if a && not b then codes ", also in " ++ value_text names (OfObject d) else [])
      there (no_other s p.id p.container d x sound found loose here there)
  | inr never ↦ ap (λ (a : Bool). if a && not (d == p.container) then codes ", also in " ++ value_text names (OfObject d) else []) never
]

none_told : (f : ℕ → List ℕ) → ((d : ℕ) → f d ≡ []) → (ids : List ℕ) → flat_map f ids ≡ []
none_told f none [] = refl
none_told f none (d ∷ ids) = ap₂ ◌++◌ (none d) (none_told f none ids)

pub no_others : (names : List Named) (s : State) (p : Place) (x : Object) → is_well_formed s ≡ true → object_at s p.id ≡ Some x
    → x.fixed ≡ false → has (list_at s p.container) p.id ≡ true → others_text names s p ≡ []
no_others names s p x sound found loose here =
    none_told (other_one names s p) (not_told names s p x sound found loose here) (ids_of s.objects)
