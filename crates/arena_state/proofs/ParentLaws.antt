-- The container that lists a container is the only one.
use Rattle.std.proofs.Common.{◌≡◌, ℕ, ◌≤◌, Bool, true, false, cond, ◌&&◌, ◌||◌, ◌==◌, nat_le, List, [], ◌∷◌, Some, None, refl, sym, ◌∙◌, ap, arith, inl, inr}
use Rattle.std.proofs.lemmas.Bool.{cases_Bool, both_ways, and_from, eqb-true, eq-eqb}
use Rattle.base.specs.Live.{has, links}
use Rattle.base.specs.declared.kinds.Kind.TheVariants as kinds
use Rattle.containers.specs.Tree.{ids_in}
use Rattle.containers.proofs.Views.{or_left, or_right}
use Rattle.containers.proofs.Lists.{or_no_left, or_no_right}
use Rattle.kernel_rules.specs.State.{State, object_at, of_object, is_kind, is_kind_at, list_at, listed, lists_of}
use Rattle.kernel_rules.specs.Step.{lister_of}
use Rattle.kernel_rules.specs.WellFormed.{is_kept, is_listed_rightly, is_well_formed, listers}
use Rattle.kernel_rules.specs.declared.objects.Object.{Object}
use Rattle.kernel_rules.proofs.CountLaws.{counted_two}
use Rattle.kernel_rules.proofs.ListerLaws.{kept_parts}
use Rattle.kernel_rules.proofs.ListingLaws.{container_at}
use Rattle.kernel_rules.proofs.LookupLaws.{all_at}
use Rattle.kernel_rules.proofs.WellFormedLaws.{soundness_of}
use Rattle.arena_state.specs.declared.pieces.Pieces.{Pieces}
use Rattle.arena_state.specs.Assembled.{pieces_state}
use Rattle.arena_state.specs.Sound.{IsSound}
use Rattle.arena_state.proofs.SoundLaws.{object_none}
use Rattle.arena_state.proofs.ViewLaws.{links_is}

-- the one lister is the first
lister_found : (d a : ℕ) (es : List (ℕ × Object)) → links (lists_of es) a d ≡ true
    → ((b : ℕ) → links (lists_of es) b d ≡ true → b ≡ a) → lister_of d es ≡ a
lister_found d a [] h one = absurd (both_ways false refl h)
lister_found d a (e ∷ es) h one =
    elim (has (listed e.1.body) d) as (λ v. has (listed e.1.body) d ≡ v → cond v e.0 (lister_of d es) ≡ a) [
      | true ↦ λ is. one e.0
          (or_left (e.0 == e.0 && has (listed e.1.body) d) (links (lists_of es) e.0 d)
          (and_from (e.0 == e.0) (has (listed e.1.body) d) (eq-eqb e.0 e.0 refl) is))
      | false ↦ λ off. lister_found d a es (further (a == e.0) (has (listed e.1.body) d) (links (lists_of es) a d) off h)
          (λ b l. one b (or_right (b == e.0 && has (listed e.1.body) d) (links (lists_of es) b d) l))
    ] refl
  where
    further : (x v y : Bool) → v ≡ false → ((x && v) || y) ≡ true → y ≡ true
    further true true y off l = absurd (both_ways true off refl)
    further true false y off l = l
    further false v y off l = l

lister_absent : (d : ℕ) (es : List (ℕ × Object)) → ((b : ℕ) → links (lists_of es) b d ≡ false) → lister_of d es ≡ d
lister_absent d [] none = refl
lister_absent d (e ∷ es) none =
    elim (has (listed e.1.body) d) as (λ v. has (listed e.1.body) d ≡ v → cond v e.0 (lister_of d es) ≡ d) [
      | true ↦ λ is. absurd (both_ways (e.0 == e.0 && has (listed e.1.body) d)
          (or_no_left (e.0 == e.0 && has (listed e.1.body) d) (links (lists_of es) e.0 d) (none e.0))
          (and_from (e.0 == e.0) (has (listed e.1.body) d) (eq-eqb e.0 e.0 refl) is))
      | false ↦ λ off. lister_absent d es
          (λ b. or_no_right (b == e.0 && has (listed e.1.body) d) (links (lists_of es) b d) (none b))
    ] refl

one_list : (n o : ℕ) (x : Object) → is_listed_rightly n o x ≡ true → is_kind kinds.Container x ≡ true → n ≤ 1
one_list n o x h kind =
    elim (o == 1)
    as (λ v. cond v (n == 0) (cond (is_kind kinds.Container x) (n == 1) (nat_le 1 n && (nat_le n 1 || x.fixed)))
    ≡ true → n ≤ 1) [
      | true ↦ λ r. let none : n ≡ 0 = eqb-true n 0 r in omega arith
      | false ↦ λ r.
          let test : (n == 1) ≡ true
          = sym (ap (λ (v : Bool). cond v (n == 1) (nat_le 1 n && (nat_le n 1 || x.fixed))) kind) ∙ r in
          let one : n ≡ 1 = eqb-true n 1 test in
          omega arith
    ] h

record IsHolder (s : State) (a d : ℕ) : Type 0 where
  object : Object
  found : object_at s a ≡ Some object
  holds : has (listed object.body) d ≡ true

holder : (s : State) (a d : ℕ) → has (list_at s a) d ≡ true → IsHolder s a d
holder s a d h =
    elim (object_at s a) as (λ v. object_at s a ≡ v → has (of_object [] (λ x. listed x.body) v) d ≡ true → IsHolder s a d) [
      | None ↦ λ is l. absurd (both_ways false refl l)
      | Some x ↦ λ is l. record { object = x; found = is; holds = l }
    ] refl h

one_lister : (s : State) (d a b : ℕ) → is_well_formed s ≡ true → is_kind_at s kinds.Container d ≡ true
    → has (list_at s a) d ≡ true → has (list_at s b) d ≡ true → b ≡ a
one_lister s d a b formed kind first second = elim (cases_Bool (b == a)) [
  | inl is ↦ eqb-true b a is
  | inr off ↦
      let at = container_at s d kind in
      let x = holder s a d first in
      let y = holder s b d second in
      let rightly = (kept_parts s d at.object (all_at (λ q z. is_kept s q z) s.objects d at.object
      (soundness_of s formed).kept at.found)).rightly in
      let few : listers s d ≤ 1 = one_list (listers s d) d at.object rightly at.kind in
      let two : 2 ≤ listers s d = counted_two b a d s.objects y.object x.object
      (λ (e : b ≡ a). both_ways (b == a) off (eq-eqb b a e)) y.found x.found y.holds x.holds in
      absurd (omega arith)
]

module _ (p : Pieces) (s : IsSound p) (d : ℕ) (kind : is_kind_at (pieces_state p) kinds.Container d ≡ true) where
  pub container_there : has (ids_in p.places.lists) d ≡ true
  container_there = elim (cases_Bool (has (ids_in p.places.lists) d)) [
    | inl is ↦ is
    | inr off ↦ absurd (both_ways (is_kind_at (pieces_state p) kinds.Container d)
        (ap (of_object false (is_kind kinds.Container)) (object_none p s d off)) kind)
  ]

  as_state : (a : ℕ) → links (lists_of (pieces_state p).objects) a d ≡ has (list_at (pieces_state p) a) d
  as_state a = ap (λ (l : List (ℕ × List ℕ)). links l a d) s.lists ∙ links_is p s a d

  pub parent_is : (a : ℕ) → links p.places.lists a d ≡ true → a ≡ lister_of d (pieces_state p).objects
  parent_is a h = sym (lister_found d a (pieces_state p).objects
      (ap (λ (l : List (ℕ × List ℕ)). links l a d) s.lists ∙ h)
      (λ b l. one_lister (pieces_state p) d a b s.formed kind (sym (links_is p s a d) ∙ h) (sym (as_state b) ∙ l)))

  pub parent_none : ((a : ℕ) → links p.places.lists a d ≡ false) → d ≡ lister_of d (pieces_state p).objects
  parent_none none = sym (lister_absent d (pieces_state p).objects
      (λ b. ap (λ (l : List (ℕ × List ℕ)). links l b d) s.lists ∙ none b))
