-- A new object in a container that an observer sees, in two worlds that give the same id.
use Rattle.std.proofs.Common.{◌≡◌, ◌≢◌, ℕ, Bool, true, false, cond, not, ◌==◌, List, [], ◌∷◌}
use Rattle.std.proofs.Common.{Option, Some, None, refl, sym, ◌∙◌, ap}
use Rattle.std.specs.List.{list_all}
use Rattle.std.specs.Option.{option_map}
use Rattle.std.specs.Ordering.{nat_cmp}
use Rattle.std.specs.Map.{lookup, set_value}
use Rattle.std.specs.BTreeMap.{is_at}
use Rattle.std.proofs.lemmas.Bool.{and_parts, both_ways, eq-eqb, eqb-true}
use Rattle.base.specs.Live.{has}
use Rattle.base.specs.declared.kinds.Kind.TheVariants as kinds
use Rattle.label_lattice.specs.Label.{LabelValue}
use Rattle.label_lattice.specs.LabelRules.{visible}
use Rattle.kernel_rules.specs.State.{State, object_at, of_object, listed, is_kind}
use Rattle.kernel_rules.specs.Changes.{put, made, listing}
use Rattle.kernel_rules.specs.Step.{lister_of}
use Rattle.kernel_rules.specs.WellFormed.{is_well_formed}
use Rattle.kernel_rules.specs.declared.objects.Object.{Object}
use Rattle.kernel_rules.proofs.RecordLaws.{same_id}
use Rattle.kernel_rules.proofs.WellFormedLaws.{soundness_of}
use Rattle.kernel_rules.proofs.ListerLaws.{unlisted_next}
use Rattle.kernel_rules.proofs.ListingLaws.{has_new, kind-listing}
use Rattle.kernel_rules.proofs.GrownLaws.{Making, made_is, grown, grown_other, grown_new}
use Rattle.worlds.specs.Seen.{if_visible, seen_at, outline_of, lists_seen, IsSame}
use Rattle.worlds.proofs.Unseen.{lister_changed, lister_append, same_from}
use Rattle.worlds.proofs.Quietly.{has_linked}
use Rattle.worlds.proofs.Shared.{seen_if, told_same}
use Rattle.worlds.proofs.Plainly.{lister_same}

-- what is recorded once new is made under id k in container d, whose object was y
abbrev pub looked : ℕ → ℕ → Object → Object → Option Object → ℕ → Option Object
looked k d y new old q = cond (q == k) (Some new) (cond (is_at (nat_cmp q) d) (Some (listing k y)) old)

pub made_at : (s : State) (d : ℕ) (y new : Object) → Making s d y → (q : ℕ)
    → object_at (made s d new) q ≡ looked s.next_id d y new (object_at s q) q
made_at s d y new m q =
    ap (λ z. object_at z q) (made_is s d y new m) ∙
    elim (q == s.next_id)
    as (λ b. (q == s.next_id) ≡ b → object_at (grown s d y new) q
    ≡ cond b (Some new) (cond (is_at (nat_cmp q) d) (Some (listing s.next_id y)) (object_at s q))) [
      | true ↦ λ is.
          ap (object_at (grown s d y new)) (eqb-true q s.next_id is) ∙ grown_new s d y new m
      | false ↦ λ is.
          grown_other s d y new m q (λ on. both_ways (q == s.next_id) is (eq-eqb q s.next_id on))
    ] refl

-- the lister of another
lister_made : (s : State) (d : ℕ) (y new : Object) → Making s d y → listed new.body ≡ [] → (c : ℕ)
    → c ≢ s.next_id → lister_of c (made s d new).objects ≡ lister_of c s.objects
lister_made s d y new m empty c other =
    ap (λ z. lister_of c z.objects) (made_is s d y new m)
    ∙ lister_append c s.next_id (set_value (is_at (nat_cmp d)) s.objects (listing s.next_id y)) new empty
    ∙ sym (ap (λ v. lister_of c (of_object s (λ z. put s d (listing s.next_id z)) v).objects) m.found)
    ∙ lister_changed c s d (listing s.next_id) (λ x found. has_linked s.next_id c x.body other)

not_true : (b : Bool) → not b ≡ true → b ≡ false
not_true true h = sym h
not_true false h = refl

lister_fresh : (k d : ℕ) (es : List (ℕ × Object)) (y : Object) → lookup (is_at (nat_cmp d)) es ≡ Some y
    → is_kind kinds.Container y ≡ true → list_all (λ e. not (has (listed e.1.body) k)) es ≡ true
    → lister_of k (set_value (is_at (nat_cmp d)) es (listing k y)) ≡ d
lister_fresh k d [] y found kind none = absurd (cc)
lister_fresh k d (e ∷ es) y found kind none =
    let parts : (not (has (listed e.1.body) k) ≡ true) × (list_all (λ e. not (has (listed e.1.body) k)) es ≡ true) =
    and_parts (not (has (listed e.1.body) k)) (list_all (λ e. not (has (listed e.1.body) k)) es) none in
    elim (is_at (nat_cmp d) e.0)
    as (λ b. is_at (nat_cmp d) e.0 ≡ b → cond b (Some e.1) (lookup (is_at (nat_cmp d)) es) ≡ Some y
    → lister_of k (cond b ((e.0, listing k y) ∷ es) (e ∷ set_value (is_at (nat_cmp d)) es (listing k y))) ≡ d) [
      | true ↦ λ near f.
          ap (λ b. cond b e.0 (lister_of k es)) (has_new y k kind) ∙ sym (same_id d e.0 near)
      | false ↦ λ far f.
          ap (λ b. cond b e.0 (lister_of k (set_value (is_at (nat_cmp d)) es (listing k y))))
          (not_true (has (listed e.1.body) k) parts.0)
          ∙ lister_fresh k d es y f kind parts.1
    ] refl found

-- the lister of what is made
lister_new : (s : State) (d : ℕ) (y new : Object) → is_well_formed s ≡ true → Making s d y → listed new.body ≡ []
    → lister_of s.next_id (made s d new).objects ≡ d
lister_new s d y new sound m empty =
    ap (λ z. lister_of s.next_id z.objects) (made_is s d y new m)
    ∙ lister_append s.next_id s.next_id (set_value (is_at (nat_cmp d)) s.objects (listing s.next_id y)) new empty
    ∙ lister_fresh s.next_id d s.objects y m.found m.kind
    (unlisted_next s s.objects m.absent (soundness_of s sound).kept)

seen_test : (l : LabelValue) (z : Object) (g : Object → Bool) → of_object false g (if_visible l (Some z)) ≡ true
    → g z ≡ true
seen_test l z g =
    elim (visible z.label l) as (λ b. of_object false g (cond b (Some z) None) ≡ true → g z ≡ true) [
      | true ↦ λ e. e
      | false ↦ λ e. absurd (cc)
    ]

-- who passes a test after the object was made did before, but for the new one
before : (l : LabelValue) (s : State) (d : ℕ) (y new : Object) (g : Object → Bool) (c : ℕ)
    → object_at s d ≡ Some y → visible y.label l ≡ true
    → (g (listing s.next_id y) ≡ true → g y ≡ true) → (c == s.next_id) ≡ false
    → of_object false g (if_visible l (looked s.next_id d y new (object_at s c) c)) ≡ true
    → of_object false g (seen_at l s c) ≡ true
before l s d y new g c found seen less other h =
    elim (is_at (nat_cmp c) d)
    as (λ b. is_at (nat_cmp c) d ≡ b
    → of_object false g (if_visible l (cond b (Some (listing s.next_id y)) (object_at s c))) ≡ true
    → of_object false g (seen_at l s c) ≡ true) [
      | true ↦ λ near e.
          ap (λ j. of_object false g (seen_at l s j)) (same_id c d near)
          ∙ ap (of_object false g) (seen_if l s d y found seen)
          ∙ less (seen_test l (listing s.next_id y) g e)
      | false ↦ λ far e. e
    ] refl (sym (ap (λ b. of_object false g (if_visible l
    (cond b (Some new) (cond (is_at (nat_cmp c) d) (Some (listing s.next_id y)) (object_at s c))))) other) ∙ h)

-- and what is seen of both worlds is the same
pub same_made : (l : LabelValue) (s n : State) (d : ℕ) (y new : Object) → is_well_formed s ≡ true
    → is_well_formed n ≡ true → IsSame l s n → n.next_id ≡ s.next_id → Making s d y → Making n d y
    → visible y.label l ≡ true → listed new.body ≡ [] → IsSame l (made s d new) (made n d new)
same_made l s n d y new sound sound_too same ids m m_too seen empty =
    same_from l (made s d new) (made n d new)
    (λ q. ap (if_visible l) (at_n q) ∙ objects q ∙ sym (ap (if_visible l) (made_at s d y new m q)))
    (λ c q h. ap (option_map outline_of) (at_n q)
    ∙ outlines c q (sym (ap (λ v. of_object false (λ z. has (listed z.body) q) (if_visible l v)) (made_at s d y new m c)) ∙ h)
    ∙ sym (ap (option_map outline_of) (made_at s d y new m q)))
    (λ c h. parents c
    (sym (ap (λ v. of_object false (is_kind kinds.Container) (if_visible l v)) (made_at s d y new m c)) ∙ h))
  where
    at_n : (q : ℕ) → object_at (made n d new) q ≡ looked s.next_id d y new (object_at n q) q
    at_n q = made_at n d y new m_too q ∙ ap (λ k. looked k d y new (object_at n q) q) ids

    objects : (q : ℕ) → if_visible l (looked s.next_id d y new (object_at n q) q)
        ≡ if_visible l (looked s.next_id d y new (object_at s q) q)
    objects q =
        elim (q == s.next_id)
        as (λ b. if_visible l (cond b (Some new)
        (cond (is_at (nat_cmp q) d) (Some (listing s.next_id y)) (object_at n q)))
        ≡ if_visible l (cond b (Some new)
        (cond (is_at (nat_cmp q) d) (Some (listing s.next_id y)) (object_at s q)))) [
          | true ↦ refl
          | false ↦ elim (is_at (nat_cmp q) d)
              as (λ b. if_visible l (cond b (Some (listing s.next_id y)) (object_at n q))
              ≡ if_visible l (cond b (Some (listing s.next_id y)) (object_at s q))) [
                | true ↦ refl
                | false ↦ same.objects q
              ]
        ]

    listed_before : (c q : ℕ) → (q == s.next_id) ≡ false
        → of_object false (λ z. has (listed z.body) q) (if_visible l (looked s.next_id d y new (object_at s c) c)) ≡ true
        → lists_seen l s c q ≡ true
    listed_before c q off h =
        elim (c == s.next_id)
        as (λ b. (c == s.next_id) ≡ b → lists_seen l s c q ≡ true) [
          | true ↦ λ is.
              let none : has (listed new.body) q ≡ true =
              seen_test l new (λ z. has (listed z.body) q)
              (sym (ap (λ b. of_object false (λ z. has (listed z.body) q) (if_visible l (cond b (Some new)
              (cond (is_at (nat_cmp c) d) (Some (listing s.next_id y)) (object_at s c))))) is) ∙ h) in
              absurd (both_ways (has (listed new.body) q) (ap (λ ids. has ids q) empty) none)
          | false ↦ λ other.
              before l s d y new (λ z. has (listed z.body) q) c m.found seen
              (λ g. sym (has_linked s.next_id q y.body
              (λ on. both_ways (q == s.next_id) off (eq-eqb q s.next_id on))) ∙ g) other h
        ] refl

    outlines : (c q : ℕ)
        → of_object false (λ z. has (listed z.body) q) (if_visible l (looked s.next_id d y new (object_at s c) c)) ≡ true
        → option_map outline_of (looked s.next_id d y new (object_at n q) q)
        ≡ option_map outline_of (looked s.next_id d y new (object_at s q) q)
    outlines c q h =
        elim (q == s.next_id)
        as (λ b. (q == s.next_id) ≡ b → option_map outline_of (cond b (Some new)
        (cond (is_at (nat_cmp q) d) (Some (listing s.next_id y)) (object_at n q)))
        ≡ option_map outline_of (cond b (Some new)
        (cond (is_at (nat_cmp q) d) (Some (listing s.next_id y)) (object_at s q)))) [
          | true ↦ λ is. refl
          | false ↦ λ off. elim (is_at (nat_cmp q) d)
              as (λ b. option_map outline_of (cond b (Some (listing s.next_id y)) (object_at n q))
              ≡ option_map outline_of (cond b (Some (listing s.next_id y)) (object_at s q))) [
                | true ↦ refl
                | false ↦ told_same l s n c q same (listed_before c q off h)
              ]
        ] refl

    parents : (c : ℕ)
        → of_object false (is_kind kinds.Container) (if_visible l (looked s.next_id d y new (object_at s c) c)) ≡ true
        → lister_of c (made n d new).objects ≡ lister_of c (made s d new).objects
    parents c h =
        elim (c == s.next_id)
        as (λ b. (c == s.next_id) ≡ b → lister_of c (made n d new).objects ≡ lister_of c (made s d new).objects) [
          | true ↦ λ is.
              let on : c ≡ s.next_id = eqb-true c s.next_id is in
              ap (λ j. lister_of j (made n d new).objects) (on ∙ sym ids) ∙ lister_new n d y new sound_too m_too empty
              ∙ sym (ap (λ j. lister_of j (made s d new).objects) on ∙ lister_new s d y new sound m empty)
          | false ↦ λ off.
              let other : c ≢ s.next_id = (λ on. both_ways (c == s.next_id) off (eq-eqb c s.next_id on)) in
              lister_made n d y new m_too empty c (λ on. other (on ∙ ids))
              ∙ lister_same l s n c same
              (before l s d y new (is_kind kinds.Container) c m.found seen
              (λ g. sym (kind-listing y s.next_id) ∙ g) off h)
              ∙ sym (lister_made s d y new m empty c other)
        ] refl
