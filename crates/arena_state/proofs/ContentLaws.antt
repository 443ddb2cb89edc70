-- Pieces whose slot of one object holds something else.
use Rattle.std.proofs.Common.{◌≡◌, ◌≢◌, ℕ, Bool, true, false, cond, ◌==◌, List, [], ◌∷◌, Some, None, refl, sym, ◌∙◌, ap, subst, inl, inr}
use Rattle.std.specs.Ordering.{nat_cmp}
use Rattle.std.specs.Map.{lookup, set_value}
use Rattle.std.specs.BTreeMap.{is_at}
use Rattle.std.proofs.lemmas.Bool.{cases_eq, eq-eqb, ne_eqb, cases_Bool}
use Rattle.std.proofs.lemmas.Option.{same_Some, none-some}
use Rattle.base.specs.Live.{has}
use Rattle.containers.specs.Tree.{ids_in, HasSlot}
use Rattle.kernel_rules.specs.declared.objects.Object.{Object}
use Rattle.kernel_rules.specs.State.{State, object_at, of_object}
use Rattle.kernel_rules.specs.Changes.{changed, put}
use Rattle.kernel_rules.proofs.WellFormedLaws.{soundness_of}
use Rattle.arena_state.specs.declared.pieces.Pieces.{Pieces}
use Rattle.arena_state.specs.Filled.{Content, filled, filled_state}
use Rattle.arena_state.specs.Assembled.{pieces_state}
use Rattle.arena_state.specs.Sound.{IsSound}
use Rattle.arena_state.specs.Stocked.{slot_of, content_in, content_at, whole_state}
use Rattle.arena_state.proofs.FilledLaws.{same_filled, changed_filled}
use Rattle.arena_state.proofs.SoundLaws.{object_none}
use Rattle.arena_state.proofs.ShapeLaws.{one_id}
use Rattle.arena_state.proofs.StockLaws.{slot_is, slot_there}

-- a value written where it stands
set_same : (test : ℕ → Bool) (es : List (ℕ × Object)) (x : Object) → lookup test es ≡ Some x → set_value test es x ≡ es
set_same test [] x found = absurd (cc)
set_same test (e ∷ es) x found =
    elim (test e.0)
    as (λ v. cond v (Some e.1) (lookup test es) ≡ Some x → cond v ((e.0, x) ∷ es) (e ∷ set_value test es x) ≡ e ∷ es) [
      | true ↦ λ f. ap (λ (y : Object). (e.0, y) ∷ es) (sym (same_Some e.1 x f))
      | false ↦ λ f. ap (λ (t : List (ℕ × Object)). e ∷ t) (set_same test es x f)
    ] found

-- a change that changes nothing
pub unchanged : (s : State) (o : ℕ) → changed s o (λ x. x) ≡ s
unchanged s o =
    elim (object_at s o) as (λ v. object_at s o ≡ v → of_object s (λ x. put s o x) v ≡ s) [
      | None ↦ λ none. refl
      | Some x ↦ λ found. (λ i. record s { objects = set_same (is_at (nat_cmp o)) s.objects x found i })
    ] refl

-- of pieces that hold something else at the slot of one object, that object shows it, and nothing else changed
module _ (p q : Pieces) (s : IsSound p) (id slot : ℕ) (h : HasSlot p.places id slot)
    (bare : pieces_state q ≡ pieces_state p) (ids : (i : ℕ) → slot_of q i ≡ slot_of p i)
    (off : (j : ℕ) → j ≢ slot → content_in q.holdings j ≡ content_in p.holdings j) where
  -- what the slots of ids hold then
  held : ℕ → Content
  held i = cond (i == id) (content_in q.holdings slot) (content_at p i)

  held_here : held id ≡ content_in q.holdings slot
  unfolding held
  held_here = ap (λ (v : Bool). cond v (content_in q.holdings slot) (content_at p id)) (eq-eqb id id refl)

  held_off : (i : ℕ) → i ≢ id → held i ≡ content_at p i
  unfolding held
  held_off i other = ap (λ (v : Bool). cond v (content_in q.holdings slot) (content_at p i)) (ne_eqb i id other)

  other_slot : (i : ℕ) → has (ids_in p.places.lists) i ≡ true → i ≢ id → slot_of p i ≢ slot
  other_slot i there other same =
      let at = slot_there p s i there in
      other (one_id p s i id slot
      (subst (λ (j : ℕ). HasSlot p.places i j) (sym (slot_is p s i at.0 at.1) ∙ same) at.1) h)

  there_is : (i : ℕ) (x : Object) → object_at (pieces_state p) i ≡ Some x → has (ids_in p.places.lists) i ≡ true
  there_is i x found = elim (cases_Bool (has (ids_in p.places.lists) i)) [
    | inl there ↦ there
    | inr gone ↦ absurd (none-some x (sym (object_none p s i gone) ∙ found))
  ]

  held_is : (i : ℕ) (x : Object) → object_at (pieces_state p) i ≡ Some x → content_at q i ≡ held i
  held_is i x found = elim (cases_eq i id) [
    | inl same ↦
        ap (content_in q.holdings) (ids i ∙ ap (slot_of p) same ∙ slot_is p s id slot h)
        ∙ sym held_here ∙ ap held (sym same)
    | inr other ↦
        ap (content_in q.holdings) (ids i) ∙ off (slot_of p i) (other_slot i (there_is i x found) other) ∙ sym (held_off i other)
  ]

  pub refilled : (g : Object → Object)
      → ((x : Object) → object_at (pieces_state p) id ≡ Some x
      → filled (content_in q.holdings slot) x ≡ g (filled (content_in p.holdings slot) x))
      → whole_state q ≡ changed (whole_state p) id g
  refilled g here =
      let rise = (soundness_of (pieces_state p) s.formed).rise in
      (λ i. filled_state (content_at q) (bare i))
      ∙ (λ i. record (pieces_state p) { objects = same_filled held (content_at q) (pieces_state p).objects held_is rise i })
      ∙ ap (filled_state held) (sym (unchanged (pieces_state p) id))
      ∙ changed_filled (content_at p) held id held_off (pieces_state p) (λ x. x) g rise
      (λ x found. ap (λ (c : Content). filled c x) held_here ∙ here x found
      ∙ ap (λ (j : ℕ). g (filled (content_in p.holdings j) x)) (sym (slot_is p s id slot h)))
