-- States with what slots hold: read, changed and restricted.
use Rattle.std.proofs.Common.{◌≡◌, ◌≢◌, ℕ, ◌<◌, Bool, true, false, cond, nat_lt, List, [], ◌∷◌, Some, None, refl, sym, ◌∙◌, ap, arith}
use Rattle.std.specs.List.{list_all, filter}
use Rattle.std.specs.Option.{option_map}
use Rattle.std.specs.Ordering.{nat_cmp}
use Rattle.std.specs.Map.{lookup, set_value}
use Rattle.std.specs.BTreeMap.{is_at}
use Rattle.std.proofs.lemmas.Bool.{and_parts, both_ways, eq-eqb, ltb-true}
use Rattle.base.specs.Live.{is_live}
use Rattle.kernel_rules.specs.State.{State, object_at, of_object, listed, lists_of, live_part}
use Rattle.kernel_rules.specs.Changes.{put, changed}
use Rattle.kernel_rules.specs.Step.{restricted}
use Rattle.kernel_rules.specs.WellFormed.{ids_rise}
use Rattle.kernel_rules.specs.declared.objects.Object.{Object}
use Rattle.kernel_rules.specs.declared.objects.Body as body
use Rattle.kernel_rules.specs.declared.objects.Body.TheVariants as is
use Rattle.kernel_rules.proofs.LookupLaws.{at_self, at_is}
use Rattle.kernel_rules.proofs.RecordLaws.{same_id}
use Rattle.arena_state.specs.Filled.{Content, filled, filled_body, filled_in, filled_state}

pub listed_filled : (c : Content) (b : body.Body) → listed (filled_body c b) ≡ listed b
listed_filled c (is.Container avoid list) = refl
listed_filled c (is.Segment bytes) = refl
listed_filled c (is.AddressSpace slots) = refl
listed_filled c (is.Thread t) = refl
listed_filled c (is.Gate g) = refl
listed_filled c (is.Device packets) = refl

pub not_at : (o k : ℕ) → is_at (nat_cmp o) k ≡ false → k ≢ o
not_at o k off = λ (e : k ≡ o). both_ways (is_at (nat_cmp o) k) off (at_is o k ∙ eq-eqb o k (sym e))

module _ (cs : ℕ → Content) where
  -- what lists, lists as it did
  pub lists_filled : (es : List (ℕ × Object)) → lists_of (filled_in cs es) ≡ lists_of es
  lists_filled [] = refl
  lists_filled (e ∷ es) = (λ i. (e.0, listed_filled (cs e.0) e.1.body i) ∷ lists_filled es i)

  -- the object that is looked up
  pub at_filled : (o : ℕ) (es : List (ℕ × Object))
      → lookup (is_at (nat_cmp o)) (filled_in cs es) ≡ option_map (filled (cs o)) (lookup (is_at (nat_cmp o)) es)
  at_filled o [] = refl
  at_filled o (e ∷ es) =
      elim (is_at (nat_cmp o) e.0)
      as (λ v. is_at (nat_cmp o) e.0 ≡ v
      → cond v (Some (filled (cs e.0) e.1)) (lookup (is_at (nat_cmp o)) (filled_in cs es))
      ≡ option_map (filled (cs o)) (cond v (Some e.1) (lookup (is_at (nat_cmp o)) es))) [
        | true ↦ λ at. ap (λ (k : ℕ). Some (filled (cs k) e.1)) (sym (same_id o e.0 at))
        | false ↦ λ at. at_filled o es
      ] refl

  -- ids are taken out alike
  pub filter_filled : (test : ℕ → Bool) (es : List (ℕ × Object))
      → filled_in cs (filter (λ e. test e.0) es) ≡ filter (λ e. test e.0) (filled_in cs es)
  filter_filled test [] = refl
  filter_filled test (e ∷ es) =
      elim (test e.0)
      as (λ v. filled_in cs (cond v (e ∷ filter (λ e. test e.0) es) (filter (λ e. test e.0) es))
      ≡ cond v ((e.0, filled (cs e.0) e.1) ∷ filter (λ e. test e.0) (filled_in cs es))
      (filter (λ e. test e.0) (filled_in cs es))) [
        | true ↦ ap (λ (t : List (ℕ × Object)). (e.0, filled (cs e.0) e.1) ∷ t) (filter_filled test es)
        | false ↦ filter_filled test es
      ]

  pub live_filled : (es : List (ℕ × Object)) → filled_in cs (live_part es) ≡ live_part (filled_in cs es)
  unfolding live_part
  live_filled es =
      filter_filled (λ i. is_live (lists_of es) i) es
      ∙ ap (λ (lists : List (ℕ × List ℕ)). filter (λ e. is_live lists e.0) (filled_in cs es)) (sym (lists_filled es))

  -- what is dead goes alike
  pub restricted_filled : (s : State) → filled_state cs (restricted s) ≡ restricted (filled_state cs s)
  restricted_filled s = (λ i. record s { objects = live_filled s.objects i })

-- what slots of recorded ids hold is all that shows
pub same_filled : (cs ds : ℕ → Content) (es : List (ℕ × Object))
    → ((i : ℕ) (x : Object) → lookup (is_at (nat_cmp i)) es ≡ Some x → ds i ≡ cs i) → ids_rise es ≡ true
    → filled_in ds es ≡ filled_in cs es
same_filled cs ds [] same rise = refl
same_filled cs ds (e ∷ es) same rise =
    let parts : (list_all (λ f. nat_lt e.0 f.0) es ≡ true) × (ids_rise es ≡ true)
    = and_parts (list_all (λ f. nat_lt e.0 f.0) es) (ids_rise es) rise in
    (λ i. (e.0, filled (same e.0 e.1 (ap (λ (v : Bool). cond v (Some e.1) (lookup (is_at (nat_cmp e.0)) es)) (at_self e.0)) i) e.1)
    ∷ same_filled cs ds es (later parts.0) parts.1 i)
  where
    later : list_all (λ f. nat_lt e.0 f.0) es ≡ true
        → (i : ℕ) (x : Object) → lookup (is_at (nat_cmp i)) es ≡ Some x → ds i ≡ cs i
    later above i x found =
        elim (is_at (nat_cmp i) e.0)
        as (λ v. is_at (nat_cmp i) e.0 ≡ v → ds i ≡ cs i) [
          | true ↦ λ at. same i e.1 (ap (λ (v : Bool). cond v (Some e.1) (lookup (is_at (nat_cmp i)) es)) at)
          | false ↦ λ at. same i x (ap (λ (v : Bool). cond v (Some e.1) (lookup (is_at (nat_cmp i)) es)) at ∙ found)
        ] refl

-- one object changes, and what its slot holds
module _ (cs ds : ℕ → Content) (o : ℕ) (off : (i : ℕ) → i ≢ o → ds i ≡ cs i) where
  pub above_filled : (es : List (ℕ × Object)) (k : ℕ) → k ≡ o → list_all (λ f. nat_lt k f.0) es ≡ true
      → filled_in ds es ≡ filled_in cs es
  above_filled [] k is above = refl
  above_filled (e ∷ es) k is above =
      let parts : (nat_lt k e.0 ≡ true) × (list_all (λ f. nat_lt k f.0) es ≡ true)
      = and_parts (nat_lt k e.0) (list_all (λ f. nat_lt k f.0) es) above in
      let less : k < e.0 = ltb-true k e.0 parts.0 in
      let other : e.0 ≢ o = λ (same : e.0 ≡ o). omega arith in
      (λ i. (e.0, filled (off e.0 other i) e.1) ∷ above_filled es k is parts.1 i)

  pub set_filled : (es : List (ℕ × Object)) (y z : Object) → ids_rise es ≡ true → filled (ds o) y ≡ z
      → filled_in ds (set_value (is_at (nat_cmp o)) es y) ≡ set_value (is_at (nat_cmp o)) (filled_in cs es) z
  set_filled [] y z rise here = refl
  set_filled (e ∷ es) y z rise here =
      let parts : (list_all (λ f. nat_lt e.0 f.0) es ≡ true) × (ids_rise es ≡ true)
      = and_parts (list_all (λ f. nat_lt e.0 f.0) es) (ids_rise es) rise in
      elim (is_at (nat_cmp o) e.0)
      as (λ v. is_at (nat_cmp o) e.0 ≡ v
      → filled_in ds (cond v ((e.0, y) ∷ es) (e ∷ set_value (is_at (nat_cmp o)) es y))
      ≡ cond v ((e.0, z) ∷ filled_in cs es)
      ((e.0, filled (cs e.0) e.1) ∷ set_value (is_at (nat_cmp o)) (filled_in cs es) z)) [
        | true ↦ λ at.
            let same : o ≡ e.0 = same_id o e.0 at in
            let now : filled (ds e.0) y ≡ z = ap (λ (k : ℕ). filled (ds k) y) (sym same) ∙ here in
            (λ i. (e.0, now i) ∷ above_filled es e.0 (sym same) parts.0 i)
        | false ↦ λ at. (λ i. (e.0, filled (off e.0 (not_at o e.0 at) i) e.1) ∷ set_filled es y z parts.1 here i)
      ] refl

  pub absent_filled : (es : List (ℕ × Object)) → lookup (is_at (nat_cmp o)) es ≡ None → filled_in ds es ≡ filled_in cs es
  absent_filled [] gone = refl
  absent_filled (e ∷ es) gone =
      elim (is_at (nat_cmp o) e.0)
      as (λ v. is_at (nat_cmp o) e.0 ≡ v → cond v (Some e.1) (lookup (is_at (nat_cmp o)) es) ≡ None
      → filled_in ds (e ∷ es) ≡ filled_in cs (e ∷ es)) [
        | true ↦ λ at some. absurd (cc)
        | false ↦ λ at none. (λ i. (e.0, filled (off e.0 (not_at o e.0 at) i) e.1) ∷ absent_filled es none i)
      ] refl gone

  pub changed_filled : (s : State) (f g : Object → Object) → ids_rise s.objects ≡ true
      → ((x : Object) → object_at s o ≡ Some x → filled (ds o) (f x) ≡ g (filled (cs o) x))
      → filled_state ds (changed s o f) ≡ changed (filled_state cs s) o g
  changed_filled s f g rise here =
      elim (object_at s o)
      as (λ v. object_at s o ≡ v
      → filled_state ds (of_object s (λ x. put s o (f x)) v)
      ≡ of_object (filled_state cs s) (λ x. put (filled_state cs s) o (g x)) (option_map (filled (cs o)) v)) [
        | None ↦ λ none. (λ i. record s { objects = absent_filled s.objects none i })
        | Some x ↦ λ some. (λ i. record s { objects = set_filled s.objects (f x) (g (filled (cs o) x)) rise (here x some) i })
      ] refl
      ∙ sym (ap (of_object (filled_state cs s) (λ x. put (filled_state cs s) o (g x))) (at_filled cs o s.objects))
