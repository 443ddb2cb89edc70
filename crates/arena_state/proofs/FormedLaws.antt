-- A state with what slots hold is as well formed as the one without.
use Rattle.std.proofs.Common.{◌≡◌, ℕ, ◌+◌, Bool, true, cond, ◌&&◌, ◌||◌, ◌==◌, nat_lt, nat_le, List, [], ◌∷◌, length, Some, None, is_some, refl, sym, ◌∙◌, ap, subst, sum_by}
use Rattle.std.specs.List.{list_all}
use Rattle.std.specs.Option.{option_map}
use Rattle.std.proofs.lemmas.Bool.{and_parts, and_from}
use Rattle.std.proofs.lemmas.List.Folds.{list_all-map}
use Rattle.base.specs.Live.{has, are_live}
use Rattle.base.specs.declared.kinds.Kind.TheVariants as kinds
use Rattle.kernel_rules.specs.State.{State, object_at, of_object, listed, own_cost, cost_at, quota_at, list_at, use_of}
use Rattle.kernel_rules.specs.WellFormed.{is_well_formed, is_kept, is_whole_body, is_stored, is_distinct, is_listed_rightly, listers, ids_rise}
use Rattle.kernel_rules.specs.declared.objects.Object.{Object}
use Rattle.kernel_rules.proofs.ListerLaws.{kept_parts, kept_from}
use Rattle.kernel_rules.proofs.LookupLaws.{all_at, all_from}
use Rattle.kernel_rules.proofs.WellFormedLaws.{soundness_of, well_formed_from}
use Rattle.arena_state.specs.Filled.{Content, filled, filled_body, filled_in, filled_state}
use Rattle.arena_state.proofs.FilledLaws.{listed_filled, lists_filled, at_filled}
use Rattle.arena_state.proofs.MadeFilledLaws.{kind_filled}

-- what a slot holds fits its object: it is whole, and costs as much
pub record IsFit (c : Content) (x : Object) : Type 0 where
  pub whole : is_whole_body (filled_body c x.body) ≡ true
  pub cost : own_cost (filled_body c x.body) ≡ own_cost x.body

module _ (cs : ℕ → Content) (s : State) where
  -- what is read off an object, whatever its slot holds
  pub read_filled : {X : Type 0} (d : X) (f : Object → X) → ((c : Content) (x : Object) → f (filled c x) ≡ f x)
      → (o : ℕ) → of_object d f (object_at (filled_state cs s) o) ≡ of_object d f (object_at s o)
  read_filled d f same o =
      ap (of_object d f) (at_filled cs o s.objects)
      ∙ elim (object_at s o) as (λ v. of_object d f (option_map (filled (cs o)) v) ≡ of_object d f v) [
        | None ↦ refl
        | Some x ↦ same (cs o) x
      ]

  pub some_filled : (o : ℕ) → is_some (object_at (filled_state cs s) o) ≡ is_some (object_at s o)
  some_filled o =
      ap is_some (at_filled cs o s.objects)
      ∙ elim (object_at s o) as (λ v. is_some (option_map (filled (cs o)) v) ≡ is_some v) [
        | None ↦ refl
        | Some x ↦ refl
      ]

  pub quota_filled : (o : ℕ) → quota_at (filled_state cs s) o ≡ quota_at s o
  quota_filled o = read_filled 0 (λ x. x.quota) (λ c x. refl) o

  pub list_filled : (o : ℕ) → list_at (filled_state cs s) o ≡ list_at s o
  list_filled o = read_filled [] (λ x. listed x.body) (λ c x. listed_filled c x.body) o

  pub rise_filled : (es : List (ℕ × Object)) → ids_rise (filled_in cs es) ≡ ids_rise es
  rise_filled [] = refl
  rise_filled (e ∷ es) =
      (λ i. list_all-map (λ (f : ℕ × Object). nat_lt e.0 f.0) (λ (f : ℕ × Object). (f.0, filled (cs f.0) f.1)) es i && rise_filled es i)

  rightly_filled : (n o : ℕ) (c : Content) (x : Object) → is_listed_rightly n o (filled c x) ≡ is_listed_rightly n o x
  rightly_filled n o c x =
      ap (λ (v : Bool). cond (o == 1) (n == 0) (cond v (n == 1) (nat_le 1 n && (nat_le n 1 || x.fixed))))
      (kind_filled kinds.Container c x)

  module _ (formed : is_well_formed s ≡ true) (fits : (o : ℕ) (x : Object) → object_at s o ≡ Some x → IsFit (cs o) x) where
    pub cost_filled : (o : ℕ) → cost_at (filled_state cs s) o ≡ cost_at s o
    cost_filled o =
        ap (of_object 0 (λ x. own_cost x.body)) (at_filled cs o s.objects)
        ∙ elim (object_at s o)
        as (λ v. object_at s o ≡ v → of_object 0 (λ x. own_cost x.body) (option_map (filled (cs o)) v)
        ≡ of_object 0 (λ x. own_cost x.body) v) [
          | None ↦ λ none. refl
          | Some x ↦ λ some. (fits o x some).cost
        ] refl

    pub use_filled : (o : ℕ) → use_of (filled_state cs s) o ≡ use_of s o
    use_filled o = λ i. cost_filled o i + sum_by (λ k. quota_filled k i) (list_filled o i)

    kept_filled : (q : ℕ) (x : Object) → object_at s q ≡ Some x → is_kept (filled_state cs s) q (filled (cs q) x) ≡ true
    kept_filled q x found =
        let h = soundness_of s formed in
        let k = kept_parts s q x (all_at (λ j w. is_kept s j w) s.objects q x h.kept found) in
        kept_from (filled_state cs s) q (filled (cs q) x) (record {
          distinct = ap is_distinct (listed_filled (cs q) x.body) ∙ k.distinct;
          recorded = (λ i. list_all (λ j. some_filled j i) (listed_filled (cs q) x.body i)) ∙ k.recorded;
          within = ap (λ (n : ℕ). nat_le n x.quota) (use_filled q) ∙ k.within;
          rightly = rightly_filled (listers (filled_state cs s) q) q (cs q) x
              ∙ ap (λ (lists : List (ℕ × List ℕ)). is_listed_rightly (sum_by (λ e. cond (has e.1 q) 1 0) lists) q x)
              (lists_filled cs s.objects)
              ∙ k.rightly;
          whole = and_from (is_stored x.label && length x.metadata == 64) (is_whole_body (filled_body (cs q) x.body))
              (and_parts (is_stored x.label && length x.metadata == 64) (is_whole_body x.body) k.whole).0 (fits q x found).whole;
        })

    pub formed_filled : is_well_formed (filled_state cs s) ≡ true
    formed_filled =
        let h = soundness_of s formed in
        well_formed_from (filled_state cs s) (record {
          begun = h.begun;
          live = ap are_live (lists_filled cs s.objects) ∙ h.live;
          given = ap (list_all (λ e. nat_lt e.0 s.next_id)) (lists_filled cs s.objects) ∙ h.given;
          rise = rise_filled s.objects ∙ h.rise;
          kept = all_from (λ o x. is_kept (filled_state cs s) o x) (filled_in cs s.objects) (rise_filled s.objects ∙ h.rise)
              (λ q z found.
              elim (object_at s q)
              as (λ v. object_at s q ≡ v → option_map (filled (cs q)) v ≡ Some z → is_kept (filled_state cs s) q z ≡ true) [
                | None ↦ λ none some. absurd (cc)
                | Some x ↦ λ was some.
                    let same : filled (cs q) x ≡ z = cc in
                    subst (λ (y : Object). is_kept (filled_state cs s) q y ≡ true) same (kept_filled q x was)
              ] refl (sym (at_filled cs q s.objects) ∙ found));
        })
