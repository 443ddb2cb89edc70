-- What holds of every state that steps lead to from a well-formed one, as far as flows need it.
use Rattle.std.proofs.Common.{◌≡◌, ◌≢◌, ℕ, ◌≤◌, ◌<◌, ◌+◌, Bool, true, false, cond, not, ◌==◌, nat_lt}
use Rattle.std.proofs.Common.{List, Option, Some, None, is_some, refl, sym, ◌∙◌, ap, subst, arith, inl, inr, zero, suc}
use Rattle.std.specs.List.{slice_get}
use Rattle.std.proofs.lemmas.Bool.{and_parts, or_parts, ltb-true, eqb-true, both_ways, eq-eqb}
use Rattle.std.proofs.lemmas.List.Folds.{list_all-map}
use Rattle.base.specs.Level.{rank_of}
use Rattle.base.specs.Limits.{in_range}
use Rattle.base.specs.declared.ranges.Limits.{Limits}
use Rattle.label_lattice.specs.Label.{LabelValue}
use Rattle.label_lattice.specs.Raw.{is_bad, stored_of}
use Rattle.label_lattice.specs.Order.{levels, Leq}
use Rattle.label_lattice.specs.declared.raw_labels.RawLabel.{RawLabel}
use Rattle.label_lattice.proofs.OrderLemmas.{leq_test-Leq, IsDescribed-levels, le_means}
use Rattle.label_lattice.specs.LabelRules.{stored}
use Rattle.kernel_rules.specs.State.{State, object_at, listed}
use Rattle.kernel_rules.specs.WellFormed.{is_well_formed, is_kept, is_whole}
use Rattle.kernel_rules.specs.Runs.{booted}
use Rattle.kernel_rules.specs.Step.{next}
use Rattle.kernel_rules.specs.Table.{refused}
use Rattle.kernel_rules.specs.declared.calls.Call.{Call}
use Rattle.kernel_rules.specs.declared.calls.Call.TheVariants as call
use Rattle.kernel_rules.specs.declared.objects.Object.{Object}
use Rattle.kernel_rules.proofs.BootLaws.{booted_well_formed}
use Rattle.kernel_rules.proofs.LookupLaws.{all_at}
use Rattle.kernel_rules.proofs.StepLaws.{step_refused}
use Rattle.kernel_rules.proofs.WellFormedLaws.{soundness_of}
use Rattle.kernel_laws.proofs.Frames.{recorded_edited}
use Rattle.kernel_laws.proofs.Labels.{labels_own}
use Rattle.kernel_laws.proofs.Rises.{labels_rise}
use Rattle.flow_rules.specs.Touched.{after}
use Rattle.flow_rules.specs.Flows.{after_event, before}
use Rattle.flow_rules.specs.declared.steps.Step.{Step}
use Rattle.flow_rules.specs.declared.steps.Step.TheVariants as step
use Rattle.flow_rules.proofs.Source.{source, next_rises}
use Rattle.flow_rules.proofs.Callers.{maker, passed_label}

-- each recorded id was given, and the default of no label is star
pub record Sound (s : State) : Type 0 where
  pub given : (o : ℕ) (x : Object) → object_at s o ≡ Some x → o < s.next_id
  pub plain : (o : ℕ) (x : Object) → object_at s o ≡ Some x → (rank_of x.label.default_level == 0) ≡ false

-- whoever is there
pub there : {X : Type 0} (v : Option X) → is_some v ≡ true → (x : X) × (v ≡ Some x)
there None h = absurd (cc)
there (Some x) h = (x, refl)

stored_plain : (raw : RawLabel) (l : LabelValue) → stored raw ≡ Some l
    → (rank_of l.default_level == 0) ≡ false
unfolding stored
stored_plain raw l h =
    elim (is_bad raw)
    as (λ v. is_bad raw ≡ v → cond v None (Some (stored_of raw)) ≡ Some l
    → (rank_of l.default_level == 0) ≡ false) [
      | true ↦ λ is g. absurd (cc)
      | false ↦ λ is g.
          let same : stored_of raw ≡ l = cc in
          subst (λ (m : LabelValue). (rank_of m.default_level == 0) ≡ false) same (or_parts _ _ is).0
    ] refl h

-- a default rises with the levels
default_rises : (a b : LabelValue) → Leq (levels a) (levels b)
    → rank_of a.default_level ≤ rank_of b.default_level
default_rises a b leq =
    le_means _ _
    (and_parts _ _
    ((leq_test-Leq (levels a) (levels b) (IsDescribed-levels a) (IsDescribed-levels b)).1 leq)).0

none_below : (a b : ℕ) → a ≤ b → (a == 0) ≡ false → (b == 0) ≡ false
none_below a b le h =
    elim (b == 0) as (λ v. (b == 0) ≡ v → v ≡ false) [
      | true ↦ λ is.
          let none : b ≡ 0 = eqb-true b 0 is in
          let a_none : a ≡ 0 = omega arith in
          absurd (both_ways (a == 0) h (eq-eqb a 0 a_none))
      | false ↦ λ is. refl
    ] refl

same_plain : (a b : LabelValue) → b ≡ a → (rank_of a.default_level == 0) ≡ false
    → (rank_of b.default_level == 0) ≡ false
same_plain a b is h = subst (λ (l : LabelValue). (rank_of l.default_level == 0) ≡ false) (sym is) h

-- the caller's label after a call that is not refused
accepted_plain : (s : State) (t : ℕ) (c : Call) (x y : Object) → refused s t c ≡ None → t ≢ s.next_id
    → object_at s t ≡ Some x → object_at (next s t c) t ≡ Some y
    → (rank_of x.label.default_level == 0) ≡ false → (rank_of y.label.default_level == 0) ≡ false
accepted_plain s t call.CatCreate x y h old was now plain =
    elim (maker s t x y was (recorded_edited s t call.CatCreate t y h now)) [
      | inl same ↦ same_plain x.label y.label (ap (λ z. z.label) same) plain
      | inr m ↦ subst (λ (l : LabelValue). (rank_of l.default_level == 0) ≡ false) (sym m.label) plain
    ]
accepted_plain s t (call.GateEnter e r q v) x y h old was now plain =
    stored_plain r y.label
    (passed_label s t e r q v x y h was (recorded_edited s t (call.GateEnter e r q v) t y h now)).is_stored
accepted_plain s t c x y h old was now plain =
    none_below (rank_of x.label.default_level) (rank_of y.label.default_level)
    (default_rises x.label y.label (labels_rise s t c x y refl old was now)) plain

-- an id is that of the caller, or not
pub either : {G : Type 0} (o t : ℕ) → (o ≡ t → G) → (o ≢ t → G) → G
either {G} o t same other =
    elim (o == t) as (λ v. (o == t) ≡ v → G) [
      | true ↦ λ is. same (eqb-true o t is)
      | false ↦ λ off. other (λ is. both_ways (o == t) off (eq-eqb o t is))
    ] refl

caller_plain : (s : State) (t : ℕ) (c : Call) (x y : Object) → t ≢ s.next_id
    → object_at s t ≡ Some x → object_at (next s t c) t ≡ Some y
    → (rank_of x.label.default_level == 0) ≡ false → (rank_of y.label.default_level == 0) ≡ false
caller_plain s t c x y old was now plain =
    elim (refused s t c) as (λ v. refused s t c ≡ v → (rank_of y.label.default_level == 0) ≡ false) [
      | None ↦ λ h. accepted_plain s t c x y h old was now plain
      | Some r ↦ λ h.
          let same : Some x ≡ Some y =
          sym was ∙ ap (λ n. object_at n t) (sym (step_refused s t c r h).1) ∙ now in
          let is : x ≡ y = cc in
          subst (λ (z : Object). (rank_of z.label.default_level == 0) ≡ false) is plain
    ] refl

sound_call : (s : State) (t : ℕ) (c : Call) → Sound s → Sound (next s t c)
sound_call s t c sound = record {
  given = λ o y now.
      let rises : s.next_id ≤ (next s t c).next_id = next_rises s t c in
      elim (source s t c o y now) [
        | inl old ↦
            let x = there (object_at s o) old in
            let less : o < s.next_id = sound.given o x.0 x.1 in omega arith
        | inr new ↦
            let at : o ≡ s.next_id = new.next in
            let more : (next s t c).next_id ≡ s.next_id + 1 = new.more in omega arith
      ];
  plain = λ o y now. elim (source s t c o y now) [
    | inl old ↦
        let x = there (object_at s o) old in
        let less : o < s.next_id = sound.given o x.0 x.1 in
        let none : o ≢ s.next_id = (λ (h : o ≡ s.next_id). omega arith) in
        either o t
        (λ is.
        caller_plain s t c x.0 y (λ h. none (is ∙ h)) (ap (object_at s) (sym is) ∙ x.1)
        (ap (object_at (next s t c)) (sym is) ∙ now) (sound.plain o x.0 x.1))
        (λ other. same_plain x.0.label y.label (labels_own s t c o x.0 y other none x.1 now) (sound.plain o x.0 x.1))
    | inr new ↦ stored_plain new.raw y.label new.is_stored
  ];
}

pub sound_step : (s : State) (t : ℕ) (p : Step) → Sound s → Sound (after s t p)
sound_step s t (step.Write c) sound = sound_call s t c sound
sound_step s t (step.Read q) sound = sound

sound_event : (s : State) (e : Option (ℕ × Step)) → Sound s → Sound (after_event s e)
sound_event s None sound = sound
sound_event s (Some e) sound = sound_step s e.0 e.1 sound

pub sound_run : (s : State) (events : List (ℕ × Step)) (k : ℕ) → Sound s → Sound (before s events k)
sound_run s events zero sound = sound
sound_run s events (suc k) sound =
    sound_event (before s events k) (slice_get events k) (sound_run s events k sound)

-- a well-formed state is such a one
pub sound_from : (s : State) → is_well_formed s ≡ true → Sound s
sound_from s h =
    let parts = soundness_of s h in
    record {
      given = λ o x at.
          ltb-true o s.next_id
          (all_at (λ p y. nat_lt p s.next_id) s.objects o x
          (sym (list_all-map (λ e. nat_lt e.0 s.next_id) (λ e. (e.0, listed e.1.body)) s.objects) ∙ parts.given) at);
      plain = λ o x at.
          let kept : is_kept s o x ≡ true = all_at (is_kept s) s.objects o x parts.kept at in
          let whole : is_whole x ≡ true = (and_parts _ _ kept).1 in
          let is_stored = (and_parts _ _ (and_parts _ _ whole).0).0 in
          let first = (and_parts _ _ (and_parts _ _ (and_parts _ _ is_stored).0).0).0 in
          true-not (rank_of x.label.default_level == 0) first;
    }
  where
    true-not : (b : Bool) → not b ≡ true → b ≡ false
    true-not true h = absurd (cc)
    true-not false h = refl

pub sound_boot : (l : Limits) → in_range l ≡ true → Sound (booted l)
sound_boot l h = sound_from (booted l) (booted_well_formed l h)
