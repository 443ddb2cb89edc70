-- What a step leaves of a level, what it lets a thread see, and what it lets it write.
use Rattle.std.proofs.Common.{◌≡◌, ◌≢◌, ℕ, ◌≤◌, ◌<◌, Bool, true, false, cond, ◌&&◌, ◌==◌, ◌++◌, nat_lt}
use Rattle.std.proofs.Common.{List, [], ◌∷◌, Option, Some, None, is_none, refl, sym, ◌∙◌, ap, subst, arith, ◌⊎◌, inl, inr}
use Rattle.std.specs.Option.{option_map}
use Rattle.std.proofs.lemmas.Bool.{and_parts, not-false, eq-eqb, both_ways, and_from, ltb-true}
use Rattle.base.specs.Level.{rank_of}
use Rattle.base.specs.Live.{is_live}
use Rattle.base.specs.declared.kinds.Kind.TheVariants as kinds
use Rattle.label_lattice.specs.Label.{LabelValue}
use Rattle.base.specs.declared.levels.Level.{Level}
use Rattle.base.specs.declared.levels.Level.TheVariants.{Star, L0, L1, L2, L3}
use Rattle.label_lattice.specs.Levels.{level_at}
use Rattle.label_lattice.specs.declared.pairings.Pair.{Pair}
use Rattle.label_lattice.specs.declared.raw_labels.RawLabel.{RawLabel}
use Rattle.label_lattice.specs.Placed.{with_level, kept, placed}
use Rattle.label_lattice.proofs.PlacedLemmas.{placed-other, eq_false}
use Rattle.kernel_rules.specs.State.{State, object_at, of_object, is_kind, is_kind_at, is_live_kind, kind_number}
use Rattle.kernel_rules.specs.State.{label_at, lists_of}
use Rattle.kernel_rules.specs.Table.{halted, refused, row, query_refused, query_row}
use Rattle.kernel_rules.specs.Step.{next}
use Rattle.kernel_rules.specs.declared.calls.Call.{Call}
use Rattle.kernel_rules.specs.declared.calls.Call.TheVariants as call
use Rattle.kernel_rules.specs.declared.calls.Entry.{Entry}
use Rattle.kernel_rules.specs.declared.calls.Query.{Query}
use Rattle.kernel_rules.specs.declared.objects.Object.{Object}
use Rattle.kernel_rules.proofs.RowLaws.{none_hold}
use Rattle.kernel_rules.proofs.StepLaws.{step_refused}
use Rattle.kernel_laws.proofs.Frames.{recorded_edited}
use Rattle.kernel_laws.proofs.Labels.{labels_own}
use Rattle.kernel_laws.proofs.Rises.{labels_rise}
use Rattle.flow_rules.specs.Touched.{owns, passes_owner, enters_owner, after}
use Rattle.flow_rules.specs.declared.steps.Step.{Step}
use Rattle.flow_rules.specs.declared.steps.Step.TheVariants as step
use Rattle.flow_rules.proofs.Levels.{rank, floor_at}
use Rattle.flow_rules.proofs.Source.{source, next_rises}
use Rattle.flow_rules.proofs.Callers.{maker, Made, passed_label, Passed, own_pair}
use Rattle.flow_rules.proofs.Sound.{Sound, there, either}

-- t is a thread that owns category c
abbrev pub owner : State → ℕ → ℕ → Bool
owner s c t = is_kind_at s kinds.Thread t && owns s c t

-- o's level in c is at least r, and o was given
pub record AtLeast (r : ℕ) (s : State) (c o : ℕ) : Type 0 where
  pub given : o < s.next_id
  pub high : (x : Object) → object_at s o ≡ Some x → r ≤ rank x.label c

-- the caller of an accepted call is a thread
pub caller_thread : (s : State) (t : ℕ) (k : Call) → refused s t k ≡ None → is_kind_at s kinds.Thread t ≡ true
unfolding refused
caller_thread s t k h =
    let none = none_hold (halted s t ++ row s t k) h in
    (and_parts (is_kind_at s kinds.Thread t) (is_live (lists_of s.objects) t)
    (not-false (is_live_kind s kinds.Thread t) none.0)).0

pub asker_thread : (s : State) (t : ℕ) (q : Query) → query_refused s t q ≡ None → is_kind_at s kinds.Thread t ≡ true
unfolding query_refused
asker_thread s t q h =
    let none = none_hold (halted s t ++ query_row s t q) h in
    (and_parts (is_kind_at s kinds.Thread t) (is_live (lists_of s.objects) t)
    (not-false (is_live_kind s kinds.Thread t) none.0)).0

-- a thread that is no owner does not own the category
pub free : (s : State) (c t : ℕ) (x : Object) → is_kind_at s kinds.Thread t ≡ true → owner s c t ≡ false
    → object_at s t ≡ Some x → (rank x.label c == 0) ≡ false
free s c t x thread h at =
    let off : owns s c t ≡ false = subst (λ v. (v && owns s c t) ≡ false) thread h in
    sym (ap (of_object false (λ z. rank z.label c == 0)) at) ∙ off

-- nor does a gate that is none of its owner's
pub free_gate : (s : State) (t c : ℕ) (e : Entry) (r q v : RawLabel) (l : LabelValue)
    → refused s t (call.GateEnter e r q v) ≡ None → label_at s e.object ≡ Some l
    → passes_owner s t c (call.GateEnter e r q v) ≡ false → (rank l c == 0) ≡ false
free_gate s t c e r q v l h at outside =
    let off : owns s c e.object ≡ false =
    subst (λ w. (is_none w && owns s c e.object) ≡ false) h outside in
    level_off (object_at s e.object) at off
  where
    level_off : (w : Option Object) → option_map (λ x. x.label) w ≡ Some l
        → of_object false (λ z. rank z.label c == 0) w ≡ false → (rank l c == 0) ≡ false
    level_off None is g = absurd (cc)
    level_off (Some z) is g =
        let same : z.label ≡ l = cc in subst (λ (m : LabelValue). (rank m c == 0) ≡ false) same g

pub same_high : (r c : ℕ) (a b : LabelValue) → b ≡ a → r ≤ rank a c → r ≤ rank b c
same_high r c a b is h = subst (λ (l : LabelValue). r ≤ rank l c) (sym is) h

-- a category that is given star is at star, where that is not the default
kept_star : (d : Level) (c : ℕ) (rest : List Pair) → (rank_of d == 0) ≡ false
    → kept d (record { category = record { 0 = c }; level = Star }) rest
    ≡ record { category = record { 0 = c }; level = Star } ∷ rest
kept_star Star c rest h = absurd (cc)
kept_star L0 c rest h = refl
kept_star L1 c rest h = refl
kept_star L2 c rest h = refl
kept_star L3 c rest h = refl

first_star : (d : Level) (c : ℕ) (rest : List Pair) → (rank_of d == 0) ≡ false
    → rank_of (level_at d (kept d (record { category = record { 0 = c }; level = Star }) rest) c) ≡ 0
first_star d c rest h =
    subst (λ (es : List Pair). rank_of (level_at d es c) ≡ 0) (sym (kept_star d c rest h))
    (ap (λ b. rank_of (cond b Star (level_at d rest c))) (eq-eqb c c refl))

star_at : (d : Level) (c : ℕ) (ps : List Pair) → (rank_of d == 0) ≡ false
    → rank_of (level_at d (placed d (record { category = record { 0 = c }; level = Star }) ps) c) ≡ 0
star_at d c [] h = first_star d c [] h
star_at d c (q ∷ qs) h =
    elim (nat_lt q.category.0 c)
    as (λ v. nat_lt q.category.0 c ≡ v
    → rank_of (level_at d
    (cond v (q ∷ placed d (record { category = record { 0 = c }; level = Star }) qs)
    (kept d (record { category = record { 0 = c }; level = Star }) (cond (q.category.0 == c) qs (q ∷ qs)))) c)
    ≡ 0) [
      | true ↦ λ is.
          let less : q.category.0 < c = ltb-true q.category.0 c is in
          let off : (q.category.0 == c) ≡ false = eq_false q.category.0 c (omega arith) in
          ap (λ b. rank_of (cond b q.level
          (level_at d (placed d (record { category = record { 0 = c }; level = Star }) qs) c))) off
          ∙ star_at d c qs h
      | false ↦ λ is. first_star d c (cond (q.category.0 == c) qs (q ∷ qs)) h
    ] refl

-- the category that is made next is owned by its maker; in any other its level stays
made_level : (s : State) (c : ℕ) (x y : Object) → Made s x y → (rank_of x.label.default_level == 0) ≡ false
    → (rank y.label c ≡ 0) ⊎ (rank y.label c ≡ rank x.label c)
made_level s c x y m plain =
    either c s.next_category
    (λ is. inl (ap (λ (l : LabelValue). rank l c) m.label
    ∙ ap (λ k. rank (with_level x.label (own_pair s)) k) is
    ∙ star_at x.label.default_level s.next_category x.label.exceptions plain))
    (λ other. inr (ap (λ (l : LabelValue). rank l c) m.label
    ∙ ap rank_of (placed-other x.label.default_level (own_pair s) x.label.exceptions c other)))

-- who is recorded as a thread at star is an owner
owner_then : (n : State) (c t : ℕ) (y : Object) → object_at n t ≡ Some y → is_kind kinds.Thread y ≡ true
    → rank y.label c ≡ 0 → owner n c t ≡ true
owner_then n c t y at thread star =
    and_from (is_kind_at n kinds.Thread t) (owns n c t)
    (ap (of_object false (is_kind kinds.Thread)) at ∙ thread)
    (ap (of_object false (λ z. rank z.label c == 0)) at ∙ eq-eqb (rank y.label c) 0 star)

-- the caller's own level
caller_keeps : (s : State) (t c : ℕ) (k : Call) (x y : Object) → Sound s → refused s t k ≡ None → t ≢ s.next_id
    → object_at s t ≡ Some x → object_at (next s t k) t ≡ Some y
    → owner s c t ≡ false → owner (next s t k) c t ≡ false → passes_owner s t c k ≡ false
    → rank x.label c ≤ rank y.label c
caller_keeps s t c call.CatCreate x y sound h old was now off off_then outside =
    let thread : is_kind_at s kinds.Thread t ≡ true = caller_thread s t call.CatCreate h in
    let kind : is_kind kinds.Thread x ≡ true = sym (ap (of_object false (is_kind kinds.Thread)) was) ∙ thread in
    elim (maker s t x y was (recorded_edited s t call.CatCreate t y h now)) [
      | inl same ↦ subst (λ (z : Object). rank x.label c ≤ rank z.label c) (sym same) (omega arith)
      | inr m ↦ elim (made_level s c x y m (sound.plain t x was)) [
        | inl star ↦
            let own : owner (next s t call.CatCreate) c t ≡ true =
            owner_then (next s t call.CatCreate) c t y now
            (ap (λ w. kind_number w == kind_number kinds.Thread) m.kind ∙ kind) star in
            absurd (both_ways (owner (next s t call.CatCreate) c t) off_then own)
        | inr is ↦ omega arith
      ]
    ]
caller_keeps s t c (call.GateEnter e r q v) x y sound h old was now off off_then outside =
    let thread : is_kind_at s kinds.Thread t ≡ true = caller_thread s t (call.GateEnter e r q v) h in
    let p : Passed s e.object r x y =
    passed_label s t e r q v x y h was (recorded_edited s t (call.GateEnter e r q v) t y h now) in
    (floor_at x.label p.gate y.label c p.floor (free s c t x thread off was)
    (free_gate s t c e r q v p.gate h p.is_gate outside)).0
caller_keeps s t c k x y sound h old was now off off_then outside =
    labels_rise s t k x y refl old was now c

-- what a step leaves of a level: that of an object, and that of a thread which stays outside
pub call_keeps : (r : ℕ) (s : State) (t c o : ℕ) (k : Call) → Sound s → AtLeast r s c o
    → owner s c o ≡ false → owner (next s t k) c o ≡ false → ((o == t) && passes_owner s t c k) ≡ false
    → AtLeast r (next s t k) c o
call_keeps r s t c o k sound least off off_then outside =
    let rises : s.next_id ≤ (next s t k).next_id = next_rises s t k in
    let given : o < s.next_id = least.given in
    let none : o ≢ s.next_id = (λ (h : o ≡ s.next_id). omega arith) in
    record {
      given = omega arith;
      high = λ y now. elim (source s t k o y now) [
        | inl old ↦
            let x = there (object_at s o) old in
            either o t
            (λ is. caller_or_refused x.0 y is x.1 now)
            (λ other. same_high r c x.0.label y.label (labels_own s t k o x.0 y other none x.1 now)
            (least.high x.0 x.1))
        | inr new ↦ absurd (none new.next)
      ];
    }
  where
    caller_or_refused : (x y : Object) → o ≡ t → object_at s o ≡ Some x → object_at (next s t k) o ≡ Some y
        → r ≤ rank y.label c
    caller_or_refused x y is was now =
        elim (refused s t k) as (λ v. refused s t k ≡ v → r ≤ rank y.label c) [
          | None ↦ λ h.
              let on : (o == t) ≡ true = eq-eqb o t is in
              let given : o < s.next_id = least.given in
              let high : r ≤ rank x.label c = least.high x was in
              let keeps : rank x.label c ≤ rank y.label c =
              caller_keeps s t c k x y sound h (λ g. let at : o ≡ s.next_id = is ∙ g in omega arith)
              (ap (object_at s) (sym is) ∙ was) (ap (object_at (next s t k)) (sym is) ∙ now)
              (ap (owner s c) (sym is) ∙ off) (ap (owner (next s t k) c) (sym is) ∙ off_then)
              (subst (λ v. (v && passes_owner s t c k) ≡ false) on outside) in
              omega arith
          | Some f ↦ λ h.
              let same : Some y ≡ Some x =
              sym now ∙ ap (λ n. object_at n o) (step_refused s t k f h).1 ∙ was in
              let at : y ≡ x = cc in
              subst (λ (z : Object). r ≤ rank z.label c) (sym at) (least.high x was)
        ] refl

pub step_keeps : (r : ℕ) (s : State) (t c o : ℕ) (p : Step) → Sound s → AtLeast r s c o
    → owner s c o ≡ false → owner (after s t p) c o ≡ false → ((o == t) && enters_owner s t c p) ≡ false
    → AtLeast r (after s t p) c o
step_keeps r s t c o (step.Write k) sound least off off_then outside =
    call_keeps r s t c o k sound least off off_then outside
step_keeps r s t c o (step.Read q) sound least off off_then outside = least
