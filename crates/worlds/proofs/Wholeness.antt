-- A call whose data has at most 64 bytes keeps a state well formed.
use Rattle.std.proofs.Common.{◌≡◌, ◌≢◌, ℕ, suc, ◌≤◌, ◌+◌, Bool, true, false, cond, not, ◌&&◌, ◌||◌, ◌==◌, nat_le, nat_lt}
use Rattle.std.proofs.Common.{List, [], ◌∷◌, Option, Some, None, IfSome, refl, sym, ◌∙◌, ap, subst, length, arith}
use Rattle.std.specs.List.{list_all}
use Rattle.std.specs.Option.{option_map, option_and_then}
use Rattle.std.proofs.lemmas.Bool.{and_parts, both_ways, leb-true, ltb-false, eq-eqb, ltb-true}
use Rattle.base.specs.Level.{rank_of}
use Rattle.base.specs.declared.levels.Level.{Level}
use Rattle.base.specs.declared.levels.Level.TheVariants.{Star, L3}
use Rattle.label_lattice.specs.Label.{LabelValue, IsStored}
use Rattle.label_lattice.specs.Levels.{IsAbove, IsRising, DiffersFrom}
use Rattle.label_lattice.specs.Placed.{kept, placed}
use Rattle.label_lattice.specs.Raw.{is_bad, has_twice, differing, collected, stored_of}
use Rattle.label_lattice.specs.declared.pairings.Pair.{Pair}
use Rattle.label_lattice.specs.declared.raw_labels.RawLabel.{RawLabel}
use Rattle.label_lattice.proofs.CollectLemmas.{collected-IsRising, collected-DiffersFrom, or_false_left, or_false_right}
use Rattle.label_lattice.proofs.PlacedLaw.{with-stored}
use Rattle.label_lattice.specs.LabelRules.{stored, with_category}
use Rattle.kernel_rules.specs.State.{State, object_at, of_object, bytes_at, bytes_of, clearance_of, gate_at}
use Rattle.kernel_rules.specs.Fitting.{IsFitting}
use Rattle.kernel_rules.specs.Conditions.{own_label, own_clearance}
use Rattle.kernel_rules.specs.Table.{refused}
use Rattle.kernel_rules.specs.Step.{next, edit, with_value, made_of, stored_at}
use Rattle.kernel_rules.specs.Translate.{place_of}
use Rattle.kernel_rules.specs.WellFormed.{is_well_formed, is_kept, is_stored, is_whole, is_whole_body, categories_rise}
use Rattle.kernel_rules.specs.declared.calls.Call.{Call}
use Rattle.kernel_rules.specs.declared.calls.Call.TheVariants as call
use Rattle.kernel_rules.specs.declared.objects.Object.{Object}
use Rattle.kernel_rules.specs.declared.objects.Body as body
use Rattle.kernel_rules.specs.declared.objects.Body.TheVariants as is
use Rattle.kernel_rules.proofs.EditLaws.{owned_well_formed, written_well_formed}
use Rattle.kernel_rules.proofs.FixedLaws.{fixed_well_formed}
use Rattle.kernel_rules.proofs.LinkLaws.{linked_well_formed}
use Rattle.kernel_rules.proofs.ListerLaws.{kept_parts}
use Rattle.kernel_rules.proofs.LookupLaws.{all_at}
use Rattle.kernel_rules.proofs.MadeLaws.{made_well_formed}
use Rattle.kernel_rules.proofs.MoveLaws.{moved_well_formed}
use Rattle.kernel_rules.proofs.PlaceLaws.{slotted_well_formed, sent_well_formed, received_well_formed}
use Rattle.kernel_rules.proofs.PlaceLaws.{immutable_well_formed, noted_well_formed}
use Rattle.kernel_rules.proofs.ResizeLaws.{resized_well_formed}
use Rattle.kernel_rules.proofs.StepLaws.{step_refused, step_done, step_sound}
use Rattle.kernel_rules.proofs.StoredLaws.{stored_test}
use Rattle.kernel_rules.proofs.ThreadLaws.{labelled_well_formed, cleared_well_formed, spaced_well_formed}
use Rattle.kernel_rules.proofs.ThreadLaws.{entered_well_formed}
use Rattle.kernel_rules.proofs.UnrefLaws.{unref_well_formed}
use Rattle.kernel_rules.proofs.WellFormedLaws.{soundness_of}
use Rattle.link_calls.proofs.ContainerLaws.{container_fits}
use Rattle.link_calls.proofs.LinkLaws.{linkable}
use Rattle.link_calls.proofs.QuotaLaws.{movable}
use Rattle.memory_calls.proofs.AccessLaws.{store_fits}
use Rattle.memory_calls.proofs.LengthLaws.{copy_fits, space_fits, resize_fits, send_fits}
use Rattle.memory_calls.proofs.SegmentLaws.{segment_fits, write_fits}
use Rattle.thread_calls.proofs.BearerLaws.{thread_fits, gate_fits}
use Rattle.worlds.specs.Laws.{WellFormedStays, is_sendable, is_unref}

-- how many exceptions there are after pairs were collected
differs : Level → Pair → ℕ
differs d p = cond (rank_of p.level == rank_of d) 0 1

length_kept : (d : Level) (p : Pair) (rest : List Pair) → length (kept d p rest) ≤ length rest + differs d p
unfolding differs
length_kept d p rest =
    elim (rank_of p.level == rank_of d)
    as (λ b. length (cond b rest (p ∷ rest)) ≤ length rest + cond b 0 1) [ true ↦ omega arith | false ↦ omega arith ]

length_placed : (d : Level) (p : Pair) (es : List Pair) → length (placed d p es) ≤ length es + differs d p
length_placed d p [] = length_kept d p []
length_placed d p (q ∷ qs) =
    elim (nat_lt q.category.0 p.category.0)
    as (λ b. length (cond b (q ∷ placed d p qs) (kept d p (cond (q.category.0 == p.category.0) qs (q ∷ qs))))
    ≤ length (q ∷ qs) + differs d p) [
      | true ↦ let rest : length (placed d p qs) ≤ length qs + differs d p = length_placed d p qs in omega arith
      | false ↦ elim (q.category.0 == p.category.0)
          as (λ b. length (kept d p (cond b qs (q ∷ qs))) ≤ length (q ∷ qs) + differs d p) [
            | true ↦ let rest : length (kept d p qs) ≤ length qs + differs d p = length_kept d p qs in omega arith
            | false ↦ length_kept d p (q ∷ qs)
          ]
    ]

differing_more : (d : Level) (p : Pair) (ps : List Pair) → differing d (p ∷ ps) ≡ differs d p + differing d ps
unfolding differs
differing_more d p ps =
    elim (rank_of p.level == rank_of d)
    as (λ b. cond b (differing d ps) (suc (differing d ps)) ≡ cond b 0 1 + differing d ps) [
      | true ↦ omega arith
      | false ↦ omega arith
    ]

length_collected : (d : Level) (ps es : List Pair) → length (collected d ps es) ≤ length es + differing d ps
length_collected d [] es = omega arith
length_collected d (p ∷ ps) es =
    let rest : length (collected d ps (placed d p es)) ≤ length (placed d p es) + differing d ps =
    length_collected d ps (placed d p es) in
    let one : length (placed d p es) ≤ length es + differs d p = length_placed d p es in
    let all : differing d (p ∷ ps) ≡ differs d p + differing d ps = differing_more d p ps in
    omega arith

no_star : (d : Level) → (rank_of d == 0) ≡ false → d ≢ Star
no_star d h is = both_ways (rank_of d == 0) h (ap (λ v. rank_of v == 0) is)

-- the label that is stored of a raw one can be stored
stored_so : (x : RawLabel) (l : LabelValue) → stored x ≡ Some l → IsStored l
unfolding stored
stored_so x l h =
    elim (is_bad x)
    as (λ b. is_bad x ≡ b → cond b None (Some (stored_of x)) ≡ Some l → IsStored l) [
      | true ↦ λ bad e. absurd (cc)
      | false ↦ λ good e.
          let same : stored_of x ≡ l = cc in
          let more : (has_twice x.pairs || nat_lt 16 (differing x.default x.pairs)) ≡ false =
          or_false_right (rank_of x.default == 0) (has_twice x.pairs || nat_lt 16 (differing x.default x.pairs)) good in
          let few : differing x.default x.pairs ≤ 16 =
          ltb-false 16 (differing x.default x.pairs)
          (or_false_right (has_twice x.pairs) (nat_lt 16 (differing x.default x.pairs)) more) in
          let length_is : length (collected x.default x.pairs []) ≤ 0 + differing x.default x.pairs =
          length_collected x.default x.pairs [] in
          subst (λ (m : LabelValue). IsStored m) same (record {
            owned_by_none = no_star x.default
                (or_false_left (rank_of x.default == 0) (has_twice x.pairs || nat_lt 16 (differing x.default x.pairs)) good);
            few = omega arith;
            rising = collected-IsRising x.default x.pairs [] tt;
            differing = collected-DiffersFrom x.default x.pairs [] tt;
          })
    ] refl h

not_true : (b : Bool) → not b ≡ true → b ≡ false
not_true true h = sym h
not_true false h = refl

above_so : (m : ℕ) (ps : List Pair) → list_all (λ q. nat_lt m q.category.0) ps ≡ true → IsAbove m ps
above_so m [] h = tt
above_so m (p ∷ ps) h =
    let parts : (nat_lt m p.category.0 ≡ true) × (list_all (λ q. nat_lt m q.category.0) ps ≡ true) =
    and_parts (nat_lt m p.category.0) (list_all (λ q. nat_lt m q.category.0) ps) h in
    (ltb-true m p.category.0 parts.0, above_so m ps parts.1)

rising_so : (ps : List Pair) → categories_rise ps ≡ true → IsRising ps
rising_so [] h = tt
rising_so (p ∷ ps) h =
    let parts : (list_all (λ q. nat_lt p.category.0 q.category.0) ps ≡ true) × (categories_rise ps ≡ true) =
    and_parts (list_all (λ q. nat_lt p.category.0 q.category.0) ps) (categories_rise ps) h in
    (above_so p.category.0 ps parts.0, rising_so ps parts.1)

differing_so : (d : Level) (ps : List Pair) → list_all (λ p. not (rank_of p.level == rank_of d)) ps ≡ true
    → DiffersFrom d ps
differing_so d [] h = tt
differing_so d (p ∷ ps) h =
    let parts : (not (rank_of p.level == rank_of d) ≡ true)
    × (list_all (λ p. not (rank_of p.level == rank_of d)) ps ≡ true) =
    and_parts (not (rank_of p.level == rank_of d)) (list_all (λ p. not (rank_of p.level == rank_of d)) ps) h in (
      λ is. both_ways (rank_of p.level == rank_of d) (not_true (rank_of p.level == rank_of d) parts.0)
          (eq-eqb (rank_of p.level) (rank_of d) (ap rank_of is)),
      differing_so d ps parts.1,
    )

-- a label that passes the test can be stored
tested_so : (l : LabelValue) → is_stored l ≡ true → IsStored l
tested_so l h =
    let last = and_parts (not (rank_of l.default_level == 0) && nat_le (length l.exceptions) 16
    && categories_rise l.exceptions) (list_all (λ p. not (rank_of p.level == rank_of l.default_level)) l.exceptions) h in
    let second = and_parts (not (rank_of l.default_level == 0) && nat_le (length l.exceptions) 16)
    (categories_rise l.exceptions) last.0 in
    let first = and_parts (not (rank_of l.default_level == 0)) (nat_le (length l.exceptions) 16) second.0 in
    record {
      owned_by_none = no_star l.default_level (not_true (rank_of l.default_level == 0) first.0);
      few = leb-true (length l.exceptions) 16 first.1;
      rising = rising_so l.exceptions second.1;
      differing = differing_so l.default_level l.exceptions last.1;
    }

whole_at : (s : State) (o : ℕ) (x : Object) → is_well_formed s ≡ true → object_at s o ≡ Some x → is_whole x ≡ true
whole_at s o x sound found =
    (kept_parts s o x (all_at (λ q z. is_kept s q z) s.objects o x (soundness_of s sound).kept found)).whole

with_so : (l : LabelValue) (k : ℕ) (v : Level) → IsStored l
    → IfSome (with_category l (record { 0 = k }) v) IsStored
unfolding with_category
with_so l k v h = with-stored l (record { category = record { 0 = k }; level = v }) _ h refl

own_label_so : (s : State) (t : ℕ) → is_well_formed s ≡ true → IfSome (own_label s t) IsStored
own_label_so s t sound =
    elim (object_at s t)
    as (λ v. object_at s t ≡ v
    → IfSome (option_and_then (λ l. with_category l (record { 0 = s.next_category }) Star) (option_map (λ x. x.label) v))
    IsStored) [
      | None ↦ λ is. tt
      | Some x ↦ λ is.
          let whole = and_parts _ _ (and_parts _ _ (whole_at s t x sound is)).0 in
          with_so x.label s.next_category Star (tested_so x.label whole.0)
    ] refl

own_clearance_so : (s : State) (t : ℕ) → is_well_formed s ≡ true → IfSome (own_clearance s t) IsStored
own_clearance_so s t sound =
    elim (object_at s t)
    as (λ v. object_at s t ≡ v
    → IfSome (option_and_then (λ c. with_category c (record { 0 = s.next_category }) L3)
    (option_and_then (λ x. clearance_of x.body) v)) IsStored) [
      | None ↦ λ is. tt
      | Some x ↦ λ is. by_body x.body (and_parts _ _ (whole_at s t x sound is)).1
    ] refl
  where
    by_body : (b : body.Body) → is_whole_body b ≡ true
        → IfSome (option_and_then (λ c. with_category c (record { 0 = s.next_category }) L3) (clearance_of b)) IsStored
    by_body (is.Thread r) h =
        with_so r.clearance s.next_category L3
        (tested_so r.clearance (and_parts (is_stored r.clearance) (is_stored r.verify) h).0)
    by_body (is.Container avoid list) h = tt
    by_body (is.Segment bytes) h = tt
    by_body (is.AddressSpace slots) h = tt
    by_body (is.Gate g) h = tt
    by_body (is.Device packets) h = tt

value : {X : Type 0} (s : State) (v : Option X) (f : X → State) → is_well_formed s ≡ true
    → ((x : X) → v ≡ Some x → is_well_formed (f x) ≡ true) → is_well_formed (with_value s v f) ≡ true
value s None f sound each = sound
value s (Some x) f sound each = each x refl

made_so : (s : State) (d : ℕ) (x : RawLabel) (q : ℕ) (b : body.Body) → is_well_formed s ≡ true → IsFitting s d q b
    → is_well_formed (made_of s d (stored x) q b) ≡ true
made_so s d x q b sound fits =
    value s (stored x) _ sound (λ l is. made_well_formed s d l q b fits (stored_test l (stored_so x l is)) sound)

-- the bytes of a segment that is copied are whole
bytes_whole : (s : State) (o : ℕ) → is_well_formed s ≡ true → is_whole_body (is.Segment (bytes_at s o)) ≡ true
bytes_whole s o sound =
    elim (object_at s o)
    as (λ v. object_at s o ≡ v → is_whole_body (is.Segment (of_object [] (λ x. bytes_of x.body) v)) ≡ true) [
      | None ↦ λ is. refl
      | Some x ↦ λ is. by_body x.body (and_parts _ _ (whole_at s o x sound is)).1
    ] refl
  where
    by_body : (b : body.Body) → is_whole_body b ≡ true → is_whole_body (is.Segment (bytes_of b)) ≡ true
    by_body (is.Segment bytes) h = h
    by_body (is.Thread r) h = refl
    by_body (is.Container avoid list) h = refl
    by_body (is.AddressSpace slots) h = refl
    by_body (is.Gate g) h = refl
    by_body (is.Device packets) h = refl

stored_place : (s : State) (t address : ℕ) (bytes : List ℕ) → is_well_formed s ≡ true
    → refused s t (call.Store address bytes) ≡ None
    → is_well_formed (stored_at s (place_of s t address) bytes) ≡ true
stored_place s t address bytes sound h =
    value s (place_of s t address) _ sound
    (λ p is. written_well_formed s p.segment p.offset bytes (store_fits s t address bytes p h is) sound)

sound_edit : (s : State) (t : ℕ) (c : Call) → is_well_formed s ≡ true → is_sendable c ≡ true → is_unref c ≡ false
    → refused s t c ≡ None → is_well_formed (edit s t c) ≡ true
sound_edit s t call.CatCreate sound fits plain h =
    owned_well_formed s t (own_label s t) (own_clearance s t) (own_label_so s t sound) (own_clearance_so s t sound) sound
sound_edit s t (call.SelfSetLabel x) sound fits plain h =
    value s (stored x) _ sound (λ l is. labelled_well_formed s t l (stored_so x l is) sound)
sound_edit s t (call.SelfSetClearance y) sound fits plain h =
    value s (stored y) _ sound (λ l is. cleared_well_formed s t l (stored_so y l is) sound)
sound_edit s t (call.SelfSetAs e) sound fits plain h = spaced_well_formed s t e sound
sound_edit s t (call.ContainerCreate k) sound fits plain h =
    made_so s k.container k.label k.quota _ sound (container_fits s t k _ h)
sound_edit s t (call.SegmentCreate k) sound fits plain h =
    made_so s k.container k.label k.quota _ sound (segment_fits s t k h)
sound_edit s t (call.SegmentCopy k) sound fits plain h =
    made_so s k.container k.label k.quota _ sound (copy_fits s t k h (bytes_whole s k.source.object sound))
sound_edit s t (call.AsCreate k) sound fits plain h =
    made_so s k.container k.label k.quota _ sound (space_fits s t k h)
sound_edit s t (call.ThreadCreate k) sound fits plain h =
    value s (stored k.clearance) _ sound (λ c is.
    made_so s k.container k.label k.quota _ sound (thread_fits s t k c h (stored_so k.clearance c is)))
sound_edit s t (call.GateCreate k) sound fits plain h =
    value s (stored k.clearance) _ sound (λ c is.
    made_so s k.container k.label k.quota _ sound (gate_fits s t k c h (stored_so k.clearance c is)))
sound_edit s t (call.Link d e) sound fits plain h =
    let can = linkable s t d e h in
    linked_well_formed s d e can.container can.held can.plain can.fixed can.unlisted can.room sound
sound_edit s t (call.Unref e) sound fits plain h = absurd (cc)
sound_edit s t (call.QuotaMove e n) sound fits plain h =
    let can = movable s t e n h sound in
    moved_well_formed s e _ _ can.listed can.loose can.room can.free sound
sound_edit s t (call.SetFixed e) sound fits plain h = fixed_well_formed s e.object sound
sound_edit s t (call.SetImmutable e) sound fits plain h = immutable_well_formed s e.object sound
sound_edit s t (call.MetaSet e bytes) sound fits plain h =
    noted_well_formed s e.object bytes (leb-true (length bytes) 64 fits) sound
sound_edit s t (call.SegmentResize e pages) sound fits plain h =
    let can = resize_fits s t e pages h in
    resized_well_formed s e.object pages can.few can.kind can.room sound
sound_edit s t (call.SegmentWrite e a bytes) sound fits plain h =
    written_well_formed s e.object a bytes (write_fits s t e a bytes h) sound
sound_edit s t (call.AsMap e slot m) sound fits plain h = slotted_well_formed s e.object slot (Some m) sound
sound_edit s t (call.AsUnmap e slot) sound fits plain h = slotted_well_formed s e.object slot None sound
sound_edit s t (call.Store address bytes) sound fits plain h = stored_place s t address bytes sound h
sound_edit s t (call.GateEnter e r q v) sound fits plain h =
    value s (stored r) _ sound (λ l is_l. value s (stored q) _ sound (λ c is_c. value s (stored v) _ sound
    (λ w is_w. value s (gate_at s e.object) _ sound (λ g is_g.
    entered_well_formed s t l c w g (stored_so r l is_l) (stored_so q c is_c) (stored_so v w is_w) sound))))
sound_edit s t (call.DevSend e bytes) sound fits plain h =
    let can = send_fits s t e bytes h in
    sent_well_formed s e.object bytes can.some (leb-true (length bytes) 64 fits) can.room sound
sound_edit s t (call.DevRecv e) sound fits plain h = received_well_formed s e.object sound

pub well_formed_stays : WellFormedStays
well_formed_stays s t (call.Unref e) sound fits =
    elim (refused s t (call.Unref e))
    as (λ v. refused s t (call.Unref e) ≡ v → is_well_formed (next s t (call.Unref e)) ≡ true) [
      | None ↦ λ h.
          ap is_well_formed (step_done s t (call.Unref e) h).1 ∙ unref_well_formed s e.container e.object sound
      | Some r ↦ λ h. ap is_well_formed (step_refused s t (call.Unref e) r h).1 ∙ sound
    ] refl
well_formed_stays s t c sound fits =
    elim (refused s t c) as (λ v. refused s t c ≡ v → is_well_formed (next s t c) ≡ true) [
      | None ↦ λ h.
          let good : is_well_formed (edit s t c) ≡ true = sound_edit s t c sound fits refl h in
          ap is_well_formed (step_sound s t c h good) ∙ good
      | Some r ↦ λ h. ap is_well_formed (step_refused s t c r h).1 ∙ sound
    ] refl
