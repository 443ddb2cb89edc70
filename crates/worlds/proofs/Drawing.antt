-- Ids and categories that calls draw, and the replies that may be told after them.
use Rattle.std.proofs.Common.{◌≡◌, ◌≤◌, ℕ, ◌+◌, ◌*◌, zero, suc, nat_lt, true, List, [], ◌∷◌, length, Option, Some, None}
use Rattle.std.proofs.Common.{refl, sym, ◌∙◌, ap, subst, arith, inl, inr}
use Rattle.std.specs.List.{list_all, Contains}
use Rattle.std.proofs.lemmas.Bool.{and_parts, and_from, ltb-true, lt-ltb, cases_lt}
use Rattle.std.proofs.lemmas.List.{length-append}
use Rattle.std.proofs.lemmas.List.Elements.{Contains-append_left, Contains-append_right}
use Rattle.label_lattice.specs.Label.{LabelValue}
use Rattle.label_lattice.specs.LabelRules.{stored}
use Rattle.kernel_rules.specs.State.{State, lists_of}
use Rattle.kernel_rules.specs.Changes.{changed, listing}
use Rattle.kernel_rules.specs.Conditions.{own_label, own_clearance}
use Rattle.kernel_rules.specs.Table.{refused}
use Rattle.kernel_rules.specs.Runs.{state_after}
use Rattle.kernel_rules.specs.Step.{next, answer, edit, made_of, made_bearer, owned}
use Rattle.kernel_rules.specs.WellFormed.{is_well_formed}
use Rattle.kernel_rules.specs.declared.calls.Call.{Call}
use Rattle.kernel_rules.specs.declared.calls.Call.TheVariants as call
use Rattle.kernel_rules.specs.declared.objects.Body as body
use Rattle.kernel_rules.specs.declared.replies.Reply.{Reply}
use Rattle.kernel_rules.proofs.StepLaws.{step_refused, step_done}
use Rattle.kernel_rules.proofs.WellFormedLaws.{soundness_of, well_formed_from}
use Rattle.worlds.specs.Seen.{IsSame}
use Rattle.worlds.specs.Laws.{IsSameCount}
use Rattle.worlds.specs.Bits.{drawn, answer_drawn, answers_beside, answers_within, objects_by, categories_by}
use Rattle.worlds.specs.Bits.{all_objects, all_categories, AreHidden, OneOfFew, FewAreCounted}
use Rattle.worlds.proofs.Counting.{counted_alike}
use Rattle.worlds.proofs.Staying.{counts_stay, next_of}
use Rattle.worlds.proofs.Together.{hidden, second_on}
use Rattle.worlds.proofs.Unseen.{same_refl}
use Rattle.worlds.proofs.Wholeness.{well_formed_stays}

-- n gives at most a ids and b categories more than s
record IsDrawn (s n : State) (a b : ℕ) : Type 0 where
  ids : ℕ
  few_ids : ids ≤ a
  categories : ℕ
  few_categories : categories ≤ b
  next_id : n.next_id ≡ s.next_id + ids
  next_category : n.next_category ≡ s.next_category + categories

plus_none : (i : ℕ) → i + 0 ≡ i
plus_none i = omega arith

none_drawn : (s n : State) (a b : ℕ) → IsSameCount s n → IsDrawn s n a b
none_drawn s n a b c =
    let same_id : n.next_id ≡ s.next_id = c.next_id in
    let same_category : n.next_category ≡ s.next_category = c.next_category in
    record {
      ids = 0;
      few_ids = omega arith;
      categories = 0;
      few_categories = omega arith;
      next_id = omega arith;
      next_category = omega arith;
    }

made_drawn : (s : State) (d : ℕ) (v : Option LabelValue) (q : ℕ) (b : body.Body) → IsDrawn s (made_of s d v q b) 1 0
made_drawn s d None q b = none_drawn s s 1 0 (record { next_id = refl; next_category = refl })
made_drawn s d (Some m) q b =
    let same : IsSameCount s (changed s d (listing s.next_id)) = next_of s d (listing s.next_id) in
    record {
      ids = 1;
      few_ids = omega arith;
      categories = 0;
      few_categories = omega arith;
      next_id = ap (λ j. j + 1) same.next_id;
      next_category = same.next_category ∙ sym (plus_none s.next_category);
    }

bearer_drawn : (s : State) (d : ℕ) (v : Option LabelValue) (q : ℕ) (y : Option LabelValue)
    (b : LabelValue → body.Body) → IsDrawn s (made_bearer s d v q y b) 1 0
bearer_drawn s d v q None b = none_drawn s s 1 0 (record { next_id = refl; next_category = refl })
bearer_drawn s d v q (Some m) b = made_drawn s d v q (b m)

owned_drawn : (s : State) (t : ℕ) (m y : Option LabelValue) → IsDrawn s (owned s t m y) 0 1
owned_drawn s t None y = none_drawn s s 0 1 (record { next_id = refl; next_category = refl })
owned_drawn s t (Some m) None = none_drawn s s 0 1 (record { next_id = refl; next_category = refl })
owned_drawn s t (Some m) (Some y) =
    let same : IsSameCount s (changed s t _) = next_of s t _ in
    record {
      ids = 0;
      few_ids = omega arith;
      categories = 1;
      few_categories = omega arith;
      next_id = same.next_id ∙ sym (plus_none s.next_id);
      next_category = refl;
    }

-- so the call, where its edit is so
by_edit : (s : State) (t : ℕ) (c : Call) (a b : ℕ) → IsDrawn s (edit s t c) a b → IsDrawn s (next s t c) a b
by_edit s t c a b d =
    elim (refused s t c) as (λ v. refused s t c ≡ v → IsDrawn s (next s t c) a b) [
      | None ↦ λ is.
          subst (λ (n : State). IsDrawn s n a b) (sym (step_done s t c is).1)
          (record {
            ids = d.ids;
            few_ids = d.few_ids;
            categories = d.categories;
            few_categories = d.few_categories;
            next_id = d.next_id;
            next_category = d.next_category;
          })
      | Some r ↦ λ is.
          subst (λ (n : State). IsDrawn s n a b) (sym (step_refused s t c r is).1)
          (none_drawn s s a b (record { next_id = refl; next_category = refl }))
    ] refl

step_drawn : (s : State) (t : ℕ) (c : Call) → IsDrawn s (next s t c) (objects_by c) (categories_by c)
step_drawn s t call.CatCreate = by_edit s t call.CatCreate 0 1 (owned_drawn s t (own_label s t) (own_clearance s t))
step_drawn s t (call.ContainerCreate k) =
    by_edit s t (call.ContainerCreate k) 1 0 (made_drawn s k.container (stored k.label) k.quota _)
step_drawn s t (call.SegmentCreate k) =
    by_edit s t (call.SegmentCreate k) 1 0 (made_drawn s k.container (stored k.label) k.quota _)
step_drawn s t (call.SegmentCopy k) =
    by_edit s t (call.SegmentCopy k) 1 0 (made_drawn s k.container (stored k.label) k.quota _)
step_drawn s t (call.AsCreate k) =
    by_edit s t (call.AsCreate k) 1 0 (made_drawn s k.container (stored k.label) k.quota _)
step_drawn s t (call.ThreadCreate k) =
    by_edit s t (call.ThreadCreate k) 1 0 (bearer_drawn s k.container (stored k.label) k.quota (stored k.clearance) _)
step_drawn s t (call.GateCreate k) =
    by_edit s t (call.GateCreate k) 1 0 (bearer_drawn s k.container (stored k.label) k.quota (stored k.clearance) _)
step_drawn s t (call.SelfSetLabel x) = none_drawn s _ 0 0 (counts_stay s t (call.SelfSetLabel x) refl)
step_drawn s t (call.SelfSetClearance y) = none_drawn s _ 0 0 (counts_stay s t (call.SelfSetClearance y) refl)
step_drawn s t (call.SelfSetAs e) = none_drawn s _ 0 0 (counts_stay s t (call.SelfSetAs e) refl)
step_drawn s t (call.Link d e) = none_drawn s _ 0 0 (counts_stay s t (call.Link d e) refl)
step_drawn s t (call.Unref e) = none_drawn s _ 0 0 (counts_stay s t (call.Unref e) refl)
step_drawn s t (call.QuotaMove e n) = none_drawn s _ 0 0 (counts_stay s t (call.QuotaMove e n) refl)
step_drawn s t (call.SetFixed e) = none_drawn s _ 0 0 (counts_stay s t (call.SetFixed e) refl)
step_drawn s t (call.SetImmutable e) = none_drawn s _ 0 0 (counts_stay s t (call.SetImmutable e) refl)
step_drawn s t (call.MetaSet e bytes) = none_drawn s _ 0 0 (counts_stay s t (call.MetaSet e bytes) refl)
step_drawn s t (call.SegmentResize e pages) = none_drawn s _ 0 0 (counts_stay s t (call.SegmentResize e pages) refl)
step_drawn s t (call.SegmentWrite e a bytes) = none_drawn s _ 0 0 (counts_stay s t (call.SegmentWrite e a bytes) refl)
step_drawn s t (call.AsMap e slot m) = none_drawn s _ 0 0 (counts_stay s t (call.AsMap e slot m) refl)
step_drawn s t (call.AsUnmap e slot) = none_drawn s _ 0 0 (counts_stay s t (call.AsUnmap e slot) refl)
step_drawn s t (call.Store address bytes) = none_drawn s _ 0 0 (counts_stay s t (call.Store address bytes) refl)
step_drawn s t (call.GateEnter e r q v) = none_drawn s _ 0 0 (counts_stay s t (call.GateEnter e r q v) refl)
step_drawn s t (call.DevSend e bytes) = none_drawn s _ 0 0 (counts_stay s t (call.DevSend e bytes) refl)
step_drawn s t (call.DevRecv e) = none_drawn s _ 0 0 (counts_stay s t (call.DevRecv e) refl)

drawn_on : (s n m : State) (a b c d : ℕ) → IsDrawn s n a b → IsDrawn n m c d → IsDrawn s m (a + c) (b + d)
drawn_on s n m a b c d x y =
    let i : x.ids ≤ a = x.few_ids in
    let j : y.ids ≤ c = y.few_ids in
    let k : x.categories ≤ b = x.few_categories in
    let o : y.categories ≤ d = y.few_categories in
    let p : n.next_id ≡ s.next_id + x.ids = x.next_id in
    let q : m.next_id ≡ n.next_id + y.ids = y.next_id in
    let r : n.next_category ≡ s.next_category + x.categories = x.next_category in
    let u : m.next_category ≡ n.next_category + y.categories = y.next_category in
    record {
      ids = x.ids + y.ids;
      few_ids = omega arith;
      categories = x.categories + y.categories;
      few_categories = omega arith;
      next_id = omega arith;
      next_category = omega arith;
    }

run_drawn : (s : State) (cs : List (ℕ × Call)) → IsDrawn s (state_after s cs) (all_objects cs) (all_categories cs)
run_drawn s [] = none_drawn s s 0 0 (record { next_id = refl; next_category = refl })
run_drawn s (c ∷ cs) =
    drawn_on s (next s c.0 c.1) (state_after (next s c.0 c.1) cs) (objects_by c.1) (categories_by c.1) (all_objects cs)
    (all_categories cs) (step_drawn s c.0 c.1) (run_drawn (next s c.0 c.1) cs)

given_later : (n i : ℕ) (es : List (ℕ × List ℕ)) → list_all (λ e. nat_lt e.0 n) es ≡ true
    → list_all (λ e. nat_lt e.0 (n + i)) es ≡ true
given_later n i [] h = refl
given_later n i (e ∷ es) h =
    let parts = and_parts (nat_lt e.0 n) (list_all (λ f. nat_lt f.0 n) es) h in
    let below = ltb-true e.0 n parts.0 in
    and_from (nat_lt e.0 (n + i)) (list_all (λ f. nat_lt f.0 (n + i)) es) (lt-ltb e.0 (n + i) (omega arith))
    (given_later n i es parts.1)

drawn_sound : (s : State) (i k : ℕ) → is_well_formed s ≡ true → is_well_formed (drawn s i k) ≡ true
drawn_sound s i k h =
    let sound = soundness_of s h in
    let begun = ltb-true 3 s.next_id sound.begun in
    well_formed_from (drawn s i k) (record {
      begun = lt-ltb 3 (s.next_id + i) (omega arith);
      live = sound.live;
      given = given_later s.next_id i (lists_of s.objects) sound.given;
      rise = sound.rise;
      kept = sound.kept;
    })

-- what hidden threads do leaves the state well formed, and l sees the same
run_same : (l : LabelValue) (s : State) (cs : List (ℕ × Call)) → is_well_formed s ≡ true → AreHidden l s cs
    → (is_well_formed (state_after s cs) ≡ true) × IsSame l s (state_after s cs)
run_same l s [] sound h = (sound, same_refl l s)
run_same l s (c ∷ cs) sound h =
    let one : IsSame l s (next s c.0 c.1) = hidden l s c.0 c.1 sound h.1 in
    let rest = run_same l (next s c.0 c.1) cs (well_formed_stays s c.0 c.1 sound h.0) h.2 in
    (rest.0, second_on l s (next s c.0 c.1) (state_after (next s c.0 c.1) cs) one rest.1)

beside : (s : State) (t : ℕ) (c : Call) (i m k : ℕ) → k ≤ m
    → Contains (answers_beside s t c i m) (answer_drawn s t c i k)
beside s t c i zero k h =
    let is : 0 ≡ k = omega arith in
    subst (λ (j : ℕ). Contains (answers_beside s t c i 0) (answer_drawn s t c i j)) is (0, omega arith, refl)
beside s t c i (suc m) k h = elim (cases_lt m k) [
  | inl last ↦
      let is : suc m ≡ k = omega arith in
      subst (λ (j : ℕ). Contains (answers_beside s t c i (suc m)) (answer_drawn s t c i j)) is (0, omega arith, refl)
  | inr earlier ↦
      Contains-append_right (answer_drawn s t c i (suc m) ∷ []) (answers_beside s t c i m) (answer_drawn s t c i k)
      (beside s t c i m k earlier)
]

within : (s : State) (t : ℕ) (c : Call) (n m i k : ℕ) → i ≤ n → k ≤ m
    → Contains (answers_within s t c n m) (answer_drawn s t c i k)
within s t c zero m i k h g =
    let is : 0 ≡ i = omega arith in
    subst (λ (j : ℕ). Contains (answers_beside s t c 0 m) (answer_drawn s t c j k)) is (beside s t c 0 m k g)
within s t c (suc n) m i k h g = elim (cases_lt n i) [
  | inl last ↦
      let is : suc n ≡ i = omega arith in
      Contains-append_left (answers_beside s t c (suc n) m) (answers_within s t c n m) (answer_drawn s t c i k)
      (subst (λ (j : ℕ). Contains (answers_beside s t c (suc n) m) (answer_drawn s t c j k)) is
      (beside s t c (suc n) m k g))
  | inr earlier ↦
      Contains-append_right (answers_beside s t c (suc n) m) (answers_within s t c n m) (answer_drawn s t c i k)
      (within s t c n m i k earlier g)
]

pub one_of_few : OneOfFew
one_of_few l s cs t c sound h in_sight counted =
    let after : State = state_after s cs in
    let run = run_same l s cs sound h in
    let d : IsDrawn s after (all_objects cs) (all_categories cs) = run_drawn s cs in
    let old : State = drawn s d.ids d.categories in
    let told : answer after t c ≡ answer old t c =
    (counted_alike l old after t c (drawn_sound s d.ids d.categories sound) run.0
    (record { objects = run.1.objects; told = run.1.told; parents = run.1.parents }) in_sight counted
    (record { next_id = d.next_id; next_category = d.next_category })).0 in
    subst (λ (r : Reply). Contains (answers_within s t c (all_objects cs) (all_categories cs)) r) (sym told)
    (within s t c (all_objects cs) (all_categories cs) d.ids d.categories d.few_ids d.few_categories)

few_beside : (s : State) (t : ℕ) (c : Call) (i m : ℕ) → length (answers_beside s t c i m) ≡ m + 1
few_beside s t c i zero = refl
few_beside s t c i (suc m) = ap suc (few_beside s t c i m) ∙ omega arith

pub few_are_counted : FewAreCounted
few_are_counted s t c zero m =
    let one : length (answers_beside s t c 0 m) ≡ m + 1 = few_beside s t c 0 m in
    one ∙ omega arith
few_are_counted s t c (suc n) m =
    let one : length (answers_beside s t c (suc n) m) ≡ m + 1 = few_beside s t c (suc n) m in
    let more : length (answers_within s t c n m) ≡ (n + 1) * (m + 1) = few_are_counted s t c n m in
    length-append (answers_beside s t c (suc n) m) (answers_within s t c n m)
    ∙ ap (λ j. j + length (answers_within s t c n m)) one ∙ ap (λ j. m + 1 + j) more ∙ grind arith
