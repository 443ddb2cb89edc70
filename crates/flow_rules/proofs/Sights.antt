-- What a step observes is below its thread, and what it modifies is above it.
use Rattle.std.proofs.Common.{◌≡◌, ◌≢◌, ℕ, ◌≤◌, ◌<◌, ◌+◌, Bool, true, false, ◌&&◌, ◌||◌, ◌==◌, List, [], ◌∷◌}
use Rattle.std.proofs.Common.{Option, Some, None, refl, sym, ◌∙◌, ap, subst, arith, inl, inr}
use Rattle.std.specs.Option.{option_map}
use Rattle.std.proofs.lemmas.Bool.{and_parts, eqb-true, both_ways}
use Rattle.base.specs.Live.{has}
use Rattle.base.specs.declared.kinds.Kind.TheVariants as kinds
use Rattle.base.specs.declared.refusals.Refusal.{Refusal}
use Rattle.label_lattice.specs.Label.{LabelValue}
use Rattle.label_lattice.specs.declared.raw_labels.RawLabel.{RawLabel}
use Rattle.label_lattice.specs.LabelRules.{both, below, visible, shown}
use Rattle.kernel_rules.specs.State.{State, object_at, is_kind_at, label_at, observes, flows_to}
use Rattle.kernel_rules.specs.Step.{next}
use Rattle.kernel_rules.specs.Table.{refused, query_refused}
use Rattle.kernel_rules.specs.declared.calls.Call.{Call}
use Rattle.kernel_rules.specs.declared.calls.Call.TheVariants as call
use Rattle.kernel_rules.specs.declared.calls.Entry.{Entry}
use Rattle.kernel_rules.specs.declared.objects.Object.{Object}
use Rattle.kernel_laws.proofs.Frames.{recorded_edited}
use Rattle.kernel_laws.specs.Laws.{may_lower}
use Rattle.kernel_laws.proofs.Labels.{labels_own}
use Rattle.kernel_laws.proofs.Rises.{labels_rise}
use Rattle.flow_rules.specs.Touched.{sees, changes, reads, unless_refused, observed, modified, passes_owner, enters_owner, after, both_of}
use Rattle.flow_rules.specs.declared.steps.Step.{Step}
use Rattle.flow_rules.specs.declared.steps.Step.TheVariants as step
use Rattle.flow_rules.proofs.Levels.{rank, below_at, visible_at, shown_at, floor_at}
use Rattle.flow_rules.proofs.Source.{source, next_rises, makes, makes_more}
use Rattle.flow_rules.proofs.Callers.{passed_label, Passed, Tested, tested}
use Rattle.flow_rules.proofs.Facts.{in_all, sees_all, changes_all, reads_all, gate_container, enters, may_flow, is_seen}
use Rattle.flow_rules.proofs.Sound.{Sound, there, either}
use Rattle.flow_rules.proofs.Keeping.{AtLeast, owner, free, free_gate, caller_thread, asker_thread, call_keeps}

-- a test of two labels tells that both objects are recorded
pub record Labels (s : State) (test : LabelValue → LabelValue → Bool) (o t : ℕ) : Type 0 where
  pub first : Object
  pub second : Object
  pub is_first : object_at s o ≡ Some first
  pub is_second : object_at s t ≡ Some second
  pub holds : test first.label second.label ≡ true

recorded : (v : Option Object) (l : LabelValue) → option_map (λ x. x.label) v ≡ Some l
    → (x : Object) × (v ≡ Some x) × (x.label ≡ l)
recorded None l h = absurd (cc)
recorded (Some x) l h = (x, refl, cc)

pub labels : (s : State) (test : LabelValue → LabelValue → Bool) (o t : ℕ)
    → both test (label_at s o) (label_at s t) ≡ true → Labels s test o t
labels s test o t h =
    let both_there : Tested test (label_at s o) (label_at s t) = tested test (label_at s o) (label_at s t) h in
    let a = recorded (object_at s o) both_there.first both_there.is_first in
    let b = recorded (object_at s t) both_there.second both_there.is_second in
    record {
      first = a.0;
      second = b.0;
      is_first = a.1;
      is_second = b.1;
      holds = (λ i. test (a.2 i) (b.2 i)) ∙ both_there.holds;
    }

-- what is seen by a thread that does not own the category
pub record Under (s : State) (c o t : ℕ) : Type 0 where
  pub seen : Object
  pub caller : Object
  pub is_seen : object_at s o ≡ Some seen
  pub is_caller : object_at s t ≡ Some caller
  pub level : rank seen.label c ≤ rank caller.label c

under : (s : State) (c o t : ℕ) → is_kind_at s kinds.Thread t ≡ true → owner s c t ≡ false
    → is_seen s t o ≡ true → Under s c o t
under s c o t thread off h =
    elim (observes s t o)
    as (λ v. observes s t o ≡ v → (v || both shown (label_at s o) (label_at s t)) ≡ true → Under s c o t) [
      | true ↦ λ is g.
          let l : Labels s visible o t = labels s visible o t is in
          record {
            seen = l.first;
            caller = l.second;
            is_seen = l.is_first;
            is_caller = l.is_second;
            level =
                visible_at l.first.label l.second.label c l.holds (free s c t l.second thread off l.is_second);
          }
      | false ↦ λ is g.
          let l : Labels s shown o t = labels s shown o t g in
          record {
            seen = l.first;
            caller = l.second;
            is_seen = l.is_first;
            is_caller = l.is_second;
            level =
                shown_at l.first.label l.second.label c l.holds (free s c t l.second thread off l.is_second);
          }
    ] refl h

-- nothing stands in what a refusal leaves
pub unrefused : (v : Option Refusal) (ids : List ℕ) (o : ℕ) → has (unless_refused v ids) o ≡ true
    → (v ≡ None) × (has ids o ≡ true)
unrefused None ids o h = (refl, h)
unrefused (Some r) ids o h = absurd (cc)

-- a step that enters a gate
abbrev pub enters_gate : Step → Bool
enters_gate (step.Write k) = enters k
enters_gate (step.Read q) = false

-- what a step observes that enters no gate
pub seen_under : (s : State) (t c o : ℕ) (p : Step) → enters_gate p ≡ false → owner s c t ≡ false
    → has (observed s t p) o ≡ true → Under s c o t
seen_under s t c o (step.Write k) gate off h =
    let parts = unrefused (refused s t k) (sees s t k) o h in
    let seen : observes s t o ≡ true =
    in_all (observes s t) (sees s t k) o (sees_all s t k gate parts.0) parts.1 in
    under s c o t (caller_thread s t k parts.0) off
    (ap (λ v. v || both shown (label_at s o) (label_at s t)) seen)
seen_under s t c o (step.Read q) gate off h =
    let parts = unrefused (query_refused s t q) (reads s t q) o h in
    under s c o t (asker_thread s t q parts.0) off
    (in_all (is_seen s t) (reads s t q) o (reads_all s t q parts.0) parts.1)

-- so a level that is seen is the thread's too
pub seen_now : (r : ℕ) (s : State) (t c o : ℕ) (p : Step) → Sound s → enters_gate p ≡ false
    → owner s c t ≡ false → has (observed s t p) o ≡ true
    → ((x : Object) → object_at s o ≡ Some x → r ≤ rank x.label c) → AtLeast r s c t
seen_now r s t c o p sound gate off h high =
    let u : Under s c o t = seen_under s t c o p gate off h in
    record {
      given = sound.given t u.caller u.is_caller;
      high = λ z at.
          let same : Some u.caller ≡ Some z = sym u.is_caller ∙ at in
          let is : u.caller ≡ z = cc in
          let low : r ≤ rank u.seen.label c = high u.seen u.is_seen in
          let level : rank u.seen.label c ≤ rank u.caller.label c = u.level in
          let all : r ≤ rank u.caller.label c = omega arith in
          subst (λ (w : Object). r ≤ rank w.label c) is all;
    }

-- past a gate the thread is above the gate, and above what it was before
entered_keeps : (r : ℕ) (s : State) (t c o : ℕ) (e : Entry) (x q v : RawLabel) → Sound s
    → refused s t (call.GateEnter e x q v) ≡ None → owner s c t ≡ false
    → owner (next s t (call.GateEnter e x q v)) c t ≡ false
    → passes_owner s t c (call.GateEnter e x q v) ≡ false → has (both_of e) o ≡ true
    → ((y : Object) → object_at s o ≡ Some y → r ≤ rank y.label c)
    → AtLeast r (next s t (call.GateEnter e x q v)) c t
entered_keeps r s t c o e x q v sound h off off_then outside seen high =
    let k : Call = call.GateEnter e x q v in
    let thread : is_kind_at s kinds.Thread t ≡ true = caller_thread s t k h in
    let u : Under s c e.container t = under s c e.container t thread off
    (ap (λ w. w || both shown (label_at s e.container) (label_at s t)) (gate_container s t e x q v h)) in
    let given : t < s.next_id = sound.given t u.caller u.is_caller in
    let rises : s.next_id ≤ (next s t k).next_id = next_rises s t k in
    elim (o == e.object) as (λ w. (o == e.object) ≡ w → AtLeast r (next s t k) c t) [
      | true ↦ λ is. record {
        given = omega arith;
        high = λ y now.
            let p : Passed s e.object x u.caller y =
            passed_label s t e x q v u.caller y h u.is_caller (recorded_edited s t k t y h now) in
            let g = recorded (object_at s e.object) p.gate p.is_gate in
            let above = floor_at u.caller.label p.gate y.label c p.floor (free s c t u.caller thread off u.is_caller)
            (free_gate s t c e x q v p.gate h p.is_gate outside) in
            let low : r ≤ rank g.0.label c = high g.0 (ap (object_at s) (eqb-true o e.object is) ∙ g.1) in
            let same : r ≤ rank p.gate c = subst (λ (l : LabelValue). r ≤ rank l c) g.2 low in
            let past : rank p.gate c ≤ rank y.label c = above.1 in
            omega arith;
      }
      | false ↦ λ is.
          let at : o ≡ e.container = only o e.container e.object is seen in
          let before : AtLeast r s c t = record {
            given = given;
            high = λ z there_is.
                let same : Some u.caller ≡ Some z = sym u.is_caller ∙ there_is in
                let is_z : u.caller ≡ z = cc in
                let low : r ≤ rank u.seen.label c = high u.seen (ap (object_at s) at ∙ u.is_seen) in
                let level : rank u.seen.label c ≤ rank u.caller.label c = u.level in
                let all : r ≤ rank u.caller.label c = omega arith in
                subst (λ (w : Object). r ≤ rank w.label c) is_z all;
          } in
          call_keeps r s t c t k sound before off off_then (none (t == t) (passes_owner s t c k) outside)
    ] refl
  where
    only : (o a b : ℕ) → (o == b) ≡ false → has (a ∷ b ∷ []) o ≡ true → o ≡ a
    only o a b off h =
        elim (o == a) as (λ v. (o == a) ≡ v → (v || ((o == b) || false)) ≡ true → o ≡ a) [
          | true ↦ λ is g. eqb-true o a is
          | false ↦ λ is g. absurd (both_ways (o == b) off (last (o == b) g))
        ] refl h
      where
        last : (b : Bool) → (b || false) ≡ true → b ≡ true
        last true h = refl
        last false h = h

    none : (a b : Bool) → b ≡ false → (a && b) ≡ false
    none true b h = h
    none false b h = refl

-- what a step observes is at most its thread after it, where the thread stays outside
pub seen_then : (r : ℕ) (s : State) (t c o : ℕ) (p : Step) → Sound s → owner s c t ≡ false
    → owner (after s t p) c t ≡ false → enters_owner s t c p ≡ false → has (observed s t p) o ≡ true
    → ((x : Object) → object_at s o ≡ Some x → r ≤ rank x.label c) → AtLeast r (after s t p) c t
seen_then r s t c o (step.Read q) sound off off_then outside h high =
    seen_now r s t c o (step.Read q) sound refl off h high
seen_then r s t c o (step.Write k) sound off off_then outside h high = by_call k off_then outside h
  where
    none : (a b : Bool) → b ≡ false → (a && b) ≡ false
    none true b h = h
    none false b h = refl

    by_call : (k : Call) → owner (next s t k) c t ≡ false → passes_owner s t c k ≡ false
        → has (observed s t (step.Write k)) o ≡ true → AtLeast r (next s t k) c t
    by_call (call.GateEnter e x q v) off_then outside h =
        let parts = unrefused (refused s t (call.GateEnter e x q v)) (both_of e) o h in
        entered_keeps r s t c o e x q v sound parts.0 off off_then outside parts.1 high
    by_call k off_then outside h =
        call_keeps r s t c t k sound (seen_now r s t c o (step.Write k) sound refl off h high) off off_then
        (none (t == t) (passes_owner s t c k) outside)

-- a step that modifies something enters no gate
pub modifies_outside : (s : State) (t p : ℕ) (q : Step) → has (modified s t q) p ≡ true
    → enters_gate q ≡ false
modifies_outside s t p (step.Read q) h = refl
modifies_outside s t p (step.Write k) h =
    let parts = unrefused (refused s t k) (changes s t k) p h in by_call k parts.1
  where
    by_call : (k : Call) → has (changes s t k) p ≡ true → enters k ≡ false
    by_call (call.GateEnter e x q v) h = absurd (cc)
    by_call k h = refl

-- nor does it lower a level of its thread
modifier_rises : (s : State) (t o : ℕ) (k : Call) → has (changes s t k) o ≡ true → may_lower k ≡ false
modifier_rises s t o call.CatCreate h = absurd (cc)
modifier_rises s t o (call.GateEnter e x q v) h = absurd (cc)
modifier_rises s t o k h = refl

-- what a step modifies is at least what its thread is
pub written_then : (r : ℕ) (s : State) (t c o : ℕ) (p : Step) → Sound s → AtLeast r s c t
    → has (modified s t p) o ≡ true → AtLeast r (after s t p) c o
written_then r s t c o (step.Read q) sound least h = absurd (cc)
written_then r s t c o (step.Write k) sound least h =
    let parts = unrefused (refused s t k) (changes s t k) o h in
    let may : may_flow s t (makes k) o ≡ true =
    in_all (may_flow s t (makes k)) (changes s t k) o (changes_all s t k parts.0) parts.1 in
    elim (makes k && (o == s.next_id))
    as (λ v. (makes k && (o == s.next_id)) ≡ v → (v || flows_to s t o) ≡ true → AtLeast r (next s t k) c o) [
      | true ↦ λ is g.
          let new = and_parts (makes k) (o == s.next_id) is in
          let at : o ≡ s.next_id = eqb-true o s.next_id new.1 in
          let more : (next s t k).next_id ≡ s.next_id + 1 = makes_more s t k new.0 parts.0 in
          record {
            given = omega arith;
            high = λ y now. elim (source s t k o y now) [
              | inl old ↦
                  let x = there (object_at s o) old in
                  let less : o < s.next_id = sound.given o x.0 x.1 in absurd (omega arith)
              | inr fresh ↦ above_caller y fresh.above
            ];
          }
      | false ↦ λ is g.
          let l : Labels s below t o = labels s below t o g in
          let given : o < s.next_id = sound.given o l.second l.is_second in
          let rises : s.next_id ≤ (next s t k).next_id = next_rises s t k in
          let low : r ≤ rank l.first.label c = least.high l.first l.is_first in
          let level : rank l.first.label c ≤ rank l.second.label c =
          below_at l.first.label l.second.label c l.holds in
          let before : r ≤ rank l.second.label c = omega arith in
          let apart : o ≢ s.next_id = (λ (e : o ≡ s.next_id). omega arith) in
          record {
            given = omega arith;
            high = λ y now.
                either o t
                (λ is.
                let rises : rank l.second.label c ≤ rank y.label c =
                labels_rise s t k l.second y (modifier_rises s t o k parts.1) (λ e. apart (is ∙ e))
                (ap (object_at s) (sym is) ∙ l.is_second) (ap (object_at (next s t k)) (sym is) ∙ now) c in
                omega arith)
                (λ other.
                subst (λ (w : LabelValue). r ≤ rank w c)
                (sym (labels_own s t k o l.second y other apart l.is_second now)) before);
          }
    ] refl may
  where
    above_caller : (y : Object) → both below (label_at s t) (Some y.label) ≡ true → r ≤ rank y.label c
    above_caller y above =
        let pair : Tested below (label_at s t) (Some y.label) = tested below (label_at s t) (Some y.label) above in
        let x = recorded (object_at s t) pair.first pair.is_first in
        let same : pair.second ≡ y.label = (let is : Some y.label ≡ Some pair.second = pair.is_second in cc) in
        let low : r ≤ rank x.0.label c = least.high x.0 x.1 in
        let first : r ≤ rank pair.first c = subst (λ (l : LabelValue). r ≤ rank l c) x.2 low in
        let level : rank pair.first c ≤ rank pair.second c = below_at pair.first pair.second c pair.holds in
        subst (λ (l : LabelValue). r ≤ rank l c) same (omega arith)
