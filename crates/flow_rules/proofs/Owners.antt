-- Who does not own a category: whoever has a level there.
use Rattle.std.proofs.Common.{◌≡◌, ◌≢◌, ℕ, ◌≤◌, ◌<◌, Bool, true, false, ◌&&◌, ◌||◌, ◌==◌, Option, Some, None}
use Rattle.std.proofs.Common.{refl, sym, ◌∙◌, subst, arith, inl, inr}
use Rattle.std.proofs.lemmas.Bool.{and_parts, eqb-true, eq-eqb, both_ways}
use Rattle.base.specs.Live.{has}
use Rattle.base.specs.declared.kinds.Kind.TheVariants as kinds
use Rattle.kernel_rules.specs.State.{State, object_at, of_object, is_kind, is_kind_at, flows_to}
use Rattle.kernel_rules.specs.Step.{next}
use Rattle.kernel_rules.specs.Table.{refused, query_refused}
use Rattle.kernel_rules.specs.declared.objects.Object.{Object}
use Rattle.kernel_laws.proofs.Labels.{labels_own}
use Rattle.label_lattice.specs.LabelRules.{below}
use Rattle.flow_rules.specs.Touched.{sees, changes, reads, observed, modified, after}
use Rattle.flow_rules.specs.declared.steps.Step.{Step}
use Rattle.flow_rules.specs.declared.steps.Step.TheVariants as step
use Rattle.flow_rules.proofs.Levels.{rank, below_at}
use Rattle.flow_rules.proofs.Source.{source, next_rises, makes}
use Rattle.flow_rules.proofs.Facts.{in_all, changes_all, may_flow}
use Rattle.flow_rules.proofs.Sound.{Sound, there}
use Rattle.flow_rules.proofs.Keeping.{AtLeast, owner, free, same_high, caller_thread, asker_thread}
use Rattle.flow_rules.proofs.Sights.{unrefused, Labels, labels}

-- whoever has a level is no owner
pub not_owner : (s : State) (c o : ℕ) → AtLeast 1 s c o → owner s c o ≡ false
not_owner s c o least =
    elim (object_at s o)
    as (λ v. object_at s o ≡ v
    → (of_object false (is_kind kinds.Thread) v && of_object false (λ z. rank z.label c == 0) v) ≡ false) [
      | None ↦ λ is. refl
      | Some x ↦ λ is. off (is_kind kinds.Thread x) (rank x.label c) (least.high x is)
    ] refl
  where
    off : (b : Bool) (n : ℕ) → 1 ≤ n → (b && (n == 0)) ≡ false
    off true n h = elim (n == 0) as (λ v. (n == 0) ≡ v → v ≡ false) [
      | true ↦ λ is. let none : n ≡ 0 = eqb-true n 0 is in absurd (omega arith)
      | false ↦ λ is. refl
    ] refl
    off false n h = refl

-- a step of another thread leaves a level as it is
pub keeps_other : (r : ℕ) (s : State) (t c o : ℕ) (p : Step) → Sound s → AtLeast r s c o → o ≢ t
    → AtLeast r (after s t p) c o
keeps_other r s t c o (step.Read q) sound least other = least
keeps_other r s t c o (step.Write k) sound least other =
    let rises : s.next_id ≤ (next s t k).next_id = next_rises s t k in
    let given : o < s.next_id = least.given in
    let none : o ≢ s.next_id = (λ (h : o ≡ s.next_id). omega arith) in
    record {
      given = omega arith;
      high = λ y now. elim (source s t k o y now) [
        | inl old ↦
            let x = there (object_at s o) old in
            same_high r c x.0.label y.label (labels_own s t k o x.0 y other none x.1 now) (least.high x.0 x.1)
        | inr new ↦ absurd (none new.next)
      ];
    }

thread_there : (s : State) (t : ℕ) → is_kind_at s kinds.Thread t ≡ true
    → (x : Object) × (object_at s t ≡ Some x)
thread_there s t h = found (object_at s t) h
  where
    found : (v : Option Object) → of_object false (is_kind kinds.Thread) v ≡ true → (x : Object) × (v ≡ Some x)
    found None h = absurd (cc)
    found (Some x) h = (x, refl)

free_thread : (s : State) (t c : ℕ) → Sound s → is_kind_at s kinds.Thread t ≡ true → owner s c t ≡ false
    → AtLeast 1 s c t
free_thread s t c sound thread off =
    let x = thread_there s t thread in
    record {
      given = sound.given t x.0 x.1;
      high = λ z at. some (rank z.label c) (free s c t z thread off at);
    }
  where
    some : (n : ℕ) → (n == 0) ≡ false → 1 ≤ n
    some n h =
        elim (n == 0) as (λ v. (n == 0) ≡ v → v ≡ false → 1 ≤ n) [
          | true ↦ λ is g. absurd (both_ways true g refl)
          | false ↦ λ is g. let apart : n ≢ 0 = (λ e. both_ways (n == 0) is (eq-eqb n 0 e)) in omega arith
        ] refl h

-- a thread that observes and does not own the category has a level there
pub observer : (s : State) (t c o : ℕ) (p : Step) → Sound s → owner s c t ≡ false
    → has (observed s t p) o ≡ true → AtLeast 1 s c t
observer s t c o (step.Write k) sound off h =
    free_thread s t c sound (caller_thread s t k (unrefused (refused s t k) (sees s t k) o h).0) off
observer s t c o (step.Read q) sound off h =
    free_thread s t c sound (asker_thread s t q (unrefused (query_refused s t q) (reads s t q) o h).0) off

-- what a thread modifies that has a level was no owner before
pub written_outside : (s : State) (t c o : ℕ) (p : Step) → Sound s → AtLeast 1 s c t
    → has (modified s t p) o ≡ true → owner s c o ≡ false
written_outside s t c o (step.Read q) sound least h = absurd (cc)
written_outside s t c o (step.Write k) sound least h =
    let parts = unrefused (refused s t k) (changes s t k) o h in
    let may : may_flow s t (makes k) o ≡ true =
    in_all (may_flow s t (makes k)) (changes s t k) o (changes_all s t k parts.0) parts.1 in
    elim (makes k && (o == s.next_id))
    as (λ v. (makes k && (o == s.next_id)) ≡ v → (v || flows_to s t o) ≡ true → owner s c o ≡ false) [
      | true ↦ λ is g.
          let at : o ≡ s.next_id = eqb-true o s.next_id (and_parts (makes k) (o == s.next_id) is).1 in
          elim (object_at s o)
          as (λ v. object_at s o ≡ v
          → (of_object false (is_kind kinds.Thread) v && of_object false (λ z. rank z.label c == 0) v) ≡ false) [
            | None ↦ λ here. refl
            | Some x ↦ λ here. let less : o < s.next_id = sound.given o x here in absurd (omega arith)
          ] refl
      | false ↦ λ is g.
          let l : Labels s below t o = labels s below t o g in
          not_owner s c o (record {
            given = sound.given o l.second l.is_second;
            high = λ y now.
                let same : Some l.second ≡ Some y = sym l.is_second ∙ now in
                let is_y : l.second ≡ y = cc in
                let low : 1 ≤ rank l.first.label c = least.high l.first l.is_first in
                let level : rank l.first.label c ≤ rank l.second.label c =
                below_at l.first.label l.second.label c l.holds in
                let all : 1 ≤ rank l.second.label c = omega arith in
                subst (λ (w : Object). 1 ≤ rank w.label c) is_y all;
          })
    ] refl may
