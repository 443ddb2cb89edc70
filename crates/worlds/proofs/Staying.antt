-- Who is hidden stays hidden, and which calls leave the next id and category.
use Rattle.std.proofs.Common.{◌≡◌, ◌≢◌, ℕ, nat_lt, true, false, Option, Some, None, refl, sym, ◌∙◌, ap, subst, List}
use Rattle.std.proofs.lemmas.Bool.{both_ways}
use Rattle.label_lattice.specs.Label.{LabelValue}
use Rattle.label_lattice.specs.Order.{levels, Leq}
use Rattle.label_lattice.proofs.OrderLemmas.{leq_test-Leq, IsDescribed-levels}
use Rattle.label_lattice.specs.LabelRules.{below, stored}
use Rattle.kernel_rules.specs.State.{State, object_at, of_object, gate_at, listed, is_kind, is_kind_at}
use Rattle.kernel_rules.specs.Changes.{put, changed}
use Rattle.kernel_rules.specs.Step.{next, edit, with_value, stored_at}
use Rattle.kernel_rules.specs.Table.{refused}
use Rattle.kernel_rules.specs.Translate.{place_of}
use Rattle.kernel_rules.specs.declared.calls.Call.{Call}
use Rattle.kernel_rules.specs.declared.calls.Call.TheVariants as call
use Rattle.kernel_rules.specs.declared.objects.Object.{Object}
use Rattle.kernel_rules.specs.declared.places.Place.{Place}
use Rattle.kernel_rules.proofs.GrownLaws.{recorded_old}
use Rattle.kernel_rules.proofs.WellFormedLaws.{soundness_of}
use Rattle.std.proofs.lemmas.List.Folds.{list_all-map}
use Rattle.base.specs.declared.kinds.Kind.TheVariants as kinds
use Rattle.kernel_rules.proofs.StepLaws.{step_refused, step_done}
use Rattle.kernel_laws.proofs.Rises.{labels_rise}
use Rattle.flow_rules.proofs.Keeping.{caller_thread}
use Rattle.worlds.specs.Seen.{if_visible}
use Rattle.worlds.specs.Laws.{StaysHidden, CountsStay, is_maker, IsSameCount}
use Rattle.worlds.proofs.Unseen.{unseen, unseen_label, above_unseen}

below_from : (a b : LabelValue) → Leq (levels a) (levels b) → below a b ≡ true
unfolding below
below_from a b h = (leq_test-Leq (levels a) (levels b) (IsDescribed-levels a) (IsDescribed-levels b)).1 h

pub stays_hidden : StaysHidden
stays_hidden l s t c sound low off =
    elim (object_at (next s t c) t)
    as (λ v. object_at (next s t c) t ≡ v → if_visible l v ≡ None) [
      | None ↦ λ is. refl
      | Some y ↦ λ is. elim (object_at s t)
          as (λ v. object_at s t ≡ v → if_visible l (Some y) ≡ None) [
            | None ↦ λ lost. absurd (gone lost y is)
            | Some x ↦ λ was.
                unseen l y (above_unseen x.label y.label l
                (below_from x.label y.label (labels_rise s t c x y low (old x was) was is))
                (unseen_label l x (ap (if_visible l) (sym was) ∙ off)))
          ] refl
    ] refl
  where
    -- who is recorded was given
    old : (x : Object) → object_at s t ≡ Some x → t ≢ s.next_id
    old x was =
        recorded_old s t x (sym (list_all-map (λ e. nat_lt e.0 s.next_id) (λ e. (e.0, listed e.1.body)) s.objects)
        ∙ (soundness_of s sound).given) was

    -- a call of who is not recorded is refused
    gone : object_at s t ≡ None → (y : Object) → object_at (next s t c) t ≡ Some y → ⊥
    gone lost y is =
        elim (refused s t c) as (λ v. refused s t c ≡ v → ⊥) [
          | None ↦ λ h.
              both_ways (is_kind_at s kinds.Thread t) (ap (of_object false (is_kind kinds.Thread)) lost)
              (caller_thread s t c h)
          | Some r ↦ λ h.
              let none : None ≡ Some y = sym lost ∙ ap (λ m. object_at m t) (sym (step_refused s t c r h).1) ∙ is in
              absurd (cc)
        ] refl

pub next_of : (s : State) (o : ℕ) (f : Object → Object) → IsSameCount s (changed s o f)
next_of s o f =
    elim (object_at s o) as (λ v. IsSameCount s (of_object s (λ x. put s o (f x)) v)) [
      | None ↦ record { next_id = refl; next_category = refl }
      | Some x ↦ record { next_id = refl; next_category = refl }
    ]

as_it_was : (s : State) → IsSameCount s s
as_it_was s = record { next_id = refl; next_category = refl }

value : {X : Type 0} (s : State) (v : Option X) (f : X → State) → ((x : X) → IsSameCount s (f x))
    → IsSameCount s (with_value s v f)
value s None f each = as_it_was s
value s (Some x) f each = each x

by_store : (s : State) (p : Option Place) (bytes : List ℕ) → IsSameCount s (stored_at s p bytes)
by_store s None bytes = as_it_was s
by_store s (Some p) bytes = next_of s p.segment _

edit_counts : (s : State) (t : ℕ) (c : Call) → is_maker c ≡ false → IsSameCount s (edit s t c)
edit_counts s t (call.SelfSetLabel x) h = value s (stored x) _ (λ m. next_of s t _)
edit_counts s t (call.SelfSetClearance y) h = value s (stored y) _ (λ m. next_of s t _)
edit_counts s t (call.SelfSetAs e) h = next_of s t _
edit_counts s t (call.Link d e) h = next_of s d _
edit_counts s t (call.Unref e) h = next_of s e.container _
edit_counts s t (call.QuotaMove e n) h = next_of s e.object _
edit_counts s t (call.SetFixed e) h = next_of s e.object _
edit_counts s t (call.SetImmutable e) h = next_of s e.object _
edit_counts s t (call.MetaSet e bytes) h = next_of s e.object _
edit_counts s t (call.SegmentResize e pages) h = next_of s e.object _
edit_counts s t (call.SegmentWrite e a bytes) h = next_of s e.object _
edit_counts s t (call.AsMap e slot m) h = next_of s e.object _
edit_counts s t (call.AsUnmap e slot) h = next_of s e.object _
edit_counts s t (call.Store address bytes) h = by_store s (place_of s t address) bytes
edit_counts s t (call.GateEnter e r q v) h =
    value s (stored r) _ (λ m. value s (stored q) _ (λ c. value s (stored v) _ (λ w. value s (gate_at s e.object) _
    (λ g. next_of s t _))))
edit_counts s t (call.DevSend e bytes) h = next_of s e.object _
edit_counts s t (call.DevRecv e) h = next_of s e.object _
edit_counts s t call.CatCreate h = absurd (cc)
edit_counts s t (call.ContainerCreate k) h = absurd (cc)
edit_counts s t (call.SegmentCreate k) h = absurd (cc)
edit_counts s t (call.SegmentCopy k) h = absurd (cc)
edit_counts s t (call.AsCreate k) h = absurd (cc)
edit_counts s t (call.ThreadCreate k) h = absurd (cc)
edit_counts s t (call.GateCreate k) h = absurd (cc)

pub counts_stay : CountsStay
counts_stay s t c h =
    elim (refused s t c) as (λ v. refused s t c ≡ v → IsSameCount s (next s t c)) [
      | None ↦ λ is.
          let same : IsSameCount s (edit s t c) = edit_counts s t c h in
          subst (λ (n : State). IsSameCount s n) (sym (step_done s t c is).1)
          (record { next_id = same.next_id; next_category = same.next_category })
      | Some r ↦ λ is. subst (λ (n : State). IsSameCount s n) (sym (step_refused s t c r is).1) (as_it_was s)
    ] refl
