-- No call changes the limits.
use Rattle.std.proofs.Common.{◌≡◌, ℕ, true, false, Option, Some, None, List, [], ◌∷◌, refl, ◌∙◌, ap}
use Rattle.label_lattice.specs.Label.{LabelValue}
use Rattle.label_lattice.specs.LabelRules.{stored}
use Rattle.kernel_rules.specs.Changes.{put, changed, listing, owning}
use Rattle.kernel_rules.specs.Conditions.{own_label, own_clearance}
use Rattle.kernel_rules.specs.Table.{refused}
use Rattle.kernel_rules.specs.Runs.{state_after}
use Rattle.kernel_rules.specs.State.{State, object_at, of_object}
use Rattle.kernel_rules.specs.Step.{next, edit, owned, made_of, made_bearer}
use Rattle.kernel_rules.specs.declared.calls.Call.{Call}
use Rattle.kernel_rules.specs.declared.calls.Call.TheVariants as call
use Rattle.kernel_rules.specs.declared.objects.Body as body
use Rattle.kernel_rules.specs.declared.objects.Object.{Object}
use Rattle.kernel_rules.proofs.StepLaws.{step_refused, step_done}
use Rattle.kernel_laws.proofs.Given.{gives, edit_same}

limits-changed : (s : State) (o : ℕ) (f : Object → Object) → (changed s o f).limits ≡ s.limits
limits-changed s o f =
    elim (object_at s o) as (λ v. (of_object s (λ x. put s o (f x)) v).limits ≡ s.limits) [
      | None ↦ refl
      | Some x ↦ refl
    ]

owned_limits : (s : State) (t : ℕ) (l c : Option LabelValue) → (owned s t l c).limits ≡ s.limits
owned_limits s t None c = refl
owned_limits s t (Some l) None = refl
owned_limits s t (Some l) (Some c) = limits-changed s t (owning l c)

made_limits : (s : State) (d : ℕ) (x : Option LabelValue) (q : ℕ) (b : body.Body)
    → (made_of s d x q b).limits ≡ s.limits
made_limits s d None q b = refl
made_limits s d (Some l) q b = limits-changed s d (listing s.next_id)

bearer_limits : (s : State) (d : ℕ) (x : Option LabelValue) (q : ℕ) (y : Option LabelValue)
    (b : LabelValue → body.Body) → (made_bearer s d x q y b).limits ≡ s.limits
bearer_limits s d x q None b = refl
bearer_limits s d x q (Some c) b = made_limits s d x q (b c)

edit_limits : (s : State) (t : ℕ) (c : Call) → (edit s t c).limits ≡ s.limits
edit_limits s t call.CatCreate = owned_limits s t (own_label s t) (own_clearance s t)
edit_limits s t (call.ContainerCreate m) = made_limits s m.container (stored m.label) m.quota _
edit_limits s t (call.SegmentCreate m) = made_limits s m.container (stored m.label) m.quota _
edit_limits s t (call.SegmentCopy m) = made_limits s m.container (stored m.label) m.quota _
edit_limits s t (call.AsCreate m) = made_limits s m.container (stored m.label) m.quota _
edit_limits s t (call.ThreadCreate m) = bearer_limits s m.container (stored m.label) m.quota (stored m.clearance) _
edit_limits s t (call.GateCreate m) = bearer_limits s m.container (stored m.label) m.quota (stored m.clearance) _
edit_limits s t c =
    elim (gives c) as (λ v. gives c ≡ v → (edit s t c).limits ≡ s.limits) [
      | true ↦ λ is. absurd (cc)
      | false ↦ λ is. edit_same (λ z. z.limits) limits-changed s t c is
    ] refl

pub next_limits : (s : State) (t : ℕ) (c : Call) → (next s t c).limits ≡ s.limits
next_limits s t c =
    elim (refused s t c) as (λ v. refused s t c ≡ v → (next s t c).limits ≡ s.limits) [
      | None ↦ λ r. ap (λ (n : State). n.limits) (step_done s t c r).1 ∙ edit_limits s t c
      | Some x ↦ λ r. ap (λ (n : State). n.limits) (step_refused s t c x r).1
    ] refl

pub run_limits : (s : State) (calls : List (ℕ × Call)) → (state_after s calls).limits ≡ s.limits
run_limits s [] = refl
run_limits s (c ∷ calls) = run_limits (next s c.0 c.1) calls ∙ next_limits s c.0 c.1
