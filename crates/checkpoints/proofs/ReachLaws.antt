-- Each call leads from such a state to such a state, and boot begins in one.
use Rattle.std.proofs.Common.{◌≡◌, ℕ, ◌≤◌, true}
use Rattle.std.proofs.Common.{Some, None, refl, sym, ◌∙◌, subst, ap, arith}
use Rattle.base.specs.declared.ranges.Limits.{Limits}
use Rattle.kernel_rules.specs.State.{State, live_part}
use Rattle.kernel_rules.specs.Step.{next, edit, restricted}
use Rattle.kernel_rules.specs.Table.{refused}
use Rattle.kernel_rules.specs.WellFormed.{is_well_formed}
use Rattle.kernel_rules.specs.declared.calls.Call.{Call}
use Rattle.kernel_rules.proofs.StepLaws.{step_refused, step_done}
use Rattle.kernel_laws.proofs.Apart.{Sound, next_sound}
use Rattle.kernel_laws.proofs.Names.{named_lem}
use Rattle.kernel_laws.specs.Names.{IsNamedRightly}
use Rattle.checkpoints.specs.Restorable.{has_root}
use Rattle.checkpoints.proofs.CounterLaws.{Counters, edit_counters, category_after}
use Rattle.checkpoints.proofs.Everywhere.{everywhere_filtered}
use Rattle.checkpoints.proofs.HoldEdits.{edit_hold}
use Rattle.checkpoints.proofs.HoldLaws.{HoldRightly, hold_rest}
use Rattle.checkpoints.proofs.LocalLaws.{Local}
use Rattle.checkpoints.proofs.LocalSteps.{AreLocal, edit_local, later}
use Rattle.checkpoints.proofs.RootLaws.{root_lives}
use Rattle.checkpoints.proofs.RootSteps.{edit_root}

-- what calls keep, in the form in which they keep it
pub record Kept (limits : Limits) (s : State) : Type 0 where
  pub root : has_root limits s ≡ true
  pub named : IsNamedRightly s
  pub counters : Counters limits s
  pub local : AreLocal s.next_category s
  pub apart : Sound s
  pub held : HoldRightly s

rest_local : (n : ℕ) (s : State) → AreLocal n s → AreLocal n (restricted s)
unfolding live_part
rest_local n s all = everywhere_filtered (Local n) _ s.objects all

done : (limits : Limits) (s : State) (t : ℕ) (c : Call) → 1 ≤ limits.next_category → is_well_formed s ≡ true
    → refused s t c ≡ None → Kept limits s → Kept limits (next s t c)
done limits s t c some wf r h =
    let e : State = edit s t c in
    let is : next s t c ≡ restricted e = (step_done s t c r).1 in
    let one : 1 ≤ s.next_category = omega (arith, some, h.counters.category) in
    let edited : AreLocal (later s c) e = edit_local s t c wf one r h.local in
    record {
      root = ap (has_root limits) is ∙ root_lives _ e ∙ edit_root limits s t c wf r ∙ h.root;
      named = named_lem s t c wf h.named;
      counters = subst (λ (n : State). Counters limits n) (sym is) (counters_rest e (edit_counters limits s t c r h.counters));
      local = subst (λ (n : State). AreLocal n.next_category n) (sym is)
          (rest_local e.next_category e (subst (λ k. AreLocal k e) (sym (category_after s t c r)) edited));
      apart = next_sound s t c h.apart;
      held = subst (λ (n : State). HoldRightly n) (sym is) (hold_rest e (edit_hold s t c wf r h.held));
    }
  where
    counters_rest : (e : State) → Counters limits e → Counters limits (restricted e)
    counters_rest e k = record {
      id = k.id;
      id_within = k.id_within;
      category = k.category;
      category_within = k.category_within;
    }

-- each call keeps it
pub kept_next : (limits : Limits) (s : State) (t : ℕ) (c : Call) → 1 ≤ limits.next_category
    → is_well_formed s ≡ true → Kept limits s → Kept limits (next s t c)
kept_next limits s t c some wf h =
    elim (refused s t c) as (λ v. refused s t c ≡ v → Kept limits (next s t c)) [
      | None ↦ λ r. done limits s t c some wf r h
      | Some x ↦ λ r. subst (λ (n : State). Kept limits n) (sym (step_refused s t c x r).1) h
    ] refl
