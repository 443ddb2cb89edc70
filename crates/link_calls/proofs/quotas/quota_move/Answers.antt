use Rattle.std.proofs.Common.{◌≡◌, ◌≤◌, ◌+◌, sym, ◌∙◌, ap, subst, to_z, of_z, w32}
use Rattle.std.proofs.lemmas.Int.{to_z-of_z}
use Rattle.kernel_rules.specs.Conditions.{pages_up, pages_down}
use Rattle.kernel_rules.specs.State.{use_of, quota_at}
use Rattle.kernel_rules.specs.Step.{answer, next}
use Rattle.kernel_rules.specs.declared.calls.Call.TheVariants as call
use Rattle.kernel_store.specs.Locations.{entry_of}
use Rattle.kernel_rules.proofs.StepLaws.{step_refused}
use Rattle.kernel_store.proofs.CallLaws.{next_refused}
use Rattle.link_calls.proofs.QuotaLaws.{IsMovable, movable}
use Rattle.link_calls.proofs.quotas.quota_move.Goals as goal

pub quota_move-requires : goal.quota_move-requires
quota_move-requires g c =
    let passed : to_z w32 (of_z w32 c.args.change) ≡ c.args.change =
    to_z-of_z w32 c.args.change c.ranges.change in
    let named = c.find_all-named.result in
    let s = g.S.Store.state c.args.state.now in
    let may : IsMovable s (entry_of g.S.Store.id_of named) c.args.change =
    movable s (g.S.Store.id_of named.caller) (entry_of g.S.Store.id_of named) c.args.change
    (sym (rw passed at c.refused_quota_move.ensures.value) ∙ c.in_default.is)
    (g.met.S.Store.sound c.args.state.now) in
    record {
      container = c.find_all-named.ensures.stands.container;
      object = c.find_all-named.ensures.stands.object;
      listed = may.listed;
      loose = may.loose;
      room = subst (λ n. use_of s (g.S.Store.id_of named.container) + n
          ≤ quota_at s (g.S.Store.id_of named.container))
          (sym (c.pages_up.ensures ∙ ap pages_up passed)) may.room;
      free = subst (λ n. use_of s (g.S.Store.id_of named.object) + n
          ≤ quota_at s (g.S.Store.id_of named.object))
          (sym (c.pages_down.ensures ∙ ap pages_down passed)) may.free;
    }

pub returns-in-Some-clause-reply : goal.returns-in-Some-clause-reply
returns-in-Some-clause-reply g c =
    let passed : to_z w32 (of_z w32 c.args.change) ≡ c.args.change =
    to_z-of_z w32 c.args.change c.ranges.change in
    c.refuse.ensures
    ∙ sym (step_refused _ _ _ _ (sym (rw passed at c.refused_quota_move.ensures.value) ∙ c.in-Some.is)).0
    ∙ (λ i. answer (g.S.Store.state c.args.state.now) (c.find_all-named.ensures.caller i) (call.QuotaMove (c.find_all-named.ensures.entry i) c.args.change))

pub returns-in-Some-clause-state : goal.returns-in-Some-clause-state
returns-in-Some-clause-state g c =
    let passed : to_z w32 (of_z w32 c.args.change) ≡ c.args.change =
    to_z-of_z w32 c.args.change c.ranges.change in
    sym (next_refused _ _ _ _ _ (rw passed at c.refused_quota_move.ensures.value) c.in-Some.is)
    ∙ (λ i. next (g.S.Store.state c.args.state.now) (c.find_all-named.ensures.caller i) (call.QuotaMove (c.find_all-named.ensures.entry i) c.args.change))
