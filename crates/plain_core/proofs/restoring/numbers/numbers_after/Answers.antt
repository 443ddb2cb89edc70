use Rattle.std.proofs.Common.{◌≡◌, ℕ, ◌+◌, ◌≤◌, cond, nat_le, nat_cmp, take, Some, refl, ◌∙◌, ap, arith}
use Rattle.std.specs.List.{list_all}
use Rattle.std.specs.Option.{unwrap_or}
use Rattle.std.specs.BTreeMap.{get, is_at}
use Rattle.std.proofs.lemmas.Bool.{le-leb}
use Rattle.std.proofs.lemmas.List.{take_all}
use Rattle.kernel_rules.specs.Events.{Event}
use Rattle.kernel_rules.specs.History.{count}
use Rattle.plain_core.proofs.NumberLaws.{all_inserted, mapped_more, number_within, threads_before}
use Rattle.plain_core.proofs.restoring.numbers.numbers_after.Goals as goal

pub overflow_add-number : goal.overflow_add-number
overflow_add-number c =
    let same : c.event.inside.thread ≡ c.event-item.result.thread = ap (λ (e : Event). e.thread) c.event.view_is in
    let here : c.number_in-number.result
    ≡ count c.event-item.result.thread (take c.loop-event.event-index c.args.events.now) + 1
    = c.number_in-number.ensures ∙ c.loop-event.invariant.0 c.event.inside.thread
    ∙ ap (λ t. count t (take c.loop-event.event-index c.args.events.now) + 1) same in
    let within = number_within c.event-item.result.thread c.args.events.now c.loop-event.event-index
    c.number_in-number.result here c.loop-event-test.true in
    omega (arith, within, c.loop-event.end-fits, c.loop-event-test.true)

pub loop-event-preserved : goal.loop-event-preserved
loop-event-preserved c =
    let same : c.event.inside.thread ≡ c.event-item.result.thread = ap (λ (e : Event). e.thread) c.event.view_is in
    let here : c.number_in-number.result
    ≡ count c.event-item.result.thread (take c.loop-event.event-index c.args.events.now) + 1
    = c.number_in-number.ensures ∙ c.loop-event.invariant.0 c.event.inside.thread
    ∙ ap (λ t. count t (take c.loop-event.event-index c.args.events.now) + 1) same in
    let many : 2 ≤ c.number_in-number.result + 1 = omega (arith, here) in (
      λ t. ap (λ o. unwrap_or o 1) (c.in_ok-insert.ensures.updates.0 t)
          ∙ ap (λ k. unwrap_or (cond (is_at (nat_cmp k) t) (Some (c.number_in-number.result + 1)) (get nat_cmp c.loop-event.numbers t)) 1) same
          ∙ mapped_more c.args.events.now c.loop-event.event-index c.event-item.result t
          (get nat_cmp c.loop-event.numbers t) c.number_in-number.result (c.number_in-number.result + 1)
          c.loop-event-test.true c.event-item.is (c.loop-event.invariant.0 t) here refl,
      ap (list_all (λ (e : ℕ × ℕ). nat_le 2 e.1)) c.in_ok-insert.ensures.entries
          ∙ all_inserted (λ (e : ℕ × ℕ). nat_le 2 e.1) c.loop-event.numbers.entries c.event.inside.thread
          (c.number_in-number.result + 1) c.loop-event.invariant.1
          (le-leb 2 (c.number_in-number.result + 1) many)
          (λ e h. le-leb 2 (c.number_in-number.result + 1) many),
      λ test h.
          let before = threads_before test c.args.events.now c.loop-event.event-index c.event-item.result
          c.loop-event-test.true c.event-item.is h in
          ap (list_all (λ (e : ℕ × ℕ). test e.0)) c.in_ok-insert.ensures.entries
          ∙ all_inserted (λ (e : ℕ × ℕ). test e.0) c.loop-event.numbers.entries c.event.inside.thread
          (c.number_in-number.result + 1) (c.loop-event.invariant.2 test before.0) (ap test same ∙ before.1) (λ e h. h),
    )

pub returns-clause-threads : goal.returns-clause-threads
returns-clause-threads c =
    λ test h. c.loop-event.invariant.2 test
    (ap (list_all (λ (e : Event). test e.thread))
    (take_all c.loop-event.event-index c.args.events.now c.loop-event-test.false) ∙ h)
