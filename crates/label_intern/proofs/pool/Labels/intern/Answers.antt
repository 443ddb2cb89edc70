use Rattle.std.proofs.Common.{◌<◌, ◌∙◌, List, Option, length, length-set, ap, arith}
use Rattle.std.specs.Prelude.{vec_capacity}
use Rattle.label_intern.specs.declared.pool.Labels.TheInside.{Inside}
use Rattle.label_intern.specs.Held.{stored, owned}
use Rattle.label_intern.specs.declared.held.Held.{Held}
use Rattle.label_intern.proofs.HeldLemmas.{after_found, after_new, held_within, stored-le-owned}
use Rattle.label_intern.proofs.ListedLemmas.{listed_found, listed_more}
use Rattle.label_intern.proofs.OwnersLemmas.{owned_raised}
use Rattle.label_intern.proofs.SearchLemmas.{lacks_gap}
use Rattle.label_intern.proofs.pool.Labels.intern.Goals as goal
use Rattle.label_intern.proofs.pool.Labels.intern.Goals.{in-Ok, in-Err}

pub free_place-at-requires : goal.free_place-at-requires
free_place-at-requires c =
    let items = c.self.inside.slots.items in
    let room : owned items < length items = rw c.self.view_is c.requires in
    let within : stored items < length items = omega (arith, stored-le-owned items c.self.invariant.0.interned.has_owner) in
    rw c.deref-in-Err.ensures.value within

pub put_at-requires-clause-room : goal.put_at-requires-clause-room
put_at-requires-clause-room c =
    let items = c.self.inside.slots.items in
    let room : owned items < length items = rw c.self.view_is c.requires in
    omega (arith, stored-le-owned items c.self.invariant.0.interned.has_owner, c.self.invariant.1.count, c.self.invariant.2, c.self.inside.listed.ok.0)

pub invariant_of-self : goal.invariant_of-self
invariant_of-self c =
    elim c.match-seek.branch [
      | in-Ok w ↦
          let slots = ap (λ (s : Inside). s.slots.items) w.self-inside-is in (
            after_found _ _ _ _ _ _ _ _ _ _ slots (ap (λ (s : Inside). s.table) w.self-inside-is)
                w.at-is c.deref.ensures.value w.in-Ok.ensures.found c.index_mut.ensures.value c.raise.ensures c.self.invariant.0,
            listed_found _ _ _ _ _ _ _ _ _ _ slots (ap (λ (s : Inside). s.listed.items) w.self-inside-is)
                w.at-is c.deref.ensures.value w.in-Ok.ensures.found c.index_mut.ensures.value c.raise.ensures c.self.invariant.1,
            omega (
              arith,
              length-set c.match-seek.self-inside.slots.items c.match-seek.at c.raise.new.place,
              ap (λ (xs : List (Option Held)). length xs) slots,
              ap (λ (s : Inside). vec_capacity s.listed) w.self-inside-is,
              c.self.invariant.2,
            ),
          )
      | in-Err w ↦
          let slots = ap (λ (s : Inside). s.slots.items) w.self-inside-is in (
            after_new _ _ _ _ _ _ _ _ _ _ _ _ _ slots (ap (λ (s : Inside). s.table) w.self-inside-is)
                w.at-is c.deref.ensures.value w.deref-in-Err.ensures.value w.deref-in-Err-2.ensures.value
                (lacks_gap _ _ _ _ (rw (← c.deref.ensures.value, ← c.deref-2.ensures.value) at c.self.invariant.1) w.in-Err.ensures.gap)
                w.free_place-at.ensures.within w.free_place-at.ensures.free w.fill.ensures.filled
                c.index_mut.ensures.value c.raise.ensures c.self.invariant.0,
            listed_more _ _ _ _ _ _ _ _ _ _ _ _ _ slots (ap (λ (s : Inside). s.listed.items) w.self-inside-is ∙ w.put_at.ensures.items)
                w.at-is c.deref.ensures.value c.deref-2.ensures.value w.deref-in-Err.ensures.value w.in-Err.ensures.gap
                w.free_place-at.ensures.within w.free_place-at.ensures.free c.index_mut.ensures.value c.raise.ensures c.self.invariant.1,
            omega (
              arith,
              length-set c.match-seek.self-inside.slots.items c.match-seek.at c.raise.new.place,
              ap (λ (xs : List (Option Held)). length xs) slots,
              ap (λ (s : Inside). vec_capacity s.listed) w.self-inside-is,
              c.self.invariant.2,
              w.put_at.ensures.capacity,
            ),
          )
    ]

pub returns-clause-interned : goal.returns-clause-interned
returns-clause-interned c = (invariant_of-self c).0.interned

pub returns-clause-within : goal.returns-clause-within
returns-clause-within c =
    elim c.match-seek.branch [
      | in-Ok w ↦
          rw (w.at-is, ← c.self.view_is, ← c.deref.ensures.value)
          (held_within _ _ _ w.in-Ok.ensures.found.here)
      | in-Err w ↦
          rw (w.at-is, ← c.self.view_is, ← w.deref-in-Err.ensures.value) w.free_place-at.ensures.within
    ]

pub returns-clause-owners : goal.returns-clause-owners
returns-clause-owners c =
    let within = rw (← c.self.view_is) at (returns-clause-within c) in
    elim c.match-seek.branch [
      | in-Ok w ↦
          owned_raised _ _ _ _ _ _ _ (ap (λ (s : Inside). s.slots.items) w.self-inside-is) c.self.view_is within c.index_mut.ensures.value c.raise.ensures
      | in-Err w ↦
          owned_raised _ _ _ _ _ _ _ (ap (λ (s : Inside). s.slots.items) w.self-inside-is) c.self.view_is within c.index_mut.ensures.value c.raise.ensures
    ]
