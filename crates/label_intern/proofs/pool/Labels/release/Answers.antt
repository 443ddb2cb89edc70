use Rattle.std.proofs.Common.{arith, length-set}
use Rattle.label_intern.proofs.HeldLemmas.{after_fewer, some_within, fewer_read}
use Rattle.label_intern.proofs.OwnersLemmas.{owned_fewer}
use Rattle.label_intern.proofs.pool.Labels.release.Goals as goal

pub invariant_of-self : goal.invariant_of-self
invariant_of-self c =
    let some = rw (← c.self.view_is) at c.requires in
    let at_in = some_within c.self.inside.slots.items _ c.from-slot.result _ c.self.view_is c.from-slot.ensures c.requires in (
      after_fewer _ _ _ _ _ at_in c.index_mut.ensures.value c.lower.ensures c.self.invariant.0,
      rw (c.lower.ensures, fewer_read c.self.inside.slots.items c.from-slot.result c.args.at.0 c.index_mut.result.now c.from-slot.ensures some c.index_mut.ensures.value, c.from-slot.ensures)
          (rw c.deref.ensures.value at c.unlist.ensures.listed),
      omega (arith, length-set c.self.inside.slots.items c.from-slot.result c.lower.new.place, c.unlist.ensures.capacity, c.self.invariant.2),
    )

pub returns-clause-interned : goal.returns-clause-interned
returns-clause-interned c = (invariant_of-self c).0.interned

pub returns-clause-owners : goal.returns-clause-owners
returns-clause-owners c =
    owned_fewer _ _ _ _ _ _ c.self.view_is c.from-slot.ensures c.requires c.index_mut.ensures.value c.lower.ensures c.self.invariant.0.interned
