use Rattle.std.proofs.Common.{◌≡◌, ℕ, List, length, take, vec_len, refl, sym, ap, ◌∙◌, subst, arith}
use Rattle.std.proofs.lemmas.List.{with_items_is}
use Rattle.containers.specs.Gaps.{IsClosing, IsClosed}
use Rattle.containers.specs.Slots.{IsKept}
use Rattle.containers.proofs.GapSteps.{closed_end, kept_end, closing_from}
use Rattle.containers.proofs.object_arena.gaps.close_gaps.Given as given
use Rattle.containers.proofs.object_arena.gaps.close_gaps.Goals as goal

-- what the pass left
record IsReady (g : given.Over) (c : goal.After-truncate-2 g) : Type 0 where
  pub closing : IsClosing c.args.ids.now.items c.args.slots.now.items c.args.spare.now.items c.close_up-end.new.ids c.close_up-end.new.slots c.close_up-end.new.spare.items c.args.cells.now c.close_up-end.result (length c.args.ids.now.items)
  pub ids : c.truncate.new.self.items ≡ take c.close_up-end.result c.close_up-end.new.ids
  pub slots : c.truncate-2.new.self.items ≡ take c.close_up-end.result c.close_up-end.new.slots

ready : (g : given.Over) (c : goal.After-truncate-2 g) → IsReady g c
ready g c =
    let long : length c.close_up-end.new.ids ≡ vec_len c.args.ids.now = omega (arith, c.close_up-end.auto.ids, c.deref_mut.ensures.len) in
    let wide : length c.close_up-end.new.slots ≡ vec_len c.args.slots.now = omega (arith, c.close_up-end.auto.slots, c.deref_mut-2.ensures.len) in
    record {
      closing = closing_from c.args.ids.now.items c.args.slots.now.items c.args.spare.now.items c.deref_mut.result.now c.deref_mut-2.result.now c.close_up-end.new.ids c.close_up-end.new.slots c.close_up-end.new.spare.items c.args.cells.now c.close_up-end.result c.deref_mut.ensures.value c.deref_mut-2.ensures.value c.close_up-end.ensures.closing;
      ids = c.truncate.ensures.items ∙ ap (λ (xs : List ℕ). take c.close_up-end.result xs) (with_items_is c.args.ids.now c.close_up-end.new.ids long);
      slots = c.truncate-2.ensures.items ∙ ap (λ (xs : List ℕ). take c.close_up-end.result xs) (with_items_is c.args.slots.now c.close_up-end.new.slots wide);
    }

pub returns-clause-kept : goal.returns-clause-kept
returns-clause-kept g c =
    let r = ready g c in
    subst (λ (xs : List ℕ). IsKept xs c.truncate-2.new.self.items c.close_up-end.new.spare.items c.args.cells.now) (sym r.ids)
    (subst (λ (xs : List ℕ). IsKept (take c.close_up-end.result c.close_up-end.new.ids) xs c.close_up-end.new.spare.items c.args.cells.now) (sym r.slots)
    (kept_end c.args.ids.now.items c.args.slots.now.items c.args.spare.now.items c.args.cells.now c.requires.gaps c.close_up-end.new.ids c.close_up-end.new.slots c.close_up-end.new.spare.items c.close_up-end.result (length c.args.ids.now.items) r.closing refl))

pub returns-clause-closed : goal.returns-clause-closed
returns-clause-closed g c =
    let r = ready g c in
    subst (λ (xs : List ℕ). IsClosed c.args.ids.now.items c.args.slots.now.items xs c.truncate-2.new.self.items c.args.cells.now) (sym r.ids)
    (subst (λ (xs : List ℕ). IsClosed c.args.ids.now.items c.args.slots.now.items (take c.close_up-end.result c.close_up-end.new.ids) xs c.args.cells.now) (sym r.slots)
    (closed_end c.args.ids.now.items c.args.slots.now.items c.args.spare.now.items c.args.cells.now c.requires.gaps c.close_up-end.new.ids c.close_up-end.new.slots c.close_up-end.new.spare.items c.close_up-end.result (length c.args.ids.now.items) r.closing refl))
