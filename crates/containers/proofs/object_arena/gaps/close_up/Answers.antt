use Rattle.std.proofs.Common.{rules, ◌≡◌, ℕ, ◌+◌, ◌<◌, length, get_or, Option, None, sym, ap, ◌∙◌, subst, arith}
use Rattle.std.specs.Prelude.{IsSome}
use Rattle.std.specs.Global.{Vec}
use Rattle.std.proofs.lemmas.List.{get_or_read}
use Rattle.containers.proofs.GapSteps.{closing_start, closing_keep, closing_drop, closing_as, none_of}
use Rattle.containers.proofs.object_arena.gaps.close_up.Goals as goal
use Rattle.containers.proofs.object_arena.gaps.close_up.Goals.{then-is_some, else-is_some}

pub loop-place-init : goal.loop-place-init
loop-place-init g c = record {
  closing = closing_start c.args.ids.now c.args.slots.now c.args.spare.now.items c.args.cells.now c.requires.gaps c.args.from c.requires.in_range c.requires.there;
  room = search rules;
}

pub loop-place-preserved : goal.loop-place-preserved
loop-place-preserved g c =
    let s = c.loop-place.invariant.closing in
    let ids = c.args.ids.now in
    let slots = c.args.slots.now in
    let gaps = c.requires.gaps in
    let place = c.loop-place.place in
    let within : place < length ids = c.loop-place-test.true in
    let ahead = s.ahead place (omega arith) in
    let in_cells : get_or c.loop-place.slots place 0 < length c.args.cells.now = omega (arith, ahead.1, gaps.used place (omega (arith, within, gaps.beside))) in
    let read = get_or_read c.args.cells.now (get_or c.loop-place.slots place 0) c.index-cells-slot.result in_cells c.index-cells-slot.is None in
    let object : c.index-cells-slot.result ≡ get_or c.args.cells.now (get_or slots place 0) None = read ∙ ap (λ (i : ℕ). get_or c.args.cells.now i None) ahead.1 in
    elim c.if-is_some.branch [
      | then-is_some w ↦ record {
        closing = closing_as ids slots c.args.spare.now.items _ _ _ _ _ _ c.args.cells.now _ _ (place + 1) w.ids-is w.slots-is (ap (λ (v : Vec ℕ). v.items) w.spare-is) w.end-is
            (closing_keep ids slots c.args.spare.now.items c.args.cells.now gaps c.loop-place.ids c.loop-place.slots c.loop-place.spare.items c.loop-place.end place s within (subst (λ (o : Option g.row.T.Denot). IsSome o) object (sym c.is_some.ensures ∙ w.if-is_some.true)) (get_or c.loop-place.ids place 0) (get_or c.loop-place.slots place 0) ahead.0 ahead.1);
        room = search rules;
      }
      | else-is_some w ↦ record {
        closing = closing_as ids slots c.args.spare.now.items _ _ _ _ _ _ c.args.cells.now _ _ (place + 1) w.ids-is w.slots-is (ap (λ (v : Vec ℕ). v.items) w.spare-is ∙ w.push_reserved.ensures.items) w.end-is
            (closing_drop ids slots c.args.spare.now.items c.args.cells.now gaps c.loop-place.ids c.loop-place.slots c.loop-place.spare.items c.loop-place.end place s within (sym object ∙ none_of c.index-cells-slot.result (sym c.is_some.ensures ∙ w.if-is_some.false)) (get_or c.loop-place.slots place 0) ahead.1);
        room = search rules;
      }
    ]
