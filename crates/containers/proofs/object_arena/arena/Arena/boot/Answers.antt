use Rattle.std.proofs.Common.{◌≡◌, ◌++◌, ◌∷◌, [], ℕ, List, length, replicate, Option, None, sym, ap, ◌∙◌, subst, arith}
use Rattle.std.specs.List.{range_with_len}
use Rattle.std.proofs.lemmas.List.{replicate_more, length-replicate}
use Rattle.containers.specs.Hints.{blank, AreHints}
use Rattle.containers.specs.declared.object_arena.hints.Hint.{Hint}
use Rattle.containers.proofs.HintSteps.{hints_empty, hints_as, count_as}
use Rattle.containers.proofs.Kept.{kept_empty, kept_as, range_push}
use Rattle.containers.proofs.object_arena.arena.Arena.boot.Goals as goal

pub loop-slot-preserved : goal.loop-slot-preserved
loop-slot-preserved g c =
    let at = c.loop-slot in
    let given = c.push_reserved.ensures in
    let emptied = c.push_reserved-in-loop-slot.ensures in
    record {
      given = given.items ∙ ap (λ (xs : List ℕ). xs ++ at.slot ∷ []) at.invariant.given ∙ sym (range_push at.slot);
      empty = emptied.items ∙ ap (λ (os : List (Option g.row.T.Denot)). os ++ None ∷ []) at.invariant.empty ∙ replicate_more at.slot None;
      room_given = omega (arith, at.invariant.room_given, given.capacity);
      room_empty = omega (arith, at.invariant.room_empty, emptied.capacity);
      len_given = omega (arith, at.invariant.len_given, given.len);
      len_empty = omega (arith, at.invariant.len_empty, emptied.len);
    }

pub invariant_of-result : goal.invariant_of-result
invariant_of-result g c =
    let at = c.loop-slot in
    let done : at.slot ≡ c.args.size = omega (arith, c.loop-slot-test.false, at.auto.slot-end) in
    let cells : at.cells.items ≡ replicate c.args.size None = at.invariant.empty ∙ ap (λ (n : ℕ). replicate n None) done in
    let spare = at.invariant.given ∙ ap (λ (n : ℕ). range_with_len 0 n) done in
    let long : length at.cells.items ≡ c.args.size = ap (λ (os : List (Option g.row.T.Denot)). length os) cells ∙ length-replicate c.args.size None in
    let blanks : c.in_ok-hints.hints.items ≡ replicate c.hint_count.result blank = c.in_ok-hints.ensures.items_if_clones_equal (λ y e. e) ∙ ap (replicate c.hint_count.result) c.blank.ensures in
    (kept_as _ _ _ _ _ _ _ _ (kept_empty c.args.size) c.in_ok-ids.ensures.items c.in_ok-slots.ensures.items spare cells, omega (arith, long, c.in_ok-ids.ensures.capacity), omega (arith, long, c.in_ok-slots.ensures.capacity), omega (arith, long, at.invariant.room_given), hints_as _ _ _ _ _ (subst (λ (hs : List Hint). AreHints [] [] hs) (sym blanks) (hints_empty c.hint_count.result)) c.in_ok-ids.ensures.items c.in_ok-slots.ensures.items, count_as _ _ _ _ c.hint_count.ensures (ap (λ (hs : List Hint). length hs) blanks ∙ length-replicate {A = Hint} c.hint_count.result blank) long)
