use Rattle.std.proofs.Common.{◌≡◌, ◌++◌, ◌∷◌, [], ℕ, List, length, map, replicate, sym, ap, ◌∙◌, arith, subst}
use Rattle.std.proofs.lemmas.List.{replicate_more, length-replicate}
use Rattle.arena_memory.specs.Pages.{IsKept, pages_from}
use Rattle.arena_memory.proofs.Blank.{range_push, kept_blank, blank_view}
use Rattle.arena_memory.proofs.segments.frames.Frames.boot.Goals as goal

pub loop-frame-preserved : goal.loop-frame-preserved
loop-frame-preserved c =
    let at = c.loop-frame in
    let frames = c.push_reserved.ensures in
    let tables = c.push_reserved-in-loop-frame.ensures in
    let free = c.push_reserved-in-loop-frame-2.ensures in
    record {
      frames = frames.items ∙ ap (λ (xs : List (List ℕ)). xs ++ replicate 256 0 ∷ []) at.invariant.frames ∙ replicate_more at.frame (replicate 256 0);
      tables = tables.items ∙ ap (λ (t : List ℕ). at.tables.items ++ t ∷ []) c.new.ensures ∙ ap (λ (xs : List (List ℕ)). xs ++ [] ∷ []) at.invariant.tables ∙ replicate_more {X = List ℕ} at.frame [];
      free = free.items ∙ ap (λ (xs : List ℕ). xs ++ at.frame ∷ []) at.invariant.free ∙ sym (range_push at.frame);
      room_frames = omega (arith, at.invariant.room_frames, frames.capacity);
      room_tables = omega (arith, at.invariant.room_tables, tables.capacity);
      room_free = omega (arith, at.invariant.room_free, free.capacity);
      len_frames = omega (arith, at.invariant.len_frames, frames.len);
      len_tables = omega (arith, at.invariant.len_tables, tables.len);
      len_free = omega (arith, at.invariant.len_free, free.len);
    }

pub invariant_of-result : goal.invariant_of-result
invariant_of-result c =
    let at = c.loop-frame in
    let n = at.frame in
    let long_frames = ap (λ (xs : List (List ℕ)). length xs) at.invariant.frames ∙ length-replicate n (replicate 256 0) in
    let long_tables = ap (λ (xs : List (List ℕ)). length xs) at.invariant.tables ∙ length-replicate {A = List ℕ} n [] in (
      subst (λ (xs : List (List ℕ)). IsKept xs at.tables.items at.free.items) (sym at.invariant.frames)
          (subst (λ (xs : List (List ℕ)). IsKept (replicate n (replicate 256 0)) xs at.free.items) (sym at.invariant.tables)
          (subst (λ (xs : List ℕ). IsKept (replicate n (replicate 256 0)) (replicate n []) xs) (sym at.invariant.free) (kept_blank n))),
      omega (arith, long_frames, long_tables),
      omega (arith, long_frames, at.invariant.room_free, at.auto.frame-end),
    )

pub returns : goal.returns
returns c =
    let at = c.loop-frame in
    let done : at.frame ≡ c.args.slots = omega (arith, c.loop-frame-test.false, at.auto.frame-end) in
    ap (λ (ts : List (List ℕ)). map (pages_from at.frames.items) ts) at.invariant.tables ∙ blank_view at.frames.items at.frame ∙ ap (λ (n : ℕ). replicate {A = List (List ℕ)} n []) done
