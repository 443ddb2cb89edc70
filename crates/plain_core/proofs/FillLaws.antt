-- Filled slots, put in their places, are the slots.
use Rattle.std.proofs.Common.{◌≡◌, ℕ, zero, suc, ◌+◌, ◌<◌, ◌≤◌, true, nat_lt, nat_le}
use Rattle.std.proofs.Common.{List, [], ◌∷◌, ◌++◌, length, replicate, slice_set, Option, Some, None, refl, sym, ◌∙◌, ap, arith}
use Rattle.std.specs.List.{list_all}
use Rattle.std.proofs.lemmas.Bool.{and_from, lt-ltb, le-leb}
use Rattle.kernel_rules.specs.Sizes.{last_slot}
use Rattle.kernel_rules.specs.declared.objects.Mapping.{Mapping}
use Rattle.checkpoints.specs.Restorable.{slots_rise, has_slots}
use Rattle.checkpoints.specs.Restored.{slotted}
use Rattle.checkpoints.specs.declared.slot_lists.FilledSlot.{FilledSlot}
use Rattle.plain_core.specs.Numbered.{filled_from}

-- so many empty slots
abbrev empty : ℕ → List (Option Mapping)
empty n = replicate n None

-- one empty slot more
one_empty : (i : ℕ) (ms : List (Option Mapping)) → empty (i + 1) ++ ms ≡ empty i ++ None ∷ ms
one_empty zero ms = refl
one_empty (suc i) ms = ap (λ n. empty n ++ ms) (next i) ∙ ap (λ t. None ∷ t) (one_empty i ms)
  where
    next : (i : ℕ) → suc i + 1 ≡ suc (i + 1)
    next i = omega arith

-- the first slot past the empty ones is filled
one_filled : (i : ℕ) (m : Option Mapping) (ms : List (Option Mapping))
    → slice_set (empty i ++ None ∷ ms) i m ≡ empty i ++ m ∷ ms
one_filled zero m ms = refl
one_filled (suc i) m ms = ap (λ t. None ∷ t) (one_filled i m ms)

none_more : (j : ℕ) → empty j ≡ empty j ++ []
none_more zero = refl
none_more (suc j) = ap (λ t. None ∷ t) (none_more j)

filled_back : (i : ℕ) (ms : List (Option Mapping)) → i + length ms ≡ 16
    → slotted (filled_from i ms) ≡ empty i ++ ms
filled_back i [] all =
    let is : i ≡ 16 = omega (arith, all) in
    ap empty (sym is) ∙ none_more i
filled_back i (None ∷ ms) all = filled_back (i + 1) ms (omega arith) ∙ one_empty i ms
filled_back i (Some m ∷ ms) all =
    ap (λ t. slice_set t i (Some m)) (filled_back (i + 1) ms (omega arith) ∙ one_empty i ms)
    ∙ one_filled i (Some m) ms

pub filled_slots : (ms : List (Option Mapping)) → length ms ≡ 16 → slotted (filled_from 0 ms) ≡ ms
filled_slots ms all = filled_back 0 ms (omega arith)

above_filled : (j i : ℕ) (ms : List (Option Mapping)) → j < i
    → list_all (λ (g : FilledSlot). nat_lt j g.slot) (filled_from i ms) ≡ true
above_filled j i [] less = refl
above_filled j i (None ∷ ms) less = above_filled j (i + 1) ms (omega arith)
above_filled j i (Some m ∷ ms) less = and_from (nat_lt j i) _ (lt-ltb j i less) (above_filled j (i + 1) ms (omega arith))

rise_filled : (i : ℕ) (ms : List (Option Mapping)) → slots_rise (filled_from i ms) ≡ true
rise_filled i [] = refl
rise_filled i (None ∷ ms) = rise_filled (i + 1) ms
rise_filled i (Some m ∷ ms) =
    and_from (list_all (λ (g : FilledSlot). nat_lt i g.slot) (filled_from (i + 1) ms)) _
    (above_filled i (i + 1) ms (omega arith)) (rise_filled (i + 1) ms)

within_filled : (i : ℕ) (ms : List (Option Mapping)) → i + length ms ≤ 16
    → list_all (λ (f : FilledSlot). nat_le f.slot last_slot) (filled_from i ms) ≡ true
within_filled i [] few = refl
within_filled i (None ∷ ms) few = within_filled (i + 1) ms (omega arith)
within_filled i (Some m ∷ ms) few = and_from (nat_le i 15) _ (le-leb i 15 (omega arith)) (within_filled (i + 1) ms (omega arith))

pub has_filled : (ms : List (Option Mapping)) → length ms ≡ 16 → has_slots (filled_from 0 ms) ≡ true
has_filled ms all =
    and_from (slots_rise (filled_from 0 ms)) _ (rise_filled 0 ms) (within_filled 0 ms (omega arith))
