-- A list rises exactly where its neighbours do.
use Rattle.std.proofs.Common.{◌≡◌, ℕ, zero, suc, ◌<◌, ◌≤◌, ◌-◌, length, take, drop, slice_index_or, Bool, true, false, ◌&&◌, nat_lt, List, [], ◌∷◌, map, refl, sym, ◌∙◌, ap}
use Rattle.std.proofs.Common.{arith}
use Rattle.std.specs.List.{list_all}
use Rattle.std.proofs.lemmas.Bool.{and_parts, and_from, and_right, ltb-true, lt-ltb}
use Rattle.kernel_rules.specs.WellFormed.{ids_rise}
use Rattle.kernel_rules.specs.declared.objects.Object.{Object}
use Rattle.checkpoints.specs.Restorable.{slots_rise, threads_rise}
use Rattle.checkpoints.specs.Restored.{object_of}
use Rattle.checkpoints.specs.declared.slot_lists.FilledSlot.{FilledSlot}
use Rattle.checkpoints.specs.declared.checkpoints.NextNumber.{NextNumber}
use Rattle.checkpoints.specs.declared.checkpoints.Recorded.{Recorded}
use Rattle.plain_core.specs.Climbs.{climbs}

-- what is above the higher of two is above the lower
above_both : {X : Type 0} (key : X → ℕ) (a b : ℕ) (xs : List X) → nat_lt a b ≡ true
    → list_all (λ y. nat_lt b (key y)) xs ≡ true → list_all (λ y. nat_lt a (key y)) xs ≡ true
above_both key a b [] less h = refl
above_both key a b (x ∷ xs) less h =
    let parts = and_parts (nat_lt b (key x)) (list_all (λ y. nat_lt b (key y)) xs) h in
    let first : a < b = ltb-true a b less in
    let then' : b < key x = ltb-true b (key x) parts.0 in
    and_from (nat_lt a (key x)) (list_all (λ y. nat_lt a (key y)) xs) (lt-ltb a (key x) (omega arith))
    (above_both key a b xs less parts.1)

-- for a test of rising lists that compares each with all that follow
climb_rise : {X : Type 0} (key : X → ℕ) (rise : List X → Bool) → rise [] ≡ true
    → ((x : X) (xs : List X) → rise (x ∷ xs) ≡ (list_all (λ y. nat_lt (key x) (key y)) xs && rise xs))
    → (a : ℕ) (xs : List X) → climbs key a xs ≡ (list_all (λ y. nat_lt a (key y)) xs && rise xs)
climb_rise key rise none more a [] = sym none
climb_rise key rise none more a (x ∷ xs) =
    ap (λ b. nat_lt a (key x) && b) (climb_rise key rise none more (key x) xs)
    ∙ elim (nat_lt a (key x))
    as (λ v. nat_lt a (key x) ≡ v → (v && (list_all (λ y. nat_lt (key x) (key y)) xs && rise xs))
    ≡ ((v && list_all (λ y. nat_lt a (key y)) xs) && (list_all (λ y. nat_lt (key x) (key y)) xs && rise xs))) [
      | false ↦ λ is. refl
      | true ↦ λ is. elim (list_all (λ y. nat_lt (key x) (key y)) xs)
          as (λ v. list_all (λ y. nat_lt (key x) (key y)) xs ≡ v → (v && rise xs)
          ≡ (list_all (λ y. nat_lt a (key y)) xs && (v && rise xs))) [
            | false ↦ λ no. sym (and_right (list_all (λ y. nat_lt a (key y)) xs) false refl)
            | true ↦ λ yes. ap (λ b. b && rise xs) (sym (above_both key a (key x) xs is yes))
          ] refl
    ] refl
    ∙ ap (λ b. (nat_lt a (key x) && list_all (λ y. nat_lt a (key y)) xs) && b) (sym (more x xs))

-- all of a list
all_taken : {X : Type 0} (n : ℕ) (xs : List X) → n ≡ length xs → take n xs ≡ xs
all_taken zero [] e = refl
all_taken zero (x ∷ xs) e = absurd (omega arith)
all_taken (suc n) [] e = refl
all_taken (suc n) (x ∷ xs) e = ap (λ t. x ∷ t) (all_taken n xs (omega arith))

-- what follows the first one climbs from it exactly where all rise
climb_first : {X : Type 0} (key : X → ℕ) (rise : List X → Bool) → rise [] ≡ true
    → ((x : X) (xs : List X) → rise (x ∷ xs) ≡ (list_all (λ y. nat_lt (key x) (key y)) xs && rise xs))
    → (f : X) (fs : List X) → 1 ≤ length fs → f ≡ slice_index_or fs 0 f
    → climbs key (key f) (take (length fs - 1) (drop 1 fs)) ≡ rise fs
climb_first key rise none more f [] some is = absurd (omega arith)
climb_first key rise none more f (x ∷ xs) some is =
    let first : f ≡ x = is in
    ap (λ z. climbs key (key z) (take (length (x ∷ xs) - 1) xs)) first
    ∙ ap (climbs key (key x)) (all_taken (length (x ∷ xs) - 1) xs (omega arith))
    ∙ climb_rise key rise none more (key x) xs ∙ sym (more x xs)

pub slots_first : (f : FilledSlot) (fs : List FilledSlot) → 1 ≤ length fs → f ≡ slice_index_or fs 0 f
    → climbs (λ (f : FilledSlot). f.slot) f.slot (take (length fs - 1) (drop 1 fs)) ≡ slots_rise fs
slots_first = climb_first (λ f. f.slot) slots_rise refl (λ x xs. refl)

pub threads_first : (n : NextNumber) (ns : List NextNumber) → 1 ≤ length ns → n ≡ slice_index_or ns 0 n
    → climbs (λ (n : NextNumber). n.thread) n.thread (take (length ns - 1) (drop 1 ns)) ≡ threads_rise ns
threads_first = climb_first (λ n. n.thread) threads_rise refl (λ x xs. refl)

above_mapped : (a : ℕ) (es : List Recorded)
    → list_all (λ (f : ℕ × Object). nat_lt a f.0) (map (λ e. (e.id, object_of e.object)) es)
    ≡ list_all (λ e. nat_lt a e.id) es
above_mapped a [] = refl
above_mapped a (e ∷ es) = ap (λ b. nat_lt a e.id && b) (above_mapped a es)

pub ids_first : (e : Recorded) (es : List Recorded) → 1 ≤ length es → e ≡ slice_index_or es 0 e
    → climbs (λ (e : Recorded). e.id) e.id (take (length es - 1) (drop 1 es))
    ≡ ids_rise (map (λ e. (e.id, object_of e.object)) es)
ids_first =
    climb_first (λ e. e.id) (λ es. ids_rise (map (λ e. (e.id, object_of e.object)) es)) refl
    (λ x xs. ap (λ b. b && ids_rise (map (λ e. (e.id, object_of e.object)) xs)) (above_mapped x.id xs))
