-- Each step of the sweep leaves less to do.
use Rattle.std.proofs.Common.{◌≡◌, ◌≢◌, ℕ, ◌+◌, ◌-◌, ◌*◌, ◌<◌, ◌≤◌, inl, inr, List, [], length, get_or, set, sym, ap, ◌∙◌, arith, lit<, length-set, get_or-set_other}
use Rattle.std.specs.Prelude.{sum_by}
use Rattle.std.proofs.lemmas.List.Sums.{sum_by-set}
use Rattle.containers.specs.Lists.{Lists, family_at, cells_at, list_at, StandsAt}
use Rattle.containers.specs.Cells.{Stands, IsFreed, IsDropped, IsPaired}
use Rattle.containers.proofs.Moves.{one_head, zero_one}

-- three lists of several are no longer than all together
pub three_le : (ls : List (List ℕ)) (i j k : ℕ) → i < length ls → j < length ls → k < length ls → i ≢ j → i ≢ k → j ≢ k → length (get_or ls i []) + length (get_or ls j []) + length (get_or ls k []) ≤ sum_by length ls
three_le ls i j k li lj lk ij ik jk =
    let a = set ls i [] in
    let b = set a j [] in
    let first = sum_by-set length ls i [] [] li in
    let second = sum_by-set length a j [] [] (omega (arith, length-set ls i [])) in
    let third = sum_by-set length b k [] [] (omega (arith, length-set ls i [], length-set a j [])) in
    let same_j : length (get_or a j []) ≡ length (get_or ls j []) = ap length (get_or-set_other ls i j [] [] (λ e. ij (sym e))) in
    let same_k : length (get_or b k []) ≡ length (get_or a k []) = ap length (get_or-set_other a j k [] [] (λ e. jk (sym e))) in
    let same_k' : length (get_or a k []) ≡ length (get_or ls k []) = ap length (get_or-set_other ls i k [] [] (λ e. ik (sym e))) in
    omega (arith, first, second, third, same_j, same_k, same_k')

-- twice the cells that are not spare, less the dying ones
abbrev pub work : ℕ → List Lists → ℕ
work size r = 2 * (sum_by length (family_at r 0).lists - length (cells_at r 0 size)) - length (cells_at r 0 (size + 1))

-- spare, dying and the cells of one slot
bound : (size : ℕ) (r : List Lists) (d : ℕ) → IsPaired size r → d < size → length (cells_at r 0 d) + length (cells_at r 0 size) + length (cells_at r 0 (size + 1)) ≤ sum_by length (family_at r 0).lists
bound size r d paired lt =
    let heads = paired.heads 0 (lit< tt) in
    three_le (family_at r 0).lists d size (size + 1) (omega arith) (omega arith) (omega arith) (λ (e : d ≡ size). omega arith) (λ (e : d ≡ size + 1). omega arith) (λ (e : size ≡ size + 1). omega arith)

some : (xs : List ℕ) (k x : ℕ) → StandsAt xs k x → 0 < length xs
some xs k x s = omega (arith, s.within)

-- what a freed cell leaves in family 0
module _ (size : ℕ) (old new : List Lists) (cell : ℕ) (l : IsFreed size old new cell) where
  pub freed_total : sum_by length (family_at new 0).lists ≡ sum_by length (family_at old 0).lists
  freed_total = ap (λ (x : Lists). sum_by length x.lists) (l.second.beside 0 zero_one) ∙ l.first.total

  pub freed_spare : length (cells_at new 0 size) ≡ length (cells_at old 0 size) + 1
  freed_spare = ap (λ (x : Lists). length (list_at x size)) (l.second.beside 0 zero_one) ∙ l.first.more

  pub freed_dying : length (cells_at new 0 (size + 1)) ≡ length (cells_at l.between 0 (size + 1))
  freed_dying = ap (λ (x : Lists). length (list_at x (size + 1))) (l.second.beside 0 zero_one)

pub dropped_less : (size : ℕ) (old new : List Lists) (d object cell : ℕ) → IsPaired size old → d < size → Stands old 0 d cell → IsDropped size old new object cell → work size new < work size old
dropped_less size old new d object cell paired lt held (inl l) =
    let not_there : (h : ℕ) → size ≤ h → Stands old 0 h cell → ⊥ = λ h le st. absurd (omega (arith, one_head old 0 h d cell (paired.well 0 (lit< tt)) st held)) in
    let spare : length (cells_at new 0 size) ≡ length (cells_at old 0 size) = ap length (l.first.same size (λ (e : size ≡ size + 1). omega arith) (not_there size (omega arith))) in
    omega (arith, bound size old d paired lt, some _ _ _ held.stands, l.first.total, l.first.more, spare)
dropped_less size old new d object cell paired lt held (inr l) =
    let not_there : (h : ℕ) → size ≤ h → Stands old 0 h cell → ⊥ = λ h le st. absurd (omega (arith, one_head old 0 h d cell (paired.well 0 (lit< tt)) st held)) in
    let dying : length (cells_at l.freed.between 0 (size + 1)) ≡ length (cells_at old 0 (size + 1)) = ap length (l.freed.first.same (size + 1) (λ (e : size + 1 ≡ size). omega arith) (not_there (size + 1) (omega arith))) in
    omega (arith, bound size old d paired lt, some _ _ _ held.stands, freed_total size old new cell l.freed, freed_spare size old new cell l.freed, freed_dying size old new cell l.freed, dying)

pub freed_less : (size : ℕ) (old new : List Lists) (d last : ℕ) → IsPaired size old → d < size → Stands old 0 (size + 1) last → IsFreed size old new last → work size new < work size old
freed_less size old new d last paired lt dying l =
    let fewer = l.first.less (size + 1) (λ (e : size + 1 ≡ size). omega arith) dying in
    omega (arith, bound size old d paired lt, some _ _ _ dying.stands, freed_total size old new last l, freed_spare size old new last l, freed_dying size old new last l, fewer)

-- no cell ceases to be spare
pub dropped_spare : (size : ℕ) (old new : List Lists) (d object cell : ℕ) → IsPaired size old → d < size → Stands old 0 d cell → IsDropped size old new object cell → length (cells_at old 0 size) ≤ length (cells_at new 0 size)
dropped_spare size old new d object cell paired lt held (inl l) =
    let not_there : Stands old 0 size cell → ⊥ = λ (st : Stands old 0 size cell). (let same : size ≡ d = one_head old 0 size d cell (paired.well 0 (lit< tt)) st held in omega arith) in
    let spare : length (cells_at new 0 size) ≡ length (cells_at old 0 size) = ap length (l.first.same size (λ (e : size ≡ size + 1). omega arith) not_there) in
    omega (arith, spare)
dropped_spare size old new d object cell paired lt held (inr l) = omega (arith, freed_spare size old new cell l.freed)

-- where a cell is among the dying, not all are spare
pub spare_left : (size : ℕ) (r : List Lists) (d last : ℕ) → IsPaired size r → d < size → Stands r 0 (size + 1) last → length (cells_at r 0 size) < sum_by length (family_at r 0).lists
spare_left size r d last paired lt dying = omega (arith, bound size r d paired lt, some _ _ _ dying.stands)
