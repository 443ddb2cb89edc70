-- What a row shows, as it is read and written.
use Rattle.std.proofs.Common.{◌≡◌, ◌∙◌, ℕ, zero, suc, ◌<◌, List, [], ◌∷◌, Option, Some, None, length, get_or, set, refl, sym, ap, arith}
use Rattle.base.specs.declared.sets.Rights.{Rights}
use Rattle.arena_memory.specs.Row.{shows, shown_as, object_of, rights_of}

shows_at : (xs : List ℕ) (rs : List (Option Rights)) (k d : ℕ) (e : Option Rights) → k < length xs → k < length rs
    → get_or (shows xs rs) k None ≡ shown_as (get_or xs k d) (get_or rs k e)
shows_at [] rs k d e in_x in_r = absurd (omega (arith, in_x))
shows_at (x ∷ xs) [] k d e in_x in_r = absurd (omega (arith, in_r))
shows_at (x ∷ xs) (r ∷ rs) zero d e in_x in_r = refl
shows_at (x ∷ xs) (r ∷ rs) (suc k) d e in_x in_r = shows_at xs rs k d e (omega (arith, in_x)) (omega (arith, in_r))

shown_is : (v : Option (ℕ × Rights)) → shown_as (object_of v) (rights_of v) ≡ v
shown_is None = refl
shown_is (Some shown) = refl

shows_put : (xs : List ℕ) (rs : List (Option Rights)) (k : ℕ) (v : Option (ℕ × Rights)) → k < length xs → k < length rs
    → shows (set xs k (object_of v)) (set rs k (rights_of v)) ≡ set (shows xs rs) k v
shows_put [] rs k v in_x in_r = absurd (omega (arith, in_x))
shows_put (x ∷ xs) [] k v in_x in_r = absurd (omega (arith, in_r))
shows_put (x ∷ xs) (r ∷ rs) zero v in_x in_r = ap (λ (w : Option (ℕ × Rights)). w ∷ shows xs rs) (shown_is v)
shows_put (x ∷ xs) (r ∷ rs) (suc k) v in_x in_r =
    ap (λ (ws : List (Option (ℕ × Rights))). shown_as x r ∷ ws) (shows_put xs rs k v (omega (arith, in_x)) (omega (arith, in_r)))

-- a place that was read shows what it showed
pub shows_read : (xs : List ℕ) (rs : List (Option Rights)) (row : List (Option (ℕ × Rights))) (k : ℕ) (d : ℕ) (e : Option Rights)
    → shows xs rs ≡ row → k < 16 → length xs ≡ 16 → length rs ≡ 16
    → shown_as (get_or xs k d) (get_or rs k e) ≡ get_or row k None
shows_read xs rs row k d e is k_in size_x size_r =
    sym (shows_at xs rs k d e (omega arith) (omega arith)) ∙ ap (λ (v : List (Option (ℕ × Rights))). get_or v k None) is

-- and one that was written shows what was given
pub shows_written : (xs : List ℕ) (rs : List (Option Rights)) (row : List (Option (ℕ × Rights))) (k x : ℕ) (r : Option Rights) (v : Option (ℕ × Rights))
    → shows xs rs ≡ row → k < 16 → length xs ≡ 16 → length rs ≡ 16 → x ≡ object_of v → r ≡ rights_of v
    → shows (set xs k x) (set rs k r) ≡ set row k v
shows_written xs rs row k x r v is k_in size_x size_r x_is r_is =
    ap (λ (w : ℕ). shows (set xs k w) (set rs k r)) x_is
    ∙ ap (λ (w : Option Rights). shows (set xs k (object_of v)) (set rs k w)) r_is
    ∙ shows_put xs rs k v (omega arith) (omega arith)
    ∙ ap (λ (w : List (Option (ℕ × Rights))). set w k v) is
