-- What stands at the beginning of an array, after one more was put in and after one was taken out.
use Rattle.std.proofs.Common.{◌≡◌, ℕ, suc, ◌+◌, List, [], ◌∷◌, ◌++◌, length, take, drop}
use Rattle.std.proofs.Common.{ap, refl, ◌∙◌, arith, append_assoc}
use Rattle.std.proofs.Math.ListN.{set}
use Rattle.std.proofs.Math.Seq.{set-append_seam, take-append_seam, drop-append_seam, take-append-add}
use Rattle.std.proofs.Math.Seq.{drop-append-add, paste}

module _ {A : Type 0} (b c r : List A) where
  past_up : (f : A) → drop (length b + 1 + length c) (b ++ (c ++ f ∷ r)) ≡ r
  past_up f =
      let e : length b + 1 + length c ≡ length b + (length c + 1) = omega arith in
      rw (e, drop-append-add b (c ++ f ∷ r) (length c + 1), drop-append-add c (f ∷ r) 1) refl

  moved_up : (f : A) → paste (b ++ (c ++ f ∷ r)) (length b + 1) (drop (length b) (b ++ (c ++ f ∷ r))) (length c)
      ≡ b ++ (take 1 (c ++ f ∷ r) ++ (c ++ r))
  moved_up f =
      rw (
        take-append-add b (c ++ f ∷ r) 1,
        drop-append_seam b (c ++ f ∷ r),
        take-append_seam c (f ∷ r),
        past_up f,
      )
      (append_assoc (b ++ take 1 (c ++ f ∷ r)) c r
      ∙ append_assoc b (take 1 (c ++ f ∷ r)) (c ++ r))

  moved_down : (y : A) → paste (b ++ (y ∷ (c ++ r))) (length b) (drop (length b + 1) (b ++ (y ∷ (c ++ r)))) (length c)
      ≡ b ++ (c ++ drop (length c) (y ∷ (c ++ r)))
  moved_down y =
      rw (
        take-append_seam b (y ∷ (c ++ r)),
        drop-append-add b (y ∷ (c ++ r)) 1,
        drop-append-add b (y ∷ (c ++ r)) (length c),
        take-append_seam c r,
      ) (append_assoc b c (drop (length c) (y ∷ (c ++ r))))

-- one more between b and c, where f stood past the end
pub set-moved_up : {A : Type 0} (b c r : List A) (f v : A)
    → set (paste (b ++ (c ++ f ∷ r)) (length b + 1) (drop (length b) (b ++ (c ++ f ∷ r))) (length c)) (length b) v
    ≡ b ++ v ∷ (c ++ r)
set-moved_up b [] r f v = rw (moved_up b [] r f) (set-append_seam b f r v)
set-moved_up b (y ∷ c) r f v = rw (moved_up b (y ∷ c) r f) (set-append_seam b y (y ∷ (c ++ r)) v)

-- the last of what moved down, and what is past the end
last_and_rest : {A : Type 0} (c r : List A) (y f : A)
    → set (c ++ drop (length c) (y ∷ (c ++ r))) (length c) f ≡ c ++ f ∷ r
last_and_rest [] r y f = refl
last_and_rest (x ∷ c) r y f = ap (λ t. x ∷ t) (last_and_rest c r x f)

-- a write behind the first part
set-behind : {A : Type 0} (b w : List A) (n : ℕ) (f : A) → set (b ++ w) (length b + n) f ≡ b ++ set w n f
set-behind [] w n f =
    let e : 0 + n ≡ n = omega arith in rw e refl
set-behind (x ∷ b) w n f =
    let e : suc (length b) + n ≡ suc (length b + n) = omega arith in
    rw e (ap (λ t. x ∷ t) (set-behind b w n f))

-- the one between b and c is gone
pub set-moved_down : {A : Type 0} (b c r : List A) (y f : A)
    → set (paste (b ++ (y ∷ (c ++ r))) (length b) (drop (length b + 1) (b ++ (y ∷ (c ++ r)))) (length c)) (length b + length c) f
    ≡ b ++ (c ++ f ∷ r)
set-moved_down b c r y f =
    rw (moved_down b c r y, set-behind b (c ++ drop (length c) (y ∷ (c ++ r))) (length c) f)
    (ap (λ t. b ++ t) (last_and_rest c r y f))
