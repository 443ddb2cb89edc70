-- What the piece with a number tells.
use Rattle.std.proofs.Common.{◌≡◌, ℕ, zero, suc, ◌+◌, ◌-◌, ◌*◌, ◌<◌, ◌≤◌, ◌==◌, nat_lt, Bool, true, false, if◌then◌else◌, refl, arith}
use Rattle.std.proofs.lemmas.Bool.{eqb-true, ltb-true, ltb-false}
use Rattle.dump_text.specs.Pieces.{piece_at}
use Rattle.dump_text.specs.declared.pieces.Piece.{Piece}
use Rattle.dump_text.specs.declared.pieces.Piece.TheVariants as pieces

-- the piece by what is true of its number
abbrev pub chosen : ℕ → Bool → Bool → Bool → Piece
chosen from first some last =
    if first then pieces.Head else if some then pieces.Events from else if last then pieces.Tables else pieces.Nothing

-- what each piece tells of its number, where there are so many events
abbrev pub Tells : ℕ → ℕ → Piece → Type 0
Tells count number pieces.Head = number ≡ 0
Tells count number (pieces.Events from) = (0 < number) × (from ≡ 64 * (number - 1)) × (from < count)
Tells count number pieces.Tables = (0 < number) × (count ≤ 64 * (number - 1)) × (64 * (number - 1) < count + 64)
Tells count number pieces.Nothing = (0 < number) × (count ≤ 64 * (number - 1))

some_number : (n : ℕ) → (n == 0) ≡ false → 0 < n
some_number zero e = absurd (cc e)
some_number (suc n) e = omega arith

pub told_at : (count number : ℕ) → Tells count number (piece_at count number)
told_at count number = at (number == 0) (nat_lt (64 * (number - 1)) count) (nat_lt (64 * (number - 1)) (count + 64)) refl refl refl
  where
    at : (a b d : Bool) → (number == 0) ≡ a → nat_lt (64 * (number - 1)) count ≡ b → nat_lt (64 * (number - 1)) (count + 64) ≡ d
        → Tells count number (chosen (64 * (number - 1)) a b d)
    at true b d first some last = eqb-true number 0 first
    at false true d first some last = (some_number number first, refl, ltb-true (64 * (number - 1)) count some)
    at false false true first some last =
        (some_number number first, ltb-false (64 * (number - 1)) count some, ltb-true (64 * (number - 1)) (count + 64) last)
    at false false false first some last = (some_number number first, ltb-false (64 * (number - 1)) count some)
