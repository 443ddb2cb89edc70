-- Bytes that a text has.
use Rattle.std.proofs.Common.{◌≡◌, ℕ, ◌==◌, eq-eqb, Bool, true, false, if◌then◌else◌, List, [], ◌∷◌, ◌++◌, refl}
use Rattle.text_words.specs.Lacks.{lacks}

has_step : (is : Bool) (there : Bool) → there ≡ false → (if is then false else there) ≡ false
has_step true there h = refl
has_step false there h = h

pub has_first : (byte : ℕ) (a b : List ℕ) → lacks byte (a ++ byte ∷ b) ≡ false
has_first byte [] b = rw (eq-eqb byte byte refl) refl
has_first byte (x ∷ xs) b = has_step (x == byte) _ (has_first byte xs b)
