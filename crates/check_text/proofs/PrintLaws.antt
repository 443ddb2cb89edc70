-- What was told of what a reader gave is told of its bytes, where they are known.
use Rattle.std.proofs.Common.{◌≡◌, ℕ, List, Option, Some, None, IfSome, ap, subst, ◌∙◌}
use Rattle.std.specs.Io.KnownBytes.{Appends}
use Rattle.check_text.specs.Checks.{IsTold, Prints, status_of}

pub prints_if : (path : List ℕ) (given old new : Option (List ℕ)) (bytes slice told shown : List ℕ) (status : ℕ)
    → IfSome given (λ left. bytes ≡ left) → slice ≡ bytes → IsTold path slice told → shown ≡ told → Appends old new shown
    → status ≡ status_of shown → IfSome given (Prints path old new status)
prints_if path None old new bytes slice told shown status left same is whole added ended = tt
prints_if path (Some given) old new bytes slice told shown status left same is whole added ended = (
  told,
  subst (λ (b : List ℕ). IsTold path b told) (same ∙ left) is,
  subst (λ (t : List ℕ). Appends old new t) whole added,
  ended ∙ ap status_of whole,
)
