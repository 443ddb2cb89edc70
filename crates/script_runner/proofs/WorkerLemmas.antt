-- Whether lines are a worker's, line by line.
use Rattle.std.proofs.Common.{◌≡◌, ℕ, zero, suc, ◌+◌, ◌<◌, Bool, ◌&&◌, ◌||◌, List, [], ◌∷◌, IfSome, slice_get, length, drop, ap, sym, ◌∙◌, arith}
use Rattle.std.specs.Str.{bytes_eq}
use Rattle.call_text.specs.declared.phases.Line.{Line}
use Rattle.script_runner.specs.Shared.{takes_part}
use Rattle.script_runner.specs.Workers.{are_of}

at_place : (w : List ℕ) (lines : List Line) (i : ℕ) (b : Bool) → i < length lines
    → IfSome (slice_get lines i) (λ line. b ≡ bytes_eq line.worker w)
    → are_of w (drop i lines) ≡ (b && are_of w (drop (suc i) lines))
at_place w [] i b lt h = absurd (omega arith)
at_place w (x ∷ xs) zero b lt h = ap (λ t. t && are_of w xs) (sym h)
at_place w (x ∷ xs) (suc i) b lt h = at_place w xs i b (omega arith) h

-- of the lines from a place on: that line, and those after it
pub next_line : (w : List ℕ) (lines : List Line) (i : ℕ) (b : Bool) → i < length lines
    → IfSome (slice_get lines i) (λ line. b ≡ bytes_eq line.worker w)
    → are_of w (drop i lines) ≡ (b && are_of w (drop (i + 1) lines))
next_line w lines i b lt h =
    let more : suc i ≡ i + 1 = omega arith in
    at_place w lines i b lt h ∙ ap (λ n. b && are_of w (drop n lines)) more

any_at : (w : List ℕ) (lines : List Line) (i : ℕ) (b : Bool) → i < length lines
    → IfSome (slice_get lines i) (λ line. b ≡ bytes_eq line.worker w)
    → takes_part w (drop i lines) ≡ (b || takes_part w (drop (suc i) lines))
any_at w [] i b lt h = absurd (omega arith)
any_at w (x ∷ xs) zero b lt h = ap (λ t. t || takes_part w xs) (sym h)
any_at w (x ∷ xs) (suc i) b lt h = any_at w xs i b (omega arith) h

-- the same of whether one of them is the worker's
pub next_part : (w : List ℕ) (lines : List Line) (i : ℕ) (b : Bool) → i < length lines
    → IfSome (slice_get lines i) (λ line. b ≡ bytes_eq line.worker w)
    → takes_part w (drop i lines) ≡ (b || takes_part w (drop (i + 1) lines))
next_part w lines i b lt h =
    let more : suc i ≡ i + 1 = omega arith in
    any_at w lines i b lt h ∙ ap (λ n. b || takes_part w (drop n lines)) more
