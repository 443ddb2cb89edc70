-- A sum over a list that was mapped.
use Rattle.std.proofs.Common.{◌≡◌, ℕ, List, [], ◌∷◌, map, refl, arith}
use Rattle.std.specs.Prelude.{sum_by}
use Rattle.std.proofs.lemmas.List.Sums.{sum_by-cons}

pub sum_by-map : {X Y : Type 0} (f : Y → ℕ) (g : X → ℕ) (h : X → Y) → ((x : X) → f (h x) ≡ g x) → (xs : List X) → sum_by f (map h xs) ≡ sum_by g xs
sum_by-map f g h same [] = refl
sum_by-map f g h same (x ∷ xs) = omega (arith, sum_by-cons f (h x) (map h xs), sum_by-cons g x xs, same x, sum_by-map f g h same xs)
