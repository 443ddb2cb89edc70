-- A slot is cut to so many pages, and then filled up to as many.
use Rattle.std.proofs.Common.{◌≡◌, ℕ, ◌+◌, ◌-◌, ◌<◌, ◌≤◌, min, List, ◌++◌, length, set, take, replicate, ap, ◌∙◌, arith}
use Rattle.std.proofs.lemmas.List.{length-take, set-set}
use Rattle.arena_memory.specs.Pages.{pages_at, page_total}
use Rattle.arena_memory.proofs.Rounds.{row_of, length_of, total_of}

module _ (f : List (List (List ℕ))) (slot n : ℕ) (lt : slot < length f) (cut : List (List (List ℕ))) (cut_is : cut ≡ set f slot (take n (pages_at f slot))) where
  left : pages_at cut slot ≡ take n (pages_at f slot)
  left = row_of f slot lt cut _ cut_is

  pub length-left : length (pages_at cut slot) ≡ min n (length (pages_at f slot))
  length-left = ap length left ∙ length-take n (pages_at f slot)

  pub room_left : page_total f + n ≤ length f + length (pages_at f slot) → page_total cut + n ≤ length cut + length (pages_at cut slot)
  room_left room = omega (arith, room, total_of f slot lt cut _ cut_is, length_of f slot lt cut _ cut_is, length-take n (pages_at f slot), length-left)

  module _ (page : List ℕ) (full : List (List (List ℕ))) (full_is : full ≡ set cut slot (pages_at cut slot ++ replicate (n - length (pages_at cut slot)) page)) where
    pub resized_is : full ≡ set f slot (take n (pages_at f slot) ++ replicate (n - length (pages_at f slot)) page)
    resized_is =
        let count : n - length (pages_at cut slot) ≡ n - length (pages_at f slot) = omega (arith, length-left) in
        full_is ∙ ap (λ (m : ℕ). set cut slot (pages_at cut slot ++ replicate m page)) count
        ∙ ap (λ (ps : List (List ℕ)). set cut slot (ps ++ replicate (n - length (pages_at f slot)) page)) left
        ∙ ap (λ (g : List (List (List ℕ))). set g slot (take n (pages_at f slot) ++ replicate (n - length (pages_at f slot)) page)) cut_is
        ∙ set-set f slot (take n (pages_at f slot)) (take n (pages_at f slot) ++ replicate (n - length (pages_at f slot)) page)
