-- Nodes that each lead to themselves.
use Rattle.std.proofs.Common.{◌≡◌, ℕ, zero, suc, ◌+◌, ◌<◌, List, [], ◌∷◌, ◌++◌, map, length, get_or, replicate, refl, sym, ap, ◌∙◌, subst, arith}
use Rattle.std.specs.List.{range_with_len}
use Rattle.std.proofs.lemmas.List.{get_or-replicate, length-replicate, map-id}
use Rattle.std.proofs.lemmas.List.FromFn.{map-range_with_len_more, get_or-range_with_len, length-range_with_len}
use Rattle.std.proofs.lemmas.List.Elements.{All-nil}
use Rattle.containers.specs.Chain.{IsRing, IsLaidOut}

map-replicate : (n : ℕ) → map length (replicate {A = List ℕ} n []) ≡ replicate n 0
map-replicate zero = refl
map-replicate (suc n) = ap (λ (ns : List ℕ). 0 ∷ ns) (map-replicate n)

-- one node more
pub range_push : (n : ℕ) → range_with_len 0 (n + 1) ≡ range_with_len 0 n ++ n ∷ []
range_push n = sym (map-id (range_with_len 0 (n + 1))) ∙ map-range_with_len_more (λ (x : ℕ). x) 0 n n (omega arith) ∙ ap (λ (xs : List ℕ). xs ++ n ∷ []) (map-id (range_with_len 0 n))

-- empty lists lie in them
pub fresh_laid_out : (cells heads : ℕ) → IsLaidOut cells (range_with_len 0 (cells + heads)) (range_with_len 0 (cells + heads)) (replicate cells 0) (replicate heads 0) (replicate heads [])
fresh_laid_out cells heads =
    let nodes = range_with_len 0 (cells + heads) in
    let count : length {A = List ℕ} (replicate heads []) ≡ heads = length-replicate heads [] in
    record {
      next_len = length-range_with_len 0 (cells + heads) ∙ ap (λ (n : ℕ). cells + n) (sym count);
      prev_len = length-range_with_len 0 (cells + heads) ∙ ap (λ (n : ℕ). cells + n) (sym count);
      heads_len = length-replicate cells 0;
      counted = sym (map-replicate heads);
      rings = λ head lt.
          let below : head < heads = omega (arith, lt, count) in
          let at : get_or nodes (cells + head) 0 ≡ cells + head = get_or-range_with_len 0 (cells + heads) (cells + head) 0 (omega arith) ∙ omega arith in
          subst (λ (xs : List ℕ). IsRing cells nodes nodes (replicate cells 0) head xs) (sym (get_or-replicate heads head [] [] below))
          (record {
            linked = record { ahead = at; back = at };
            in_range = All-nil (λ c. c < cells);
            owned = All-nil (λ c. get_or (replicate cells 0) c 0 ≡ head);
          });
    }
