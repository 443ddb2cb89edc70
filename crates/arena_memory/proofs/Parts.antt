-- What is read of pages end to end.
use Rattle.std.proofs.Common.{◌≡◌, ℕ, ◌+◌, ◌-◌, ◌*◌, ◌/◌, ◌%◌, ◌<◌, ◌≤◌, List, [], ◌++◌, length, get_or, take, drop, refl, sym, ap, ◌∙◌, arith, length-drop}
use Rattle.std.specs.List.{concat}
use Rattle.std.proofs.lemmas.List.{take-append-le, drop_more, take_at}
use Rattle.arena_memory.proofs.Bytes.{AreWhole, drop_concat, take_past}

module _ (ps : List (List ℕ)) (whole : AreWhole ps) (from count : ℕ) (some : 0 < count) (within : from + count ≤ 256 * length ps) where
  -- the page of the first byte is there
  pub page_in : from / 256 < length ps
  page_in = omega (arith, some, within)

  -- and the one after it, where the bytes go on there
  pub next_in : 256 - from % 256 < count → from / 256 + 1 < length ps
  next_in past = omega (arith, past, within)

  from_page : drop from (concat ps) ≡ drop (from % 256) (get_or ps (from / 256) []) ++ concat (drop (from / 256 + 1) ps)
  from_page =
      let e : from ≡ 256 * (from / 256) + from % 256 = omega arith in
      ap (λ (n : ℕ). drop n (concat ps)) e ∙ drop_concat (from / 256) (from % 256) ps whole page_in (omega arith)

  length-page : length (drop (from % 256) (get_or ps (from / 256) [])) ≡ 256 - from % 256
  length-page = omega (arith, length-drop (from % 256) (get_or ps (from / 256) []), whole (from / 256) page_in)

  -- what lies in one page
  pub in_page : count ≤ 256 - from % 256 → take count (drop (from % 256) (get_or ps (from / 256) [])) ≡ take count (drop from (concat ps))
  in_page le = sym (ap (λ (xs : List ℕ). take count xs) from_page ∙ take-append-le count (drop (from % 256) (get_or ps (from / 256) [])) (concat (drop (from / 256 + 1) ps)) (omega (arith, le, length-page)))

  -- what goes on in the next page
  pub in_pages : 256 - from % 256 < count → count ≤ 256 → drop (from % 256) (get_or ps (from / 256) []) ++ take (count - (256 - from % 256)) (get_or ps (from / 256 + 1) []) ≡ take count (drop from (concat ps))
  in_pages past few =
      let first = drop (from % 256) (get_or ps (from / 256) []) in
      let next = get_or ps (from / 256 + 1) [] in
      let m = count - (256 - from % 256) in
      let rest = concat (drop (from / 256 + 1) ps) in
      let n : count ≡ length first + m = omega (arith, past, length-page) in
      let after : rest ≡ next ++ concat (drop (from / 256 + 1 + 1) ps) = ap concat (drop_more ps (from / 256 + 1) [] (next_in past)) in
      let part : take m rest ≡ take m next = ap (λ (xs : List ℕ). take m xs) after ∙ take-append-le m next (concat (drop (from / 256 + 1 + 1) ps)) (omega (arith, few, whole (from / 256 + 1) (next_in past))) in
      sym (ap (λ (xs : List ℕ). take count xs) from_page ∙ ap (λ (k : ℕ). take k (first ++ rest)) n ∙ take_past first rest m ∙ ap (λ (xs : List ℕ). first ++ xs) part)

-- what the code leaves where two parts were written one after the other
pub joined_is : (first first' second second' rest after : List ℕ) → first' ≡ first → second' ≡ second → take (length first + length second) (take (length first) (first' ++ rest) ++ (second' ++ after)) ≡ first ++ second
joined_is first first' second second' rest after e f =
    ap (λ (p : List ℕ). take (length first + length second) (take (length first) (p ++ rest) ++ (second' ++ after))) e
    ∙ ap (λ (p : List ℕ). take (length first + length second) (take (length first) (first ++ rest) ++ (p ++ after))) f
    ∙ ap (λ (p : List ℕ). take (length first + length second) (p ++ (second ++ after))) (take_at first rest (length first) refl)
    ∙ take_past first (second ++ after) (length second)
    ∙ ap (λ (p : List ℕ). first ++ p) (take_at second after (length second) refl)
